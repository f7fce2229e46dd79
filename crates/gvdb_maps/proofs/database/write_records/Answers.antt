use Rattle.std.proofs.Common.{ℕ, ◌≡◌, ◌≤◌, ◌<◌, List, length, get_or, refl, sym, ap, ◌∙◌, subst, arith}
use Rattle.std.proofs.lemmas.List.{get_or_default}
use Rattle.dconf_model.proofs.PlanEnds.{keys_grow}
use Rattle.gvdb_maps.specs.declared.names.Named.{Named}
use Rattle.gvdb_maps.specs.LayoutParts.{content_pointer, IsShort}
use Rattle.gvdb_maps.specs.PlanWords.{named, entries_of, no_name}
use Rattle.gvdb_maps.proofs.LaidRows.{no_item, none_written, record_more, all_written}
use Rattle.gvdb_maps.proofs.database.write_records.Goals as goal

-- an item as goals read it
item_there : (items : List Named) (n : ℕ) → n < length items → named items n ≡ get_or items n no_item
item_there items n here = get_or_default items n no_name no_item here

pub loop-number-init : goal.loop-number-init
loop-number-init c = record { so_far = none_written c.args.items.now c.args.keys_at c.args.contents c.args.out.now.items }

pub item_record-item-requires-clause-short : goal.item_record-item-requires-clause-short
item_record-item-requires-clause-short c =
    subst (λ (d : Named). IsShort (content_pointer c.args.contents c.loop-number.number d.content)) (item_there c.args.items.now c.loop-number.number c.loop-number-test.true)
    (c.requires.contents.short c.loop-number.number c.loop-number-test.true)

pub item_record-item-requires-clause-parent : goal.item_record-item-requires-clause-parent
item_record-item-requires-clause-parent c p is =
    let few = c.requires.few in
    let item = item_there c.args.items.now c.loop-number.number c.loop-number-test.true in
    let below = c.requires.items.parents c.loop-number.number p c.loop-number-test.true (ap (λ (d : Named). d.parent) item ∙ is) in
    omega (arith, few, below)

pub item_record-item-requires-clause-from : goal.item_record-item-requires-clause-from
item_record-item-requires-clause-from c =
    subst (λ (d : Named). d.from ≤ length d.name.now) (item_there c.args.items.now c.loop-number.number c.loop-number-test.true) (c.requires.items.from c.loop-number.number c.loop-number-test.true)

pub item_record-item-requires-clause-name : goal.item_record-item-requires-clause-name
item_record-item-requires-clause-name c =
    subst (λ (d : Named). length d.name.now ≤ 65535) (item_there c.args.items.now c.loop-number.number c.loop-number-test.true) (c.requires.items.short c.loop-number.number c.loop-number-test.true)

pub item_record-item-requires-clause-key : goal.item_record-item-requires-clause-key
item_record-item-requires-clause-key c =
    let ends = c.loop-number.invariant.so_far.below.ends in
    let rise = keys_grow (entries_of c.args.items.now) c.args.keys_at c.loop-number.number (length c.args.items.now) c.loop-number.auto.number-end in
    let within = c.requires.keys in
    omega (arith, ends, rise, within)

pub loop-number-preserved : goal.loop-number-preserved
loop-number-preserved c = record {
  so_far = record_more c.args.items.now c.args.keys_at c.args.contents c.args.out.now.items c.loop-number.out.items c.push.new.out.items c.loop-number.key_start _ c.loop-number.number _ _
      c.loop-number.invariant.so_far (sym (item_there c.args.items.now c.loop-number.number c.loop-number-test.true)) refl c.item_record-item.ensures.numbers c.item_record-item.ensures.pointer c.in_ok-push.ensures;
}

pub returns : goal.returns
returns c =
    let test = c.loop-number-test.false in
    let end = c.loop-number.auto.number-end in
    record {
      bytes = all_written c.args.items.now c.args.keys_at c.args.contents c.args.out.now.items c.loop-number.out.items c.loop-number.key_start c.loop-number.number
          c.loop-number.invariant.so_far (omega (arith, test, end));
    }
