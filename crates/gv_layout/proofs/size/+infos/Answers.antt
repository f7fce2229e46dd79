use Rattle.std.proofs.Common.{◌≡◌, ◌<◌, ◌*◌, suc, length, drop, refl, sym, ap, ◌∙◌, arith, rules}
use Rattle.std.specs.Prelude.{option_map}
use Rattle.std.proofs.lemmas.Option.{same_Some}
use Rattle.gv_model.specs.Layout.{alignment, fixed_size}
use Rattle.gv_model.specs.TypeText.{seen}
use Rattle.gv_model.proofs.LayoutLaws.{alignment_pos}
use Rattle.gv_types.specs.Classes.{basic_of}
use Rattle.gv_types.specs.FirstTypes.{first_type}
use Rattle.gv_types.specs.TypeStr.{ty}
use Rattle.gv_types.proofs.FirstTypes.{first_type_some, first_type_class, first_type_prefix, basic_first_type, cut_after, entry_first_type, inside_some, inside_first_type, key_first_type, value_first_type, entry_closed}
use Rattle.gv_types.proofs.Splits.{some_from_map}
use Rattle.gv_layout.specs.TypesAt.{IsInfoAt}
use Rattle.gv_layout.proofs.InfoSteps.{tuple_start, tuple_fits, tuple_turned, tuple_end_fits, tuple_done, key_fits, value_fits, pair_end_fits, pair_done, basic_at}
use Rattle.gv_layout.proofs.Sizes.{no_size}
use Rattle.gv_layout.proofs.size.+infos.Goals as goal

-- ---- the type at the start

pub info_at-bounds-text-0 : goal.info_at-bounds-text-0
info_at-bounds-text-0 t c = first_type_some c.args.text.now c.requires

pub info_at-unwrap-requires : goal.info_at-unwrap-requires
info_at-unwrap-requires t c = rw (c.of_letter.ensures ∙ first_type_class c.args.text.now c.requires) refl

pub info_at-after_letter-requires : goal.info_at-after_letter-requires
info_at-after_letter-requires t c = first_type_some c.args.text.now c.requires

pub info_at-returns-in-Basic : goal.info_at-returns-in-Basic
info_at-returns-in-Basic t c =
    let w = c.args.text.now in
    let class = same_Some _ _ (sym (first_type_class w c.requires) ∙ (sym c.of_letter.ensures ∙ c.unwrap.ensures)) ∙ c.in-Basic.is in
    let one = basic_first_type w c.in-Basic.basic c.requires class in
    rw c.after_letter.ensures (basic_at w (drop 1 w) (basic_of c.in-Basic.basic) c.basic_info.result.alignment c.basic_info.result.size one.type c.basic_info.ensures.alignment c.basic_info.ensures.size one.after)

pub info_at-unwrap-requires-in-Variant : goal.info_at-unwrap-requires-in-Variant
info_at-unwrap-requires-in-Variant t c = some_from_map (λ r. ty r.0) c.split_prefix.result (first_type (seen c.args.text.now)) (c.split_prefix.ensures.found ∙ first_type_prefix c.args.text.now c.requires)

pub info_at-open_info-requires : goal.info_at-open_info-requires
info_at-open_info-requires t c =
    let w = c.args.text.now in
    let is : ty c.unwrap-in-Variant.result.0 ≡ first_type (seen w) = same_Some _ _ (ap (option_map (λ r. ty r.0)) (sym c.unwrap-in-Variant.ensures) ∙ (c.split_prefix.ensures.found ∙ first_type_prefix w c.requires)) in
    let class = same_Some _ _ (sym c.unwrap.ensures ∙ (c.of_letter.ensures ∙ first_type_class w c.requires)) in
    ap fixed_size is ∙ no_size (first_type (seen w)) c.unwrap.result class c.in-Variant.is

pub info_at-returns-in-Variant : goal.info_at-returns-in-Variant
info_at-returns-in-Variant t c =
    let w = c.args.text.now in
    let x = c.unwrap-in-Variant.result in
    let is : ty x.0 ≡ first_type (seen w) = same_Some _ _ (ap (option_map (λ r. ty r.0)) (sym c.unwrap-in-Variant.ensures) ∙ (c.split_prefix.ensures.found ∙ first_type_prefix w c.requires)) in
    let class = same_Some _ _ (sym c.unwrap.ensures ∙ (c.of_letter.ensures ∙ first_type_class w c.requires)) in
    let whole = rw c.unwrap-in-Variant.ensures at c.split_prefix.ensures.whole in
    record {
      aligned_is = c.open_info.ensures.alignment ∙ ap alignment is;
      size_is = c.open_info.ensures.size ∙ sym (no_size (first_type (seen w)) c.unwrap.result class c.in-Variant.is);
      after = cut_after w x.1.now (ty x.0) whole;
    }

pub info_at-tuple_at-requires : goal.info_at-tuple_at-requires
info_at-tuple_at-requires t c =
    let w = c.args.text.now in
    let class = same_Some _ _ (sym (first_type_class w c.requires) ∙ (sym c.of_letter.ensures ∙ c.unwrap.ensures)) ∙ c.in-Tuple.is in
    let falls : 2 * length w < suc (2 * length w) = omega arith in
    (search (rules, falls), (c.requires, class))

pub info_at-entry_at-requires : goal.info_at-entry_at-requires
info_at-entry_at-requires t c =
    let w = c.args.text.now in
    let class = same_Some _ _ (sym (first_type_class w c.requires) ∙ (sym c.of_letter.ensures ∙ c.unwrap.ensures)) ∙ c.in-Entry.is in
    let falls : 2 * length w < suc (2 * length w) = omega arith in
    (search (rules, falls), (c.requires, class))

-- ---- a tuple

pub tuple_at-after_letter-rest-requires : goal.tuple_at-after_letter-rest-requires
tuple_at-after_letter-rest-requires t c = first_type_some c.args.text.now c.requires.first_type

pub tuple_at-loop-rest-init : goal.tuple_at-loop-rest-init
tuple_at-loop-rest-init t c = rw c.after_letter-rest.ensures (tuple_start c.args.text.now c.requires.first_type c.requires.kind)

pub tuple_at-bounds-rest-0 : goal.tuple_at-bounds-rest-0
tuple_at-bounds-rest-0 t c = inside_some c.loop-rest.rest.now c.loop-rest.invariant.inside

pub tuple_at-info_at-member-requires : goal.tuple_at-info_at-member-requires
tuple_at-info_at-member-requires t c =
    let rest = c.loop-rest.rest.now in
    let falls : suc (2 * length rest) < 2 * length c.args.text.now = omega (arith, c.loop-rest.invariant.shorter) in
    (search (rules, falls), inside_first_type rest c.loop-rest.invariant.inside c.loop-rest-test.true)

pub tuple_at-end_after-end-requires-clause-aligned : goal.tuple_at-end_after-end-requires-clause-aligned
tuple_at-end_after-end-requires-clause-aligned t c = omega (arith, c.info_at-member.ensures.aligned_is, alignment_pos (first_type (seen c.loop-rest.rest.now)))

pub tuple_at-end_after-end-requires-clause-fits : goal.tuple_at-end_after-end-requires-clause-fits
tuple_at-end_after-end-requires-clause-fits t c =
    let rest = c.loop-rest.rest.now in
    let i = c.info_at-member.ensures in
    tuple_fits c.args.text.now rest c.info_at-member.result.rest.now c.loop-rest.alignment c.loop-rest.end c.requires.first_type c.loop-rest.invariant
    (inside_first_type rest c.loop-rest.invariant.inside c.loop-rest-test.true) i.after c.info_at-member.result.info.alignment c.info_at-member.result.info.size i.aligned_is i.size_is

pub tuple_at-loop-rest-preserved : goal.tuple_at-loop-rest-preserved
tuple_at-loop-rest-preserved t c =
    let rest = c.loop-rest.rest.now in
    tuple_turned c.args.text.now rest c.info_at-member.result.rest.now c.loop-rest.alignment c.max-alignment.result c.info_at-member.result.info.alignment c.info_at-member.result.info.size c.end_after-end.result c.loop-rest.end
    c.loop-rest.invariant (inside_first_type rest c.loop-rest.invariant.inside c.loop-rest-test.true) c.info_at-member.ensures c.max-alignment.ensures c.end_after-end.ensures

pub tuple_at-padded-size-requires-clause-fits : goal.tuple_at-padded-size-requires-clause-fits
tuple_at-padded-size-requires-clause-fits t c = tuple_end_fits c.args.text.now c.loop-rest.rest.now c.loop-rest.alignment c.loop-rest.end c.requires.first_type c.loop-rest.invariant

pub tuple_at-after_letter-requires : goal.tuple_at-after_letter-requires
tuple_at-after_letter-requires t c = inside_some c.loop-rest.rest.now c.loop-rest.invariant.inside

pub tuple_at-returns : goal.tuple_at-returns
tuple_at-returns t c =
    rw c.after_letter.ensures (tuple_done c.args.text.now c.loop-rest.rest.now c.loop-rest.alignment c.loop-rest.end c.padded-size.result c.requires.kind c.loop-rest.invariant c.loop-rest-test.false c.padded-size.ensures)

-- ---- an entry

pub entry_at-after_letter-requires : goal.entry_at-after_letter-requires
entry_at-after_letter-requires t c = first_type_some c.args.text.now c.requires.first_type

pub entry_at-info_at-key-requires : goal.entry_at-info_at-key-requires
entry_at-info_at-key-requires t c =
    let w = c.args.text.now in
    let p = entry_first_type w c.requires.first_type c.requires.kind in
    let falls : suc (2 * length c.after_letter.result.now) < 2 * length w = omega (arith, ap length c.after_letter.ensures, p.shorter) in
    (search (rules, falls), rw c.after_letter.ensures (key_first_type w p))

pub entry_at-info_at-value-requires : goal.entry_at-info_at-value-requires
entry_at-info_at-value-requires t c =
    let w = c.args.text.now in
    let p = entry_first_type w c.requires.first_type c.requires.kind in
    let key : IsInfoAt (drop 1 w) c.info_at-key.result.info.alignment c.info_at-key.result.info.size c.info_at-key.result.rest.now = rw c.after_letter.ensures at c.info_at-key.ensures in
    let falls : suc (2 * length c.info_at-key.result.rest.now) < 2 * length w = omega (arith, key.after.shorter, p.shorter) in
    (search (rules, falls), value_first_type w c.info_at-key.result.rest.now p key.after)

pub entry_at-end_after-key_end-requires-clause-aligned : goal.entry_at-end_after-key_end-requires-clause-aligned
entry_at-end_after-key_end-requires-clause-aligned t c = omega (arith, c.info_at-key.ensures.aligned_is, alignment_pos (first_type (seen c.after_letter.result.now)))

pub entry_at-end_after-key_end-requires-clause-fits : goal.entry_at-end_after-key_end-requires-clause-fits
entry_at-end_after-key_end-requires-clause-fits t c =
    let key = rw c.after_letter.ensures at c.info_at-key.ensures in
    key_fits c.args.text.now c.info_at-key.result.rest.now c.info_at-key.result.info.alignment c.info_at-key.result.info.size c.requires.first_type c.requires.kind key

pub entry_at-end_after-requires-clause-aligned : goal.entry_at-end_after-requires-clause-aligned
entry_at-end_after-requires-clause-aligned t c = omega (arith, c.info_at-value.ensures.aligned_is, alignment_pos (first_type (seen c.info_at-key.result.rest.now)))

pub entry_at-end_after-requires-clause-fits : goal.entry_at-end_after-requires-clause-fits
entry_at-end_after-requires-clause-fits t c =
    let key = rw c.after_letter.ensures at c.info_at-key.ensures in
    value_fits c.args.text.now c.info_at-key.result.rest.now c.info_at-value.result.rest.now c.info_at-key.result.info.alignment c.info_at-value.result.info.alignment c.info_at-key.result.info.size c.info_at-value.result.info.size
    c.end_after-key_end.result (record { begins = c.requires.first_type; kind = c.requires.kind; key = key; value = c.info_at-value.ensures }) c.end_after-key_end.ensures

pub entry_at-padded-size-requires-clause-aligned : goal.entry_at-padded-size-requires-clause-aligned
entry_at-padded-size-requires-clause-aligned t c = omega (arith, c.max-alignment.ensures, c.info_at-value.ensures.aligned_is, alignment_pos (first_type (seen c.info_at-key.result.rest.now)))

pub entry_at-padded-size-requires-clause-fits : goal.entry_at-padded-size-requires-clause-fits
entry_at-padded-size-requires-clause-fits t c =
    let key = rw c.after_letter.ensures at c.info_at-key.ensures in
    pair_end_fits c.args.text.now c.info_at-key.result.rest.now c.info_at-value.result.rest.now c.info_at-key.result.info.alignment c.info_at-value.result.info.alignment c.max-alignment.result c.info_at-key.result.info.size
    c.info_at-value.result.info.size c.end_after-key_end.result c.end_after.result (record { begins = c.requires.first_type; kind = c.requires.kind; key = key; value = c.info_at-value.ensures }) c.end_after-key_end.ensures c.end_after.ensures c.max-alignment.ensures

pub entry_at-after_letter-requires-2 : goal.entry_at-after_letter-requires-2
entry_at-after_letter-requires-2 t c =
    let w = c.args.text.now in
    let p = entry_first_type w c.requires.first_type c.requires.kind in
    let key : IsInfoAt (drop 1 w) c.info_at-key.result.info.alignment c.info_at-key.result.info.size c.info_at-key.result.rest.now = rw c.after_letter.ensures at c.info_at-key.ensures in
    (entry_closed w c.info_at-key.result.rest.now c.info_at-value.result.rest.now p key.after c.info_at-value.ensures.after).some

pub entry_at-returns : goal.entry_at-returns
entry_at-returns t c =
    let key = rw c.after_letter.ensures at c.info_at-key.ensures in
    rw c.after_letter-2.ensures (pair_done c.args.text.now c.info_at-key.result.rest.now c.info_at-value.result.rest.now c.info_at-key.result.info.alignment c.info_at-value.result.info.alignment c.max-alignment.result
    c.info_at-key.result.info.size c.info_at-value.result.info.size c.end_after-key_end.result c.end_after.result c.padded-size.result
    (record { begins = c.requires.first_type; kind = c.requires.kind; key = key; value = c.info_at-value.ensures }) c.end_after-key_end.ensures c.end_after.ensures c.max-alignment.ensures c.padded-size.ensures)
