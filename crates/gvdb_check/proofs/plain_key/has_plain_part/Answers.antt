use Rattle.std.proofs.Common.{◌≡◌, ◌<◌, ◌≤◌, ◌∙◌, ℕ, List, Some, length, ap, sym, subst, arith}
use Rattle.std.specs.Prelude.{fold}
use borrow.Author.Tests.{eqb-true}
use Rattle.dconf_model.specs.Bytes.{hash_step}
use Rattle.dconf_model.specs.Table.{Item, item, item_count, key, list_kind}
use Rattle.gvdb_check.specs.PlainKey.{IsPlainPart}
use Rattle.gvdb_format.specs.Tables.{item_of, key_at, region}
use Rattle.gvdb_check.proofs.PlainKey.{plain_keeps}
use Rattle.gvdb_check.proofs.plain_key.has_plain_part.Goals as goal

pub returns : goal.returns
returns c =
    let t = region c.args.table in
    let i = c.args.i in
    let p = c.in-Some.parent in
    let own = c.in-Some-key_of.key.now in
    let is : item_of c.args.stored ≡ item t i = c.requires in
    let up : (item t i).parent ≡ Some p = sym (ap (λ (it : Item). it.parent) is) ∙ c.in-Some.is in
    let counted : p < item_count t = omega (arith, c.n_items.ensures, c.if-parent-n_items.false) in
    let of_list : (item t p).kind ≡ list_kind = c.has_kind.ensures.0 c.if-not-has_kind.false in
    let lent = c.in-Some-key_of.ensures.lent in
    let inside : (item t i).key_end ≤ length t.file = subst (λ (it : Item). it.key_end ≤ length t.file) is lent.0 in
    let keyed : own ≡ key t i = lent.1 ∙ ap (λ (it : Item). key_at t.file it) is in
    let part = subst (λ (l : List ℕ). IsPlainPart c.args.stored.kind l) keyed c.in-Some-hash_of_part.ensures.part in
    let plain : IsPlainPart (item t i).kind (key t i) = subst (λ (it : Item). IsPlainPart it.kind (key t i)) is part in
    λ e. plain_keeps t i p up counted of_list inside plain
    (sym (ap (λ (it : Item). it.hash) is) ∙ (sym (eqb-true _ _ e) ∙ (c.in-Some-hash_of_part.ensures.hash
    ∙ (ap (λ (h : ℕ). fold hash_step h own) c.hash_at.ensures ∙ ap (λ (l : List ℕ). fold hash_step (item t p).hash l) keyed))))
