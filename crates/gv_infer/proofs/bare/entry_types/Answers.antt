use Rattle.std.proofs.Common.{rules, ◌≡◌, sym, ◌∙◌, Some}
use Rattle.gv_infer.proofs.TypeShapes.{entry_types_of, entry_has_two}
use Rattle.gv_infer.proofs.bare.entry_types.Goals as goal

pub returns-in_err-next : goal.returns-in_err-next
returns-in_err-next c =
    let key : c.key.result ≡ Some c.in_ok-key.key = search rules in
    absurd ((entry_has_two _ _ _ c.key.ensures key).0 (sym c.members-members.ensures ∙ c.in_err-next.ensures.steps.0))

pub returns-in_err-next-2 : goal.returns-in_err-next-2
returns-in_err-next-2 c =
    let key : c.key.result ≡ Some c.in_ok-key.key = search rules in
    absurd ((entry_has_two _ _ _ c.key.ensures key).1 c.in_ok-next.field-0 _ (sym c.members-members.ensures ∙ c.in_ok-next.ensures.steps) c.in_err-next-2.ensures.steps.0)

pub returns : goal.returns
returns c =
    let key : c.key.result ≡ Some c.in_ok-key.key = search rules in
    entry_types_of _ _ _ c.in_ok-next.field-0 c.in_ok-next-2.field-0 _ _ c.key.ensures key (sym c.members-members.ensures ∙ c.in_ok-next.ensures.steps) c.in_ok-next-2.ensures.steps
