use Rattle.std.proofs.Common.{sym, ap, ◌∙◌, subst}
use Rattle.gv_model.specs.TypeText.{type_at, seen}
use Rattle.gv_types.specs.Classes.{AreBracketed}
use Rattle.gv_types.proofs.Parts.{has_no_members}
use Rattle.gv_types.specs.Members.{types_in}
use Rattle.gv_types.proofs.type_str.TypeStr.members.Goals as goal
use Rattle.gv_types.proofs.type_str.TypeStr.members.Goals.{in-Tuple, in_default}

pub between_brackets-requires : goal.between_brackets-requires
between_brackets-requires c = subst AreBracketed c.class.ensures c.in-Tuple.is

pub returns : goal.returns
returns c = elim c.match-class.branch [
  | in-Tuple b ↦ ap (λ p. types_in (seen p.0.now)) b.result-is ∙ b.between_brackets.ensures
  | in_default b ↦ ap (λ p. types_in (seen p.0.now)) b.result-is ∙ (b.none.ensures ∙ sym (has_no_members c.class.result (type_at c.args.self.text.now) c.class.ensures b.in_default.not-Tuple b.in_default.not-Entry))
]
