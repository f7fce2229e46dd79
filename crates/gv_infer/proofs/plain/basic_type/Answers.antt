use Rattle.std.proofs.Common.{◌∙◌, ap, sym, subst, true, ◌≡◌}
use Rattle.gv_model.specs.TypeText.{is_type, type_at}
use Rattle.gv_types.specs.Classes.{basic_of}
use Rattle.gv_infer.proofs.PlainTypes.{basic_text}
use Rattle.gv_infer.proofs.plain.basic_type.Goals as goal

pub of_checked-requires : goal.of_checked-requires
of_checked-requires c = subst (λ w. is_type w ≡ true) (sym c.letter.ensures) (basic_text (basic_of c.args.of)).checked

pub returns : goal.returns
returns c = ap type_at (c.of_checked.ensures ∙ c.letter.ensures) ∙ (basic_text (basic_of c.args.of)).type
