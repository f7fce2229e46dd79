use Rattle.std.proofs.Common.{get_or, refl, sym, ap, ◌∙◌}
use Rattle.gv_model.specs.Ty.Ty.{array}
use Rattle.gv_model.specs.TypeText.{type_at}
use Rattle.dconfdb_values.proofs.OpenArrayLaws.{all_framed}
use Rattle.dconfdb_values.proofs.TextLists.{are_texts}
use Rattle.dconfdb_values.proofs.open_array.OpenArray.of_texts.Goals as goal

pub framed-requires-clause-spelled : goal.framed-requires-clause-spelled
framed-requires-clause-spelled c =
    (are_texts c.args.type_text.now (get_or c.args.type_text.now 1 0) c.if-type_text-ne2.false c.if-type_text-ne97.false refl
    (c.is_letter_of_texts.ensures.0 c.if-not-is_letter_of_texts.false)).spelled

pub framed-requires-clause-aligned : goal.framed-requires-clause-aligned
framed-requires-clause-aligned c =
    (are_texts c.args.type_text.now (get_or c.args.type_text.now 1 0) c.if-type_text-ne2.false c.if-type_text-ne97.false refl
    (c.is_letter_of_texts.ensures.0 c.if-not-is_letter_of_texts.false)).aligned

pub returns : goal.returns
returns c =
    let is = are_texts c.args.type_text.now (get_or c.args.type_text.now 1 0) c.if-type_text-ne2.false c.if-type_text-ne97.false refl
    (c.is_letter_of_texts.ensures.0 c.if-not-is_letter_of_texts.false) in
    all_framed (type_at c.args.type_text.now) _ c.args.bytes.now c.framed.result (is.whole ∙ ap array (sym is.element)) is.sized c.framed.ensures
