use Rattle.std.proofs.Common.{Some, sym, ap, ◌∙◌}
use Rattle.std.proofs.lemmas.Str.{IsCharBoundary-from_ascii}
use Rattle.gv_model.specs.TypeText.{type_at}
use Rattle.gv_model.proofs.TypeTextParts.{type_text_is_ascii}
use Rattle.gv_types.proofs.Letters.{first_class}
use Rattle.gv_types.proofs.Parts.{has_element, text_of_element}
use Rattle.gv_types.proofs.type_str.TypeStr.element.Goals as goal

pub range_from-requires : goal.range_from-requires
range_from-requires c =
    let w = c.args.self.text.now in
    λ _. IsCharBoundary-from_ascii w 1 (type_text_is_ascii w c.args.self.spells_type) (first_class w c.args.self.spells_type).some

pub of_checked-requires : goal.of_checked-requires
of_checked-requires c =
    let w = c.args.self.text.now in
    let u = has_element c.class.result (type_at w) c.class.ensures c.in-Array.is in
    rw c.range_from.ensures.value (text_of_element w u.element c.args.self.spells_type u.is).checked

pub returns-in-Array : goal.returns-in-Array
returns-in-Array c =
    let w = c.args.self.text.now in
    let u = has_element c.class.result (type_at w) c.class.ensures c.in-Array.is in
    ap (λ v. Some (type_at v)) (c.of_checked.ensures ∙ c.range_from.ensures.value) ∙ (ap Some (text_of_element w u.element c.args.self.spells_type u.is).type ∙ sym u.is)
