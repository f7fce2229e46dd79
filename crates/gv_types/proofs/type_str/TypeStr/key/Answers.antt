use Rattle.std.proofs.Common.{Some, sym, ap, ◌∙◌, arith}
use Rattle.std.proofs.lemmas.Str.{IsCharBoundary-from_ascii}
use Rattle.gv_model.specs.TypeText.{type_at}
use Rattle.gv_model.proofs.TypeTextParts.{type_text_is_ascii}
use Rattle.gv_types.proofs.Parts.{has_key, text_of_key}
use Rattle.gv_types.proofs.type_str.TypeStr.key.Goals as goal

pub range-requires-clause-start_boundary : goal.range-requires-clause-start_boundary
range-requires-clause-start_boundary c =
    let w = c.args.self.text.now in
    let k = has_key w c.args.self.spells_type (sym c.class.ensures ∙ c.in-Entry.is) in
    λ _. IsCharBoundary-from_ascii w 1 (type_text_is_ascii w c.args.self.spells_type) (omega (arith, k.some))

pub range-requires-clause-end_boundary : goal.range-requires-clause-end_boundary
range-requires-clause-end_boundary c =
    let w = c.args.self.text.now in
    let k = has_key w c.args.self.spells_type (sym c.class.ensures ∙ c.in-Entry.is) in
    IsCharBoundary-from_ascii w 2 (type_text_is_ascii w c.args.self.spells_type) k.some

pub of_checked-requires : goal.of_checked-requires
of_checked-requires c =
    let w = c.args.self.text.now in
    let k = has_key w c.args.self.spells_type (sym c.class.ensures ∙ c.in-Entry.is) in
    rw c.range.ensures.value (text_of_key w c.args.self.spells_type k).checked

pub returns-in-Entry : goal.returns-in-Entry
returns-in-Entry c =
    let w = c.args.self.text.now in
    let k = has_key w c.args.self.spells_type (sym c.class.ensures ∙ c.in-Entry.is) in
    ap (λ v. Some (type_at v)) (c.of_checked.ensures ∙ c.range.ensures.value) ∙ (ap Some (text_of_key w c.args.self.spells_type k).type ∙ sym k.is)
