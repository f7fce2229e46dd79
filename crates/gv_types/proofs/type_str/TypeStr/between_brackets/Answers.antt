use Rattle.std.proofs.Common.{ap, ◌∙◌, arith}
use Rattle.std.proofs.lemmas.Str.{IsCharBoundary-from_ascii}
use Rattle.gv_model.specs.TypeText.{seen}
use Rattle.gv_model.proofs.TypeTextParts.{type_text_is_ascii}
use Rattle.gv_types.specs.Members.{types_in}
use Rattle.gv_types.proofs.Parts.{has_members, text_of_members, text_of_member}
use Rattle.gv_types.proofs.type_str.TypeStr.between_brackets.Goals as goal

pub overflow_sub-self : goal.overflow_sub-self
overflow_sub-self c =
    let m = has_members c.args.self.text.now c.args.self.spells_type c.requires in
    omega (arith, m.some)

pub range-requires-clause-start_le_end : goal.range-requires-clause-start_le_end
range-requires-clause-start_le_end c =
    let m = has_members c.args.self.text.now c.args.self.spells_type c.requires in
    omega (arith, m.some)

pub range-requires-clause-start_boundary : goal.range-requires-clause-start_boundary
range-requires-clause-start_boundary c =
    let w = c.args.self.text.now in
    let m = has_members w c.args.self.spells_type c.requires in
    λ _. IsCharBoundary-from_ascii w 1 (type_text_is_ascii w c.args.self.spells_type) (omega (arith, m.some))

pub range-requires-clause-end_boundary : goal.range-requires-clause-end_boundary
range-requires-clause-end_boundary c =
    let w = c.args.self.text.now in
    IsCharBoundary-from_ascii w _ (type_text_is_ascii w c.args.self.spells_type) (omega arith)

pub invariant_of-result : goal.invariant_of-result
invariant_of-result c =
    let w = c.args.self.text.now in
    let m = has_members w c.args.self.spells_type c.requires in
    let t = text_of_members w c.args.self.spells_type m in
    let one = text_of_member c.args.self.singles w c.args.self.spells_type c.args.self.alone m in
    record {
      are_types = rw c.range.ensures.value t.are;
      alone = λ h. rw c.range.ensures.value (one h).alone;
      «open» = λ h known. rw c.range.ensures.value ((one h).inherits (c.args.self.«open» known));
    }

pub returns : goal.returns
returns c =
    let w = c.args.self.text.now in
    let t = text_of_members w c.args.self.spells_type (has_members w c.args.self.spells_type c.requires) in
    ap (λ v. types_in (seen v)) c.range.ensures.value ∙ t.listed
