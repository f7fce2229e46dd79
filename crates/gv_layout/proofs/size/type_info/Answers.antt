use Rattle.std.proofs.Common.{sym, ap, ◌∙◌, subst}
use Rattle.gv_model.specs.Layout.{alignment, fixed_size}
use Rattle.gv_model.specs.TypeText.{seen}
use Rattle.gv_types.specs.FirstTypes.{first_type, HasFirstType}
use Rattle.gv_types.specs.TypeStr.{ty}
use Rattle.gv_types.proofs.FirstTypes.{whole_first_type, whole_type}
use Rattle.gv_layout.proofs.OpenTypes.{no_fixed_size}
use Rattle.gv_layout.proofs.Sizes.{alignment-basic, fixed_size-basic, no_size}
use Rattle.gv_layout.proofs.size.type_info.Goals as goal

pub returns-in-Basic-clause-alignment : goal.returns-in-Basic-clause-alignment
returns-in-Basic-clause-alignment c = c.basic_info.ensures.alignment ∙ sym (alignment-basic (ty c.args.of) c.in-Basic.basic c.in-Basic.ensures)

pub returns-in-Basic-clause-size : goal.returns-in-Basic-clause-size
returns-in-Basic-clause-size c = c.basic_info.ensures.size ∙ sym (fixed_size-basic (ty c.args.of) c.in-Basic.basic c.in-Basic.ensures)

pub open_info-requires : goal.open_info-requires
open_info-requires c = no_size (ty c.args.of) c.class.result c.class.ensures c.in-Variant.is

pub returns-in-Variant-clause-size : goal.returns-in-Variant-clause-size
returns-in-Variant-clause-size c = c.open_info.ensures.size ∙ sym (no_size (ty c.args.of) c.class.result c.class.ensures c.in-Variant.is)

pub open_info-requires-in-Tuple : goal.open_info-requires-in-Tuple
open_info-requires-in-Tuple c =
    sym (no_fixed_size (ty c.args.of) c.as_bytes.result.now (c.as_bytes.ensures.value ∙ c.as_str.ensures.spelled) (sym c.has_open_letter.ensures ∙ c.if-has_open_letter.true))

pub returns-in-Tuple-clause-size : goal.returns-in-Tuple-clause-size
returns-in-Tuple-clause-size c =
    c.open_info-in-Tuple.ensures.size ∙ no_fixed_size (ty c.args.of) c.as_bytes.result.now (c.as_bytes.ensures.value ∙ c.as_str.ensures.spelled) (sym c.has_open_letter.ensures ∙ c.if-has_open_letter.true)

pub info_at-requires : goal.info_at-requires
info_at-requires c =
    let same = c.as_bytes-in-Tuple-2.ensures.value ∙ c.as_str-in-Tuple-2.ensures.text in
    subst HasFirstType (sym same) (whole_first_type c.args.of.text.now c.args.of.spells_type)

pub returns-in-Tuple-2-clause-alignment : goal.returns-in-Tuple-2-clause-alignment
returns-in-Tuple-2-clause-alignment c =
    let same = c.as_bytes-in-Tuple-2.ensures.value ∙ c.as_str-in-Tuple-2.ensures.text in
    c.info_at.ensures.aligned_is ∙ ap alignment (ap (λ w. first_type (seen w)) same ∙ whole_type c.args.of.text.now c.args.of.spells_type)

pub returns-in-Tuple-2-clause-size : goal.returns-in-Tuple-2-clause-size
returns-in-Tuple-2-clause-size c =
    let same = c.as_bytes-in-Tuple-2.ensures.value ∙ c.as_str-in-Tuple-2.ensures.text in
    c.info_at.ensures.size_is ∙ ap fixed_size (ap (λ w. first_type (seen w)) same ∙ whole_type c.args.of.text.now c.args.of.spells_type)
