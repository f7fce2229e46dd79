use Rattle.std.proofs.Common.{sym, ap, ◌∙◌, subst}
use Rattle.gv_model.specs.Layout.{fixed_size}
use Rattle.gv_model.specs.TypeText.{seen}
use Rattle.gv_types.specs.FirstTypes.{first_type, HasFirstType}
use Rattle.gv_types.specs.TypeStr.{ty}
use Rattle.gv_types.proofs.FirstTypes.{whole_first_type, whole_type}
use Rattle.gv_layout.proofs.OpenTypes.{no_fixed_size}
use Rattle.gv_layout.proofs.Sizes.{fixed_size-basic, no_size}
use Rattle.gv_layout.proofs.size.fixed_size.Goals as goal

pub returns-then-is_known_open : goal.returns-then-is_known_open
returns-then-is_known_open c = sym (c.is_known_open.ensures.open c.if-is_known_open.true)

pub returns-in-Basic : goal.returns-in-Basic
returns-in-Basic c = c.basic_info.ensures.size ∙ sym (fixed_size-basic (ty c.args.of) c.in-Basic.basic c.in-Basic.ensures)

pub returns-in-Variant : goal.returns-in-Variant
returns-in-Variant c = sym (no_size (ty c.args.of) c.class.result c.class.ensures c.in-Variant.is)

pub returns-in-Tuple : goal.returns-in-Tuple
returns-in-Tuple c =
    no_fixed_size (ty c.args.of) c.as_bytes.result.now (c.as_bytes.ensures.value ∙ c.as_str.ensures.spelled) (sym c.has_open_letter.ensures ∙ c.if-has_open_letter.true)

pub info_at-requires : goal.info_at-requires
info_at-requires c =
    let same = c.as_bytes-in-Tuple-2.ensures.value ∙ c.as_str-in-Tuple-2.ensures.text in
    subst HasFirstType (sym same) (whole_first_type c.args.of.text.now c.args.of.spells_type)

pub returns-in-Tuple-2 : goal.returns-in-Tuple-2
returns-in-Tuple-2 c =
    let same = c.as_bytes-in-Tuple-2.ensures.value ∙ c.as_str-in-Tuple-2.ensures.text in
    c.info_at.ensures.size_is ∙ ap fixed_size (ap (λ w. first_type (seen w)) same ∙ whole_type c.args.of.text.now c.args.of.spells_type)
