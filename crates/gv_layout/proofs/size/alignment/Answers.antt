use Rattle.std.proofs.Common.{◌∙◌}
use Rattle.gv_types.specs.TypeStr.{ty}
use Rattle.gv_layout.proofs.AlignedTypes.{is_eight, is_four, is_two, is_one}
use Rattle.gv_layout.proofs.size.alignment.Goals as goal

pub returns-then-has_aligned_letter : goal.returns-then-has_aligned_letter
returns-then-has_aligned_letter c =
    let text = c.as_bytes-text.ensures.value ∙ c.as_str.ensures.spelled in
    is_eight (ty c.args.of) c.as_bytes-text.result.now c.has_aligned_letter.result text c.has_aligned_letter.ensures c.if-has_aligned_letter.true

pub returns-then-has_aligned_letter-2 : goal.returns-then-has_aligned_letter-2
returns-then-has_aligned_letter-2 c =
    let text = c.as_bytes-text.ensures.value ∙ c.as_str.ensures.spelled in
    is_four (ty c.args.of) c.as_bytes-text.result.now c.has_aligned_letter.result c.has_aligned_letter-2.result text c.has_aligned_letter.ensures c.if-has_aligned_letter.false c.has_aligned_letter-2.ensures c.if-has_aligned_letter-2.true

pub returns-then-has_aligned_letter-3 : goal.returns-then-has_aligned_letter-3
returns-then-has_aligned_letter-3 c =
    let text = c.as_bytes-text.ensures.value ∙ c.as_str.ensures.spelled in
    is_two (ty c.args.of) c.as_bytes-text.result.now c.has_aligned_letter-2.result c.has_aligned_letter-3.result text c.has_aligned_letter-2.ensures c.if-has_aligned_letter-2.false c.has_aligned_letter-3.ensures c.if-has_aligned_letter-3.true

pub returns : goal.returns
returns c =
    let text = c.as_bytes-text.ensures.value ∙ c.as_str.ensures.spelled in
    is_one (ty c.args.of) c.as_bytes-text.result.now c.has_aligned_letter-3.result text c.has_aligned_letter-3.ensures c.if-has_aligned_letter-3.false
