use Rattle.std.proofs.Common.{refl}
use Rattle.gv_infer.proofs.PlainReading.{number_read}
use Rattle.gv_infer.proofs.plain_literal.number.Goals as goal

pub returns : goal.returns
returns c =
    number_read c.args.digits.now c.as_bytes.result.now c.from_str_radix.result c.ok.result c.as_bytes.ensures.value (c.if-not-begins_as_printed.ensures.plus refl) (c.if-not-begins_as_printed.ensures.zero refl)
    c.from_str_radix.ensures.value c.ok.ensures.value
