use Rattle.std.proofs.Common.{arith, string_bytes}
use Rattle.gv_text.proofs.DefaultTexts.{variant_depth, variant_writes}
use Rattle.gv_text.proofs.printing.default.push_variant_default.Goals as goal

pub returns-then-levels-lt2 : goal.returns-then-levels-lt2
returns-then-levels-lt2 c = omega (arith, c.if-levels-lt2.true, variant_depth)

pub returns : goal.returns
returns c = variant_writes c.args.levels (string_bytes c.args.to.now) (string_bytes c.push_str.new.self) (omega (arith, c.if-levels-lt2.false)) c.in_ok-push_str.ensures.bytes
