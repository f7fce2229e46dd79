use Rattle.std.proofs.Common.{string_bytes}
use Rattle.gv_types.specs.Classes.{basic_of}
use Rattle.gv_text.proofs.DefaultTexts.{after_comma_written}
use Rattle.gv_text.proofs.printing.default.push_basic_after.Goals as goal

pub returns : goal.returns
returns c = after_comma_written (basic_of c.args.of) c.in-Some.field-0-0.now c.in-Some.after_comma.now (string_bytes c.args.to.now) (string_bytes c.push_str.new.self) c.in-Some.ensures c.in_ok-push_str.ensures.bytes
