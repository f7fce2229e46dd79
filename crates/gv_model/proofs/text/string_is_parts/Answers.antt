use Rattle.gv_model.proofs.StringParts.{string_parts, byte_string_parts}
use Rattle.gv_model.proofs.text.string_is_parts.Goals as goal

pub returns : goal.returns
returns c = record { string = string_parts; bytes = byte_string_parts }
