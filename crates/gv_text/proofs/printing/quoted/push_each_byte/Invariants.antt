use Rattle.std.proofs.Common.{◌≡◌, ◌++◌, take, string_bytes}
use Rattle.std.specs.Prelude.{flat_map}
use Rattle.gv_model.specs.Quoted.{byte_text}
use Rattle.gv_text.proofs.printing.quoted.push_each_byte.Given as goal

abbrev pub invariant-loop-byte : goal.invariant-loop-byte
invariant-loop-byte l = string_bytes l.to ≡ string_bytes l.initial.to ++ flat_map (byte_text l.quote) (take l.byte-index l.bytes)
