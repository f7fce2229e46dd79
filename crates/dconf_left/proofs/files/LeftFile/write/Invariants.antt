use Rattle.std.proofs.Common.{◌≡◌, ◌*◌, ◌++◌, drop, take}
use Rattle.std.specs.Prelude.{flat_map}
use Rattle.gv_model.specs.Encode.{number_bytes}
use Rattle.dconf_left.specs.Records.{numbers}
use Rattle.dconf_left.proofs.files.LeftFile.write.Given as goal

-- the numbers so far, and the rest of the room
abbrev pub invariant-loop-index : goal.invariant-loop-index
invariant-loop-index l = l.room ≡ flat_map (number_bytes 8) (take l.index (numbers l.fn.self l.fn.is_synced)) ++ drop (8 * l.index) l.fn.room
