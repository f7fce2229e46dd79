-- The bytes of an object path.
use Rattle.std.specs.Prelude.{ℕ, Bool, ◌==◌, not, if◌then◌else◌}
use Rattle.gv_model.specs.Texts.{is_part_byte}

-- the byte may come after a slash (at_slash) or in a part
abbrev pub may_follow : Bool → ℕ → Bool
may_follow at_slash c = if c == 47 then not at_slash else is_part_byte c
