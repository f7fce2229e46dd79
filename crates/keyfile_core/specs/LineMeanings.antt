-- What a line without its blanks says by itself, the lines before it left aside.
use Rattle.std.specs.Prelude.{◌≡◌, ℕ, true, false, ◌&&◌, not, List, Some, None}
use Rattle.std.specs.List.{list_any, before_first, after_first}
use Rattle.dconf_model.specs.Paths.{has_zero_byte}
use Rattle.dconf_model.specs.Lines.{is_space, without_start, without_end}
use Rattle.dconf_model.specs.Keyfiles.{line_kind, group_in, is_equals}
use Rattle.dconf_model.specs.Keyfiles.LineKind.{empty, bracket, entry}
use Rattle.keyfile_core.specs.declared.fault.KeyfileCause.{KeyfileCause}
use Rattle.keyfile_core.specs.declared.fault.KeyfileCause.TheVariants.{BadLine, BadGroup}
use Rattle.keyfile_core.specs.declared.lines.Line.{Line}
use Rattle.keyfile_core.specs.declared.lines.Line.TheVariants.{Empty, Group, Entry}

abbrev pub Says : List ℕ → Line → Type 0
Says s Empty = line_kind s ≡ empty
Says s (Group group) = (line_kind s ≡ bracket) × (group_in s ≡ Some group.now)
Says s (Entry key text) =
    (line_kind s ≡ entry) × ((list_any is_equals s && not (has_zero_byte s)) ≡ true)
    × (key.now ≡ without_end is_space (before_first is_equals s)) × (text.now ≡ without_start is_space (after_first is_equals s))

abbrev pub IsWrong : List ℕ → KeyfileCause → Type 0
IsWrong s BadGroup = (line_kind s ≡ bracket) × (group_in s ≡ None)
IsWrong s BadLine = (line_kind s ≡ entry) × ((list_any is_equals s && not (has_zero_byte s)) ≡ false)
IsWrong s _ = ⊥
