-- What a line of a keyfile without its blanks says by itself, in dconf_model's words.
use Rattle.std.specs.Prelude.{◌≡◌, ℕ, Bool, true, false, ◌&&◌, not, List, Some, None}
use Rattle.std.specs.List.{list_any, before_first, after_first}
use Rattle.dconf_model.specs.Paths.{has_zero_byte}
use Rattle.dconf_model.specs.Lines.{is_space, without_start, without_end}
use Rattle.dconf_model.specs.Keyfiles.{line_kind, group_in, is_equals}
use Rattle.dconf_model.specs.Keyfiles.LineKind.{empty, bracket, entry}
use Rattle.keyfile_lines.specs.declared.lines.Line.{Line}

abbrev pub has_key : List ℕ → Bool
has_key s = list_any is_equals s && not (has_zero_byte s)

abbrev pub IsSaid : List ℕ → Line → Type 0
IsSaid s Line.Empty = line_kind s ≡ empty
IsSaid s (Line.Group group) = (line_kind s ≡ bracket) × (group_in s ≡ Some group.now)
IsSaid s Line.Unnamed = (line_kind s ≡ bracket) × (group_in s ≡ None)
IsSaid s (Line.Entry key text) =
    (line_kind s ≡ entry) × (has_key s ≡ true)
    × (key.now ≡ without_end is_space (before_first is_equals s)) × (text.now ≡ without_start is_space (after_first is_equals s))
IsSaid s Line.Bad = (line_kind s ≡ entry) × (has_key s ≡ false)
