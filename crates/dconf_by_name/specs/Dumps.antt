-- A dump with its groups in dconf's order: a directory's own keys come first, and then the directories in it, in the byte order of their names with
-- a slash behind. So `[a/c-sharp]` comes before `[a/c]`.
use Rattle.std.specs.Prelude.{ℕ, List, [], ◌∷◌, ◌++◌, ◌-◌, codes, eqb, Bool, not, ◌==◌, ◌||◌, if◌then◌else◌, length, take}
use Rattle.std.specs.List.{ends_with, slice_split}
use Rattle.std.specs.Str.{bytes_eq}
use Rattle.dconf_model.specs.Keyfiles.{begins_with}
use Rattle.dconf_model.specs.Order.{in_order}

-- a row or a comment; the heading of its group, of which a comment has none; and what that names
pub record DumpLine : Type 0 where
  pub directory : List ℕ
  pub heading : List ℕ
  pub text : List ℕ

-- `[a/b/` for `[a/b]`; nothing for `[/]`, the directory that is dumped, or for no heading
abbrev pub directory_named : List ℕ → List ℕ
directory_named heading =
    if bytes_eq heading (codes "[/]") || not (ends_with eqb heading (codes "]")) then [] else take (length heading - 1) heading ++ 47 ∷ []

abbrev pub line_below : List ℕ → List ℕ → DumpLine
line_below heading text = record { directory = directory_named heading; heading = heading; text = text }

-- the rows and comments among lines, the first of which are below this heading
abbrev pub lines_below : List ℕ → List (List ℕ) → List DumpLine
lines_below heading [] = []
lines_below heading (text ∷ more) =
    if begins_with 91 text then lines_below text more else if length text == 0 then lines_below heading more else line_below heading text ∷ lines_below heading more

-- the heading of a group where it begins, with an empty line between groups
abbrev pub beginning : Bool → List ℕ → List ℕ
beginning is_first heading = if is_first then heading ++ 10 ∷ [] else 10 ∷ (heading ++ 10 ∷ [])

abbrev pub heading_after : List ℕ → List ℕ → List ℕ
heading_after before heading = if bytes_eq before heading then [] else beginning (length before == 0) heading

abbrev pub text_after : List ℕ → List DumpLine → List ℕ
text_after before [] = []
text_after before (line ∷ more) = heading_after before line.heading ++ (line.text ++ 10 ∷ text_after line.heading more)

-- lines of one group keep their order
abbrev pub in_dconfs_order : List ℕ → List ℕ
in_dconfs_order dump = text_after [] (in_order (λ line. line.directory) (lines_below [] (slice_split (λ c. c == 10) dump)))
