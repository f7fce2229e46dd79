-- What a word of `watch` or `lint` is by itself. docs/MANUAL.md, "watch PATH" and "lint [FILE]..".
use Rattle.std.specs.Prelude.{ℕ, List, Bool, codes, not, ◌||◌, nat_eq, if◌then◌else◌}
use Rattle.std.specs.List.{starts_with}
use Rattle.std.specs.Str.{bytes_eq}
use Rattle.dconf_options.specs.declared.words.Word.{Word}
use Rattle.dconf_options.specs.declared.words.Word.TheVariants.{Name, Help, Divider, WantsFolder, Folder, WantsSchema, Schema, User, Json, Unknown}

-- a minus sign alone is one
abbrev pub is_name : List ℕ → Bool
is_name word = not (starts_with nat_eq word (codes "-")) || bytes_eq word (codes "-")

abbrev pub is_help : List ℕ → Bool
is_help word = bytes_eq word (codes "-h") || bytes_eq word (codes "--help")

abbrev pub watch_option : List ℕ → Word
watch_option word =
    if bytes_eq word (codes "--store") then WantsFolder else if starts_with nat_eq word (codes "--store=") then Folder else
    if bytes_eq word (codes "--user") then User else Unknown

abbrev pub lint_option : List ℕ → Word
lint_option word =
    if bytes_eq word (codes "--schemas") then WantsFolder else if starts_with nat_eq word (codes "--schemas=") then Folder else
    if bytes_eq word (codes "--schema") then WantsSchema else if starts_with nat_eq word (codes "--schema=") then Schema else
    if bytes_eq word (codes "--json") then Json else Unknown

abbrev pub word_of : Bool → List ℕ → Word
word_of is_lint word =
    if is_name word then Name else if is_help word then Help else if bytes_eq word (codes "--") then Divider else
    if is_lint then lint_option word else watch_option word
