-- What a text is as a path, however long it is: a key's, a directory's, or none.
use Rattle.std.specs.Prelude.{◌≡◌, ℕ, ◌&&◌, ◌||◌, ◌==◌, Bool, true, false, if◌then◌else◌, List, ◌∷◌}
use Rattle.dconf_model.specs.Paths.{has_two_slashes, has_zero_byte, ends_with_slash, starts_with_slash, is_short, is_key_path, is_directory_path}
use Rattle.dconf_texts.specs.declared.kinds.PathKind.{PathKind}
use Rattle.dconf_texts.specs.declared.kinds.PathKind.TheVariants.{Key, Directory, NotAbsolute, HasNul, DoubleSlash, Absolute, NoKey, NoDirectory}

-- its start left aside
abbrev pub end_of : List ℕ → PathKind
end_of text =
    if has_zero_byte text then HasNul else if has_two_slashes text then DoubleSlash else if ends_with_slash text then Directory else Key

abbrev pub kind_of : List ℕ → PathKind
kind_of text = if starts_with_slash text then end_of text else NotAbsolute

-- what follows the slash of a directory
abbrev pub kind_below : List ℕ → PathKind
kind_below text = if starts_with_slash text then Absolute else kind_of (47 ∷ text)

abbrev pub kind_at : Bool → List ℕ → PathKind
kind_at is_relative text = if is_relative then kind_below text else kind_of text

-- to who wants a key's path (1), or a directory's (2), or any
abbrev pub wanted_kind : ℕ → PathKind → PathKind
wanted_kind wanted Key = if wanted == 2 then NoDirectory else Key
wanted_kind wanted Directory = if wanted == 1 then NoKey else Directory
wanted_kind wanted NotAbsolute = NotAbsolute
wanted_kind wanted HasNul = HasNul
wanted_kind wanted DoubleSlash = DoubleSlash
wanted_kind wanted Absolute = Absolute
wanted_kind wanted NoKey = NoKey
wanted_kind wanted NoDirectory = NoDirectory

abbrev pub kind_number : PathKind → ℕ
kind_number Key = 0
kind_number Directory = 1
kind_number NotAbsolute = 2
kind_number HasNul = 3
kind_number DoubleSlash = 4
kind_number Absolute = 5
kind_number NoKey = 6
kind_number NoDirectory = 7

-- ---- laws

abbrev pub is_key : PathKind → Bool
is_key Key = true
is_key _ = false

abbrev pub is_directory : PathKind → Bool
is_directory Directory = true
is_directory _ = false

-- a path is of its kind, and not too long
pub record IsOfKind (text : List ℕ) : Type 0 where
  pub key : is_key_path text ≡ (is_key (kind_of text) && is_short text)
  pub directory : is_directory_path text ≡ (is_directory (kind_of text) && is_short text)

abbrev pub KindsArePaths : Type 0
KindsArePaths = (text : List ℕ) → IsOfKind text

abbrev pub fits : PathKind → Bool
fits kind = is_key kind || is_directory kind

-- a path fits exactly if it is of the kind that is wanted
pub record IsWanted (kind : PathKind) : Type 0 where
  pub key : fits (wanted_kind 1 kind) ≡ is_key kind
  pub directory : fits (wanted_kind 2 kind) ≡ is_directory kind
  pub any : fits (wanted_kind 0 kind) ≡ fits kind

abbrev pub TheWantedFits : Type 0
TheWantedFits = (kind : PathKind) → IsWanted kind
