-- The usual last part of a path: plain bytes, with a slash at the end where it is a directory's.
use Rattle.std.specs.Prelude.{ℕ, ◌<◌, ◌≡◌, ◌⊎◌, Bool, IsTrue, ◌==◌, ◌&&◌, not, List, [], ◌∷◌, ◌++◌, length}
use Rattle.std.specs.List.{list_all}
use Rattle.gv_view.specs.Texts.{is_ascii_char}
use Rattle.dconf_model.specs.Table.{Table, item, value_kind, list_kind}
use Rattle.dconf_model.specs.Searchable.{HasGoodKey}
use Rattle.dconf_model.specs.Sound.{HasParent}
use Rattle.gvdb_check.specs.HashAbove.{GoesOn}

-- ASCII, and neither zero nor a slash
abbrev pub is_plain : ℕ → Bool
is_plain b = is_ascii_char b && not (b == 47)

-- a slash after such bytes
abbrev pub IsPlainDirectory : List ℕ → Type 0
IsPlainDirectory part = (name : List ℕ) × (part ≡ name ++ 47 ∷ []) × (0 < length name) × IsTrue (list_all is_plain name)

abbrev pub IsPlainPart : ℕ → List ℕ → Type 0
IsPlainPart kind part = ((kind ≡ value_kind) × IsTrue (list_all is_plain part)) ⊎ ((kind ≡ list_kind) × IsPlainDirectory part)

-- what an item's key says by itself, beside its parent's record
pub record KeyKeeps (t : Table) (i : ℕ) : Type 0 where
  pub good_key : HasGoodKey t i
  pub goes_on : GoesOn t i
  pub has_parent : HasParent t i (item t i).parent
