-- Texts of types, as C lends them; and what is found of three.
use Rattle.std.specs.Prelude.{ℕ, if◌then◌else◌, Bool, List, IsTrue, IsUtf8, Option}
use Rattle.gv_model.specs.Tree.{Tree}
use Rattle.gv_model.specs.TypeText.{is_type}
use Rattle.dconf_model.specs.Layers.{Layers, visible, without_user}
use Rattle.dconf_seen.specs.Waiting.{fits_all}
use Rattle.dconf_seen.specs.declared.seen.Shown.{Shown}
use Rattle.dconf_seen.specs.declared.seen.Shown.TheVariants.{Stored, Default, Edit}

-- they are a text, and one that spells a type
abbrev pub SpellsType : List ℕ → Type 0
SpellsType bytes = IsUtf8 bytes × IsTrue (is_type bytes)

-- what the layers show, and without the user's value where that is one that doesn't fit
abbrev pub stored_for : (Tree → Bool) → Layers → List ℕ → Option Tree
stored_for fits l path = if fits_all fits (visible l path) then visible l path else visible (without_user l) path

-- the stored value that fits, what there is without the user's, or the edit's
abbrev pub value_for : (Tree → Bool) → Shown → Layers → List ℕ → Option Tree → Option Tree
value_for fits Stored l path edit = stored_for fits l path
value_for fits Default l path edit = visible (without_user l) path
value_for fits Edit l path edit = edit
