-- Where what is read of a key is found, by what who reads asks for. dconf's engine, "With respect to flags".
use Rattle.std.specs.Prelude.{◌≡◌, ℕ, Bool, true, false, List, Option, Some, None}
use Rattle.gv_model.specs.Tree.{Tree}
use Rattle.dconf_model.specs.Layers.{Layers, visible, without_user}
use Rattle.dconf_model.specs.Stores.{Saying}
use Rattle.dconf_model.specs.Stores.Saying.{sets}
use Rattle.dconf_seen.specs.Waiting.{fits_all, fits_edit, first_values, may_write, own, own_by, seen_as, shown_as, word_numbered, word_of}
use Rattle.dconf_seen.specs.declared.seen.Word.{Word}
use Rattle.dconf_seen.specs.declared.seen.Shown.{Shown}
use Rattle.dconf_seen.specs.declared.seen.Shown.TheVariants.{Stored, Default, Edit}
use Rattle.dconf_seen.specs.declared.seen.Own.{Own}
use Rattle.dconf_seen.specs.declared.seen.Own.TheVariants.{First, Nothing, Edited}
use Rattle.dconf_seen.specs.declared.reading.Known.{Known}
use Rattle.dconf_seen.specs.declared.reading.Found.{Found}
use Rattle.dconf_seen.specs.declared.reading.Found.TheVariants.{InDatabases, WithoutUser, InEdit, InFirst, Nowhere}

-- ---- what is read

-- the setting; the user's own value; what there is without that; and of both at once nothing
abbrev pub read_by : Bool → Bool → (Tree → Bool) → Layers → Saying → List ℕ → Option Tree
read_by false false fits l said path = seen_as fits l said path
read_by true false fits l said path = own l said path
read_by false true fits l said path = visible (without_user l) path
read_by true true fits l said path = None

-- ---- where it is found

abbrev pub of_shown : Shown → Found
of_shown Stored = InDatabases
of_shown Default = WithoutUser
of_shown Edit = InEdit

abbrev pub of_own : Own → Found
of_own First = InFirst
of_own Nothing = Nowhere
of_own Edited = InEdit

abbrev pub found_by : Bool → Bool → Word → Bool → Bool → Bool → Bool → Found
found_by false false word writable may edit stored = of_shown (shown_as word may edit stored)
found_by true false word writable may edit stored = of_own (own_by word writable)
found_by false true word writable may edit stored = WithoutUser
found_by true true word writable may edit stored = Nowhere

abbrev pub found_in : Found → Layers → Saying → List ℕ → Option Tree
found_in InDatabases l said path = visible l path
found_in WithoutUser l said path = visible (without_user l) path
found_in InEdit l (sets v) path = Some v
found_in InEdit l _ path = None
found_in InFirst l said path = first_values l path
found_in Nowhere l said path = None

abbrev pub known_word : Known → Word
known_word known = word_numbered known.waits known.sets

-- ---- in numbers

abbrev pub found_number : Found → ℕ
found_number InDatabases = 0
found_number WithoutUser = 1
found_number InEdit = 2
found_number InFirst = 3
found_number Nowhere = 4

-- ---- the law

-- What is read is found there; of a type, if it is said which values fit.
abbrev pub ReadIsFound : Type 0
ReadIsFound =
    (user default : Bool) (fits : Tree → Bool) (l : Layers) (said : Saying) (path : List ℕ) (edit stored : Bool) →
    edit ≡ fits_edit fits said → stored ≡ fits_all fits (visible l path) →
    found_in (found_by user default (word_of said) l.writable (may_write l path) edit stored) l said path ≡ read_by user default fits l said path
