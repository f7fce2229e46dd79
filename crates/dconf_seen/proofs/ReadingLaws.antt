-- Where what is read is found.
use Rattle.std.proofs.Common.{◌≡◌, ◌∙◌, ℕ, Bool, true, false, List, refl}
use Rattle.dconf_model.specs.Layers.{Layers}
use Rattle.dconf_model.specs.Stores.{Saying}
use Rattle.dconf_model.specs.Stores.Saying.{silent, unset, sets}
use Rattle.dconf_seen.specs.Reading.{ReadIsFound, found_in, of_own, of_shown}
use Rattle.dconf_seen.specs.Waiting.{found_at, may_write, own_by, own_found, shown_as, word_of}
use Rattle.dconf_seen.specs.declared.seen.Shown.{Shown}
use Rattle.dconf_seen.specs.declared.seen.Shown.TheVariants.{Stored, Default, Edit}
use Rattle.dconf_seen.specs.declared.seen.Own.{Own}
use Rattle.dconf_seen.specs.declared.seen.Own.TheVariants.{First, Nothing, Edited}
use Rattle.dconf_seen.proofs.SeenLaws.{own_is_found, seen_is_found}

shown_there : (s : Shown) (l : Layers) (said : Saying) (path : List ℕ) → found_in (of_shown s) l said path ≡ found_at s l said path
shown_there Stored l said path = refl
shown_there Default l said path = refl
shown_there Edit l silent path = refl
shown_there Edit l unset path = refl
shown_there Edit l (sets v) path = refl

own_there : (o : Own) (l : Layers) (said : Saying) (path : List ℕ) → found_in (of_own o) l said path ≡ own_found o l said path
own_there First l said path = refl
own_there Nothing l said path = refl
own_there Edited l silent path = refl
own_there Edited l unset path = refl
own_there Edited l (sets v) path = refl

pub read_is_found : ReadIsFound
read_is_found false false fits l said path edit stored edit_is stored_is =
    shown_there (shown_as (word_of said) (may_write l path) edit stored) l said path ∙ seen_is_found fits l said path edit stored edit_is stored_is
read_is_found true false fits l said path edit stored edit_is stored_is = own_there (own_by (word_of said) l.writable) l said path ∙ own_is_found l said path
read_is_found false true fits l said path edit stored edit_is stored_is = refl
read_is_found true true fits l said path edit stored edit_is stored_is = refl
