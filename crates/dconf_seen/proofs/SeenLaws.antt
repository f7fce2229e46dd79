-- What waits is seen as it will be, and a lock hides it.
use Rattle.std.specs.Prelude.{cond, nat_lt, option_and_then, not}
use Rattle.std.proofs.Common.{◌≡◌, ◌∙◌, ◌&&◌, ℕ, zero, suc, Bool, true, false, List, [], ◌∷◌, drop, Option, Some, None, Result, Ok, Err, ap, sym, subst, refl, arith, inl, inr}
use Rattle.std.specs.Option.{option_or}
use Rattle.std.specs.FinMap.{empty, get-empty}
use Rattle.std.specs.Cmp.Lexicographic.{slice_cmp}
use Rattle.std.specs.Ordering.{nat_cmp}
use Rattle.gv_model.specs.Tree.{Tree}
use Rattle.dconf_model.specs.Changes.{Change, Refusal, apply, change_written}
use Rattle.dconf_model.specs.Changes.Refusal.{not_writable}
use Rattle.dconf_model.specs.Layers.{Layers, greatest_from, locks_path, visible, without_user}
use Rattle.dconf_model.specs.Settings.{Settings}
use Rattle.dconf_model.specs.Stores.{IsWholeChange, Saying, heard, saying_of}
use Rattle.dconf_model.specs.Stores.Saying.{silent, unset, sets}
use Rattle.dconf_model.specs.Values.{held_value}
use Rattle.dconf_model.proofs.ChangeEffects.{store, with_values, value_at, shut, step_of}
use Rattle.dconf_model.proofs.DatabasesGiven.{value_from_layers, value_before}
use Rattle.dconf_model.proofs.ParentLaws.{by_bool}
use Rattle.dconf_model.proofs.PathMaps.{no_truth}
use Rattle.dconf_seen.specs.Waiting.{ChangedKeysAreAsked, LocksHideWhatWaits, OwnIsFound, SeenIsFound, WaitingIsSeenAsMade, counting, fits_all, fits_edit, fitting, found_at, may_write, first_values, own_by, own_found, past, seen, seen_beside, shown_by, word_of}
use Rattle.dconf_seen.specs.declared.seen.Shown.TheVariants.{Stored, Default, Edit}

-- ---- where it is found

either_way : (b : Bool) (o : Option Tree) → cond b o o ≡ o
either_way true o = refl
either_way false o = refl

fits_anyway : (fits : Tree → Bool) (o : Option Tree) → fitting fits o o ≡ o
fits_anyway fits None = refl
fits_anyway fits (Some v) = either_way (fits v) (Some v)

fits_or_else : (fits : Tree → Bool) (b : Bool) (o others : Option Tree) → b ≡ fits_all fits o → cond b o others ≡ fitting fits o others
fits_or_else fits b None others e = ap (λ x. cond x None others) e
fits_or_else fits b (Some v) others e = ap (λ x. cond x (Some v) others) e

stored_or : (l : Layers) (said : Saying) (path : List ℕ) (b : Bool) →
    found_at (cond b Stored Default) l said path ≡ cond b (visible l path) (visible (without_user l) path)
stored_or l said path true = refl
stored_or l said path false = refl

edit_or : (l : Layers) (v : Tree) (path : List ℕ) (b : Bool) →
    found_at (cond b Edit Default) l (sets v) path ≡ cond b (Some v) (visible (without_user l) path)
edit_or l v path true = refl
edit_or l v path false = refl

module _ (fits : Tree → Bool) (l : Layers) (path : List ℕ) (edit stored : Bool) (stored_is : stored ≡ fits_all fits (visible l path)) where
  as_stored : (said : Saying) → found_at (cond stored Stored Default) l said path ≡ fitting fits (visible l path) (visible (without_user l) path)
  as_stored said = stored_or l said path stored ∙ fits_or_else fits stored (visible l path) (visible (without_user l) path) stored_is

  found : (may : Bool) (said : Saying) → edit ≡ fits_edit fits said →
      found_at (past edit stored (shown_by (word_of said) may)) l said path ≡ fitting fits (seen_beside l path (counting may said)) (visible (without_user l) path)
  found true silent e = as_stored silent
  found true unset e = sym (fits_anyway fits (visible (without_user l) path))
  found true (sets v) e = edit_or l v path edit ∙ ap (λ x. cond x (Some v) (visible (without_user l) path)) e
  found false silent e = as_stored silent
  found false unset e = as_stored unset
  found false (sets v) e = as_stored (sets v)

pub seen_is_found : SeenIsFound
seen_is_found fits l said path edit stored edit_is stored_is = found fits l path edit stored stored_is (may_write l path) said edit_is

own_at : (l : Layers) (path : List ℕ) (writable : Bool) (said : Saying) →
    own_found (own_by (word_of said) writable) l said path ≡ cond writable (heard (first_values l path) said) None
own_at l path true silent = refl
own_at l path true unset = refl
own_at l path true (sets v) = refl
own_at l path false silent = refl
own_at l path false unset = refl
own_at l path false (sets v) = refl

pub own_is_found : OwnIsFound
own_is_found l said path = own_at l path l.writable said

-- ---- which keys are asked

silent_counts : (b : Bool) → counting b silent ≡ silent
silent_counts true = refl
silent_counts false = refl

seen_silent : (l : Layers) (path : List ℕ) → seen l silent path ≡ visible l path
seen_silent l path = ap (seen_beside l path) (silent_counts (may_write l path))

pub changed_keys_are_asked : ChangedKeysAreAsked
changed_keys_are_asked l m silent silent path other = inr (inr (λ same. other (seen_silent l path ∙ (same ∙ sym (seen_silent m path)))))
changed_keys_are_asked l m silent unset path other = inr (inl (λ e. cc))
changed_keys_are_asked l m silent (sets v) path other = inr (inl (λ e. cc))
changed_keys_are_asked l m unset b path other = inl (λ e. cc)
changed_keys_are_asked l m (sets v) b path other = inl (λ e. cc)

-- ---- what may not be written

nothing_waits_unwritable : (l : Layers) (said : Saying) (path : List ℕ) → may_write l path ≡ false → seen l said path ≡ visible l path
nothing_waits_unwritable l said path shut = ap (λ b. seen_beside l path (counting b said)) shut

both_false : (b : Bool) → (b && false) ≡ false
both_false true = refl
both_false false = refl

pub locks_hide_what_waits : LocksHideWhatWaits
locks_hide_what_waits l said path locked =
    nothing_waits_unwritable l said path (ap (λ b. l.writable && not b) locked ∙ both_false l.writable)

-- ---- a change that is made

above_zero : (k : ℕ) → nat_lt 0 (suc k) ≡ true
above_zero k = grind arith

-- where no lock covers the path, the first layer's value or else what the others give
free : (s : Settings) (later : List Settings) (path : List ℕ) → shut later path ≡ false →
    visible (store s later) path ≡ option_or (value_at s.values path) (value_from_layers 1 later path)
free s later path e = go (greatest_from 1 (locks_path path) later) e
  where
    go : (n : ℕ) → nat_lt 0 n ≡ false → value_from_layers n (drop n (s ∷ later)) path ≡ option_or (value_at s.values path) (value_from_layers 1 later path)
    go zero f = value_before 0 s later path
    go (suc k) f = absurd (no_truth (sym f ∙ above_zero k))

-- where one does, the first layer doesn't matter
covered : (s t : Settings) (later : List Settings) (path : List ℕ) → shut later path ≡ true → visible (store s later) path ≡ visible (store t later) path
covered s t later path e = go (greatest_from 1 (locks_path path) later) e
  where
    go : (n : ℕ) → nat_lt 0 n ≡ true → value_from_layers n (drop n (s ∷ later)) path ≡ value_from_layers n (drop n (t ∷ later)) path
    go zero f = absurd (no_truth f)
    go (suc k) f = refl

beside : (s : Settings) (later : List Settings) (path : List ℕ) (said : Saying) → shut later path ≡ false →
    seen_beside (store s later) path said ≡ option_or (heard (value_at s.values path) said) (value_from_layers 1 later path)
beside s later path silent e = free s later path e
beside s later path unset e =
    free (record { values = empty; locks = s.locks }) later path e
    ∙ ap (λ o. option_or (option_and_then held_value o) (value_from_layers 1 later path)) (get-empty (slice_cmp nat_cmp) path)
beside s later path (sets v) e = refl

-- a change that is accepted was made in a database that may be written
is_open : (b : Bool) (r : Result Layers Refusal) (m : Layers) → cond b r (Err not_writable) ≡ Ok m → b ≡ true
is_open true r m e = refl
is_open false r m e = cc

made : (s : Settings) (later : List Settings) (m : Layers) (change : Change) (path : List ℕ) → IsWholeChange change → apply (store s later) change ≡ Ok m →
    seen (store s later) (saying_of path change) path ≡ visible m path
made s later m change path whole accepted =
    let step = step_of s later change m whole accepted in
    let effect = step.2 path in
    let said = saying_of path change in
    let new = with_values s step.0 in
    let after : visible m path ≡ visible (store new later) path = ap (λ (m : Layers). visible m path) step.1 in
    by_bool (shut later path) (seen (store s later) said path ≡ visible m path)
    (λ locked. locks_hide_what_waits (store s later) said path locked ∙ (covered s new later path locked ∙ sym after))
    (λ unlocked.
    ap (λ b. seen_beside (store s later) path (counting (not b) said)) unlocked
    ∙ (beside s later path said unlocked
    ∙ (ap (λ o. option_or o (value_from_layers 1 later path)) (sym (effect.free unlocked)) ∙ (sym (free new later path unlocked) ∙ sym after))))

pub waiting_is_seen_as_made : WaitingIsSeenAsMade
waiting_is_seen_as_made l m change path some whole accepted = of_layers l.layers refl
  where
    of_layers : (ls : List Settings) → l.layers ≡ ls → seen l (saying_of path change) path ≡ visible m path
    of_layers [] e = absurd (some (sym e))
    of_layers (s ∷ later) e =
        let is_l : l ≡ store s later = λ i. record { layers = e i; writable = is_open l.writable (change_written l change) m accepted i } in
        ap (λ (l : Layers). seen l (saying_of path change) path) is_l
        ∙ made s later m change path whole (subst (λ (l : Layers). apply l change ≡ Ok m) is_l accepted)
