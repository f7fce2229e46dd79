-- Where no file is made nothing is lost.
use Rattle.std.specs.Prelude.{Contains, filter, is_some, slice_get}
use Rattle.std.specs.Cmp.Lexicographic.{slice_cmp}
use Rattle.std.specs.FinMap.{get-empty, keys}
use Rattle.std.specs.List.{list_any}
use Rattle.std.specs.Ordering.{nat_cmp}
use Rattle.std.specs.Str.{bytes_eq}
use Rattle.std.proofs.lemmas.Bool.{and_parts}
use Rattle.std.proofs.lemmas.List.Elements.{Contains-append_cases}
use Rattle.std.proofs.Common.{◌≡◌, ◌||◌, ◌∷◌, [], ◌∙◌, ℕ, zero, suc, Bool, true, false, List, Some, inl, inr, refl, sym, ap, subst}
use Rattle.dconf_model.specs.Layers.{all_paths}
use Rattle.dconf_model.specs.Locks.{is_below}
use Rattle.dconf_model.specs.Paths.{ends_with_slash}
use Rattle.dconf_model.specs.Settings.{no_settings}
use Rattle.dconf_model.specs.Walks.{keys_below}
use Rattle.dconf_model.proofs.ListingOrder.{find_text, found_text}
use Rattle.dconf_model.proofs.Listings.{has_first, listing_from, none_of_none}
use Rattle.dconf_model.proofs.PathMaps.{no_truth}
use Rattle.dconf_model.proofs.StoreListings.{of_key}
use Rattle.dconf_layers.proofs.PathTests.{any_passing}
use Rattle.dconfdb_calls.specs.declared.changes.DconfdbChange.{DconfdbChange}
use Rattle.dconf_made.specs.Made.{Has, HasAs}
use Rattle.dconf_made.specs.Needs.{NothingIsLost, need_of}
use Rattle.dconf_made.specs.declared.need.Need.TheVariants.{File, Nothing, Look}
use Rattle.dconf_made.specs.declared.need.Users.{Users}
use Rattle.dconf_made.specs.declared.need.Users.TheVariants.{There, Missing, Unreadable, Unknown, Nowhere}

of_either : (b other : Bool) → (b || other) ≡ false → (b ≡ false) × (other ≡ false)
of_either true other e = cc
of_either false other e = (refl, e)

none_sets : (changes : List DconfdbChange) → list_any (λ c. c.sets) changes ≡ false → (i : ℕ) (c : DconfdbChange) → slice_get changes i ≡ Some c → c.sets ≡ false
none_sets [] e i c is = cc
none_sets (d ∷ ds) e zero c is = ap (λ (x : DconfdbChange). x.sets) (sym same) ∙ (of_either d.sets (list_any (λ c. c.sets) ds) e).0
  where
    same : d ≡ c
    same = cc
none_sets (d ∷ ds) e (suc i) c is = none_sets ds (of_either d.sets (list_any (λ c. c.sets) ds) e).1 i c is

no_list : (texts : List (List ℕ)) → ((t : List ℕ) → Contains texts t → ⊥) → texts ≡ []
no_list [] none = refl
no_list (t ∷ ts) none = absurd (none t (has_first t ts))

from_filter : (f : List ℕ → Bool) (texts : List (List ℕ)) (text : List ℕ) → Contains (filter f texts) text → Contains texts text
from_filter f texts text there =
    found_text text texts (and_parts (f text) (list_any (bytes_eq text) texts) (sym (any_passing text f texts) ∙ find_text text (filter f texts) there)).1

no_path : (t : List ℕ) → Contains (all_paths (no_settings ∷ [])) t → ⊥
no_path t there =
    elim (Contains-append_cases (keys no_settings.values) (all_paths []) t there) [
      | inl here ↦ no_truth (ap is_some (sym (get-empty (slice_cmp nat_cmp) t)) ∙ of_key no_settings.values t here)
      | inr later ↦ none_of_none t later
    ]

none_below : (directory : List ℕ) → keys_below (all_paths (no_settings ∷ [])) directory ≡ []
none_below directory =
    let test : List ℕ → Bool = λ path. is_below path directory in
    let all = all_paths (no_settings ∷ []) in
    no_list (keys_below all directory) (λ t there. no_path t (from_filter test all t (listing_from (filter test all) t there)))

has_nothing : (is_directory : Bool) (c : DconfdbChange) → HasAs false is_directory no_settings c
has_nothing true c = λ good. none_below c.path.now
has_nothing false c = λ good. get-empty (slice_cmp nat_cmp) c.path.now

empty_has : (c : DconfdbChange) → c.sets ≡ false → Has no_settings c
empty_has c e = subst (λ (b : Bool). HasAs b (ends_with_slash c.path.now) no_settings c) (sym e) (has_nothing (ends_with_slash c.path.now) c)

pub nothing_is_lost : NothingIsLost
nothing_is_lost There changes e other = cc
nothing_is_lost Unreadable changes e other = cc
nothing_is_lost Nowhere changes e other = absurd (other refl)
nothing_is_lost Unknown changes e other = absurd (unknown (list_any (λ c. c.sets) changes) e)
  where
    unknown : (b : Bool) → need_of Unknown b ≡ Nothing → ⊥
    unknown true e = cc
    unknown false e = cc
nothing_is_lost Missing changes e other = (refl, λ i c is. empty_has c (none_sets changes (missing (list_any (λ c. c.sets) changes) e) i c is))
  where
    missing : (b : Bool) → need_of Missing b ≡ Nothing → b ≡ false
    missing true e = cc
    missing false e = refl
