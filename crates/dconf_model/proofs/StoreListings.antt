-- A listing of a store names the first parts of what its files give and of what the user has, and nothing else.
use Rattle.std.specs.Prelude.{◌≡◌, ℕ, true, List, [], ◌∷◌, ◌++◌, is_some, Contains}
use Rattle.std.proofs.Common.{ap, sym, ◌∙◌, subst, inl, inr}
use Rattle.std.specs.Str.{bytes_eq}
use Rattle.std.specs.Cmp.{decided}
use Rattle.std.specs.FinMap.{get, keys}
use Rattle.std.proofs.lemmas.Bool.{or_cases, or_left, or_right}
use Rattle.std.proofs.lemmas.Slice.Eq.{bytes_eq-Decides}
use Rattle.std.proofs.lemmas.Map.Views.{list_any-from_Contains, Contains-from_any}
use Rattle.std.proofs.lemmas.List.Elements.{Contains-append_left, Contains-append_right, Contains-append_cases}
use Rattle.dconf_model.specs.Bytes.{MaybeBytes}
use Rattle.dconf_model.specs.Settings.{Settings, AtPaths}
use Rattle.dconf_model.specs.Paths.{first_part}
use Rattle.dconf_model.specs.Sources.{Given, last_value}
use Rattle.dconf_model.specs.Layers.{Layers, child_names, all_paths, parts_below}
use Rattle.dconf_model.specs.Order.{listing}
use Rattle.dconf_model.specs.Stores.{OwnValues, own_after, is_given, AllGive, StoreHolds, IsNamed, changes_of, EachListingIsExact}
use Rattle.dconf_model.proofs.PathMaps.{key_in, no_truth}
use Rattle.dconf_model.proofs.SameBytes.{same_path}
use Rattle.dconf_model.proofs.HeldLaws.{held_there}
use Rattle.dconf_model.proofs.DatabasesGiven.{has_given}
use Rattle.dconf_model.proofs.Listings.{listing_has, listing_from, part_of_path, path_of_part, none_of_none}
use Rattle.dconf_model.proofs.StoreValues.{all_stand, opened_holds}

-- ---- paths of layers

pub key_of : {X : Type 0} (m : AtPaths X) (p : List ℕ) → is_some (get m p) ≡ true → Contains (keys m) p
key_of m p e = Contains-from_any same_path p (keys m) (sym (key_in m p) ∙ e)

pub of_key : {X : Type 0} (m : AtPaths X) (p : List ℕ) → Contains (keys m) p → is_some (get m p) ≡ true
of_key m p h = key_in m p ∙ list_any-from_Contains (decided bytes_eq bytes_eq-Decides) p (keys m) h

pub given_path : (ss : List Settings) (gs : List Given) (p : List ℕ) → AllGive ss gs → Contains (all_paths ss) p → is_given gs p ≡ true
given_path [] [] p h k = absurd (none_of_none p k)
given_path [] (g ∷ gs) p h k = absurd h
given_path (s ∷ ss) [] p h k = absurd h
given_path (s ∷ ss) (g ∷ gs) p h k =
    elim (Contains-append_cases (keys s.values) (all_paths ss) p k) [
      | inl here ↦ or_left (is_some (last_value g.values p)) (is_given gs p) (sym (has_given s g p h.0) ∙ of_key s.values p here)
      | inr later ↦ or_right (is_some (last_value g.values p)) (is_given gs p) (given_path ss gs p h.1 later)
    ]

pub path_given : (ss : List Settings) (gs : List Given) (p : List ℕ) → AllGive ss gs → is_given gs p ≡ true → Contains (all_paths ss) p
path_given ss [] p h e = absurd (no_truth e)
path_given [] (g ∷ gs) p h e = absurd h
path_given (s ∷ ss) (g ∷ gs) p h e =
    elim (or_cases (is_some (last_value g.values p)) (is_given gs p) e) [
      | inl here ↦ Contains-append_left (keys s.values) (all_paths ss) p (key_of s.values p (has_given s g p h.0 ∙ here))
      | inr later ↦ Contains-append_right (keys s.values) (all_paths ss) p (path_given ss gs p h.1 later)
    ]

module _ (others : List MaybeBytes) (own : OwnValues) (gs : List Given) (l : Layers) (h : StoreHolds others own gs l) where
  named : (p : List ℕ) → Contains (all_paths (h.first ∷ h.later)) p → IsNamed own gs p
  named p k =
      elim (Contains-append_cases (keys h.first.values) (all_paths h.later) p k) [
        | inl first ↦ inr (ap is_some (sym (h.own_is p)) ∙ (held_there (get h.first.values p) ∙ of_key h.first.values p first))
        | inr later ↦ inl (given_path h.later gs p h.gives later)
      ]

  pub listed : (p : List ℕ) → IsNamed own gs p → Contains (all_paths (h.first ∷ h.later)) p
  listed p (inl given) = Contains-append_right (keys h.first.values) (all_paths h.later) p (path_given h.later gs p h.gives given)
  listed p (inr there) = Contains-append_left (keys h.first.values) (all_paths h.later) p
      (key_of h.first.values p (sym (held_there (get h.first.values p)) ∙ (ap is_some (h.own_is p) ∙ there)))

  abbrev IsListed : List ℕ → List ℕ → Type 0
  IsListed directory part = (rest : List ℕ) × IsNamed own gs (directory ++ rest) × (part ≡ first_part rest)

  pub names_from : (directory part : List ℕ) → Contains (child_names l directory) part → IsListed directory part
  names_from directory part k =
      let paths : List (List ℕ) = all_paths (h.first ∷ h.later) in
      let within : Contains (child_names l directory) part = k in
      let found = path_of_part directory paths part (listing_from (parts_below directory paths) part
      (subst (λ ls. Contains (listing (parts_below directory (all_paths ls))) part) h.layers within)) in
      (found.0, named (directory ++ found.0) found.1, found.2)

  pub names_to : (directory part : List ℕ) → IsListed directory part → Contains (child_names l directory) part
  names_to directory part k =
      let paths : List (List ℕ) = all_paths (h.first ∷ h.later) in
      let here = part_of_path directory k.0 paths (listed (directory ++ k.0) k.1) in
      subst (λ ls. Contains (listing (parts_below directory (all_paths ls))) part) (sym h.layers)
      (listing_has (parts_below directory paths) part (subst (Contains (parts_below directory paths)) (sym k.2) here))

pub each_listing_is_exact : EachListingIsExact
each_listing_is_exact first others g gs opened l deeds directory part h did =
    let own = own_after gs (last_value g.values) (changes_of deeds) in
    let held = all_stand others (last_value g.values) gs opened l deeds (opened_holds first others g gs opened h) did in
    (names_from others own gs l held directory part, names_to others own gs l held directory part)
