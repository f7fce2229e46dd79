-- A listing is in order, once each.
use Rattle.std.specs.Prelude.{◌≡◌, ℕ, true, false, List, [], ◌∷◌, refl, Contains}
use Rattle.std.proofs.Common.{ap, ◌∙◌, subst}
use Rattle.std.specs.List.{dedup, dedup_from, list_any}
use Rattle.std.specs.Str.{bytes_eq}
use Rattle.std.specs.Cmp.{decided}
use Rattle.std.specs.Cmp.Lexicographic.{slice_cmp, nat_list_cmp_total}
use Rattle.std.specs.Ordering.{nat_cmp, is_le, is_lt, is_eq, ordering_reverse}
use Rattle.std.specs.declared.cmp.Ordering.{Ordering}
use Rattle.std.specs.declared.cmp.Ordering.TheVariants.{Less, Equal, Greater}
use Rattle.std.proofs.lemmas.Slice.Eq.{bytes_eq-Decides}
use Rattle.std.proofs.lemmas.Map.Text.{is_eq-slice_cmp}
use Rattle.std.proofs.lemmas.Map.Views.{list_any-from_Contains, Contains-from_any}
use Rattle.dconf_model.proofs.ParentLaws.{by_bool}
use Rattle.dconf_model.specs.Order.{put_by, in_order, listing, is_at_most, IsRising, ListingIsOnceEach}
use Rattle.dconf_model.proofs.PathMaps.{same_bool, eq_turned}
use Rattle.dconf_model.proofs.SameBytes.{same_path}
use Rattle.dconf_model.proofs.Listings.{listing_has, listing_from}

-- each is at most the next
abbrev IsUp : List (List ℕ) → Type 0
IsUp [] = Unit {0}
IsUp (t ∷ []) = Unit {0}
IsUp (t ∷ u ∷ more) = (is_at_most t u ≡ true) × IsUp (u ∷ more)

turned : (r : Ordering) → is_le r ≡ false → is_le (ordering_reverse r) ≡ true
turned Less e = absurd cc
turned Equal e = absurd cc
turned Greater e = refl

or_at_most : (t u : List ℕ) → is_at_most t u ≡ false → is_at_most u t ≡ true
or_at_most t u e = ap is_le (nat_list_cmp_total.antisymm u t) ∙ turned (slice_cmp nat_cmp t u) e

put_after : (y t : List ℕ) (ts : List (List ℕ)) → is_at_most y t ≡ true → IsUp (y ∷ ts) → IsUp (y ∷ put_by (λ t. t) t ts)
put_after y t [] e h = (e, tt)
put_after y t (z ∷ ts) e h =
    by_bool (is_at_most t z) (IsUp (y ∷ put_by (λ t. t) t (z ∷ ts)))
    (λ yes. rw yes (e, (yes, h.1)))
    (λ other. rw other (h.0, put_after z t ts (or_at_most t z other) h.1))

put_up : (t : List ℕ) (ts : List (List ℕ)) → IsUp ts → IsUp (put_by (λ t. t) t ts)
put_up t [] h = tt
put_up t (y ∷ ts) h =
    by_bool (is_at_most t y) (IsUp (put_by (λ t. t) t (y ∷ ts)))
    (λ yes. rw yes (yes, h))
    (λ other. rw other (put_after y t ts (or_at_most t y other) h))

order_up : (ts : List (List ℕ)) → IsUp (in_order (λ t. t) ts)
order_up [] = tt
order_up (t ∷ ts) = put_up t (in_order (λ t. t) ts) (order_up ts)

-- ---- once each

less : (r : Ordering) → is_le r ≡ true → is_eq r ≡ false → is_lt r ≡ true
less Less e f = refl
less Equal e f = absurd cc
less Greater e f = absurd cc

is_less : (t u : List ℕ) → is_at_most t u ≡ true → bytes_eq t u ≡ false → is_lt (slice_cmp nat_cmp t u) ≡ true
is_less t u e f = less (slice_cmp nat_cmp t u) e (is_eq-slice_cmp t u ∙ f)

rising_after : (p x : List ℕ) (ys : List (List ℕ)) → is_lt (slice_cmp nat_cmp p x) ≡ true → IsRising (dedup_from bytes_eq x ys) → IsRising (p ∷ dedup_from bytes_eq x ys)
rising_after p x [] e h = (e, tt)
rising_after p x (y ∷ ys) e h =
    by_bool (bytes_eq y x) (IsRising (p ∷ dedup_from bytes_eq x (y ∷ ys)))
    (λ same. rw same (rising_after p x ys e (rw same at h)))
    (λ other. rw other (e, (rw other at h)))

apart : (x y : List ℕ) → bytes_eq y x ≡ false → bytes_eq x y ≡ false
apart x y e = eq_turned x y ∙ e

rising : (x : List ℕ) (ys : List (List ℕ)) → IsUp (x ∷ ys) → IsRising (dedup_from bytes_eq x ys)
rising x [] h = tt
rising x (y ∷ ys) h =
    by_bool (bytes_eq y x) (IsRising (dedup_from bytes_eq x (y ∷ ys)))
    (λ same. rw same (rising x ys (subst (λ (u : List ℕ). IsUp (u ∷ ys)) (same_path y x same) h.1)))
    (λ other. rw other (rising_after x y ys (is_less x y h.0 (apart x y other)) (rising y ys h.1)))

all_rising : (ts : List (List ℕ)) → IsUp ts → IsRising (dedup bytes_eq ts)
all_rising [] h = tt
all_rising (t ∷ ts) h = rising t ts h

pub find_text : (t : List ℕ) (ts : List (List ℕ)) → Contains ts t → list_any (bytes_eq t) ts ≡ true
find_text t ts h = list_any-from_Contains (decided bytes_eq bytes_eq-Decides) t ts h

pub found_text : (t : List ℕ) (ts : List (List ℕ)) → list_any (bytes_eq t) ts ≡ true → Contains ts t
found_text t ts e = Contains-from_any same_path t ts e

pub listing_is_once_each : ListingIsOnceEach
listing_is_once_each texts = record {
  rising = all_rising (in_order (λ t. t) texts) (order_up texts);
  same = λ t. same_bool (list_any (bytes_eq t) (listing texts)) (list_any (bytes_eq t) texts)
      (λ e. find_text t texts (listing_from texts t (found_text t (listing texts) e)))
      (λ e. find_text t (listing texts) (listing_has texts t (found_text t texts e)));
}
