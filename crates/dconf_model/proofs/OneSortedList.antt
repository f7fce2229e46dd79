-- Of the lists that rise and keep what ties as it was there is one: to be in order by a name is to be sorted by it, and stable.
use Rattle.std.specs.Prelude.{◌≡◌, ℕ, ◌+◌, Bool, true, false, List, [], ◌∷◌, length, map, refl}
use Rattle.std.specs.Cmp.{IsStrictWeakOrder}
use Rattle.std.specs.Cmp.Lexicographic.{slice_cmp}
use Rattle.std.specs.List.{All, filter}
use Rattle.std.specs.List.Sorted.{IsSortedBy, IsSortedByKey, IsStableByKey, ties}
use Rattle.std.specs.Ordering.{nat_cmp, is_lt}
use Rattle.std.proofs.Common.{sym, ap, subst, ◌∙◌, arith, get_or, drop, suc}
use Rattle.std.proofs.lemmas.Cmp.{nat_list_cmp_total}
use Rattle.std.proofs.lemmas.List.Sorted.{ranks_by, sorted_far}
use Rattle.dconf_model.specs.Order.{is_at_most, put_by, in_order}
use Rattle.dconf_model.proofs.OrderLaws.{order_is_stable}

module _ {X : Type 0} (lt : X → X → Bool) (o : IsStrictWeakOrder lt) where
  -- what holds of all holds of the first that is kept
  kept_has : (P : X → Type 0) (p : X → Bool) (xs : List X) (y : X) (more : List X) → All P xs → filter p xs ≡ y ∷ more → P y
  kept_has P p [] y more all e = let none = ap length e in absurd (omega (arith, none))
  kept_has P p (x ∷ xs) y more all e = go (p x) refl (kept_has P p xs y more (λ k d l. all (suc k) d (omega arith)))
    where
      go : (b : Bool) → p x ≡ b → (filter p xs ≡ y ∷ more → P y) → P y
      go true q later = let whole : x ∷ filter p xs ≡ y ∷ more = rw q at e in subst P (ap (λ l. get_or l 0 x) whole) (all 0 x (omega arith))
      go false q later = later (rw q at e)

  not_less : (x : X) → lt x x ≡ false
  not_less x = go (lt x x) refl
    where
      go : (b : Bool) → lt x x ≡ b → lt x x ≡ false
      go true e = o.one_way x x e
      go false e = e

  itself_first : (y : X) (ys : List X) → filter (ties lt y) (y ∷ ys) ≡ y ∷ filter (ties lt y) ys
  itself_first y ys = rw (not_less y) refl

  least : (z : X) (zs : List X) → IsSortedBy lt (z ∷ zs) → All (λ w. lt w z ≡ false) (z ∷ zs)
  least z zs up k d l = sorted_far lt o (z ∷ zs) up 0 k d (omega arith) l

  later_up : (z : X) (zs : List X) → IsSortedBy lt (z ∷ zs) → IsSortedBy lt zs
  later_up z zs up k d low high = let e : suc k + 1 ≡ suc (k + 1) = omega arith in rw e at (up (suc k) d (omega arith) (omega (arith, high)))

  pub one_sorted : (ys zs : List X) → IsSortedBy lt ys → IsSortedBy lt zs → ((x : X) → filter (ties lt x) ys ≡ filter (ties lt x) zs) → ys ≡ zs
  one_sorted [] [] up vp same = refl
  one_sorted [] (z ∷ zs) up vp same = let none = ap length (same z ∙ itself_first z zs) in absurd (omega (arith, none))
  one_sorted (y ∷ ys) [] up vp same = let none = ap length (sym (same y) ∙ itself_first y ys) in absurd (omega (arith, none))
  one_sorted (y ∷ ys) (z ∷ zs) up vp same =
      let yz : lt y z ≡ false = kept_has (λ w. lt w z ≡ false) (ties lt y) (z ∷ zs) y (filter (ties lt y) ys) (least z zs vp) (sym (same y) ∙ itself_first y ys) in
      let zy : lt z y ≡ false = kept_has (λ w. lt w y ≡ false) (ties lt z) (y ∷ ys) z (filter (ties lt z) zs) (least y ys up) (same z ∙ itself_first z zs) in
      let tied : filter (ties lt y) (z ∷ zs) ≡ z ∷ filter (ties lt y) zs = rw (yz, zy) refl in
      let e : y ≡ z = ap (λ l. get_or l 0 y) (sym (itself_first y ys) ∙ (same y ∙ tied)) in
      λ i. e i ∷ one_sorted ys zs (later_up y ys up) (later_up z zs vp) (λ x. go x (ties lt x y) refl (ap (ties lt x) (sym e)) (same x)) i
    where
      go : (x : X) (b : Bool) → ties lt x y ≡ b → ties lt x z ≡ ties lt x y → filter (ties lt x) (y ∷ ys) ≡ filter (ties lt x) (z ∷ zs) → filter (ties lt x) ys ≡ filter (ties lt x) zs
      go x true e d whole = let both : y ∷ filter (ties lt x) ys ≡ z ∷ filter (ties lt x) zs = rw (d, e) at whole in ap (drop 1) both
      go x false e d whole = rw (d, e) at whole

module _ {X : Type 0} (name : X → List ℕ) where
  pub sorted_is_in_order : (xs ys : List X) → IsSortedByKey name (slice_cmp nat_cmp) ys → IsStableByKey name (slice_cmp nat_cmp) xs ys → ys ≡ in_order name xs
  sorted_is_in_order xs ys up keeps =
      let law = order_is_stable name xs in
      one_sorted (λ x y. is_lt (slice_cmp nat_cmp (name x) (name y))) (ranks_by nat_list_cmp_total name) ys (in_order name xs) up law.sorted (λ x. keeps x ∙ sym (law.stable x))

-- ---- what is made of each thing

module _ {X Y : Type 0} (f : X → Y) (name : Y → List ℕ) where
  put_by-map : (x : X) (ys : List X) → map f (put_by (λ x. name (f x)) x ys) ≡ put_by name (f x) (map f ys)
  put_by-map x [] = refl
  put_by-map x (y ∷ ys) = go (is_at_most (name (f x)) (name (f y))) refl (put_by-map x ys)
    where
      go : (b : Bool) → is_at_most (name (f x)) (name (f y)) ≡ b → map f (put_by (λ x. name (f x)) x ys) ≡ put_by name (f x) (map f ys) →
          map f (put_by (λ x. name (f x)) x (y ∷ ys)) ≡ put_by name (f x) (map f (y ∷ ys))
      go true e later = rw e refl
      go false e later = rw e (ap (λ l. f y ∷ l) later)

  pub in_order-map : (xs : List X) → map f (in_order (λ x. name (f x)) xs) ≡ in_order name (map f xs)
  in_order-map [] = refl
  in_order-map (x ∷ xs) = put_by-map x (in_order (λ x. name (f x)) xs) ∙ ap (put_by name (f x)) (in_order-map xs)
