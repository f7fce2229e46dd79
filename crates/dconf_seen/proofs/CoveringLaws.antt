-- What is locked is covered by one of the locks.
use Rattle.std.specs.Prelude.{cond, filter, nat_lt}
use Rattle.std.proofs.Common.{◌≡◌, ◌∙◌, ◌&&◌, ◌||◌, ◌++◌, ◌+◌, ℕ, zero, suc, Bool, true, false, List, [], ◌∷◌, drop, length, ap, sym, refl, arith, ne_eqb}
use Rattle.std.specs.FinMap.{keys}
use Rattle.std.specs.List.{list_any}
use Rattle.std.specs.Str.{bytes_eq}
use Rattle.std.proofs.lemmas.Bool.{and_parts}
use Rattle.std.proofs.lemmas.Bool.Decides.{Decides-eqb}
use Rattle.std.proofs.lemmas.List.Folds.{list_any-append}
use Rattle.std.proofs.lemmas.Map.Views.{any-filter_same}
use Rattle.std.proofs.lemmas.Slice.Eq.{starts_is}
use Rattle.dconf_model.specs.Layers.{all_locks, greatest_from, later_or, locks_path}
use Rattle.dconf_model.specs.Locks.{covers, is_below}
use Rattle.dconf_model.specs.Order.{listing}
use Rattle.dconf_model.specs.Paths.{ends_with_slash, starts_with_slash}
use Rattle.dconf_model.specs.Settings.{Settings}
use Rattle.dconf_model.proofs.ListingOrder.{listing_is_once_each}
use Rattle.dconf_model.proofs.ParentLaws.{by_bool}
use Rattle.dconf_model.proofs.PathMaps.{no_truth, same_test}
use Rattle.dconf_model.proofs.SameBytes.{same_path}
use Rattle.dconf_seen.specs.Covering.{LockedIsCovered}

-- ---- a layer that locks the path

above_zero : (k : ℕ) → nat_lt 0 (suc k) ≡ true
above_zero k = grind arith

or_true : (b rest : Bool) → true ≡ rest → true ≡ (b || rest)
or_true true rest e = refl
or_true false rest e = e

one_layer : (n g : ℕ) (b rest : Bool) → nat_lt 0 n ≡ true → nat_lt 0 g ≡ rest → nat_lt 0 (later_or g (cond b n 0)) ≡ (b || rest)
one_layer n zero true rest pos e = pos
one_layer n zero false rest pos e = e
one_layer n (suc k) b rest pos e =
    ap (λ x. nat_lt 0 (cond x (cond b n 0) (suc k))) (ne_eqb (suc k) 0 (λ z. absurd (omega (arith, z))))
    ∙ (above_zero k ∙ or_true b rest (sym (above_zero k) ∙ e))

any_layer : (P : Settings → Bool) (n : ℕ) (ss : List Settings) → nat_lt 0 n ≡ true → nat_lt 0 (greatest_from n P ss) ≡ list_any P ss
any_layer P n [] pos = refl
any_layer P n (s ∷ more) pos =
    one_layer n (greatest_from (n + 1) P more) (P s) (list_any P more) pos (any_layer P (n + 1) more (later n))
  where
    later : (m : ℕ) → nat_lt 0 (m + 1) ≡ true
    later m = grind arith

-- ---- one of the locks of all

all_covering : (f : List ℕ → Bool) (ss : List Settings) → list_any (λ s. list_any f (keys s.locks)) ss ≡ list_any f (all_locks ss)
all_covering f [] = refl
all_covering f (s ∷ more) =
    ap (λ b. list_any f (keys s.locks) || b) (all_covering f more) ∙ sym (list_any-append f (keys s.locks) (all_locks more))

starts_before : (xs ys : List ℕ) → ends_with_slash xs ≡ true → starts_with_slash (xs ++ ys) ≡ true → starts_with_slash xs ≡ true
starts_before [] ys ends e = absurd (no_truth ends)
starts_before (c ∷ xs) ys ends e = e

-- what covers a path starts as that does
covering_starts : (path lock : List ℕ) → starts_with_slash path ≡ true → covers lock path ≡ true → starts_with_slash lock ≡ true
covering_starts path lock starts e =
    by_bool (bytes_eq lock path) (starts_with_slash lock ≡ true)
    (λ same. ap starts_with_slash (same_path lock path same) ∙ starts)
    (λ other. let both : (ends_with_slash lock && is_below path lock) ≡ true = sym (ap (λ b. b || (ends_with_slash lock && is_below path lock)) other) ∙ e in
    let p = and_parts (ends_with_slash lock) (is_below path lock) both in
    let cut : path ≡ lock ++ drop (length lock) path = (starts_is Decides-eqb path lock (is_below path lock) refl).0 p.1 in
    starts_before lock (drop (length lock) path) p.0 (sym (ap starts_with_slash cut) ∙ starts))

pub locked_is_covered : LockedIsCovered
locked_is_covered l path starts =
    let f : List ℕ → Bool = λ lock. covers lock path in
    let all : List (List ℕ) = all_locks (drop 1 l.layers) in
    let below : List (List ℕ) = filter (λ lock. is_below lock (47 ∷ [])) all in
    any_layer (locks_path path) 1 (drop 1 l.layers) refl
    ∙ (all_covering f (drop 1 l.layers)
    ∙ (sym (any-filter_same f (λ lock. is_below lock (47 ∷ [])) true (λ lock e. covering_starts path lock starts e) all)
    ∙ sym (same_test f (listing below) below (listing_is_once_each below).same)))
