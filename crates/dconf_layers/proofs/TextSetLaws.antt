-- Texts that are gathered, and the same in order, once each.
use Rattle.std.specs.Prelude.{Contains, filter, map, string_bytes}
use Rattle.std.proofs.Common.{◌≡◌, ◌||◌, ◌&&◌, ◌++◌, ℕ, Bool, true, false, cond, List, [], ◌∷◌, Option, Some, None, is_some, drop, length, refl, sym, ap, ◌∙◌, subst, inl, inr}
use Rattle.std.specs.Cmp.Lexicographic.{slice_cmp}
use Rattle.std.specs.FinMap as fin
use Rattle.std.specs.FinMap.{get, insert, keys, entries, empty}
use Rattle.std.specs.FinMap.Entries.{is_sorted, below_all}
use Rattle.std.specs.List.{dedup, dedup_from, fold, list_any}
use Rattle.std.specs.List.Sorted.{IsSorted, IsStable}
use Rattle.std.specs.Ordering.{nat_cmp, is_lt}
use Rattle.std.specs.Str.{bytes_eq}
use Rattle.std.specs.String.{string_cmp}
use Rattle.std.specs.declared.alloc.Global.{Global}
use Rattle.std.specs.declared.string.String.{String}
use Rattle.std.proofs.lemmas.Bool.{and_parts}
use Rattle.std.proofs.lemmas.List.{map-append}
use Rattle.std.proofs.lemmas.List.Sums.{fold-append}
use Rattle.dconf_model.specs.Layers.{parts_below}
use Rattle.dconf_model.specs.Locks.{is_below}
use Rattle.dconf_model.specs.Order.{listing}
use Rattle.dconf_model.specs.Paths.{first_part}
use Rattle.dconf_model.specs.Settings.{AtPaths}
use Rattle.dconf_model.proofs.DatabaseLaws.{at_paths}
use Rattle.dconf_model.proofs.ListingOrder.{find_text, found_text}
use Rattle.dconf_model.proofs.Listings.{first_or_later, listing_from, listing_has, none_of_none}
use Rattle.dconf_model.proofs.OneSortedList.{in_order-map, sorted_is_in_order}
use Rattle.dconf_model.proofs.PathMaps.{eq_turned, get_inserted, key_in}
use Rattle.dconf_model.proofs.RisingTexts.{IsLess, Rises, less_of, listing_rises, one_rises}
use Rattle.gvdb_maps.proofs.KeysRise.{from_true}
use Rattle.dconf_layers.specs.TextSets.{TextSet, text_set, with_child, with_children, with_text, with_texts}
use Rattle.dconf_layers.proofs.PathTests.{any_passing, parts_alike}

-- ---- one thing kept at each of these paths

again : {X : Type 0} (b a : Bool) (x : X) (o : Option X) → cond a (Some x) (cond b (Some x) o) ≡ cond (b || a) (Some x) o
again true true x o = refl
again true false x o = refl
again false a x o = refl

pub get_with_all : {X : Type 0} (x : X) (ps : List (List ℕ)) (m : AtPaths X) (q : List ℕ) → get (fold (λ m p. insert m p x) m ps) q ≡ cond (list_any (bytes_eq q) ps) (Some x) (get m q)
get_with_all x [] m q = refl
get_with_all x (p ∷ ps) m q =
    get_with_all x ps (insert m p x) q
    ∙ ap (cond (list_any (bytes_eq q) ps) (Some x)) (get_inserted m p x q ∙ ap (λ b. cond b (Some x) (get m q)) (eq_turned p q))
    ∙ again (bytes_eq q p) (list_any (bytes_eq q) ps) x (get m q)

-- other lists of the same texts
pub texts_alike : (xs ys : List (List ℕ)) (s : TextSet) → ((t : List ℕ) → list_any (bytes_eq t) xs ≡ list_any (bytes_eq t) ys) → with_texts xs s ≡ with_texts ys s
texts_alike xs ys s same = at_paths (with_texts xs s) (with_texts ys s) (λ t.
    get_with_all tt xs s t ∙ (ap (λ b. cond b (Some tt) (get s t)) (same t) ∙ sym (get_with_all tt ys s t)))

pub passing_alike : (f : List ℕ → Bool) (xs ys : List (List ℕ)) (s : TextSet) → ((t : List ℕ) → list_any (bytes_eq t) xs ≡ list_any (bytes_eq t) ys) →
    with_texts (filter f xs) s ≡ with_texts (filter f ys) s
passing_alike f xs ys s same = texts_alike (filter f xs) (filter f ys) s (λ t. any_passing t f xs ∙ (ap (λ b. f t && b) (same t) ∙ sym (any_passing t f ys)))

pub one_more : (texts : List (String Global)) (key : String Global) → text_set (texts ++ key ∷ []) ≡ with_text (text_set texts) (string_bytes key)
one_more texts key =
    ap (λ l. with_texts l empty) (map-append string_bytes texts (key ∷ [])) ∙ fold-append with_text empty (map string_bytes texts) (string_bytes key ∷ [])

-- ---- below a directory

pub children_are : (d : List ℕ) (ps : List (List ℕ)) (s : TextSet) → with_children d ps s ≡ with_texts (parts_below d ps) s
children_are d [] s = refl
children_are d (p ∷ ps) s = children_are d ps (with_child d s p) ∙ go (is_below p d)
  where
    go : (b : Bool) → with_texts (parts_below d ps) (cond b (with_text s (first_part (drop (length d) p))) s)
        ≡ with_texts (cond b (first_part (drop (length d) p) ∷ parts_below d ps) (parts_below d ps)) s
    go true = refl
    go false = refl

-- lists of the same paths below the directory
pub children_alike : (d : List ℕ) (ps qs : List (List ℕ)) (s : TextSet) → ((p : List ℕ) → is_below p d ≡ true → list_any (bytes_eq p) ps ≡ list_any (bytes_eq p) qs) →
    with_children d ps s ≡ with_children d qs s
children_alike d ps qs s same = children_are d ps s ∙ (texts_alike (parts_below d ps) (parts_below d qs) s (parts_alike d ps qs same) ∙ sym (children_are d qs s))

-- ---- the set's texts in order

below : {X : Type 0} (p : List ℕ) (es : List (List ℕ × X)) → below_all (slice_cmp nat_cmp) p es ≡ true → (u : List ℕ) → Contains (map (λ e. e.0) es) u → IsLess p u
below p [] h u there = absurd (none_of_none u there)
below p (e ∷ es) h u there =
    let both = and_parts (is_lt (slice_cmp nat_cmp p e.0)) (below_all (slice_cmp nat_cmp) p es) h in
    elim (first_or_later e.0 (map (λ e. e.0) es) u there) [
      | inl same ↦ subst (IsLess p) same (less_of _ both.0)
      | inr later ↦ below p es both.1 u later
    ]

rise : {X : Type 0} (es : List (List ℕ × X)) → is_sorted (slice_cmp nat_cmp) es ≡ true → Rises (map (λ e. e.0) es)
rise [] h = tt
rise (e ∷ es) h = let both = and_parts (below_all (slice_cmp nat_cmp) e.0 es) (is_sorted (slice_cmp nat_cmp) es) h in (below e.0 es both.0, rise es both.1)

pub keys_are_listed : (texts : List (List ℕ)) → keys (with_texts texts empty) ≡ listing texts
keys_are_listed texts =
    let s = with_texts texts empty in
    let has : (t : List ℕ) → list_any (bytes_eq t) (keys s) ≡ list_any (bytes_eq t) texts = (λ t.
    sym (key_in s t) ∙ (ap is_some (get_with_all tt texts empty t ∙ ap (cond (list_any (bytes_eq t) texts) (Some tt)) (fin.get-empty (slice_cmp nat_cmp) t)) ∙ is_some_if tt (list_any (bytes_eq t) texts))) in
    one_rises (keys s) (listing texts) (rise (entries s) (from_true _ (fin.entries_sorted s))) (listing_rises texts)
    (λ t h. listing_has texts t (found_text t texts (sym (has t) ∙ find_text t (keys s) h)))
    (λ t h. found_text t (keys s) (has t ∙ find_text t texts (listing_from texts t h)))
  where
    is_some_if : {X : Type 0} (x : X) (b : Bool) → is_some (cond b (Some x) None) ≡ b
    is_some_if x true = refl
    is_some_if x false = refl

-- what comes again by a name, and by the names alone
module _ {X : Type 0} (name : X → List ℕ) where
  abbrev pub same_name : X → X → Bool
  same_name x y = bytes_eq (name x) (name y)

  deduped_from : (k : X) (ks : List X) → map name (dedup_from same_name k ks) ≡ dedup_from bytes_eq (name k) (map name ks)
  deduped_from k [] = refl
  deduped_from k (x ∷ xs) = go (bytes_eq (name x) (name k)) refl (deduped_from k xs) (deduped_from x xs)
    where
      go : (b : Bool) → bytes_eq (name x) (name k) ≡ b → map name (dedup_from same_name k xs) ≡ dedup_from bytes_eq (name k) (map name xs)
          → map name (dedup_from same_name x xs) ≡ dedup_from bytes_eq (name x) (map name xs)
          → map name (dedup_from same_name k (x ∷ xs)) ≡ dedup_from bytes_eq (name k) (map name (x ∷ xs))
      go true e kept later = rw e kept
      go false e kept later = rw e (ap (λ (l : List (List ℕ)). name k ∷ l) later)

  pub deduped : (ks : List X) → map name (dedup same_name ks) ≡ dedup bytes_eq (map name ks)
  deduped [] = refl
  deduped (k ∷ ks) = deduped_from k ks

-- sorted, and without what comes again
pub listed : (texts sorted kept : List (String Global)) → IsSorted string_cmp sorted → IsStable string_cmp texts sorted → kept ≡ dedup (same_name string_bytes) sorted →
    map string_bytes kept ≡ keys (text_set texts)
listed texts sorted kept up keeps is =
    ap (map string_bytes) is ∙ (deduped string_bytes sorted
    ∙ ap (dedup bytes_eq) (ap (map string_bytes) (sorted_is_in_order string_bytes texts sorted up keeps) ∙ in_order-map string_bytes (λ t. t) texts))
    ∙ sym (keys_are_listed (map string_bytes texts))
