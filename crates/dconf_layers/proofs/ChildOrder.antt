-- Children in the order of their names, the first of each name alone.
use Rattle.std.specs.Prelude.{Contains, IsTrue, option_map}
use Rattle.std.proofs.Common.{◌≡◌, ◌<◌, ◌++◌, ℕ, zero, suc, Bool, true, false, cond, List, [], ◌∷◌, length, map, get_or, Option, Some, None, refl, sym, ap, ◌∙◌, subst, arith}
use Rattle.std.specs.Cmp.Lexicographic.{slice_cmp}
use Rattle.std.specs.List.{All, dedup, dedup_from, find}
use Rattle.std.specs.List.Sorted.{IsSortedByKey, IsStableByKey}
use Rattle.std.specs.Ordering.{nat_cmp, is_le}
use Rattle.std.specs.Str.{bytes_eq}
use Rattle.std.proofs.lemmas.Cmp.{nat_list_cmp_total, tied_itself}
use Rattle.std.proofs.lemmas.List.{get_or-map, length-map}
use Rattle.std.proofs.lemmas.List.Elements.{Contains-get_or}
use Rattle.std.proofs.lemmas.Option.{same_Some}
use Rattle.dconf_model.specs.Layers.{Place, all_paths, first_from, parts_below}
use Rattle.dconf_model.specs.Order.{in_order, is_at_most, listing, put_by}
use Rattle.dconf_model.specs.Paths.{first_part, is_key_path}
use Rattle.dconf_model.specs.Settings.{Settings}
use Rattle.dconf_model.specs.Walks.{names_in}
use Rattle.dconf_model.proofs.FirstPartLaws.{first_again}
use Rattle.dconf_model.proofs.ListingOrder.{find_text, found_text}
use Rattle.dconf_model.proofs.Listings.{listing_from, listing_has, path_of_part}
use Rattle.dconf_model.proofs.OneSortedList.{in_order-map, sorted_is_in_order}
use Rattle.dconf_model.proofs.ParentLaws.{by_bool}
use Rattle.dconf_model.proofs.PathMaps.{no_truth}
use Rattle.dconf_model.proofs.RisingTexts.{IsLess, Rises, listing_rises, never_less, one_rises}
use Rattle.dconf_model.proofs.SameBytes.{path_itself, same_path}
use Rattle.dconf_layers.specs.declared.children.Child.{Child}
use Rattle.dconf_layers.specs.Children.{AreChildren, ChildRow, child_name, child_row, found_row, names_of, place_shown, row_found}
use Rattle.dconf_layers.proofs.TextSetLaws.{deduped, same_name}

-- the first of a name
abbrev first_named : List ℕ → List Child → Option Child
first_named name children = find (λ child. bytes_eq name (child_name child)) children

named_in : (children : List Child) (k : ℕ) (d : Child) → k < length children → Contains (map child_name children) (child_name (get_or children k d))
named_in children k d l =
    let e = get_or-map child_name children k d (child_name d) l in
    let n = length-map children child_name in
    subst (Contains (map child_name children)) e (Contains-get_or (map child_name children) k (child_name d) (omega (arith, n, l)))

-- ---- order and dropping leave the first of each name

at_most_itself : (t : List ℕ) → is_at_most t t ≡ true
at_most_itself t = ap is_le (tied_itself nat_list_cmp_total t)

put_keeps : (name : List ℕ) (x : Child) (ys : List Child) → first_named name (put_by child_name x ys) ≡ first_named name (x ∷ ys)
put_keeps name x [] = refl
put_keeps name x (y ∷ ys) = go (is_at_most (child_name x) (child_name y)) refl (put_keeps name x ys)
  where
    swap : (a b : Bool) → bytes_eq name (child_name y) ≡ a → bytes_eq name (child_name x) ≡ b → is_at_most (child_name x) (child_name y) ≡ false
        → cond a (Some y) (cond b (Some x) (first_named name ys)) ≡ cond b (Some x) (cond a (Some y) (first_named name ys))
    swap true true e f other =
        let same : child_name x ≡ child_name y = sym (same_path name (child_name x) f) ∙ same_path name (child_name y) e in
        absurd (no_truth (sym other ∙ (ap (λ (t : List ℕ). is_at_most t (child_name y)) same ∙ at_most_itself (child_name y))))
    swap true false e f other = refl
    swap false b e f other = refl

    go : (b : Bool) → is_at_most (child_name x) (child_name y) ≡ b → first_named name (put_by child_name x ys) ≡ first_named name (x ∷ ys)
        → first_named name (cond b (x ∷ y ∷ ys) (y ∷ put_by child_name x ys)) ≡ first_named name (x ∷ y ∷ ys)
    go true e later = refl
    go false e later =
        ap (cond (bytes_eq name (child_name y)) (Some y)) later ∙ swap (bytes_eq name (child_name y)) (bytes_eq name (child_name x)) refl refl e

order_keeps : (name : List ℕ) (children : List Child) → first_named name (in_order child_name children) ≡ first_named name children
order_keeps name [] = refl
order_keeps name (child ∷ children) =
    put_keeps name child (in_order child_name children) ∙ ap (cond (bytes_eq name (child_name child)) (Some child)) (order_keeps name children)

dedup_from_keeps : (name : List ℕ) (x : Child) (ys : List Child) → first_named name (dedup_from (same_name child_name) x ys) ≡ first_named name (x ∷ ys)
dedup_from_keeps name x [] = refl
dedup_from_keeps name x (y ∷ ys) = go (same_name child_name y x) refl (dedup_from_keeps name x ys) (dedup_from_keeps name y ys)
  where
    passed : (a b : Bool) → bytes_eq name (child_name x) ≡ a → bytes_eq name (child_name y) ≡ b → same_name child_name y x ≡ true
        → cond a (Some x) (first_named name ys) ≡ cond a (Some x) (cond b (Some y) (first_named name ys))
    passed true b e f same = refl
    passed false false e f same = refl
    passed false true e f same =
        let other : bytes_eq name (child_name x) ≡ true = path_itself name (child_name x) (same_path name (child_name y) f ∙ same_path (child_name y) (child_name x) same) in
        absurd (no_truth (sym e ∙ other))

    go : (b : Bool) → same_name child_name y x ≡ b → first_named name (dedup_from (same_name child_name) x ys) ≡ first_named name (x ∷ ys) → first_named name (dedup_from (same_name child_name) y ys) ≡ first_named name (y ∷ ys)
        → first_named name (cond b (dedup_from (same_name child_name) x ys) (x ∷ dedup_from (same_name child_name) y ys)) ≡ first_named name (x ∷ y ∷ ys)
    go true same first later = first ∙ passed (bytes_eq name (child_name x)) (bytes_eq name (child_name y)) refl refl same
    go false same first later = ap (cond (bytes_eq name (child_name x)) (Some x)) later

dedup_keeps : (name : List ℕ) (children : List Child) → first_named name (dedup (same_name child_name) children) ≡ first_named name children
dedup_keeps name [] = refl
dedup_keeps name (child ∷ children) = dedup_from_keeps name child children

-- ---- where names rise each is the first of its own

is_first : (children : List Child) → Rises (map child_name children) → (k : ℕ) (d : Child) → k < length children → first_named (child_name (get_or children k d)) children ≡ Some (get_or children k d)
is_first [] up k d l = absurd (omega (arith, l))
is_first (child ∷ children) up zero d l = ap (λ b. cond b (Some child) (first_named (child_name child) children)) (path_itself (child_name child) (child_name child) refl)
is_first (child ∷ children) up (suc k) d l =
    let other : Child = get_or children k d in
    let there : Contains (map child_name children) (child_name other) = named_in children k d (omega (arith, l)) in
    by_bool (bytes_eq (child_name other) (child_name child)) (first_named (child_name other) (child ∷ children) ≡ Some other)
    (λ same. absurd (never_less (child_name child) (subst (IsLess (child_name child)) (same_path (child_name other) (child_name child) same) (up.0 (child_name other) there))))
    (λ e. ap (λ b. cond b (Some child) (first_named (child_name other) children)) e ∙ is_first children up.1 k d (omega (arith, l)))

-- ---- rows

row_first : (name : List ℕ) (children : List Child) → found_row name (map child_row children) ≡ option_map child_row (first_named name children)
row_first name [] = refl
row_first name (child ∷ children) = go (bytes_eq name (child_name child)) (row_first name children)
  where
    go : (b : Bool) → found_row name (map child_row children) ≡ option_map child_row (first_named name children)
        → cond b (Some (child_row child)) (found_row name (map child_row children)) ≡ option_map child_row (cond b (Some child) (first_named name children))
    go true e = refl
    go false e = e

row_names : (children : List Child) → names_of (map child_row children) ≡ map child_name children
row_names [] = refl
row_names (child ∷ children) = ap (λ (l : List (List ℕ)). child_name child ∷ l) (row_names children)

place_is : (name : List ℕ) (row : ChildRow) (place : Option Place) → Some row ≡ row_found name place → row.1 ≡ place
place_is name row None e = absurd cc
place_is name row (Some p) e = ap (λ (r : ChildRow). r.1) (same_Some row (name, Some p) e)

-- ---- all of a directory's

module _ (layers : List Settings) (directory : List ℕ) (listed sorted kept : List Child) (are : AreChildren 0 layers directory (map child_row listed)) (up : IsSortedByKey child_name (slice_cmp nat_cmp) sorted) (keeps : IsStableByKey child_name (slice_cmp nat_cmp) listed sorted) (is : kept ≡ dedup (same_name child_name) sorted) where
  abbrev paths : List (List ℕ)
  paths = all_paths layers

  in_turn : sorted ≡ in_order child_name listed
  in_turn = sorted_is_in_order child_name listed sorted up keeps

  pub names_are_listed : map child_name kept ≡ names_in paths directory
  names_are_listed =
      let names = names_of (map child_row listed) in
      let parts = parts_below directory paths in
      ap (map child_name) is ∙ (deduped child_name sorted
      ∙ (ap (dedup bytes_eq) (ap (map child_name) in_turn ∙ (in_order-map child_name (λ t. t) listed ∙ ap (in_order (λ t. t)) (sym (row_names listed))))
      ∙ one_rises (listing names) (listing parts) (listing_rises names) (listing_rises parts)
      (λ t c. listing_has parts t (found_text t parts (sym (are.names t) ∙ find_text t names (listing_from names t c))))
      (λ t c. listing_has names t (found_text t names (are.names t ∙ find_text t parts (listing_from parts t c))))))

  pub places_are_first : All (λ child. IsTrue (is_key_path (directory ++ child_name child)) → place_shown child.place ≡ first_from 0 layers (directory ++ child_name child)) kept
  places_are_first k d l key =
      let child : Child = get_or kept k d in
      let name : List ℕ = child_name child in
      let rises : Rises (map child_name kept) = subst Rises (sym names_are_listed) (listing_rises (parts_below directory paths)) in
      let there : Contains (names_in paths directory) name = subst (λ (ts : List (List ℕ)). Contains ts name) names_are_listed (named_in kept k d l) in
      let part = path_of_part directory paths name (listing_from (parts_below directory paths) name there) in
      let own : first_part name ≡ name = ap first_part part.2 ∙ (first_again part.0 ∙ sym part.2) in
      let first : first_named name listed ≡ Some child =
      sym (order_keeps name listed) ∙ (ap (first_named name) (sym in_turn) ∙ (sym (dedup_keeps name sorted) ∙ (ap (first_named name) (sym is) ∙ is_first kept rises k d l))) in
      place_is name (child_row child) (first_from 0 layers (directory ++ name)) (sym (ap (option_map child_row) first) ∙ (sym (row_first name listed) ∙ are.keys name own key))
