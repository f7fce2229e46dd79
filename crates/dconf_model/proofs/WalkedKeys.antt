-- A walk over the names of directories finds each key, in order, and ends.
use Rattle.std.specs.Prelude.{Contains, filter, flat_map}
use Rattle.std.proofs.Common.{◌≡◌, ◌⊎◌, ◌<◌, ◌≤◌, ◌+◌, ◌*◌, ◌-◌, ℕ, true, false, List, [], ◌∷◌, ◌++◌, not, cond, length, map, drop, refl, sym, ap, ◌∙◌, subst, inl, inr, arith, append_assoc, append-nil, length-append}
use Rattle.std.specs.List.{sum_by}
use Rattle.std.proofs.lemmas.Bool.{and_parts}
use Rattle.std.proofs.lemmas.List.Concat.{flat_map-cons}
use Rattle.std.proofs.lemmas.List.Elements.{Contains-append_left, Contains-append_right, Contains-append_cases}
use Rattle.std.proofs.lemmas.List.Sums.{sum_by-cons, sum_by-append}
use Rattle.std.proofs.lemmas.Bool.{and_from}
use Rattle.dconf_model.specs.Layers.{parts_below}
use Rattle.dconf_model.specs.Locks.{is_below}
use Rattle.dconf_model.specs.Paths.{is_path, is_key_path, is_directory_path, ends_with_slash, first_part}
use Rattle.dconf_model.specs.Walks.{AreKeyPaths, WalkFindsEachKey, WalkEnds, names_in, keys_below, keys_at, work_at}
use Rattle.dconf_model.proofs.FirstParts.{EndsInSlash, still_ends, first_of_prefix}
use Rattle.dconf_model.proofs.FirstPartLaws.{cut_rest, first_again, less_below, some_first}
use Rattle.dconf_model.proofs.KeyNames.{key_is_open}
use Rattle.dconf_model.proofs.Listings.{Texts, PathOf, below_itself, below_cut, part_of_path, path_of_part, listing_has, listing_from, has_first, has_later, none_of_none, first_or_later}
use Rattle.dconf_model.proofs.PathLaws.{ends_in}
use Rattle.dconf_model.proofs.PathMaps.{no_truth, and_false}
use Rattle.dconf_model.proofs.PathPrefixes.{prefix_is_path}
use Rattle.dconf_model.proofs.RisingTexts.{IsLess, Rises, listing_rises, rises_after, one_rises, kept_is_there, there_is_kept}

-- ---- places

at_directory : (paths : Texts) (place : List ℕ) → is_directory_path place ≡ true → keys_at paths place ≡ keys_below paths place
at_directory paths place e = ap (λ b. cond b (keys_below paths place) (place ∷ [])) e

at_key : (paths : Texts) (place : List ℕ) → is_directory_path place ≡ false → keys_at paths place ≡ place ∷ []
at_key paths place e = ap (λ b. cond b (keys_below paths place) (place ∷ [])) e

-- the place that a directory leads to on the way to a path below it: a directory, or the path itself
abbrev IsPlace : List ℕ → List ℕ → Type 0
IsPlace directory rest =
    ((is_directory_path (directory ++ first_part rest) ≡ true) × EndsInSlash (first_part rest) × ((more : List ℕ) × (rest ≡ first_part rest ++ more)))
    ⊎ ((is_directory_path (directory ++ first_part rest) ≡ false) × (first_part rest ≡ rest))

is_place : (paths : Texts) (directory rest : List ℕ) → AreKeyPaths paths → Contains paths (directory ++ rest) → IsPlace directory rest
is_place paths directory rest are there =
    let key : is_key_path (directory ++ rest) ≡ true = are (directory ++ rest) there in
    elim (cut_rest rest) [
      | inl all ↦ inr (
        and_false (is_path (directory ++ first_part rest)) (ends_with_slash (directory ++ first_part rest))
            (key_is_open (directory ++ first_part rest) (ap (λ (l : List ℕ). is_key_path (directory ++ l)) all ∙ key)),
        all,
      )
      | inr h ↦ (
          let part : List ℕ = first_part rest in
          let ends = still_ends directory part h.0 in
          let slash : ends_with_slash (directory ++ part) ≡ true = ends_in (directory ++ part) ends.0 ends.1 in
          let whole : directory ++ rest ≡ (directory ++ part) ++ h.1.0 = ap (λ (l : List ℕ). directory ++ l) h.1.1 ∙ sym (append_assoc directory part h.1.0) in
          let path : is_path (directory ++ rest) ≡ true = (and_parts (is_path (directory ++ rest)) (not (ends_with_slash (directory ++ rest))) key).0 in
          let before : is_path (directory ++ part) ≡ true = prefix_is_path (directory ++ part) h.1.0 slash (sym (ap is_path whole) ∙ path) in
          inl (and_from (is_path (directory ++ part)) (ends_with_slash (directory ++ part)) before slash, h.0, h.1))
    ]

-- ---- what is found at a place

-- a path, and what follows the directory in it
record IsFound (paths : Texts) (directory name path : List ℕ) : Type 0 where
  there : Contains paths path
  rest : List ℕ
  whole : path ≡ directory ++ rest
  first : first_part rest ≡ name
  long : length (directory ++ name) ≤ length path

is_found : (paths : Texts) (directory name path : List ℕ) → AreKeyPaths paths → PathOf directory paths name → Contains (keys_at paths (directory ++ name)) path →
    IsFound paths directory name path
is_found paths directory name path are h c =
    let is : name ≡ first_part h.0 = h.2 in
    let own : first_part name ≡ name = ap first_part is ∙ (first_again h.0 ∙ sym is) in
    let place : IsPlace directory h.0 = is_place paths directory h.0 are h.1 in
    elim place [
      | inl d ↦ (
          let at : keys_at paths (directory ++ name) ≡ keys_below paths (directory ++ name) =
          at_directory paths (directory ++ name) (ap (λ (l : List ℕ). is_directory_path (directory ++ l)) is ∙ d.0) in
          let listed = listing_from (filter (λ p. is_below p (directory ++ name)) paths) path (subst (λ (ps : Texts). Contains ps path) at c) in
          let kept = kept_is_there (λ p. is_below p (directory ++ name)) paths path listed in
          let more : List ℕ = drop (length (directory ++ name)) path in
          let cut : path ≡ (directory ++ name) ++ more = sym (below_cut (directory ++ name) path kept.1) in
          let ends : EndsInSlash name = subst EndsInSlash (sym is) d.1 in
          let n : length path ≡ length (directory ++ name) + length more = ap length cut ∙ length-append (directory ++ name) more in
          record {
            there = kept.0;
            rest = name ++ more;
            whole = cut ∙ append_assoc directory name more;
            first = first_of_prefix name more ends ∙ own;
            long = omega (arith, n);
          })
      | inr k ↦ (
          let at : keys_at paths (directory ++ name) ≡ (directory ++ name) ∷ [] =
          at_key paths (directory ++ name) (ap (λ (l : List ℕ). is_directory_path (directory ++ l)) is ∙ k.0) in
          let same : directory ++ name ≡ path = elim (first_or_later (directory ++ name) [] path (subst (λ (ps : Texts). Contains ps path) at c)) [
            | inl e ↦ e
            | inr m ↦ absurd (none_of_none path m)
          ] in
          let n : length path ≡ length (directory ++ name) = ap length (sym same) in
          record {
            there = subst (Contains paths) (ap (λ (l : List ℕ). directory ++ l) (sym k.1 ∙ sym is) ∙ same) h.1;
            rest = name;
            whole = sym same;
            first = own;
            long = omega (arith, n);
          })
    ]

place_rises : (paths : Texts) (directory rest : List ℕ) → IsPlace directory rest → Rises (keys_at paths (directory ++ first_part rest))
place_rises paths directory rest (inl d) = subst Rises (sym (at_directory paths (directory ++ first_part rest) d.0)) (listing_rises (filter (λ p. is_below p (directory ++ first_part rest)) paths))
place_rises paths directory rest (inr k) = subst Rises (sym (at_key paths (directory ++ first_part rest) k.0)) (λ u c. absurd (none_of_none u c), tt)

-- a path is found at the place that leads to it
at_its_place : (paths : Texts) (directory rest : List ℕ) → Contains paths (directory ++ rest) → IsPlace directory rest →
    Contains (keys_at paths (directory ++ first_part rest)) (directory ++ rest)
at_its_place paths directory rest there (inl d) =
    let part : List ℕ = first_part rest in
    let whole : (directory ++ part) ++ d.2.0 ≡ directory ++ rest = append_assoc directory part d.2.0 ∙ sym (ap (λ (l : List ℕ). directory ++ l) d.2.1) in
    let below : is_below (directory ++ rest) (directory ++ part) ≡ true = ap (λ (p : List ℕ). is_below p (directory ++ part)) (sym whole) ∙ below_itself (directory ++ part) d.2.0 in
    subst (λ (ps : Texts). Contains ps (directory ++ rest)) (sym (at_directory paths (directory ++ part) d.0))
    (listing_has (filter (λ p. is_below p (directory ++ part)) paths) (directory ++ rest) (there_is_kept (λ p. is_below p (directory ++ part)) paths (directory ++ rest) there below))
at_its_place paths directory rest there (inr k) =
    subst (λ (ps : Texts). Contains ps (directory ++ rest)) (sym (at_key paths (directory ++ first_part rest) k.0))
    (0, omega arith, ap (λ (l : List ℕ). directory ++ l) k.1)

-- ---- what is found at the places of names

walked : Texts → List ℕ → Texts → Texts
walked paths directory [] = []
walked paths directory (name ∷ names) = keys_at paths (directory ++ name) ++ walked paths directory names

is_walked : (paths : Texts) (directory : List ℕ) (names : Texts) →
    flat_map (keys_at paths) (map {B = List ℕ} (λ name. directory ++ name) names) ≡ walked paths directory names
unfolding walked
is_walked paths directory [] = refl
is_walked paths directory (name ∷ names) =
    flat_map-cons (keys_at paths) (directory ++ name) (map {B = List ℕ} (λ name. directory ++ name) names)
    ∙ ap (λ (ps : Texts). keys_at paths (directory ++ name) ++ ps) (is_walked paths directory names)

found_among : (paths : Texts) (directory : List ℕ) (names : Texts) (path : List ℕ) → Contains (walked paths directory names) path →
    (name : List ℕ) × Contains names name × Contains (keys_at paths (directory ++ name)) path
unfolding walked
found_among paths directory [] path c = absurd (none_of_none path c)
found_among paths directory (name ∷ names) path c =
    elim (Contains-append_cases (keys_at paths (directory ++ name)) (walked paths directory names) path c) [
      | inl here ↦ (name, has_first name names, here)
      | inr later ↦ (let r = found_among paths directory names path later in (r.0, has_later name names r.0 r.1, r.2))
    ]

among : (paths : Texts) (directory : List ℕ) (names : Texts) (name path : List ℕ) → Contains names name → Contains (keys_at paths (directory ++ name)) path →
    Contains (walked paths directory names) path
unfolding walked
among paths directory [] name path there c = absurd (none_of_none name there)
among paths directory (n ∷ names) name path there c =
    elim (first_or_later n names name there) [
      | inl same ↦ Contains-append_left (keys_at paths (directory ++ n)) (walked paths directory names) path
          (subst (λ (l : List ℕ). Contains (keys_at paths (directory ++ l)) path) (sym same) c)
      | inr k ↦ Contains-append_right (keys_at paths (directory ++ n)) (walked paths directory names) path (among paths directory names name path k c)
    ]

abbrev AreNames : Texts → List ℕ → Texts → Type 0
AreNames paths directory names = (name : List ℕ) → Contains names name → PathOf directory paths name

are_names : (paths : Texts) (directory : List ℕ) → AreNames paths directory (names_in paths directory)
are_names paths directory name c = path_of_part directory paths name (listing_from (parts_below directory paths) name c)

in_turn : (paths : Texts) (directory name later p q : List ℕ) → IsLess name later → IsFound paths directory name p → IsFound paths directory later q → IsLess p q
in_turn paths directory name later p q less f g =
    let below : IsLess (directory ++ f.rest) (directory ++ g.rest) =
    less_below directory f.rest g.rest (subst (λ (l : List ℕ). IsLess (first_part f.rest) l) (sym g.first) (subst (λ (l : List ℕ). IsLess l later) (sym f.first) less)) in
    subst (λ (l : List ℕ). IsLess p l) (sym g.whole) (subst (λ (l : List ℕ). IsLess l (directory ++ g.rest)) (sym f.whole) below)

walked_rises : (paths : Texts) (directory : List ℕ) (names : Texts) → AreKeyPaths paths → AreNames paths directory names → Rises names → Rises (walked paths directory names)
unfolding walked
walked_rises paths directory [] are named up = tt
walked_rises paths directory (name ∷ names) are named up =
    let h = named name (has_first name names) in
    let later : AreNames paths directory names = λ n c. named n (has_later name names n c) in
    rises_after (keys_at paths (directory ++ name)) (walked paths directory names)
    (subst (λ (l : List ℕ). Rises (keys_at paths (directory ++ l))) (sym h.2) (place_rises paths directory h.0 (is_place paths directory h.0 are h.1)))
    (walked_rises paths directory names are later up.1)
    (λ p q a b. (let m = found_among paths directory names q b in
    in_turn paths directory name m.0 p q (up.0 m.0 m.1) (is_found paths directory name p are h a) (is_found paths directory m.0 q are (later m.0 m.1) m.2)))

walked_is_below : (paths : Texts) (directory path : List ℕ) → AreKeyPaths paths → Contains (walked paths directory (names_in paths directory)) path → Contains (keys_below paths directory) path
walked_is_below paths directory path are c =
    let m = found_among paths directory (names_in paths directory) path c in
    let f : IsFound paths directory m.0 path = is_found paths directory m.0 path are (are_names paths directory m.0 m.1) m.2 in
    let below : is_below path directory ≡ true = ap (λ (p : List ℕ). is_below p directory) f.whole ∙ below_itself directory f.rest in
    listing_has (filter (λ p. is_below p directory) paths) path (there_is_kept (λ p. is_below p directory) paths path f.there below)

below_is_walked : (paths : Texts) (directory path : List ℕ) → AreKeyPaths paths → Contains (keys_below paths directory) path → Contains (walked paths directory (names_in paths directory)) path
below_is_walked paths directory path are c =
    let kept = kept_is_there (λ p. is_below p directory) paths path (listing_from (filter (λ p. is_below p directory) paths) path c) in
    let rest : List ℕ = drop (length directory) path in
    let cut : directory ++ rest ≡ path = below_cut directory path kept.1 in
    let there : Contains paths (directory ++ rest) = subst (Contains paths) (sym cut) kept.0 in
    let named : Contains (names_in paths directory) (first_part rest) = listing_has (parts_below directory paths) (first_part rest) (part_of_path directory rest paths there) in
    among paths directory (names_in paths directory) (first_part rest) path named
    (subst (Contains (keys_at paths (directory ++ first_part rest))) cut (at_its_place paths directory rest there (is_place paths directory rest are there)))

all_walked : (paths : Texts) (directory : List ℕ) → AreKeyPaths paths → walked paths directory (names_in paths directory) ≡ keys_below paths directory
all_walked paths directory are =
    one_rises (walked paths directory (names_in paths directory)) (keys_below paths directory)
    (walked_rises paths directory (names_in paths directory) are (are_names paths directory) (listing_rises (parts_below directory paths)))
    (listing_rises (filter (λ p. is_below p directory) paths))
    (λ path c. walked_is_below paths directory path are c) (λ path c. below_is_walked paths directory path are c)

pub walk_finds_each_key : WalkFindsEachKey
walk_finds_each_key paths directory are = is_walked paths directory (names_in paths directory) ∙ all_walked paths directory are

-- ---- the end

abbrev excess : ℕ → Texts → ℕ
excess n paths = sum_by (λ path. length path - n) paths

shorter : (m n : ℕ) (paths : Texts) → n < m → ((path : List ℕ) → Contains paths path → m ≤ length path) → excess m paths + length paths ≤ excess n paths
shorter m n [] less long = omega arith
shorter m n (p ∷ paths) less long =
    let here = long p (has_first p paths) in
    let later = shorter m n paths less (λ path c. long path (has_later p paths path c)) in
    omega (arith, less, here, later, sum_by-cons (λ (path : List ℕ). length path - m) p paths, sum_by-cons (λ (path : List ℕ). length path - n) p paths)

-- a directory is shorter than the places that it leads to
some_name : (paths : Texts) (directory rest : List ℕ) → AreKeyPaths paths → ends_with_slash directory ≡ true → Contains paths (directory ++ rest) → 0 < length rest
some_name paths directory [] are slash there =
    absurd (no_truth (sym (key_is_open (directory ++ []) (are (directory ++ []) there)) ∙ (ap ends_with_slash (append-nil directory) ∙ slash)))
some_name paths directory (c ∷ rest) are slash there = omega arith

place_work : (paths : Texts) (directory name : List ℕ) → AreKeyPaths paths → ends_with_slash directory ≡ true → PathOf directory paths name →
    work_at paths (directory ++ name) ≤ 2 * excess (length directory) (keys_at paths (directory ++ name))
place_work paths directory name are slash h =
    let place : List ℕ = directory ++ name in
    let some : 0 < length (first_part h.0) = some_first h.0 (some_name paths directory h.0 are slash h.1) in
    let n : length name ≡ length (first_part h.0) = ap length h.2 in
    let m : length place ≡ length directory + length name = length-append directory name in
    let found : Contains (keys_at paths place) (directory ++ h.0) =
    subst (λ (l : List ℕ). Contains (keys_at paths (directory ++ l)) (directory ++ h.0)) (sym h.2) (at_its_place paths directory h.0 h.1 (is_place paths directory h.0 are h.1)) in
    let less = shorter (length place) (length directory) (keys_at paths place) (omega (arith, some, n, m)) (λ path c. (is_found paths directory name path are h c).long) in
    omega (arith, less, found.1)

names_work : (paths : Texts) (directory : List ℕ) (names : Texts) → AreKeyPaths paths → ends_with_slash directory ≡ true → AreNames paths directory names →
    sum_by (work_at paths) (map {B = List ℕ} (λ name. directory ++ name) names) ≤ 2 * excess (length directory) (walked paths directory names)
unfolding walked
names_work paths directory [] are slash named = omega arith
names_work paths directory (name ∷ names) are slash named =
    let here = place_work paths directory name are slash (named name (has_first name names)) in
    let later = names_work paths directory names are slash (λ n c. named n (has_later name names n c)) in
    omega (
      arith,
      here,
      later,
      sum_by-cons (work_at paths) (directory ++ name) (map {B = List ℕ} (λ name. directory ++ name) names),
      sum_by-append (λ (path : List ℕ). length path - length directory) (keys_at paths (directory ++ name)) (walked paths directory names),
    )

pub walk_ends : WalkEnds
walk_ends paths directory are is =
    let slash : ends_with_slash directory ≡ true = (and_parts (is_path directory) (ends_with_slash directory) is).1 in
    let within = names_work paths directory (names_in paths directory) are slash (are_names paths directory) in
    let same : excess (length directory) (walked paths directory (names_in paths directory)) ≡ excess (length directory) (keys_at paths directory) =
    ap (excess (length directory)) (all_walked paths directory are ∙ sym (at_directory paths directory is)) in
    omega (arith, within, same)
