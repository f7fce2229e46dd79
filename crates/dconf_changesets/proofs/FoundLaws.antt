-- What is found of a key in a set of changes.
use Rattle.std.specs.Prelude.{◌≡◌, ◌≢◌, ℕ, Bool, true, false, not, ◌&&◌, ◌||◌, if◌then◌else◌, List, [], ◌∷◌, ◌++◌, filter, Option, Some, None, is_some, refl}
use Rattle.std.proofs.Common.{inl, inr, sym, ap, ◌∙◌, subst}
use Rattle.std.specs.List.{AllByRecursion, list_any}
use Rattle.std.specs.Str.{bytes_eq}
use Rattle.gv_model.specs.Tree.{Tree}
use Rattle.dconf_model.proofs.ParentLaws.{by_bool}
use Rattle.dconf_model.proofs.SameBytes.{itself, same_path}
use Rattle.dconf_model.specs.Locks.{covers, is_below}
use Rattle.dconf_model.specs.Paths.{ends_with_slash}
use Rattle.dconf_model.specs.Stores.Saying.{silent, unset}
use Rattle.dconf_changesets.specs.declared.rows.Effect.TheVariants.{Stays, Goes, Takes}
use Rattle.dconf_changesets.specs.Differences.{AreInOrder}
use Rattle.dconf_changesets.specs.Rows.{AKeyStandsForItself, FoundIsSaid, IsRow, Row, changed, effect_of, found, found_above, found_by, is_staying, later_word, own_row, said, said_by, with_row, word_of}
use Rattle.dconf_changesets.proofs.WordLaws.{after_silent, covers_how, kept_rows, later_counts, over_by_word, said_apart, stays_apart, with_row_is}

-- ---- all of a list

pub filtered_all : (P : Row → Type 0) (p : Row → Bool) (xs : List Row) → AllByRecursion P xs → AllByRecursion P (filter p xs)
filtered_all P p [] all = all
filtered_all P p (x ∷ xs) all = by_bool (p x) (AllByRecursion P (filter p (x ∷ xs)))
    (λ is. rw is (all.0, filtered_all P p xs all.1))
    (λ is. rw is (filtered_all P p xs all.1))

pub append_all : (P : Row → Type 0) (xs ys : List Row) → AllByRecursion P xs → AllByRecursion P ys → AllByRecursion P (xs ++ ys)
append_all P [] ys all more = more
append_all P (x ∷ xs) ys all more = (all.0, append_all P xs ys all.1 more)

-- ---- rows in order

filtered_order : (p : Row → Bool) (xs : List Row) → AreInOrder xs → AreInOrder (filter p xs)
filtered_order p [] are = are
filtered_order p (x ∷ xs) are = by_bool (p x) (AreInOrder (filter p (x ∷ xs)))
    (λ is. rw is (filtered_all (λ (later : Row). covers later.path x.path ≡ false) p xs are.0, filtered_order p xs are.1))
    (λ is. rw is (filtered_order p xs are.1))

order_append : (xs : List Row) (row : Row) → AreInOrder xs → AllByRecursion (λ (r : Row). covers row.path r.path ≡ false) xs → AreInOrder (xs ++ row ∷ [])
order_append [] row are apart = (tt, tt)
order_append (x ∷ xs) row are apart =
    (append_all (λ (later : Row). covers later.path x.path ≡ false) xs (row ∷ []) are.0 (apart.0, tt), order_append xs row are.1 apart.1)

kept_apart : (row : Row) (rows : List Row) → AllByRecursion (λ (r : Row). covers row.path r.path ≡ false) (kept_rows row rows)
kept_apart row [] = tt
kept_apart row (r ∷ rows) = by_bool (covers row.path r.path) (AllByRecursion (λ (x : Row). covers row.path x.path ≡ false) (kept_rows row (r ∷ rows)))
    (λ over. let gone : is_staying (effect_of row.path (is_some row.value) false r.path) ≡ false = stays_apart row.path (is_some row.value) false r.path ∙ ap not over in
    rw gone (kept_apart row rows))
    (λ over. let stays : is_staying (effect_of row.path (is_some row.value) false r.path) ≡ true = stays_apart row.path (is_some row.value) false r.path ∙ ap not over in
    rw stays (over, kept_apart row rows))

in_order : (rows changes : List Row) → AreInOrder rows → AreInOrder (changed false rows changes)
in_order rows [] are = are
in_order rows (c ∷ more) are = in_order (with_row false rows c) more
    (subst AreInOrder (sym (with_row_is rows c)) (order_append (kept_rows c rows) c (filtered_order _ rows are) (kept_apart c rows)))

are_rows : (rows changes : List Row) → AllByRecursion IsRow rows → AllByRecursion IsRow changes → AllByRecursion IsRow (changed false rows changes)
are_rows rows [] all more = all
are_rows rows (c ∷ changes) all more = are_rows (with_row false rows c) changes
    (subst (AllByRecursion IsRow) (sym (with_row_is rows c)) (append_all IsRow (kept_rows c rows) (c ∷ []) (filtered_all IsRow _ rows all) (more.0, tt))) more.1

-- ---- what is found

pub silent_apart : (key : List ℕ) (rows : List Row) → AllByRecursion (λ (r : Row). covers r.path key ≡ false) rows → said key rows ≡ silent
silent_apart key [] all = refl
silent_apart key (r ∷ rows) all = rw (said_apart key r all.0, silent_apart key rows all.1) refl

-- a row that covers a key, and isn't the key's own, is a directory's
pub upper_is_unset : (key : List ℕ) (row : Row) → IsRow row → bytes_eq row.path key ≡ false → covers row.path key ≡ true → row.value ≡ None
upper_is_unset key row is apart over = elim (covers_how row.path key over) [
  | inl same ↦ absurd (let bad : true ≡ false = sym (itself key) ∙ subst (λ (x : List ℕ). bytes_eq x key ≡ false) same apart in cc)
  | inr below ↦ is below.0
]

-- a row before others of which it is known what is found in them
module _ (key : List ℕ) (r : Row) (rows : List Row) (is : IsRow r) (rest : found key rows ≡ said key rows) (apart : bytes_eq r.path key ≡ false) where
  any_true : (over : Bool) → (if (over || true) then unset else silent) ≡ unset
  any_true true = refl
  any_true false = refl

  above : (any over : Bool) → list_any (λ (row : Row). covers row.path key) rows ≡ any → covers r.path key ≡ over → own_row key rows ≡ None →
      found_above key (r ∷ rows) ≡ later_word (said_by key r) (said key rows)
  above true over a o none =
      let word : said key rows ≡ unset = sym rest ∙ rw (none, a) refl in
      rw (word, a) (any_true (covers r.path key))
  above false true a o none =
      let word : said key rows ≡ silent = sym rest ∙ rw (none, a) refl in
      let value : r.value ≡ None = upper_is_unset key r is apart o in
      rw (word, a, o, value) refl
  above false false a o none =
      let word : said key rows ≡ silent = sym rest ∙ rw (none, a) refl in
      rw (word, a, o) refl

  by_own : (own : Option (Option Tree)) → own_row key rows ≡ own → found_by (own_row key rows) key (r ∷ rows) ≡ later_word (said_by key r) (said key rows)
  by_own (Some value) own =
      let word : said key rows ≡ word_of value = sym rest ∙ rw own refl in
      rw (own, word) (sym (over_by_word (said_by key r) value))
  by_own None own = rw own (above (list_any (λ (row : Row). covers row.path key) rows) (covers r.path key) refl refl own)

found_in : (key : List ℕ) (rows : List Row) → AreInOrder rows → AllByRecursion IsRow rows → found key rows ≡ said key rows
found_in key [] are all = refl
found_in key (r ∷ rows) are all = by_bool (bytes_eq r.path key) (found key (r ∷ rows) ≡ said key (r ∷ rows))
    (λ own. let same : r.path ≡ key = same_path r.path key own in
    let quiet : said key rows ≡ silent = silent_apart key rows (subst (λ (x : List ℕ). AllByRecursion (λ (s : Row). covers s.path x ≡ false) rows) same are.0) in
    rw (own, quiet) refl)
    (λ apart. let own : own_row key (r ∷ rows) ≡ own_row key rows = rw apart refl in
    ap (λ (o : Option (Option Tree)). found_by o key (r ∷ rows)) own ∙ by_own key r rows all.0 (found_in key rows are.1 all.1) apart (own_row key rows) refl)

pub found_is_said : FoundIsSaid
found_is_said changes key all =
    found_in key (changed false [] changes) (in_order [] changes tt) (are_rows [] changes tt all) ∙ (later_counts [] changes key ∙ after_silent (said key changes))

-- ---- a key's reset

alone_by : (q s b : Bool) → s ≡ false → (if q then Takes else if q || (s && b) then Goes else Stays) ≢ Goes
alone_by true s b d e = let bad : Takes ≡ Goes = e in cc
alone_by false false b d e = let bad : Stays ≡ Goes = e in cc
alone_by false true b d e = let bad : true ≡ false = d in cc

pub a_key_stands_for_itself : AKeyStandsForItself
a_key_stands_for_itself path other d = alone_by (bytes_eq path other) (ends_with_slash path) (is_below other path) d
