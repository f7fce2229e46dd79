-- What a set of changes says of each key.
use Rattle.std.specs.Prelude.{◌≡◌, ◌⊎◌, ℕ, Bool, true, false, not, ◌&&◌, ◌||◌, if◌then◌else◌, List, [], ◌∷◌, ◌++◌, filter, length, drop, Option, Some, None, is_some, refl}
use Rattle.std.proofs.Common.{inl, inr, sym, ap, ◌∙◌, subst}
use Rattle.std.specs.Str.{bytes_eq}
use Rattle.std.proofs.lemmas.Bool.{and_from, and_parts, or_cases, or_left, or_right}
use Rattle.std.proofs.lemmas.Bool.Decides.{Decides-eqb}
use Rattle.std.proofs.lemmas.List.{append_assoc}
use Rattle.std.proofs.lemmas.Slice.Eq.{starts_is}
use Rattle.gv_model.specs.Tree.{Tree}
use Rattle.dconf_model.proofs.ParentLaws.{by_bool}
use Rattle.dconf_model.proofs.SameBytes.{itself, same_path}
use Rattle.dconf_model.specs.Locks.{covers, is_below}
use Rattle.dconf_model.specs.Paths.{ends_with_slash}
use Rattle.dconf_model.specs.Stores.{Saying, heard}
use Rattle.dconf_model.specs.Stores.Saying.{silent, unset, sets}
use Rattle.dconf_changesets.specs.Rows.{LaterCounts, Row, effect_of, is_staying, is_taking, later_word, own_effect, said, said_by, with_row, word_of}
use Rattle.dconf_changesets.specs.declared.rows.Effect.TheVariants.{Stays, Goes}

-- ---- paths

-- how a path covers another: it is the same, or a directory's that the other starts with
pub covers_how : (a b : List ℕ) → covers a b ≡ true → (a ≡ b) ⊎ ((ends_with_slash a ≡ true) × (is_below b a ≡ true))
covers_how a b is = elim (or_cases (bytes_eq a b) (ends_with_slash a && is_below b a) is) [
  | inl same ↦ inl (same_path a b same)
  | inr below ↦ inr (and_parts (ends_with_slash a) (is_below b a) below)
]

pub below_cut : (b a : List ℕ) → is_below b a ≡ true → b ≡ a ++ drop (length a) b
below_cut b a is = (starts_is Decides-eqb b a (is_below b a) refl).0 is

pub below_from : (b a rest : List ℕ) → b ≡ a ++ rest → is_below b a ≡ true
below_from b a rest is = (starts_is Decides-eqb b a (is_below b a) refl).1 rest is

below_twice : (a b c : List ℕ) → is_below b a ≡ true → is_below c b ≡ true → is_below c a ≡ true
below_twice a b c h k =
    let first = below_cut b a h in
    let second = below_cut c b k in
    below_from c a (drop (length a) b ++ drop (length b) c)
    (second ∙ (ap (λ (x : List ℕ). x ++ drop (length b) c) first ∙ append_assoc a (drop (length a) b) (drop (length b) c)))

pub covers_directory : (a b : List ℕ) → ends_with_slash a ≡ true → is_below b a ≡ true → covers a b ≡ true
covers_directory a b ends below = or_right (bytes_eq a b) (ends_with_slash a && is_below b a) (and_from (ends_with_slash a) (is_below b a) ends below)

pub covers_twice : (a b c : List ℕ) → covers a b ≡ true → covers b c ≡ true → covers a c ≡ true
covers_twice a b c h k = elim (covers_how a b h) [
  | inl same ↦ subst (λ (x : List ℕ). covers x c ≡ true) (sym same) k
  | inr upper ↦ elim (covers_how b c k) [
    | inl same ↦ subst (λ (x : List ℕ). covers a x ≡ true) same h
    | inr lower ↦ covers_directory a c upper.0 (below_twice a b c upper.1 lower.1)
  ]
]

pub covers_itself : (a : List ℕ) → covers a a ≡ true
covers_itself a = or_left (bytes_eq a a) (ends_with_slash a && is_below a a) (itself a)

-- ---- words

pub later_assoc : (a b c : Saying) → later_word (later_word a b) c ≡ later_word a (later_word b c)
later_assoc a b silent = refl
later_assoc a b unset = refl
later_assoc a b (sets v) = refl

pub after_silent : (w : Saying) → later_word silent w ≡ w
after_silent silent = refl
after_silent unset = refl
after_silent (sets v) = refl

pub over_by_word : (a : Saying) (value : Option Tree) → later_word a (word_of value) ≡ word_of value
over_by_word a None = refl
over_by_word a (Some v) = refl

pub said_append : (key : List ℕ) (xs ys : List Row) → said key (xs ++ ys) ≡ later_word (said key xs) (said key ys)
said_append key [] ys = sym (after_silent (said key ys))
said_append key (x ∷ xs) ys = ap (later_word (said_by key x)) (said_append key xs ys) ∙ sym (later_assoc (said_by key x) (said key xs) (said key ys))

pub said_one : (key : List ℕ) (row : Row) → said key (row ∷ []) ≡ said_by key row
said_one key row = refl

pub said_covered : (key : List ℕ) (row : Row) → covers row.path key ≡ true → said_by key row ≡ word_of row.value
said_covered key row over = rw over refl

pub said_apart : (key : List ℕ) (row : Row) → covers row.path key ≡ false → said_by key row ≡ silent
said_apart key row over = rw over refl

-- ---- a change

-- in a set of changes the row itself stands
taken : (path : List ℕ) (sets : Bool) → is_taking (effect_of path sets false path) ≡ true
taken path set = rw (itself path) (by_set set)
  where
    by_set : (s : Bool) → is_taking (own_effect s false) ≡ true
    by_set true = refl
    by_set false = refl

-- what stays is what isn't covered
not_own : (s d : Bool) → is_staying (own_effect s d) ≡ false
not_own true d = refl
not_own false true = refl
not_own false false = refl

stays_by : (same below : Bool) (s d : Bool) → is_staying (if same then own_effect s d else if (same || below) then Goes else Stays) ≡ not (same || below)
stays_by true below s d = not_own s d
stays_by false true s d = refl
stays_by false false s d = refl

pub stays_apart : (path : List ℕ) (s d : Bool) (other : List ℕ) → is_staying (effect_of path s d other) ≡ not (covers path other)
stays_apart path s d other = stays_by (bytes_eq path other) (ends_with_slash path && is_below other path) s d

abbrev pub kept_rows : Row → List Row → List Row
kept_rows row rows = filter (λ (r : Row). is_staying (effect_of row.path (is_some row.value) false r.path)) rows

pub with_row_is : (rows : List Row) (row : Row) → with_row false rows row ≡ kept_rows row rows ++ row ∷ []
with_row_is rows row = rw (taken row.path (is_some row.value)) refl

not_over : (key : List ℕ) (row r : Row) → covers row.path key ≡ false → covers row.path r.path ≡ true → covers r.path key ≡ false
not_over key row r apart over =
    by_bool (covers r.path key) (covers r.path key ≡ false)
    (λ is. absurd (let both : covers row.path key ≡ true = covers_twice row.path r.path key over is in let bad : true ≡ false = sym both ∙ apart in cc)) (λ is. is)

-- what goes said nothing of the keys that the new row isn't about
kept_said : (key : List ℕ) (row : Row) (rows : List Row) → covers row.path key ≡ false → said key (kept_rows row rows) ≡ said key rows
kept_said key row [] e = refl
kept_said key row (r ∷ rows) e =
    by_bool (covers row.path r.path) (said key (kept_rows row (r ∷ rows)) ≡ said key (r ∷ rows))
    (λ over. let gone : is_staying (effect_of row.path (is_some row.value) false r.path) ≡ false = stays_apart row.path (is_some row.value) false r.path ∙ ap not over in
    let apart : said_by key r ≡ silent = said_apart key r (not_over key row r e over) in
    rw (gone, apart) (kept_said key row rows e ∙ sym (after_silent (said key rows))))
    (λ over. let stays : is_staying (effect_of row.path (is_some row.value) false r.path) ≡ true = stays_apart row.path (is_some row.value) false r.path ∙ ap not over in
    rw stays (ap (later_word (said_by key r)) (kept_said key row rows e)))

set_said : (key : List ℕ) (rows : List Row) (row : Row) → said key (with_row false rows row) ≡ later_word (said key rows) (said_by key row)
set_said key rows row =
    ap (said key) (with_row_is rows row) ∙ (said_append key (kept_rows row rows) (row ∷ []) ∙ by_bool (covers row.path key)
    (later_word (said key (kept_rows row rows)) (said_by key row) ≡ later_word (said key rows) (said_by key row))
    (λ over. let word : said_by key row ≡ word_of row.value = said_covered key row over in
    rw word (over_by_word (said key (kept_rows row rows)) row.value ∙ sym (over_by_word (said key rows) row.value)))
    (λ apart. ap (λ w. later_word w (said_by key row)) (kept_said key row rows apart)))

pub later_counts : LaterCounts
later_counts rows [] key = refl
later_counts rows (c ∷ more) key =
    later_counts (with_row false rows c) more key
    ∙ (ap (λ w. later_word w (said key more)) (set_said key rows c) ∙ later_assoc (said key rows) (said_by key c) (said key more))

-- a word is heard as the value that it sets
pub heard_word : (had value : Option Tree) → heard had (word_of value) ≡ value
heard_word had None = refl
heard_word had (Some v) = refl
