-- What is kept of changes to a database is enough.
use Rattle.std.specs.Prelude.{◌≡◌, ℕ, Bool, true, false, not, ◌&&◌, ◌||◌, if◌then◌else◌, List, [], ◌∷◌, ◌++◌, Option, Some, None, is_some, refl}
use Rattle.std.proofs.Common.{inl, inr, sym, ap, ◌∙◌, subst}
use Rattle.std.specs.List.{AllByRecursion, list_any}
use Rattle.std.specs.Str.{bytes_eq}
use Rattle.gv_model.specs.Tree.{Tree}
use Rattle.dconf_model.proofs.ParentLaws.{by_bool}
use Rattle.dconf_model.proofs.SameBytes.{same_path}
use Rattle.dconf_model.specs.Locks.{covers}
use Rattle.dconf_model.specs.Paths.{ends_with_slash}
use Rattle.dconf_model.specs.Stores.{Saying, heard}
use Rattle.dconf_model.specs.Stores.Saying.{silent, unset, sets}
use Rattle.dconf_changesets.specs.declared.differences.Base.{Base}
use Rattle.dconf_changesets.specs.Differences.{AreInOrder, AreKept, IsKnown, KeptIsEnough, Values, differs}
use Rattle.dconf_changesets.specs.Rows.{IsRow, Row, later_word, said, said_by, word_of}
use Rattle.dconf_changesets.proofs.FoundLaws.{append_all, upper_is_unset}
use Rattle.dconf_changesets.proofs.WordLaws.{after_silent, covers_how, heard_word, later_assoc, over_by_word, said_append, said_apart, said_covered}

-- ---- rows of which none is the key's own

abbrev ApartFrom : List ℕ → Row → Type 0
ApartFrom key row = bytes_eq row.path key ≡ false

-- they say that it is reset, or nothing
one_upper : (key : List ℕ) (r : Row) (rows : List Row) → IsRow r → ApartFrom key r →
    said key rows ≡ (if list_any (λ (r : Row). covers r.path key) rows then unset else silent) →
    (over any : Bool) → covers r.path key ≡ over → list_any (λ (r : Row). covers r.path key) rows ≡ any →
    later_word (said_by key r) (said key rows) ≡ (if (covers r.path key || list_any (λ (r : Row). covers r.path key) rows) then unset else silent)
one_upper key r rows is apart rest true true o a = let word : said key rows ≡ unset = rest ∙ rw a refl in rw (word, o) refl
one_upper key r rows is apart rest true false o a =
    let word : said key rows ≡ silent = rest ∙ rw a refl in
    let value : r.value ≡ None = upper_is_unset key r is apart o in
    rw (word, o, value) refl
one_upper key r rows is apart rest false true o a = let word : said key rows ≡ unset = rest ∙ rw a refl in rw (word, o, a) refl
one_upper key r rows is apart rest false false o a = let word : said key rows ≡ silent = rest ∙ rw a refl in rw (word, o, a) refl

uppers_say : (key : List ℕ) (rows : List Row) → AllByRecursion IsRow rows → AllByRecursion (ApartFrom key) rows →
    said key rows ≡ (if list_any (λ (r : Row). covers r.path key) rows then unset else silent)
uppers_say key [] all apart = refl
uppers_say key (r ∷ rows) all apart =
    one_upper key r rows all.0 apart.0 (uppers_say key rows all.1 apart.1) (covers r.path key) (list_any (λ (r : Row). covers r.path key) rows) refl refl

nothing_after : (any : Bool) → heard None (if any then unset else silent) ≡ None
nothing_after true = refl
nothing_after false = refl

-- ---- a row that makes no difference

no_true : (b : Bool) → b ≡ true → b ≡ false → ⊥
no_true b t f = let bad : true ≡ false = sym t ∙ f in cc

none_of : (had : Option Tree) → false ≡ is_some had → had ≡ None
none_of None e = refl
none_of (Some v) e = absurd (let bad : false ≡ true = e in cc)

-- no row that was kept is the key's own
not_own : (row : Row) (key : List ℕ) (rows : List Row) → covers row.path key ≡ true → AllByRecursion (λ (r : Row). covers row.path r.path ≡ false) rows →
    AllByRecursion (ApartFrom key) rows
not_own row key [] over all = tt
not_own row key (r ∷ rows) over all = (
  by_bool (bytes_eq r.path key) (bytes_eq r.path key ≡ false)
      (λ e. absurd (no_true (covers row.path key) over (subst (λ (x : List ℕ). covers row.path x ≡ false) (same_path r.path key e) all.0))) (λ e. e),
  not_own row key rows over all.1,
)

-- a key of which the change says what is there
as_before : (value had : Option Tree) (has reset same : Bool) → has ≡ is_some had → (same ≡ true → had ≡ value) →
    (if is_some value then not ((has && not reset) && same) else has && not reset) ≡ false → heard had (if reset then unset else silent) ≡ value
as_before (Some v) had true true same h s e = absurd (let bad : true ≡ false = e in cc)
as_before (Some v) had false true same h s e = absurd (let bad : true ≡ false = e in cc)
as_before (Some v) had false false same h s e = absurd (let bad : true ≡ false = e in cc)
as_before (Some v) had true false false h s e = absurd (let bad : true ≡ false = e in cc)
as_before (Some v) had true false true h s e = s refl
as_before None had true true same h s e = refl
as_before None had false true same h s e = refl
as_before None had true false same h s e = absurd (let bad : true ≡ false = e in cc)
as_before None had false false same h s e = none_of had h

directory_differs : (path : List ℕ) (set : Bool) (base : Base) → ends_with_slash path ≡ true → differs path set base ≡ base.has_below
directory_differs path set base is = rw is refl

key_differs : (path : List ℕ) (set : Bool) (base : Base) → ends_with_slash path ≡ false →
    differs path set base ≡ (if set then not ((base.has && not base.is_reset) && base.is_same) else base.has && not base.is_reset)
key_differs path set base is = rw is refl

dropped : (values : Values) (kept : List Row) (row : Row) (base : Base) → IsKnown values kept row base → IsRow row → AllByRecursion IsRow kept →
    AllByRecursion (λ (r : Row). covers row.path r.path ≡ false) kept → differs row.path (is_some row.value) base ≡ false →
    (key : List ℕ) → covers row.path key ≡ true → heard (values key) (said key kept) ≡ row.value
dropped values kept row base known is all apart same key over = by_bool (ends_with_slash row.path) (heard (values key) (said key kept) ≡ row.value)
    (λ d. let below : base.has_below ≡ false = sym (directory_differs row.path (is_some row.value) base d) ∙ same in
    let none : values key ≡ None = known.below below key over in
    let gone : row.value ≡ None = is d in
    rw (none, before, gone) (nothing_after (list_any (λ (r : Row). covers r.path key) kept)))
    (λ d. elim (covers_how row.path key over) [
      | inl own ↦ subst (λ (x : List ℕ). heard (values x) (said x kept) ≡ row.value) own (at_own d (subst (λ (x : List ℕ). said x kept ≡ (if list_any (λ (r : Row). covers r.path x) kept then unset else silent)) (sym own) before))
      | inr below ↦ absurd (no_true (ends_with_slash row.path) below.0 d)
    ])
  where
    before : said key kept ≡ (if list_any (λ (r : Row). covers r.path key) kept then unset else silent)
    before = uppers_say key kept all (not_own row key kept over apart)

    at_own : ends_with_slash row.path ≡ false → said row.path kept ≡ (if list_any (λ (r : Row). covers r.path row.path) kept then unset else silent) → heard (values row.path) (said row.path kept) ≡ row.value
    at_own d own = rw (own, sym known.reset)
        (as_before row.value (values row.path) base.has base.is_reset base.is_same known.has known.same (sym (key_differs row.path (is_some row.value) base d) ∙ same))

-- ---- all rows

step : (had : Option Tree) (a b m : Saying) → heard had a ≡ heard had (later_word a b) → heard had (later_word a m) ≡ heard had (later_word a (later_word b m))
step had a b silent e = e
step had a b unset e = refl
step had a b (sets v) e = refl

with_own : (kept : List Row) (row : Row) (more : List Row) → AllByRecursion (λ (later : Row). AllByRecursion (λ (r : Row). covers later.path r.path ≡ false) kept) more →
    AllByRecursion (λ (later : Row). covers later.path row.path ≡ false) more →
    AllByRecursion (λ (later : Row). AllByRecursion (λ (r : Row). covers later.path r.path ≡ false) (kept ++ row ∷ [])) more
with_own kept row [] before own = tt
with_own kept row (later ∷ more) before own =
    (append_all (λ (r : Row). covers later.path r.path ≡ false) kept (row ∷ []) before.0 (own.0, tt), with_own kept row more before.1 own.1)

-- one row, once it is known what is said with those behind it
kept_one : (values : Values) (kept : List Row) (row : Row) (more found : List Row) (key : List ℕ) →
    heard (values key) (said key found) ≡ heard (values key) (later_word (said key (kept ++ row ∷ [])) (said key more)) →
    heard (values key) (said key found) ≡ heard (values key) (later_word (said key kept) (said key (row ∷ more)))
kept_one values kept row more found key e =
    e ∙ (ap (λ w. heard (values key) (later_word w (said key more))) (said_append key kept (row ∷ []))
    ∙ ap (heard (values key)) (later_assoc (said key kept) (said_by key row) (said key more)))

alike : (values : Values) (kept : List Row) (row : Row) (base : Base) → IsKnown values kept row base → IsRow row → AllByRecursion IsRow kept →
    AllByRecursion (λ (r : Row). covers row.path r.path ≡ false) kept → differs row.path (is_some row.value) base ≡ false →
    (key : List ℕ) → heard (values key) (said key kept) ≡ heard (values key) (later_word (said key kept) (said_by key row))
alike values kept row base known is all apart same key =
    by_bool (covers row.path key) (heard (values key) (said key kept) ≡ heard (values key) (later_word (said key kept) (said_by key row)))
    (λ over. let word : said_by key row ≡ word_of row.value = said_covered key row over in
    dropped values kept row base known is all apart same key over
    ∙ sym (ap (λ w. heard (values key) (later_word (said key kept) w)) word ∙ (ap (heard (values key)) (over_by_word (said key kept) row.value) ∙ heard_word (values key) row.value)))
    (λ over. let quiet : said_by key row ≡ silent = said_apart key row over in rw quiet refl)

enough : (values : Values) (kept rows found : List Row) (key : List ℕ) → AllByRecursion IsRow kept →
    AllByRecursion (λ (later : Row). AllByRecursion (λ (r : Row). covers later.path r.path ≡ false) kept) rows → AreInOrder rows → AllByRecursion IsRow rows →
    AreKept values kept rows found → heard (values key) (said key found) ≡ heard (values key) (later_word (said key kept) (said key rows))
enough values kept [] found key all before order are k = ap (λ (x : List Row). heard (values key) (said key x)) k
enough values kept (row ∷ more) found key all before order are k =
    by_bool (differs row.path (is_some row.value) k.0) (heard (values key) (said key found) ≡ heard (values key) (later_word (said key kept) (said key (row ∷ more))))
    (λ is. let next : AreKept values (kept ++ row ∷ []) more found = subst (λ (b : Bool). AreKept values (if b then kept ++ row ∷ [] else kept) more found) is k.2 in
    kept_one values kept row more found key
    (enough values (kept ++ row ∷ []) more found key (append_all IsRow kept (row ∷ []) all (are.0, tt)) (with_own kept row more before.1 order.0) order.1 are.1 next))
    (λ no. let next : AreKept values kept more found = subst (λ (b : Bool). AreKept values (if b then kept ++ row ∷ [] else kept) more found) no k.2 in
    enough values kept more found key all before.1 order.1 are.1 next
    ∙ step (values key) (said key kept) (said_by key row) (said key more) (alike values kept row k.0 k.1 are.0 all before.0 no key))

-- ---- the law

nothing_before : (rows : List Row) → AllByRecursion (λ (later : Row). AllByRecursion (λ (r : Row). covers later.path r.path ≡ false) []) rows
nothing_before [] = tt
nothing_before (row ∷ rows) = (tt, nothing_before rows)

pub kept_is_enough : KeptIsEnough
kept_is_enough values rows found key order are kept =
    enough values [] rows found key tt (nothing_before rows) order are kept ∙ ap (heard (values key)) (after_silent (said key rows))
