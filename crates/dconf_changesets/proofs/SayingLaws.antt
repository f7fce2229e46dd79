-- What nobody is told of is so already.
use Rattle.std.specs.Prelude.{◌≡◌, ◌⊎◌, ℕ, Bool, true, false, not, ◌&&◌, ◌||◌, if◌then◌else◌, List, [], ◌∷◌, ◌++◌, drop, length, Option, Some, None, refl}
use Rattle.std.proofs.Common.{inl, inr, sym, ap, ◌∙◌, subst}
use Rattle.std.specs.List.{AllByRecursion}
use Rattle.gv_model.specs.Tree.{Tree}
use Rattle.dconf_model.proofs.ParentLaws.{by_bool}
use Rattle.dconf_model.specs.Locks.{covers, is_below}
use Rattle.dconf_model.specs.Paths.{ends_with_slash}
use Rattle.dconf_model.specs.Stores.{Saying, heard}
use Rattle.dconf_model.specs.Stores.Saying.{silent, unset, sets}
use Rattle.dconf_changesets.specs.Differences.{Values}
use Rattle.dconf_changesets.specs.Rows.{IsRow, Row, later_word, said, said_by, word_of}
use Rattle.dconf_changesets.specs.Saying.{StoredCountsInSilence, TheSameIsSaid, is_said, is_silence, said_by_sets}
use Rattle.dconf_changesets.proofs.WordLaws.{below_cut, below_from, covers_directory, covers_how, covers_twice, heard_word, over_by_word, said_apart, said_covered}

-- ---- two paths that cover a third

-- one begins the other
begins : (p r x y : List ℕ) → p ++ x ≡ r ++ y → ((t : List ℕ) × (r ≡ p ++ t)) ⊎ ((t : List ℕ) × (p ≡ r ++ t))
begins [] r x y e = inl (r, refl)
begins (a ∷ p) [] x y e = inr (a ∷ p, refl)
begins (a ∷ p) (b ∷ r) x y e =
    let head : a ≡ b = cc in
    let tail : p ++ x ≡ r ++ y = cc in
    elim (begins p r x y tail) [
      | inl t ↦ inl (t.0, let same : r ≡ p ++ t.0 = t.1 in rw (sym head) (ap (λ (l : List ℕ). a ∷ l) same))
      | inr t ↦ inr (t.0, let same : p ≡ r ++ t.0 = t.1 in rw head (ap (λ (l : List ℕ). b ∷ l) same))
    ]

both_of : (p r key : List ℕ) → ends_with_slash p ≡ true → ends_with_slash r ≡ true → is_below key p ≡ true → is_below key r ≡ true →
    covers r p ≡ false → covers p r ≡ true
both_of p r key d e h k apart =
    elim (begins p r (drop (length p) key) (drop (length r) key) (sym (below_cut key p h) ∙ below_cut key r k)) [
      | inl t ↦ covers_directory p r d (below_from r p t.0 t.1)
      | inr t ↦ absurd (let bad : true ≡ false = sym (covers_directory r p e (below_from p r t.0 t.1)) ∙ apart in cc)
    ]

-- a row that covers a key in a directory, and not the directory, is in that
is_in : (p r key : List ℕ) → ends_with_slash p ≡ true → covers p key ≡ true → covers r key ≡ true → covers r p ≡ false → covers p r ≡ true
is_in p r key d h k apart = elim (covers_how r key k) [
  | inl same ↦ subst (λ (x : List ℕ). covers p x ≡ true) (sym same) h
  | inr upper ↦ elim (covers_how p key h) [
    | inl same ↦ absurd (let bad : true ≡ false = sym k ∙ subst (λ (x : List ℕ). covers r x ≡ false) same apart in cc)
    | inr lower ↦ both_of p r key d upper.0 lower.1 upper.1 apart
  ]
]

-- ---- the words of a directory and of a key in it

-- what is said of the key, if no key in the directory is set
abbrev Follows : Saying → Saying → Type 0
Follows silent w = (w ≡ silent) ⊎ (w ≡ unset)
Follows unset w = w ≡ unset
Follows (sets v) w = Unit {0}

by_word : (value : Option Tree) → Follows (word_of value) (word_of value)
by_word None = refl
by_word (Some v) = tt

to_unset : (w : Saying) → Follows w unset
to_unset silent = inr refl
to_unset unset = refl
to_unset (sets v) = tt

later_follows : (a b c d : Saying) → Follows a c → Follows b d → Follows (later_word a b) (later_word c d)
later_follows a silent c d h k = elim k [
  | inl e ↦ rw e h
  | inr e ↦ rw e (to_unset a)
]
later_follows a unset c d h k = let e : d ≡ unset = k in rw e refl
later_follows a (sets v) c d h k = tt

one_follows : (p key : List ℕ) (r : Row) → ends_with_slash p ≡ true → covers p key ≡ true → (covers p r.path ≡ true → r.value ≡ None) →
    Follows (said_by p r) (said_by key r)
one_follows p key r d over below = by_bool (covers r.path p) (Follows (said_by p r) (said_by key r))
    (λ is. let both : covers r.path key ≡ true = covers_twice r.path p key is over in
    rw (said_covered p r is, said_covered key r both) (by_word r.value))
    (λ isnt. rw (said_apart p r isnt) (by_bool (covers r.path key) ((said_by key r ≡ silent) ⊎ (said_by key r ≡ unset))
    (λ is. let gone : r.value ≡ None = below (is_in p r.path key d over is isnt) in
    inr (said_covered key r is ∙ ap word_of gone))
    (λ apart. inl (said_apart key r apart))))

follows : (p key : List ℕ) (rows : List Row) → ends_with_slash p ≡ true → covers p key ≡ true →
    AllByRecursion (λ (r : Row). covers p r.path ≡ true → r.value ≡ None) rows → Follows (said p rows) (said key rows)
follows p key [] d over all = inl refl
follows p key (r ∷ rows) d over all =
    later_follows (said_by p r) (said p rows) (said_by key r) (said key rows) (one_follows p key r d over all.0) (follows p key rows d over all.1)

-- ---- the law

own_key : (p key : List ℕ) → ends_with_slash p ≡ false → covers p key ≡ true → p ≡ key
own_key p key d over = elim (covers_how p key over) [
  | inl same ↦ same
  | inr below ↦ absurd (let bad : true ≡ false = sym below.0 ∙ d in cc)
]

-- the set says what the change says
says_so : (values : Values) (row : Row) (rows : List Row) (w : Saying) (key : List ℕ) → IsRow row →
    (ends_with_slash row.path ≡ true → AllByRecursion (λ (r : Row). covers row.path r.path ≡ true → r.value ≡ None) rows) →
    said row.path rows ≡ word_of row.value → covers row.path key ≡ true → heard (values key) (later_word w (said key rows)) ≡ row.value
says_so values row rows w key is below same over = by_bool (ends_with_slash row.path) (heard (values key) (later_word w (said key rows)) ≡ row.value)
    (λ d. let gone : row.value ≡ None = is d in
    let word : said key rows ≡ unset = subst (λ (x : Saying). Follows x (said key rows)) (same ∙ ap word_of gone) (follows row.path key rows d over (below d)) in
    rw (word, gone) refl)
    (λ d. let own : row.path ≡ key = own_key row.path key d over in
    let word : said key rows ≡ word_of row.value = subst (λ (x : List ℕ). said x rows ≡ word_of row.value) own same in
    rw word (ap (heard (values key)) (over_by_word w row.value) ∙ heard_word (values key) row.value))

-- the set says nothing of it
passes : (values : Values) (row : Row) (rows : List Row) (w : Saying) (key : List ℕ) → IsRow row →
    (ends_with_slash row.path ≡ true → AllByRecursion (λ (r : Row). covers row.path r.path ≡ true → r.value ≡ None) rows) →
    said row.path rows ≡ silent → covers row.path key ≡ true → heard (values key) w ≡ row.value → heard (values key) (later_word w (said key rows)) ≡ row.value
passes values row rows w key is below none over older = by_bool (ends_with_slash row.path) (heard (values key) (later_word w (said key rows)) ≡ row.value)
    (λ d. let gone : row.value ≡ None = is d in
    elim (subst (λ (x : Saying). Follows x (said key rows)) none (follows row.path key rows d over (below d))) [
      | inl word ↦ rw word older
      | inr word ↦ rw (word, gone) refl
    ])
    (λ d. let own : row.path ≡ key = own_key row.path key d over in
    let word : said key rows ≡ silent = subst (λ (x : List ℕ). said x rows ≡ silent) own none in
    rw word older)

-- what is said of the newest set, and of all
by_newest : (below says same rest : Bool) → (if below || says then not below && same else rest) ≡ true →
    (below ≡ false) × (((says ≡ true) × (same ≡ true)) ⊎ ((says ≡ false) × (rest ≡ true)))
by_newest true says same rest e = absurd (let bad : false ≡ true = e in cc)
by_newest false true same rest e = (refl, inl (refl, e))
by_newest false false same rest e = (refl, inr (refl, e))

pub the_same_is_said : TheSameIsSaid
the_same_is_said values row [] [] stored key is are st e over = st e key over
the_same_is_said values row [] (rows ∷ more) stored key is are st e over = absurd are
the_same_is_said values row (set ∷ older) [] stored key is are st e over = absurd are
the_same_is_said values row (set ∷ older) (rows ∷ more) stored key is are st e over =
    let newest = by_newest set.has_below set.says set.is_same (is_said older stored) e in
    elim newest.1 [
      | inl word ↦ says_so values row rows (said_by_sets key more) key is (are.0.below newest.0) (are.0.same word.0 word.1) over
      | inr quiet ↦ passes values row rows (said_by_sets key more) key is (are.0.below newest.0) (are.0.silence quiet.0) over
          (the_same_is_said values row older more stored key is are.1.1 st quiet.1 over)
    ]

-- ---- what the store has

spared_by : (says same one other : Bool) (rest : Bool) → (rest ≡ false → one ≡ other) → (not says && rest) ≡ false → (if says then same else one) ≡ (if says then same else other)
spared_by true same one other rest h e = refl
spared_by false same one other rest h e = h e

pub stored_counts_in_silence : StoredCountsInSilence
stored_counts_in_silence [] stored other e = absurd (let bad : true ≡ false = e in cc)
stored_counts_in_silence (set ∷ older) stored other e =
    spared_by (set.has_below || set.says) (not set.has_below && set.is_same) (is_said older stored) (is_said older other) (is_silence older)
    (stored_counts_in_silence older stored other) e
