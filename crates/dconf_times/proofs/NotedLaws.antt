-- What is kept of notes when more are added.
use Rattle.std.specs.Prelude.{◌≡◌, ◌⊎◌, ◌≤◌, ◌<◌, ◌+◌, ℕ, zero, suc, Bool, true, false, List, [], ◌∷◌, ◌++◌, length, Some, refl, nat_le, nat_lt, ◌&&◌, ◌||◌, ◌==◌, IsTrue, if◌then◌else◌, set, slice_get}
use Rattle.std.proofs.Common.{inl, inr, sym, ap, ◌∙◌, subst, arith}
use Rattle.std.specs.List.{list_any, list_all, filter}
use Rattle.std.specs.Str.{bytes_eq}
use Rattle.std.proofs.lemmas.Bool.{and_from, and_parts, or_cases, leb-true, le-leb, ltb-true, ltb-false, eqb-true, eq-eqb, or_left, or_right}
use Rattle.std.proofs.lemmas.List.{length-set, length_push}
use Rattle.std.proofs.lemmas.List.Folds.{list_any-append}
use Rattle.std.proofs.lemmas.Option.{none-some, same_Some}
use Rattle.dconf_model.proofs.ParentLaws.{by_bool}
use Rattle.dconf_model.proofs.PathMaps.{no_truth}
use Rattle.dconf_model.proofs.SameBytes.{itself, path_itself, same_path}
use Rattle.dconf_times.specs.Noted.{AreAdded, AreNoted, IsAdded, IsKept, IsOldest, IsPut, is_among, is_as_late, is_note, is_said_by}
use Rattle.dconf_times.specs.Times.{Note, is_known}

-- ---- tests of lists of which one element is put anew

module _ (f : Note → Bool) where
  any_put : (ns : List Note) (i : ℕ) (x y : Note) → slice_get ns i ≡ Some y → (f y ≡ true → f x ≡ true) → list_any f ns ≡ true → list_any f (set ns i x) ≡ true
  any_put [] i x y at so any = absurd (no_truth any)
  any_put (n ∷ ns) zero x y at so any = elim (or_cases (f n) (list_any f ns) any) [
    | inl here ↦ or_left (f x) (list_any f ns) (so (ap f (same_Some y n (sym at)) ∙ here))
    | inr there ↦ or_right (f x) (list_any f ns) there
  ]
  any_put (n ∷ ns) (suc i) x y at so any = elim (or_cases (f n) (list_any f ns) any) [
    | inl here ↦ or_left (f n) (list_any f (set ns i x)) here
    | inr there ↦ or_right (f n) (list_any f (set ns i x)) (any_put ns i x y at so there)
  ]

  all_put : (ns : List Note) (i : ℕ) (x : Note) → f x ≡ true → list_all f ns ≡ true → list_all f (set ns i x) ≡ true
  all_put [] i x new all = refl
  all_put (n ∷ ns) zero x new all = and_from (f x) (list_all f ns) new (and_parts (f n) (list_all f ns) all).1
  all_put (n ∷ ns) (suc i) x new all =
      let parts = and_parts (f n) (list_all f ns) all in
      and_from (f n) (list_all f (set ns i x)) parts.0 (all_put ns i x new parts.1)

  from_put : (ns : List Note) (i : ℕ) (x : Note) → list_any f (set ns i x) ≡ true → IsTrue (list_any f ns) ⊎ IsTrue (f x)
  from_put [] i x any = inl any
  from_put (n ∷ ns) zero x any = elim (or_cases (f x) (list_any f ns) any) [
    | inl here ↦ inr here
    | inr there ↦ inl (or_right (f n) (list_any f ns) there)
  ]
  from_put (n ∷ ns) (suc i) x any = elim (or_cases (f n) (list_any f (set ns i x)) any) [
    | inl here ↦ inl (or_left (f n) (list_any f ns) here)
    | inr there ↦ elim (from_put ns i x there) [
      | inl old ↦ inl (or_right (f n) (list_any f ns) old)
      | inr new ↦ inr new
    ]
  ]

  put_there : (ns : List Note) (i : ℕ) (x y : Note) → slice_get ns i ≡ Some y → f x ≡ true → list_any f (set ns i x) ≡ true
  put_there [] i x y at new = absurd (none-some y at)
  put_there (n ∷ ns) zero x y at new = or_left (f x) (list_any f ns) new
  put_there (n ∷ ns) (suc i) x y at new = or_right (f n) (list_any f (set ns i x)) (put_there ns i x y at new)

  any_at : (ns : List Note) (i : ℕ) (y : Note) → slice_get ns i ≡ Some y → f y ≡ true → list_any f ns ≡ true
  any_at [] i y at is = absurd (none-some y at)
  any_at (n ∷ ns) zero y at is = or_left (f n) (list_any f ns) (sym (ap f (same_Some y n (sym at))) ∙ is)
  any_at (n ∷ ns) (suc i) y at is = or_right (f n) (list_any f ns) (any_at ns i y at is)

  all_at : (ns : List Note) (i : ℕ) (y : Note) → slice_get ns i ≡ Some y → list_all f ns ≡ true → f y ≡ true
  all_at [] i y at all = absurd (none-some y at)
  all_at (n ∷ ns) zero y at all = ap f (same_Some y n (sym at)) ∙ (and_parts (f n) (list_all f ns) all).0
  all_at (n ∷ ns) (suc i) y at all = all_at ns i y at (and_parts (f n) (list_all f ns) all).1

  any_pushed : (ns : List Note) (x : Note) → f x ≡ true → list_any f (ns ++ x ∷ []) ≡ true
  any_pushed [] x is = or_left (f x) false is
  any_pushed (n ∷ ns) x is = or_right (f n) (list_any f (ns ++ x ∷ [])) (any_pushed ns x is)

  any_before : (ns : List Note) (x : Note) → list_any f ns ≡ true → list_any f (ns ++ x ∷ []) ≡ true
  any_before [] x any = absurd (no_truth any)
  any_before (n ∷ ns) x any = elim (or_cases (f n) (list_any f ns) any) [
    | inl here ↦ or_left (f n) (list_any f (ns ++ x ∷ [])) here
    | inr there ↦ or_right (f n) (list_any f (ns ++ x ∷ [])) (any_before ns x there)
  ]

  from_pushed : (ns : List Note) (x : Note) → list_any f (ns ++ x ∷ []) ≡ true → IsTrue (list_any f ns) ⊎ IsTrue (f x)
  from_pushed [] x any = elim (or_cases (f x) false any) [
    | inl here ↦ inr here
    | inr there ↦ absurd (no_truth there)
  ]
  from_pushed (n ∷ ns) x any = elim (or_cases (f n) (list_any f (ns ++ x ∷ [])) any) [
    | inl here ↦ inl (or_left (f n) (list_any f ns) here)
    | inr there ↦ elim (from_pushed ns x there) [
      | inl old ↦ inl (or_right (f n) (list_any f ns) old)
      | inr new ↦ inr new
    ]
  ]

-- ---- notes that say each other

pub said : (n x : Note) → n.path ≡ x.path → n.when ≤ x.when → is_said_by n x ≡ true
said n x path when = and_from (bytes_eq n.path x.path) (nat_le n.when x.when) (path_itself n.path x.path path) (le-leb n.when x.when when)

pub said_path : (n x : Note) → is_said_by n x ≡ true → n.path ≡ x.path
said_path n x is = same_path n.path x.path (and_parts (bytes_eq n.path x.path) (nat_le n.when x.when) is).0

pub said_when : (n x : Note) → is_said_by n x ≡ true → n.when ≤ x.when
said_when n x is = leb-true n.when x.when (and_parts (bytes_eq n.path x.path) (nat_le n.when x.when) is).1

pub one_note : (n x : Note) → is_note n x ≡ true → n ≡ x
one_note n x is =
    let parts = and_parts (bytes_eq n.path x.path) (n.when == x.when && n.value == x.value) is in
    let numbers = and_parts (n.when == x.when) (n.value == x.value) parts.1 in
    let path : n.path ≡ x.path = same_path n.path x.path parts.0 in
    let when : n.when ≡ x.when = eqb-true n.when x.when numbers.0 in
    let value : n.value ≡ x.value = eqb-true n.value x.value numbers.1 in
    ap (λ (p : List ℕ). let note : Note = record { path = p; when = n.when; value = n.value } in note) path
    ∙ ap (λ (w : ℕ). let note : Note = record { path = x.path; when = w; value = n.value } in note) when
    ∙ ap (λ (v : ℕ). let note : Note = record { path = x.path; when = x.when; value = v } in note) value

pub note_itself : (n : Note) → is_note n n ≡ true
note_itself n =
    and_from (bytes_eq n.path n.path) (n.when == n.when && n.value == n.value) (itself n.path)
    (and_from (n.when == n.when) (n.value == n.value) (eq-eqb n.when n.when refl) (eq-eqb n.value n.value refl))

-- what says a note is said by what is later
said_later : (n y x : Note) → y.path ≡ x.path → y.when ≤ x.when → is_said_by n y ≡ true → is_said_by n x ≡ true
said_later n y x path when is =
    let before : n.when ≤ y.when = said_when n y is in
    said n x (said_path n y is ∙ path) (omega arith)

all_later : (n x : Note) (ns : List Note) → n.when ≤ x.when → list_all (is_as_late x) ns ≡ true → list_all (is_as_late n) ns ≡ true
all_later n x [] when all = refl
all_later n x (y ∷ ns) when all =
    let parts = and_parts (nat_le x.when y.when) (list_all (is_as_late x) ns) all in
    let here : x.when ≤ y.when = leb-true x.when y.when parts.0 in
    and_from (nat_le n.when y.when) (list_all (is_as_late n) ns) (le-leb n.when y.when (omega arith)) (all_later n x ns when parts.1)

-- ---- one that is put

module _ (most : ℕ) (n : Note) (at : ℕ) (old : List Note) (other : Note) (was : slice_get old at ≡ Some other) where
  -- in the place of an older one of its path
  put_same : other.path ≡ n.path → other.when ≤ n.when → IsAdded most n old (set old at n)
  put_same path when = record {
    few = λ h. subst (λ (k : ℕ). k ≤ most) (sym (length-set old at n)) h;
    from = λ m any. from_put (is_note m) old at n any;
    carries = λ m kept. elim kept [
      | inl any ↦ inl (any_put (is_said_by m) old at n other was (said_later m other n path when) any)
      | inr full ↦
          let late : m.when ≤ other.when = leb-true m.when other.when (all_at (is_as_late m) old at other was full.1) in
          inr (subst (λ (k : ℕ). most ≤ k) (sym (length-set old at n)) full.0, all_put (is_as_late m) old at n (le-leb m.when n.when (omega arith)) full.1)
    ];
    has = inl (put_there (is_said_by n) old at n other was (said n n refl (omega arith)));
  }

  -- in the place of the oldest, where there are as many as may be
  put_oldest : most ≤ length old → list_all (is_as_late other) old ≡ true → other.when ≤ n.when → IsAdded most n old (set old at n)
  put_oldest full all when =
      let full_now : most ≤ length (set old at n) = subst (λ (k : ℕ). most ≤ k) (sym (length-set old at n)) full in
      let later : list_all (is_as_late other) (set old at n) ≡ true = all_put (is_as_late other) old at n (le-leb other.when n.when when) all in
      record {
        few = λ h. subst (λ (k : ℕ). k ≤ most) (sym (length-set old at n)) h;
        from = λ m any. from_put (is_note m) old at n any;
        carries = λ m kept. elim kept [
          | inl any ↦ by_bool (is_said_by m other) (IsKept most (set old at n) m)
              (λ is. inr (full_now, all_later m other (set old at n) (said_when m other is) later))
              (λ not_so. inl (any_put (is_said_by m) old at n other was (λ is. absurd (no_truth (sym not_so ∙ is))) any))
          | inr was_full ↦
              let late : m.when ≤ other.when = leb-true m.when other.when (all_at (is_as_late m) old at other was was_full.1) in
              inr (full_now, all_put (is_as_late m) old at n (le-leb m.when n.when (omega arith)) was_full.1)
        ];
        has = inl (put_there (is_said_by n) old at n other was (said n n refl (omega arith)));
      }

-- nothing changes where the note is kept
pub stays : (most : ℕ) (n : Note) (old : List Note) → IsKept most old n → IsAdded most n old old
stays most n old has = record {
  few = λ h. h;
  from = λ m any. inl any;
  carries = λ m kept. kept;
  has = has;
}

module _ (most : ℕ) (n : Note) (at : ℕ) (old new : List Note) (put : IsPut n at old new) where
  module _ (P : Type 0) (earlier : put.other.when < n.when → new ≡ set old at n → P) (no_earlier : n.when ≤ put.other.when → new ≡ old → P) where
    by_put : P
    by_put = by_bool (nat_lt put.other.when n.when) P
        (λ is. earlier (ltb-true put.other.when n.when is) (put.put ∙ ap (λ b. if b then set old at n else old) is))
        (λ not_so. no_earlier (ltb-false put.other.when n.when not_so) (put.put ∙ ap (λ b. if b then set old at n else old) not_so))

  pub same_put : put.other.path ≡ n.path → IsAdded most n old new
  same_put path = by_put (IsAdded most n old new)
      (λ before is. subst (λ (ns : List Note). IsAdded most n old ns) (sym is) (put_same most n at old put.other put.was path (omega arith)))
      (λ after is. subst (λ (ns : List Note). IsAdded most n old ns) (sym is)
      (stays most n old (inl (any_at (is_said_by n) old at put.other put.was (said n put.other (sym path) after)))))

  pub oldest_put : most ≤ length old → list_all (is_as_late put.other) old ≡ true → IsAdded most n old new
  oldest_put full all = by_put (IsAdded most n old new)
      (λ before is. subst (λ (ns : List Note). IsAdded most n old ns) (sym is) (put_oldest most n at old put.other put.was full all (omega arith)))
      (λ after is. subst (λ (ns : List Note). IsAdded most n old ns) (sym is)
      (stays most n old (inr (full, all_later n put.other old after all))))

-- in the place of the oldest
pub put_in_oldest : (most : ℕ) (n : Note) (at : ℕ) (old new : List Note) → IsPut n at old new → IsOldest at old → most ≤ length old → IsAdded most n old new
put_in_oldest most n at old new put oldest full =
    let same : oldest.oldest ≡ put.other = same_Some oldest.oldest put.other (sym oldest.is_at ∙ put.was) in
    oldest_put most n at old new put full (subst (λ (x : Note). list_all (is_as_late x) old ≡ true) same oldest.all)

pub pushed : (most : ℕ) (n : Note) (old : List Note) → length old < most → IsAdded most n old (old ++ n ∷ [])
pushed most n old room = record {
  few = λ h. let len : length (old ++ n ∷ []) ≡ length old + 1 = length_push old n in omega arith;
  from = λ m any. from_pushed (is_note m) old n any;
  carries = λ m kept. elim kept [
    | inl any ↦ inl (any_before (is_said_by m) old n any)
    | inr full ↦ let bad : ⊥ = omega (arith, full.0) in absurd bad
  ];
  has = inl (any_pushed (is_said_by n) old n (said n n refl (omega arith)));
}

-- ---- one after another

pub nothing_added : (now most : ℕ) (old : List Note) → AreAdded now most [] old old
nothing_added now most old = record {
  few = λ h. h;
  from = λ n any. inl any;
  carries = λ n kept. kept;
  has = λ n none known. absurd (no_truth none);
}

module _ (now most : ℕ) (x : Note) (more old : List Note) where
  pub first_added : (mid new : List Note) → x.when ≤ now → IsAdded most x old mid → AreAdded now most more mid new → AreAdded now most (x ∷ more) old new
  first_added mid new known one rest = record {
    few = λ h. rest.few (one.few h);
    from = λ n any. elim (rest.from n any) [
      | inl in_mid ↦ elim (one.from n in_mid) [
        | inl before ↦ inl before
        | inr is ↦ inr (or_left (is_note n x) (is_among n more) is, subst (λ (m : Note). m.when ≤ now) (sym (one_note n x is)) known)
      ]
      | inr given ↦ inr (or_right (is_note n x) (is_among n more) given.0, given.1)
    ];
    carries = λ n kept. rest.carries n (one.carries n kept);
    has = λ n any is_known. elim (or_cases (is_note n x) (is_among n more) any) [
      | inl is ↦ rest.carries n (subst (λ (m : Note). IsKept most mid m) (sym (one_note n x is)) one.has)
      | inr there ↦ rest.has n there is_known
    ];
  }

  pub first_unknown : (new : List Note) → now < x.when → AreAdded now most more old new → AreAdded now most (x ∷ more) old new
  first_unknown new unknown rest = record {
    few = rest.few;
    from = λ n any. elim (rest.from n any) [
      | inl before ↦ inl before
      | inr given ↦ inr (or_right (is_note n x) (is_among n more) given.0, given.1)
    ];
    carries = rest.carries;
    has = λ n any known. elim (or_cases (is_note n x) (is_among n more) any) [
      | inl is ↦ let same : n.when ≡ x.when = ap (λ (m : Note). m.when) (one_note n x is) in let bad : ⊥ = omega arith in absurd bad
      | inr there ↦ rest.has n there known
    ];
  }

-- ---- those of the past

pub known_among : (now : ℕ) (n : Note) (ns : List Note) → is_among n (filter (is_known now) ns) ≡ true → IsTrue (is_among n ns) × (n.when ≤ now)
known_among now n [] any = absurd (no_truth any)
known_among now n (x ∷ ns) any = by_bool (is_known now x) (IsTrue (is_among n (x ∷ ns)) × (n.when ≤ now))
    (λ known.
    let here : (is_note n x || is_among n (filter (is_known now) ns)) ≡ true = rw known at any in
    elim (or_cases (is_note n x) (is_among n (filter (is_known now) ns)) here) [
      | inl is ↦ (or_left (is_note n x) (is_among n ns) is, subst (λ (m : Note). m.when ≤ now) (sym (one_note n x is)) (leb-true x.when now known))
      | inr there ↦ let r = known_among now n ns there in (or_right (is_note n x) (is_among n ns) r.0, r.1)
    ])
    (λ unknown.
    let there : is_among n (filter (is_known now) ns) ≡ true = rw unknown at any in
    let r = known_among now n ns there in
    (or_right (is_note n x) (is_among n ns) r.0, r.1))

pub among_known : (now : ℕ) (n : Note) (ns : List Note) → is_among n ns ≡ true → n.when ≤ now → is_among n (filter (is_known now) ns) ≡ true
among_known now n [] any known = absurd (no_truth any)
among_known now n (x ∷ ns) any known = elim (or_cases (is_note n x) (is_among n ns) any) [
  | inl is ↦
      let first : is_known now x ≡ true = le-leb x.when now (subst (λ (m : Note). m.when ≤ now) (one_note n x is) known) in
      rw first (or_left (is_note n x) (is_among n (filter (is_known now) ns)) is)
  | inr there ↦
      let rest : is_among n (filter (is_known now) ns) ≡ true = among_known now n ns there known in
      by_bool (is_known now x) (is_among n (filter (is_known now) (x ∷ ns)) ≡ true)
      (λ first. rw first (or_right (is_note n x) (is_among n (filter (is_known now) ns)) rest))
      (λ other. rw other rest)
]

pub fewer_known : (now : ℕ) (ns : List Note) → length (filter (is_known now) ns) ≤ length ns
fewer_known now [] = omega arith
fewer_known now (x ∷ ns) =
    let rest = fewer_known now ns in
    by_bool (is_known now x) (length (filter (is_known now) (x ∷ ns)) ≤ length (x ∷ ns))
    (λ first. rw first (omega arith))
    (λ other. rw other (omega arith))

note_said : (n : Note) (ns : List Note) → is_among n ns ≡ true → list_any (is_said_by n) ns ≡ true
note_said n [] any = absurd (no_truth any)
note_said n (x ∷ ns) any = elim (or_cases (is_note n x) (is_among n ns) any) [
  | inl is ↦
      let same : n ≡ x = one_note n x is in
      or_left (is_said_by n x) (list_any (is_said_by n) ns)
      (said n x (ap (λ (m : Note). m.path) same) (subst (λ (m : Note). n.when ≤ m.when) same (omega arith)))
  | inr there ↦ or_right (is_said_by n x) (list_any (is_said_by n) ns) (note_said n ns there)
]

-- the first notes as they are, but for those of the future, and then the others
pub all_noted : (now most : ℕ) (first rest more kept next last : List Note) → length first ≤ most → kept ≡ filter (is_known now) first →
    AreAdded now most rest kept next → AreAdded now most more next last → AreNoted now most ((first ++ rest) ++ more) last
all_noted now most first rest more kept next last few is adds adds_more =
    let split : (n : Note) → is_among n ((first ++ rest) ++ more) ≡ ((is_among n first || is_among n rest) || is_among n more) =
    λ n. list_any-append (is_note n) (first ++ rest) more ∙ ap (λ b. b || is_among n more) (list_any-append (is_note n) first rest) in
    record {
      few =
          let fewer = fewer_known now first in
          let begin : length kept ≤ most = subst (λ (ns : List Note). length ns ≤ most) (sym is) (omega arith) in
          adds_more.few (adds.few begin);
      from = λ n any. elim (adds_more.from n any) [
        | inl before ↦ elim (adds.from n before) [
          | inl begin ↦
              let r = known_among now n first (subst (λ (ns : List Note). is_among n ns ≡ true) is begin) in
              (split n ∙ or_left (is_among n first || is_among n rest) (is_among n more) (or_left (is_among n first) (is_among n rest) r.0), r.1)
          | inr given ↦ (split n ∙ or_left (is_among n first || is_among n rest) (is_among n more) (or_right (is_among n first) (is_among n rest) given.0), given.1)
        ]
        | inr given ↦ (split n ∙ or_right (is_among n first || is_among n rest) (is_among n more) given.0, given.1)
      ];
      each = λ n any known. elim (or_cases (is_among n first || is_among n rest) (is_among n more) (sym (split n) ∙ any)) [
        | inl before ↦ elim (or_cases (is_among n first) (is_among n rest) before) [
          | inl begin ↦
              let there : is_among n kept ≡ true = subst (λ (ns : List Note). is_among n ns ≡ true) (sym is) (among_known now n first begin known) in
              adds_more.carries n (adds.carries n (inl (note_said n kept there)))
          | inr given ↦ adds_more.carries n (adds.has n given known)
        ]
        | inr given ↦ adds_more.has n given known
      ];
    }
