-- What stands after turns is the latest of all that was to be written.
use Rattle.std.specs.Prelude.{◌≡◌, ◌⊎◌, ◌≤◌, ◌<◌, ℕ, Bool, true, false, List, [], ◌∷◌, ◌++◌, length, map, drop, Option, Some, None, refl, nat_lt, ◌&&◌, ◌||◌, IsTrue, if◌then◌else◌}
use Rattle.std.proofs.Common.{inl, inr, sym, ap, ◌∙◌, subst, arith}
use Rattle.std.specs.List.{AllByRecursion, list_any, filter, flat_map}
use Rattle.std.specs.Option.{option_or}
use Rattle.std.specs.Str.{bytes_eq}
use Rattle.std.proofs.lemmas.Bool.{and_from, and_parts, or_cases, or_left, or_right, le-leb, ltb-true, ltb-false}
use Rattle.std.proofs.lemmas.Bool.Decides.{Decides-eqb}
use Rattle.std.proofs.lemmas.List.{append_assoc, append-nil}
use Rattle.std.proofs.lemmas.Option.{none-some, same_Some}
use Rattle.std.proofs.lemmas.List.Folds.{list_any-append}
use Rattle.std.proofs.lemmas.Slice.Eq.{starts_is}
use Rattle.std.proofs.Math.Bool.{or_assoc}
use Rattle.dconf_model.proofs.ParentLaws.{by_bool}
use Rattle.dconf_model.proofs.PathMaps.{no_truth}
use Rattle.dconf_model.proofs.SameBytes.{same_path}
use Rattle.dconf_model.specs.Locks.{covers, is_below}
use Rattle.dconf_model.specs.Paths.{ends_with_slash}
use Rattle.dconf_times.specs.Noted.{AreNoted, is_among, is_note, is_said_by}
use Rattle.dconf_times.specs.Times.{Note, is_known, is_overtaken, time_of, time_told}
use Rattle.dconf_times.specs.Turns.{AreInOrder, Course, Edit, Follow, IsNoLater, IsTimely, IsWhole, LatestStands, OneCounts, Turn, asked_in, counted, is_left_out, no_course, standing, whole}
use Rattle.dconf_times.proofs.NotedLaws.{note_itself, one_note, said, said_path, said_when}

-- ---- paths

-- how a path covers another: it is the same, or a directory's that the other starts with
covers_how : (a b : List ℕ) → covers a b ≡ true → (a ≡ b) ⊎ ((ends_with_slash a ≡ true) × (is_below b a ≡ true))
covers_how a b is = elim (or_cases (bytes_eq a b) (ends_with_slash a && is_below b a) is) [
  | inl same ↦ inl (same_path a b same)
  | inr below ↦ inr (and_parts (ends_with_slash a) (is_below b a) below)
]

below_cut : (b a : List ℕ) → is_below b a ≡ true → b ≡ a ++ drop (length a) b
below_cut b a is = (starts_is Decides-eqb b a (is_below b a) refl).0 is

below_from : (b a rest : List ℕ) → b ≡ a ++ rest → is_below b a ≡ true
below_from b a rest is = (starts_is Decides-eqb b a (is_below b a) refl).1 rest is

below_twice : (a b c : List ℕ) → is_below b a ≡ true → is_below c b ≡ true → is_below c a ≡ true
below_twice a b c h k =
    let first = below_cut b a h in
    let second = below_cut c b k in
    below_from c a (drop (length a) b ++ drop (length b) c)
    (second ∙ (ap (λ (x : List ℕ). x ++ drop (length b) c) first ∙ append_assoc a (drop (length a) b) (drop (length b) c)))

covers_directory : (a b : List ℕ) → ends_with_slash a ≡ true → is_below b a ≡ true → covers a b ≡ true
covers_directory a b ends below = or_right (bytes_eq a b) (ends_with_slash a && is_below b a) (and_from (ends_with_slash a) (is_below b a) ends below)

covers_twice : (a b c : List ℕ) → covers a b ≡ true → covers b c ≡ true → covers a c ≡ true
covers_twice a b c h k = elim (covers_how a b h) [
  | inl same ↦ subst (λ (x : List ℕ). covers x c ≡ true) (sym same) k
  | inr upper ↦ elim (covers_how b c k) [
    | inl same ↦ subst (λ (x : List ℕ). covers a x ≡ true) same h
    | inr lower ↦ covers_directory a c upper.0 (below_twice a b c upper.1 lower.1)
  ]
]

-- ---- times

-- a note of the past that covers a path is no later than its time
told_at_most : (now : ℕ) (path : List ℕ) (n : Note) → n.when ≤ now → covers n.path path ≡ true → time_told now path n ≡ n.when
told_at_most now path n known over = rw (le-leb n.when now known, over) refl

noted_at_most : (now : ℕ) (path : List ℕ) (n : Note) (ns : List Note) → is_among n ns ≡ true → n.when ≤ now → covers n.path path ≡ true → n.when ≤ time_of now path ns
noted_at_most now path n [] any known over = absurd (no_truth any)
noted_at_most now path n (x ∷ ns) any known over = elim (or_cases (is_note n x) (is_among n ns) any) [
  | inl is ↦
      let told : time_told now path x ≡ n.when = subst (λ (m : Note). time_told now path m ≡ n.when) (one_note n x is) (told_at_most now path n known over) in
      omega (arith, told)
  | inr there ↦ let rest = noted_at_most now path n ns there known over in omega arith
]

-- what a path's time is told by
record Teller (now when : ℕ) (path : List ℕ) (ns : List Note) : Type 0 where
  note : Note
  among : is_among note ns ≡ true
  over : covers note.path path ≡ true
  later : when < note.when

teller : (now when : ℕ) (path : List ℕ) (ns : List Note) → when < time_of now path ns → Teller now when path ns
teller now when path [] h = let bad : ⊥ = omega arith in absurd bad
teller now when path (x ∷ ns) h =
    by_bool (nat_lt when (time_of now path ns)) (Teller now when path (x ∷ ns))
    (λ rest.
    let t = teller now when path ns (ltb-true when (time_of now path ns) rest) in
    record { note = t.note; among = or_right (is_note t.note x) (is_among t.note ns) t.among; over = t.over; later = t.later })
    (λ not_rest.
    let at_most : time_of now path ns ≤ when = ltb-false when (time_of now path ns) not_rest in
    let here : when < time_told now path x = omega (arith, h, at_most) in
    by_bool (is_known now x && covers x.path path) (Teller now when path (x ∷ ns))
    (λ is.
    let told : time_told now path x ≡ x.when = rw is refl in
    record {
      note = x;
      among = or_left (is_note x x) (is_among x ns) (note_itself x);
      over = (and_parts (is_known now x) (covers x.path path) is).1;
      later = omega (arith, here, told);
    })
    (λ is_not. let none : time_told now path x ≡ 0 = rw is_not refl in let bad : ⊥ = omega (arith, here, none) in absurd bad))

sayer : (n : Note) (ns : List Note) → list_any (is_said_by n) ns ≡ true → (m : Note) × (is_among m ns ≡ true) × (is_said_by n m ≡ true)
sayer n [] any = absurd (no_truth any)
sayer n (x ∷ ns) any = elim (or_cases (is_said_by n x) (list_any (is_said_by n) ns) any) [
  | inl here ↦ (x, or_left (is_note x x) (is_among x ns) (note_itself x), here)
  | inr there ↦ let r = sayer n ns there in (r.0, or_right (is_note r.0 x) (is_among r.0 ns) r.1, r.2)
]

said_twice : (n m x : Note) → is_said_by n m ≡ true → is_said_by m x ≡ true → is_said_by n x ≡ true
said_twice n m x h k =
    let first = said_when n m h in
    let second = said_when m x k in
    said n x (said_path n m h ∙ said_path m x k) (omega (arith, first, second))

said_on : (n m : Note) (ns : List Note) → is_said_by n m ≡ true → list_any (is_said_by m) ns ≡ true → list_any (is_said_by n) ns ≡ true
said_on n m [] h any = absurd (no_truth any)
said_on n m (x ∷ ns) h any = elim (or_cases (is_said_by m x) (list_any (is_said_by m) ns) any) [
  | inl here ↦ or_left (is_said_by n x) (list_any (is_said_by n) ns) (said_twice n m x h here)
  | inr there ↦ or_right (is_said_by n x) (list_any (is_said_by n) ns) (said_on n m ns h there)
]

-- ---- edits

abbrev notes_of : List Edit → List Note
notes_of es = map (λ e. e.note) es

all_both : (P : Edit → Type 0) (xs ys : List Edit) → AllByRecursion P xs → AllByRecursion P ys → AllByRecursion P (xs ++ ys)
all_both P [] ys h k = k
all_both P (x ∷ xs) ys h k = (h.0, all_both P xs ys h.1 k)

all_so : (P Q : Edit → Type 0) (xs : List Edit) → ((e : Edit) → P e → Q e) → AllByRecursion P xs → AllByRecursion Q xs
all_so P Q [] f h = tt
all_so P Q (x ∷ xs) f h = (f x h.0, all_so P Q xs f h.1)

all_with : (P Q : Edit → Type 0) (xs : List Edit) → AllByRecursion P xs → AllByRecursion Q xs → AllByRecursion (λ e. P e × Q e) xs
all_with P Q [] h k = tt
all_with P Q (x ∷ xs) h k = ((h.0, k.0), all_with P Q xs h.1 k.1)

all_parts : (P : Edit → Type 0) (xs ys : List Edit) → AllByRecursion P (xs ++ ys) → AllByRecursion P xs × AllByRecursion P ys
all_parts P [] ys h = (tt, h)
all_parts P (x ∷ xs) ys h = let r = all_parts P xs ys h.1 in ((h.0, r.0), r.1)

filtered : (P : Edit → Type 0) (f : Edit → Bool) (xs : List Edit) → AllByRecursion P xs → AllByRecursion (λ e. P e × (f e ≡ true)) (filter f xs)
filtered P f [] h = tt
filtered P f (x ∷ xs) h =
    let rest = filtered P f xs h.1 in
    by_bool (f x) (AllByRecursion (λ e. P e × (f e ≡ true)) (filter f (x ∷ xs)))
    (λ is. rw is ((h.0, is), rest))
    (λ not_so. rw not_so rest)

none_late : (late : Edit → Bool) (xs : List Edit) → list_any late xs ≡ false → AllByRecursion (λ e. late e ≡ false) xs
none_late late [] h = tt
none_late late (x ∷ xs) h = by_bool (late x) (AllByRecursion (λ e. late e ≡ false) (x ∷ xs))
    (λ is. absurd (no_truth (sym h ∙ or_left (late x) (list_any late xs) is)))
    (λ is_not. (is_not, none_late late xs (sym (ap (λ b. b || list_any late xs) is_not) ∙ h)))

-- ---- changes, each of them whole

abbrev all_of : List (List Edit) → List Edit
all_of changes = flat_map (λ change. change) changes

abbrev kept_of : (Edit → Bool) → List (List Edit) → List Edit
kept_of late changes = flat_map (whole late) changes

kept_all : (P : Edit → Type 0) (late : Edit → Bool) (cs : List (List Edit)) → AllByRecursion P (all_of cs) → AllByRecursion (λ e. P e × (late e ≡ false)) (kept_of late cs)
kept_all P late [] h = tt
kept_all P late (c ∷ cs) h =
    let parts = all_parts P c (all_of cs) h in
    let rest = kept_all P late cs parts.1 in
    by_bool (is_left_out late c) (AllByRecursion (λ e. P e × (late e ≡ false)) (kept_of late (c ∷ cs)))
    (λ out. rw out rest)
    (λ is_not. rw is_not (all_both (λ e. P e × (late e ≡ false)) c (kept_of late cs) (all_with P (λ e. late e ≡ false) c parts.0 (none_late late c is_not)) rest))

order_rest : (xs ys : List Edit) → AreInOrder (xs ++ ys) → AreInOrder ys
order_rest [] ys h = h
order_rest (x ∷ xs) ys h = order_rest xs ys h.1

order_with : (xs ys zs : List Edit) → AreInOrder (xs ++ ys) → AreInOrder zs → ((P : Edit → Type 0) → AllByRecursion P ys → AllByRecursion P zs) → AreInOrder (xs ++ zs)
order_with [] ys zs h k f = k
order_with (x ∷ xs) ys zs h k f =
    let parts = all_parts (λ e. x.note.when ≤ e.note.when) xs ys h.0 in
    (all_both (λ e. x.note.when ≤ e.note.when) xs zs parts.0 (f (λ e. x.note.when ≤ e.note.when) parts.1), order_with xs ys zs h.1 k f)

kept_order : (late : Edit → Bool) (cs : List (List Edit)) → AreInOrder (all_of cs) → AreInOrder (kept_of late cs)
kept_order late [] h = tt
kept_order late (c ∷ cs) h =
    let rest = kept_order late cs (order_rest c (all_of cs) h) in
    by_bool (is_left_out late c) (AreInOrder (kept_of late (c ∷ cs)))
    (λ out. rw out rest)
    (λ is_not. rw is_not (order_with c (all_of cs) (kept_of late cs) h rest (λ P all. all_so (λ e. P e × (late e ≡ false)) P (kept_of late cs) (λ e p. p.0) (kept_all P late cs all))))

-- what holds of all that is kept, and of what is late, holds of all that counts
counts : (Q : Edit → Type 0) (late : Edit → Bool) (cs : List (List Edit)) → ((e : Edit) → late e ≡ true → Q e) → AllByRecursion Q (kept_of late cs)
    → AllByRecursion Q (flat_map (counted late) cs)
counts Q late [] f h = tt
counts Q late (c ∷ cs) f h =
    by_bool (is_left_out late c) (AllByRecursion Q (flat_map (counted late) (c ∷ cs)))
    (λ out. let k : AllByRecursion Q (kept_of late cs) = rw out at h in
    rw out (all_both Q (filter late c) (flat_map (counted late) cs)
    (all_so (λ e. Unit {0} × (late e ≡ true)) Q (filter late c) (λ e p. f e p.1) (filtered (λ e. Unit {0}) late c (each_unit c)))
    (counts Q late cs f k)))
    (λ is_not. let k : AllByRecursion Q (c ++ kept_of late cs) = rw is_not at h in
    let parts = all_parts Q c (kept_of late cs) k in
    rw is_not (all_both Q c (flat_map (counted late) cs) parts.0 (counts Q late cs f parts.1)))
  where
    each_unit : (xs : List Edit) → AllByRecursion (λ e. Unit {0}) xs
    each_unit [] = tt
    each_unit (x ∷ xs) = (tt, each_unit xs)

picked : (P : Edit → Type 0) (n : Note) (xs : List Edit) → is_among n (notes_of xs) ≡ true → AllByRecursion P xs → (e : Edit) × P e × (n ≡ e.note)
picked P n [] any h = absurd (no_truth any)
picked P n (x ∷ xs) any h = elim (or_cases (is_note n x.note) (is_among n (notes_of xs)) any) [
  | inl is ↦ (x, h.0, one_note n x.note is)
  | inr there ↦ picked P n xs there h.1
]

each_among : (xs : List Edit) → AllByRecursion (λ e. is_among e.note (notes_of xs) ≡ true) xs
each_among [] = tt
each_among (x ∷ xs) = (
  or_left (is_note x.note x.note) (is_among x.note (notes_of xs)) (note_itself x.note),
  all_so (λ e. is_among e.note (notes_of xs) ≡ true) (λ e. is_among e.note (notes_of (x ∷ xs)) ≡ true) xs
      (λ e h. or_right (is_note e.note x.note) (is_among e.note (notes_of xs)) h) (each_among xs),
)

among_both : (n : Note) (xs ys : List Edit) → is_among n (notes_of (xs ++ ys)) ≡ (is_among n (notes_of xs) || is_among n (notes_of ys))
among_both n [] ys = refl
among_both n (x ∷ xs) ys = ap (λ b. is_note n x.note || b) (among_both n xs ys) ∙ sym (or_assoc (is_note n x.note) (is_among n (notes_of xs)) (is_among n (notes_of ys)))

-- ---- what stands

or_none : (a : Option Edit) → option_or a None ≡ a
or_none None = refl
or_none (Some e) = refl

or_twice : (a b c : Option Edit) → option_or (option_or a b) c ≡ option_or a (option_or b c)
or_twice None b c = refl
or_twice (Some e) b c = refl

by_option : (o : Option Edit) (P : Type 0) → (o ≡ None → P) → ((e : Edit) → o ≡ Some e → P) → P
by_option None P f g = f refl
by_option (Some e) P f g = g e refl

module _ (key : List ℕ) where
  abbrev last_of : Edit → Option Edit
  last_of e = if covers e.note.path key then Some e else None

  standing_both : (xs ys : List Edit) → standing key (xs ++ ys) ≡ option_or (standing key ys) (standing key xs)
  standing_both [] ys = sym (or_none (standing key ys))
  standing_both (x ∷ xs) ys = ap (λ o. option_or o (last_of x)) (standing_both xs ys) ∙ or_twice (standing key ys) (standing key xs) (last_of x)

  -- what stands is among them, and covers the key
  stands_in : (P : Edit → Type 0) (xs : List Edit) (s : Edit) → standing key xs ≡ Some s → AllByRecursion P xs → P s × (covers s.note.path key ≡ true)
  stands_in P [] s is h = absurd (none-some s is)
  stands_in P (x ∷ xs) s is h = by_option (standing key xs) (P s × (covers s.note.path key ≡ true))
      (λ none.
      let own : last_of x ≡ Some s = sym (ap (λ o. option_or o (last_of x)) none) ∙ is in
      by_bool (covers x.note.path key) (P s × (covers s.note.path key ≡ true))
      (λ over.
      let same : x ≡ s = same_Some x s (sym (ap (λ (b : Bool). if b then Some x else None) over) ∙ own) in
      (subst P same h.0, subst (λ (e : Edit). covers e.note.path key ≡ true) same over))
      (λ no_cover. absurd (none-some s (sym (ap (λ (b : Bool). if b then Some x else None) no_cover) ∙ own))))
      (λ t some.
      let same : t ≡ s = same_Some t s (sym (ap (λ o. option_or o (last_of x)) some) ∙ is) in
      stands_in P xs s (some ∙ ap (λ (e : Edit). Some e) same) h.1)

  abbrev Out : List Edit → Edit → Type 0
  Out written e = covers e.note.path key ≡ true → IsNoLater key written e

  -- in order, what stands is no older than any
  in_order_out : (xs : List Edit) → AreInOrder xs → AllByRecursion (Out xs) xs
  in_order_out [] h = tt
  in_order_out (x ∷ xs) h = (
    (λ over. by_option (standing key xs) (IsNoLater key (x ∷ xs) x)
        (λ none. (x, ap (λ o. option_or o (last_of x)) none ∙ ap (λ (b : Bool). if b then Some x else None) over, omega arith))
        (λ t some. (t, ap (λ o. option_or o (last_of x)) some, (stands_in (λ e. x.note.when ≤ e.note.when) xs t some h.0).0))),
    all_so (Out xs) (Out (x ∷ xs)) xs
        (λ e out over. let r = out over in (r.0, ap (λ o. option_or o (last_of x)) r.1, r.2))
        (in_order_out xs h.1),
  )

-- ---- a course

-- what is so of a course up to a moment
record Holds (since : ℕ) (asked : List Edit) (course : Course) : Type 0 where
  past : AllByRecursion (λ e. (e.note.when ≤ since) × (list_any (is_said_by e.note) course.notes ≡ true)) course.written
  noted : (n : Note) → is_among n course.notes ≡ true → (n.when ≤ since) × (is_among n (notes_of course.written) ≡ true)
  written : (key : List ℕ) → AllByRecursion (Out key course.written) course.written
  done : (key : List ℕ) → AllByRecursion (Out key course.written) asked

module _ (since most : ℕ) (asked : List Edit) (before : Course) (turn : Turn) (holds : Holds since asked before) (timely : IsTimely since turn) where
  abbrev late : Edit → Bool
  late e = is_overtaken turn.now e.note.path e.note.when before.notes

  abbrev new : List Edit
  new = kept_of late turn.changes

  abbrev IsNew : Edit → Type 0
  IsNew e = ((e.note.when ≤ turn.now) × (IsTrue (ends_with_slash e.note.path) → e.note.when ≡ turn.now)) × (late e ≡ false)

  all_new : AllByRecursion IsNew new
  all_new = kept_all (λ e. (e.note.when ≤ turn.now) × (IsTrue (ends_with_slash e.note.path) → e.note.when ≡ turn.now)) late turn.changes
      (all_with (λ e. e.note.when ≤ turn.now) (λ e. IsTrue (ends_with_slash e.note.path) → e.note.when ≡ turn.now) (all_of turn.changes) timely.past timely.directories)

  -- a new one that covers the key is no older than an old one that does
  newer : (key : List ℕ) (w s : Edit) → (w.note.when ≤ since) × (list_any (is_said_by w.note) before.notes ≡ true) → covers w.note.path key ≡ true → IsNew s → covers s.note.path key ≡ true → w.note.when ≤ s.note.when
  newer key w s past over is_new s_over = by_bool (ends_with_slash s.note.path) (w.note.when ≤ s.note.when)
      (λ slash. let now : s.note.when ≡ turn.now = is_new.0.1 slash in omega (arith, now, past.0, timely.later))
      (λ no_slash. elim (covers_how s.note.path key s_over) [
        | inl same ↦
            let m = sayer w.note before.notes past.1 in
            let known : m.0.when ≤ turn.now = omega (arith, (holds.noted m.0 m.1).0, timely.later) in
            let m_over : covers m.0.path s.note.path ≡ true = subst (λ (p : List ℕ). covers m.0.path p ≡ true) (sym same) (subst (λ (p : List ℕ). covers p key ≡ true) (said_path w.note m.0 m.2) over) in
            let at_most = noted_at_most turn.now s.note.path m.0 before.notes m.1 known m_over in
            let bound = ltb-false s.note.when (time_of turn.now s.note.path before.notes) is_new.1 in
            omega (arith, at_most, bound, said_when w.note m.0 m.2)
        | inr below ↦ absurd (no_truth (sym no_slash ∙ below.0))
      ])

  module _ (key : List ℕ) where
    -- what no later stands for goes on having something
    still : (e : Edit) → IsNoLater key before.written e → IsNoLater key (before.written ++ new) e
    still e old = by_option (standing key new) (IsNoLater key (before.written ++ new) e)
        (λ none. (old.0, standing_both key before.written new ∙ (ap (λ o. option_or o (standing key before.written)) none ∙ old.1), old.2))
        (λ s some.
        let is_new = stands_in key IsNew new s some all_new in
        let was = stands_in key (λ w. (w.note.when ≤ since) × (list_any (is_said_by w.note) before.notes ≡ true)) before.written old.0 old.1 holds.past in
        let later = newer key old.0 s was.0 was.1 is_new.0 is_new.1 in
        (s, standing_both key before.written new ∙ ap (λ o. option_or o (standing key before.written)) some, omega (arith, later, old.2)))

    new_out : AllByRecursion (Out key (before.written ++ new)) new
    new_out = all_so (Out key new) (Out key (before.written ++ new)) new
        (λ e out over. let r = out over in (r.0, standing_both key before.written new ∙ ap (λ o. option_or o (standing key before.written)) r.1, r.2))
        (in_order_out key new (kept_order late turn.changes timely.in_order))

    still_out : (xs : List Edit) → AllByRecursion (Out key before.written) xs → AllByRecursion (Out key (before.written ++ new)) xs
    still_out xs h = all_so (Out key before.written) (Out key (before.written ++ new)) xs (λ e out over. still e (out over)) h

    overtaken_out : (e : Edit) → late e ≡ true → Out key (before.written ++ new) e
    overtaken_out e later over =
        let t = teller turn.now e.note.when e.note.path before.notes (ltb-true e.note.when (time_of turn.now e.note.path before.notes) later) in
        let w = picked (Out key before.written) t.note before.written (holds.noted t.note t.among).1 (holds.written key) in
        let w_over : covers w.0.note.path key ≡ true = subst (λ (n : Note). covers n.path key ≡ true) w.2 (covers_twice t.note.path e.note.path key t.over over) in
        let stands = w.1 w_over in
        let same : t.note.when ≡ w.0.note.when = ap (λ (n : Note). n.when) w.2 in
        still e (stands.0, stands.1, omega (arith, t.later, same, stands.2))

    edits_out : AllByRecursion (Out key (before.written ++ new)) (flat_map (counted late) turn.changes)
    edits_out = counts (Out key (before.written ++ new)) late turn.changes overtaken_out new_out

  module _ (notes : List Note) (are : AreNoted turn.now most (before.notes ++ notes_of new) notes) (room : length notes < most) where
    is_kept : (n : Note) → is_among n (before.notes ++ notes_of new) ≡ true → n.when ≤ turn.now → list_any (is_said_by n) notes ≡ true
    is_kept n among known = elim (are.each n among known) [
      | inl any ↦ any
      | inr full ↦ let bad : ⊥ = omega (arith, full.0) in absurd bad
    ]

    among_old : (n : Note) → is_among n before.notes ≡ true → is_among n (before.notes ++ notes_of new) ≡ true
    among_old n is = list_any-append (is_note n) before.notes (notes_of new) ∙ or_left (is_among n before.notes) (is_among n (notes_of new)) is

    among_new : (n : Note) → is_among n (notes_of new) ≡ true → is_among n (before.notes ++ notes_of new) ≡ true
    among_new n is = list_any-append (is_note n) before.notes (notes_of new) ∙ or_right (is_among n before.notes) (is_among n (notes_of new)) is

    abbrev IsPast : Edit → Type 0
    IsPast e = (e.note.when ≤ turn.now) × (list_any (is_said_by e.note) notes ≡ true)

    past_now : AllByRecursion IsPast (before.written ++ new)
    past_now = all_both IsPast before.written new
        (all_so (λ e. (e.note.when ≤ since) × (list_any (is_said_by e.note) before.notes ≡ true)) IsPast before.written
        (λ e p.
        let m = sayer e.note before.notes p.1 in
        let known : m.0.when ≤ turn.now = omega (arith, (holds.noted m.0 m.1).0, timely.later) in
        (omega (arith, p.0, timely.later), said_on e.note m.0 notes m.2 (is_kept m.0 (among_old m.0 m.1) known)))
        holds.past)
        (all_so (λ e. IsNew e × (is_among e.note (notes_of new) ≡ true)) IsPast new
        (λ e p. (p.0.0.0, is_kept e.note (among_new e.note p.1) p.0.0.0))
        (all_with IsNew (λ e. is_among e.note (notes_of new) ≡ true) new all_new (each_among new)))

    noted_now : (n : Note) → is_among n notes ≡ true → (n.when ≤ turn.now) × (is_among n (notes_of (before.written ++ new)) ≡ true)
    noted_now n is =
        let from = are.from n is in
        let either : (is_among n before.notes || is_among n (notes_of new)) ≡ true = sym (list_any-append (is_note n) before.notes (notes_of new)) ∙ from.0 in (
          from.1,
          among_both n before.written new ∙ elim (or_cases (is_among n before.notes) (is_among n (notes_of new)) either) [
            | inl old ↦ or_left (is_among n (notes_of before.written)) (is_among n (notes_of new)) (holds.noted n old).1
            | inr fresh ↦ or_right (is_among n (notes_of before.written)) (is_among n (notes_of new)) fresh
          ],
        )

    after_turn : Holds turn.now (asked ++ flat_map (counted late) turn.changes) (record { written = before.written ++ new; notes = notes })
    after_turn = record {
      past = past_now;
      noted = noted_now;
      written = λ key. all_both (Out key (before.written ++ new)) before.written new (still_out key before.written (holds.written key)) (new_out key);
      done = λ key. all_both (Out key (before.written ++ new)) asked (flat_map (counted late) turn.changes) (still_out key asked (holds.done key)) (edits_out key);
    }

abbrev late_by : ℕ → List Note → Edit → Bool
late_by now found e = is_overtaken now e.note.path e.note.when found

follows : (most : ℕ) (turns : List Turn) (since : ℕ) (asked : List Edit) (before after : Course) → Holds since asked before → Follow most turns since before after →
    (key : List ℕ) → AllByRecursion (Out key after.written) (asked ++ asked_in turns)
follows most [] since asked before after holds same key =
    subst (λ (c : Course). AllByRecursion (Out key c.written) (asked ++ [])) same
    (subst (λ (es : List Edit). AllByRecursion (Out key before.written) es) (sym (append-nil asked)) (holds.done key))
follows most (turn ∷ more) since asked before after holds f key =
    let at : List Note → List Edit = λ found. flat_map (whole (late_by turn.now found)) turn.changes in
    let given : List Note → List Edit = λ found. flat_map (counted (late_by turn.now found)) turn.changes in
    let written : before.written ++ at before.notes ≡ f.0.written = ap (λ (ns : List Note). before.written ++ at ns) (sym f.2.found_is) ∙ sym f.2.written_is in
    let here : Course = record { written = before.written ++ at before.notes; notes = f.0.notes } in
    let same : here ≡ f.0 = ap (λ (w : List Edit). let c : Course = record { written = w; notes = f.0.notes } in c) written in
    let are = subst (λ (ns : List Note). AreNoted turn.now most (before.notes ++ notes_of (at ns)) f.0.notes) f.2.found_is f.2.notes_are in
    let now = after_turn since most asked before turn holds f.1 f.0.notes are f.2.has_room in
    let then_is : Holds turn.now (asked ++ given turn.found) f.0 =
    subst (λ (ns : List Note). Holds turn.now (asked ++ given ns) f.0) (sym f.2.found_is) (subst (λ (c : Course). Holds turn.now (asked ++ given before.notes) c) same now) in
    subst (λ (es : List Edit). AllByRecursion (Out key after.written) es) (append_assoc asked (given turn.found) (asked_in more))
    (follows most more turn.now (asked ++ given turn.found) f.0 after then_is f.3 key)

pub latest_stands : LatestStands
latest_stands most turns course key f =
    follows most turns 0 [] no_course course (record { past = tt; noted = λ n bad. absurd (no_truth bad); written = λ k. tt; done = λ k. tt }) f key

pub one_counts : OneCounts
one_counts late e = by_bool (late e) (counted late (e ∷ []) ≡ e ∷ [])
    (λ is. rw is refl)
    (λ is_not. rw is_not refl)

pub is_whole : IsWhole
is_whole late change = by_bool (is_left_out late change) ((whole late change ≡ change) ⊎ (whole late change ≡ []))
    (λ out. rw out (inr refl))
    (λ is_not. rw is_not (inl refl))
