-- What holds of the newest notes.
use Rattle.std.specs.Prelude.{◌≡◌, ◌≤◌, ◌<◌, ◌-◌, ℕ, true, false, List, [], ◌∷◌, length, codes, filter, nat_le, nat_lt, ◌&&◌, ◌||◌}
use Rattle.std.proofs.Common.{inl, inr, sym, ◌∙◌, subst, arith}
use Rattle.std.specs.List.{list_any}
use Rattle.std.specs.Str.{bytes_eq}
use Rattle.std.proofs.lemmas.Bool.{and_from, and_parts, or_cases, or_left, or_right, le-leb, leb-true, lt-leb, lt-ltb, ltb-true, ltb-false, leb-false}
use Rattle.std.proofs.lemmas.List.Folds.{list_any-append}
use Rattle.dconf_model.proofs.ParentLaws.{by_bool}
use Rattle.dconf_model.proofs.PathMaps.{no_truth}
use Rattle.dconf_model.specs.Locks.{covers, is_below}
use Rattle.dconf_model.specs.Paths.{ends_with_slash}
use Rattle.dconf_model.proofs.SameBytes.{path_itself}
use Rattle.dconf_times.specs.Noted.{is_said_by}
use Rattle.dconf_times.specs.Times.{note_of}
use Rattle.dconf_times.specs.Room.{NoneIsForgotten, bytes_of, has_room_since, is_since, is_told, notes_bytes}
use Rattle.dconf_times.specs.declared.times.DconfdbTime.{DconfdbTime}
use Rattle.dconf_times.proofs.NotedLaws.{said_path, said_when}

-- ---- bytes

pub taken : (note : DconfdbTime) (notes : List DconfdbTime) (left : ℕ) → bytes_of note ≤ left →
    nat_le (notes_bytes notes) (left - bytes_of note) ≡ nat_le (notes_bytes (note ∷ notes)) left
taken note notes left fits = by_bool (nat_le (notes_bytes (note ∷ notes)) left) (nat_le (notes_bytes notes) (left - bytes_of note) ≡ nat_le (notes_bytes (note ∷ notes)) left)
    (λ is. let h = leb-true (notes_bytes (note ∷ notes)) left is in le-leb (notes_bytes notes) (left - bytes_of note) (omega arith) ∙ sym is)
    (λ is_not. let h = leb-false (notes_bytes (note ∷ notes)) left is_not in lt-leb (notes_bytes notes) (left - bytes_of note) (omega arith) ∙ sym is_not)

pub too_long : (note : DconfdbTime) (notes : List DconfdbTime) (left : ℕ) → left < bytes_of note → nat_le (notes_bytes (note ∷ notes)) left ≡ false
too_long note notes left over = lt-leb (notes_bytes (note ∷ notes)) left (omega arith)

-- ---- fewer are later than a later time

fewer : (sooner when : ℕ) (notes : List DconfdbTime) → sooner ≤ when →
    (length (filter (is_since when) notes) ≤ length (filter (is_since sooner) notes)) × (notes_bytes (filter (is_since when) notes) ≤ notes_bytes (filter (is_since sooner) notes))
fewer sooner when [] le = (omega arith, omega arith)
fewer sooner when (n ∷ ns) le =
    let rest = fewer sooner when ns le in
    let Both : List DconfdbTime → List DconfdbTime → Type 0 = λ a b. (length a ≤ length b) × (notes_bytes a ≤ notes_bytes b) in
    by_bool (nat_lt when n.when) (Both (filter (is_since when) (n ∷ ns)) (filter (is_since sooner) (n ∷ ns)))
    (λ is.
    let h = ltb-true when n.when is in
    let also : nat_lt sooner n.when ≡ true = lt-ltb sooner n.when (omega arith) in
    rw is (rw also (omega (arith, rest.0), omega (arith, rest.1))))
    (λ is_not. by_bool (nat_lt sooner n.when) (Both (filter (is_since when) (n ∷ ns)) (filter (is_since sooner) (n ∷ ns)))
    (λ also. rw is_not (rw also (omega (arith, rest.0), omega (arith, rest.1))))
    (λ nor. rw is_not (rw nor rest)))

pub no_room_before : (most most_bytes : ℕ) (notes : List DconfdbTime) (sooner when : ℕ) → sooner ≤ when → has_room_since most most_bytes notes when ≡ false →
    has_room_since most most_bytes notes sooner ≡ false
no_room_before most most_bytes notes sooner when le none = by_bool (has_room_since most most_bytes notes sooner) (has_room_since most most_bytes notes sooner ≡ false)
    (λ is.
    let parts = and_parts (nat_le (length (filter (is_since sooner) notes)) most) (nat_le (notes_bytes (filter (is_since sooner) notes)) most_bytes) is in
    let few = leb-true (length (filter (is_since sooner) notes)) most parts.0 in
    let short = leb-true (notes_bytes (filter (is_since sooner) notes)) most_bytes parts.1 in
    let less = fewer sooner when notes le in
    let there : has_room_since most most_bytes notes when ≡ true = and_from (nat_le (length (filter (is_since when) notes)) most) (nat_le (notes_bytes (filter (is_since when) notes)) most_bytes)
    (le-leb (length (filter (is_since when) notes)) most (omega (arith, few, less.0))) (le-leb (notes_bytes (filter (is_since when) notes)) most_bytes (omega (arith, short, less.1))) in
    absurd (no_truth (sym none ∙ there)))
    (λ is_not. is_not)

-- ---- what goes

told_by_same : (note n : DconfdbTime) → is_said_by (note_of note) (note_of n) ≡ true → is_told note n ≡ true
told_by_same note n is =
    let path = said_path (note_of note) (note_of n) is in
    let late = said_when (note_of note) (note_of n) is in
    and_from (covers n.path.now note.path.now) (nat_le note.when n.when)
    (or_left (bytes_eq n.path.now note.path.now) (ends_with_slash n.path.now && is_below note.path.now n.path.now) (path_itself n.path.now note.path.now (sym path)))
    (le-leb note.when n.when late)

told_since : (when : ℕ) (note : DconfdbTime) (notes : List DconfdbTime) → when < note.when → list_any (λ n. is_said_by (note_of note) (note_of n)) notes ≡ true →
    list_any (λ n. is_told note n) (filter (is_since when) notes) ≡ true
told_since when note [] lt any = absurd (no_truth any)
told_since when note (n ∷ ns) lt any = elim (or_cases (is_said_by (note_of note) (note_of n)) (list_any (λ m. is_said_by (note_of note) (note_of m)) ns) any) [
  | inl here ↦
      let late = said_when (note_of note) (note_of n) here in
      let since : nat_lt when n.when ≡ true = lt-ltb when n.when (omega (arith, lt, late)) in
      rw since (or_left (is_told note n) (list_any (λ m. is_told note m) (filter (is_since when) ns)) (told_by_same note n here))
  | inr there ↦ let rest = told_since when note ns lt there in by_bool (nat_lt when n.when) (list_any (λ m. is_told note m) (filter (is_since when) (n ∷ ns)) ≡ true)
      (λ since. rw since (or_right (is_told note n) (list_any (λ m. is_told note m) (filter (is_since when) ns)) rest))
      (λ before. rw before rest)
]

told_by_one : (note one : DconfdbTime) → one.path.now ≡ codes "/" → covers (codes "/") note.path.now ≡ true → note.when ≤ one.when → is_told note one ≡ true
told_by_one note one root rooted late = and_from (covers one.path.now note.path.now) (nat_le note.when one.when)
    (subst (λ (p : List ℕ). covers p note.path.now ≡ true) (sym root) rooted) (le-leb note.when one.when late)

pub none_is_forgotten : NoneIsForgotten
none_is_forgotten most most_bytes notes kept later note rooted among =
    let first = filter (is_since later.when) notes in
    let Told : List DconfdbTime → Type 0 = λ ns. list_any (λ n. is_told note n) ns ≡ true in
    subst Told (sym later.kept_is) (list_any-append (λ n. is_told note n) first (later.one ∷ [])
    ∙ by_bool (nat_lt later.when note.when) ((list_any (λ n. is_told note n) first || list_any (λ n. is_told note n) (later.one ∷ [])) ≡ true)
    (λ is. or_left (list_any (λ n. is_told note n) first) (list_any (λ n. is_told note n) (later.one ∷ [])) (told_since later.when note notes (ltb-true later.when note.when is) among))
    (λ is_not.
    let until = later.until in
    let late = ltb-false later.when note.when is_not in
    or_right (list_any (λ n. is_told note n) first) (list_any (λ n. is_told note n) (later.one ∷ []))
    (or_left (is_told note later.one) false (told_by_one note later.one later.root rooted (omega (arith, late, until))))))
