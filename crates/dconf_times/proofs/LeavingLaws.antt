-- What holds of the edits that are left out.
use Rattle.std.specs.Prelude.{◌≡◌, ◌≤◌, ◌<◌, ℕ, Bool, true, false, List, [], ◌∷◌, map, refl, nat_lt, max, not, ◌||◌, ◌&&◌, ◌==◌}
use Rattle.std.proofs.Common.{inl, inr, sym, ap, ◌∙◌, subst, arith, ap₂}
use Rattle.std.specs.List.{AllByRecursion, filter, list_any, list_all}
use Rattle.std.specs.Str.{bytes_eq}
use Rattle.std.proofs.lemmas.Bool.{and_from, and_parts, or_cases, or_parts, or_left, or_right, or_from, and_left, and_right, le-ltb, lt-ltb, ltb-true, ltb-false, eq-eqb, not-true, not_from_false}
use Rattle.dconf_model.proofs.ParentLaws.{by_bool}
use Rattle.dconf_model.proofs.PathMaps.{no_truth}
use Rattle.dconf_model.specs.Locks.{covers}
use Rattle.dconf_times.specs.Noted.{is_among, is_note}
use Rattle.dconf_times.specs.Times.{Note, is_known, is_overtaken, time_of, time_told}
use Rattle.dconf_times.specs.Leaving.{IsNewest, IsOnlyGuessed, NoOlderWins, is_guess, is_guess_of, is_late, is_later, is_left, knows_better, overtakes}
use Rattle.dconf_times.specs.declared.leaving.DconfdbAsked.{DconfdbAsked}
use Rattle.dconf_times.proofs.NotedLaws.{one_note}

-- ---- tests

-- what is so of one that is among them is so of one of them
pub any_of : (f : Note → Bool) (note : Note) (notes : List Note) → is_among note notes ≡ true → f note ≡ true → list_any f notes ≡ true
any_of f note [] among is = absurd (no_truth among)
any_of f note (n ∷ notes) among is = elim (or_cases (is_note note n) (is_among note notes) among) [
  | inl same ↦ or_left (f n) (list_any f notes) (subst (λ m. f m ≡ true) (one_note note n same) is)
  | inr there ↦ or_right (f n) (list_any f notes) (any_of f note notes there is)
]

no_any : {X : Type 0} (f : X → Bool) (x : X) (xs : List X) → list_any f (x ∷ xs) ≡ false → (f x ≡ false) × (list_any f xs ≡ false)
no_any f x xs none = or_parts (f x) (list_any f xs) none

-- ---- changes

and_true : (b : Bool) → (b && true) ≡ b
and_true true = refl
and_true false = refl

and_false : (b : Bool) → (b && false) ≡ false
and_false true = refl
and_false false = refl

-- a number is one of a late edit's change
pub left_by_numbers : (late : DconfdbAsked → Bool) (c : ℕ) (edits : List DconfdbAsked) →
    list_any (λ n. n == c) (map (λ e. e.change) (filter late edits)) ≡ list_any (λ o. (o.change == c) && late o) edits
left_by_numbers late c [] = refl
left_by_numbers late c (e ∷ edits) =
    let rest = left_by_numbers late c edits in
    by_bool (late e) (list_any (λ n. n == c) (map (λ x. x.change) (filter late (e ∷ edits))) ≡ list_any (λ o. (o.change == c) && late o) (e ∷ edits))
    (λ is. rw is (ap₂ (λ a b. a || b) (sym (and_true (e.change == c))) rest))
    (λ is_not. rw is_not (rest ∙ ap (λ a. a || list_any (λ o. (o.change == c) && late o) edits) (sym (and_false (e.change == c)))))

pub left_all : (late : DconfdbAsked → Bool) (all edits : List DconfdbAsked) →
    map (λ e. list_any (λ n. n == e.change) (map (λ x. x.change) (filter late all))) edits ≡ map (is_left late all) edits
left_all late all [] = refl
left_all late all (e ∷ edits) = ap₂ (λ a b. a ∷ b) (left_by_numbers late e.change all) (left_all late all edits)

-- ---- the law

find_each : (Q : DconfdbAsked → DconfdbAsked → Bool) (edits : List DconfdbAsked) → AllByRecursion (λ e. Q e e ≡ true → list_any (Q e) edits ≡ true) edits
find_each Q [] = tt
find_each Q (x ∷ xs) = (or_left (Q x x) (list_any (Q x) xs), more_each xs (find_each Q xs))
  where
    more_each : (es : List DconfdbAsked) → AllByRecursion (λ e. Q e e ≡ true → list_any (Q e) xs ≡ true) es → AllByRecursion (λ e. Q e e ≡ true → list_any (Q e) (x ∷ xs) ≡ true) es
    more_each [] h = tt
    more_each (e ∷ es) h = ((λ is. or_right (Q e x) (list_any (Q e) xs) (h.0 is)), more_each es h.1)

module _ (now : ℕ) (notes seen : List Note) where
  abbrev late : DconfdbAsked → Bool
  late edit = is_late now notes seen edit

  -- what a note overtakes that is no guess is late
  late_by : (edit : DconfdbAsked) (note : Note) → is_among note notes ≡ true → is_known now note ≡ true → covers note.path edit.path.now ≡ true → is_guess note.when ≡ false →
      edit.is_own ≡ false → edit.when < note.when → late edit ≡ true
  late_by edit note among known over no_guess no_own later =
      and_from (not edit.is_own) (list_any (overtakes now (knows_better seen edit) edit) notes) (not_from_false edit.is_own no_own)
      (any_of (overtakes now (knows_better seen edit) edit) note notes among
      (and_from (is_later now edit note) (not (is_guess_of edit note && knows_better seen edit))
      (and_from (is_known now note && covers note.path edit.path.now) (nat_lt edit.when note.when) (and_from (is_known now note) (covers note.path edit.path.now) known over) (lt-ltb edit.when note.when later))
      (not_from_false (is_guess_of edit note && knows_better seen edit) (and_left (is_guess_of edit note) (knows_better seen edit) (and_left (is_guess note.when) (bytes_eq note.path edit.path.now) no_guess)))))

  newest_one : (edits : List DconfdbAsked) (edit : DconfdbAsked) →
      (((edit.change == edit.change) && late edit) ≡ true → list_any (λ o. (o.change == edit.change) && late o) edits ≡ true) →
      is_left late edits edit ≡ false → edit.is_own ≡ false → IsNewest now notes edit
  newest_one edits edit found stays no_own note among known over no_guess =
      by_bool (nat_lt edit.when note.when) (note.when ≤ edit.when)
      (λ is.
      let is_late_one : late edit ≡ true = late_by edit note among known over no_guess no_own (ltb-true edit.when note.when is) in
      absurd (no_truth (sym stays ∙ found (and_from (edit.change == edit.change) (late edit) (eq-eqb edit.change edit.change refl) is_late_one))))
      (λ is_not. ltb-false edit.when note.when is_not)

  newest_each : (edits es : List DconfdbAsked) →
      AllByRecursion (λ e. ((e.change == e.change) && late e) ≡ true → list_any (λ o. (o.change == e.change) && late o) edits ≡ true) es →
      AllByRecursion (λ e. is_left late edits e ≡ false → e.is_own ≡ false → IsNewest now notes e) es
  newest_each edits [] h = tt
  newest_each edits (e ∷ es) h = (newest_one edits e h.0, newest_each edits es h.1)

  -- ---- guesses

  none_overtakes : (edit : DconfdbAsked) (ns : List Note) (knows : Bool) → knows ≡ true →
      list_all (λ n. not (is_later now edit n && not (is_guess_of edit n))) ns ≡ true → list_any (overtakes now knows edit) ns ≡ false
  none_overtakes edit [] knows is all = refl
  none_overtakes edit (n ∷ ns) knows is all =
      let parts = and_parts (not (is_later now edit n && not (is_guess_of edit n))) (list_all (λ m. not (is_later now edit m && not (is_guess_of edit m))) ns) all in
      or_from (overtakes now knows edit n) (list_any (overtakes now knows edit) ns)
      (rw is (rw (and_true (is_guess_of edit n)) (not-true (is_later now edit n && not (is_guess_of edit n)) parts.0)))
      (none_overtakes edit ns knows is parts.1)

  guessed_one : (edit : DconfdbAsked) → knows_better seen edit ≡ true → IsOnlyGuessed now notes edit → late edit ≡ false
  guessed_one edit knows only = and_right (not edit.is_own) (list_any (overtakes now (knows_better seen edit) edit) notes) (none_overtakes edit notes (knows_better seen edit) knows only)

  -- ---- no guesses

  told : (edit : DconfdbAsked) (n : Note) (knows : Bool) → is_guess n.when ≡ false → overtakes now knows edit n ≡ nat_lt edit.when (time_told now edit.path.now n)
  told edit n knows no_guess =
      let plain : overtakes now knows edit n ≡ is_later now edit n = rw no_guess (and_true (is_later now edit n)) in
      plain ∙ by_bool (is_known now n && covers n.path edit.path.now) (is_later now edit n ≡ nat_lt edit.when (time_told now edit.path.now n))
      (λ is. rw is refl)
      (λ is_not. rw is_not (sym (le-ltb edit.when 0 (omega arith))))

  lt_max : (a b c : ℕ) → nat_lt a (max b c) ≡ (nat_lt a b || nat_lt a c)
  lt_max a b c = by_bool (nat_lt a b) (nat_lt a (max b c) ≡ (nat_lt a b || nat_lt a c))
      (λ is. let h = ltb-true a b is in lt-ltb a (max b c) (omega arith) ∙ sym (or_left (nat_lt a b) (nat_lt a c) is))
      (λ is_not. let h = ltb-false a b is_not in by_bool (nat_lt a c) (nat_lt a (max b c) ≡ (nat_lt a b || nat_lt a c))
      (λ more. let k = ltb-true a c more in lt-ltb a (max b c) (omega arith) ∙ sym (or_right (nat_lt a b) (nat_lt a c) more))
      (λ no_more. let k = ltb-false a c no_more in le-ltb a (max b c) (omega arith) ∙ sym (or_from (nat_lt a b) (nat_lt a c) is_not no_more)))

  no_guesses : (edit : DconfdbAsked) (ns : List Note) (knows : Bool) → list_any (λ n. is_guess n.when) ns ≡ false →
      list_any (overtakes now knows edit) ns ≡ is_overtaken now edit.path.now edit.when ns
  no_guesses edit [] knows none = sym (le-ltb edit.when 0 (omega arith))
  no_guesses edit (n ∷ ns) knows none =
      let parts = or_parts (is_guess n.when) (list_any (λ m. is_guess m.when) ns) none in
      ap₂ (λ a b. a || b) (told edit n knows parts.0) (no_guesses edit ns knows parts.1)
      ∙ sym (lt_max edit.when (time_told now edit.path.now n) (time_of now edit.path.now ns))

  noted_one : (edit : DconfdbAsked) → list_any (λ n. is_guess n.when) notes ≡ false → edit.is_own ≡ false → late edit ≡ is_overtaken now edit.path.now edit.when notes
  noted_one edit none no_own = rw no_own (no_guesses edit notes (knows_better seen edit) none)

pub no_older_wins : NoOlderWins
no_older_wins now notes seen edits = record {
  newest = newest_each now notes seen edits edits (find_each (λ e o. (o.change == e.change) && late now notes seen o) edits);
  guessed = guessed_one now notes seen;
  whole = λ edit other same. ap (λ c. list_any (λ o. (o.change == c) && late now notes seen o) edits) same;
  noted = noted_one now notes seen;
}
