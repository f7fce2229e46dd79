-- What holds of a look at the files of a store after any answers.
use Rattle.std.proofs.Common.{ℕ, zero, suc, ◌+◌, ◌*◌, ◌-◌, ◌<◌, ◌≤◌, ◌≡◌, ◌⊎◌, Bool, true, false, not, ◌&&◌, List, [], ◌∷◌, length, Option, Some, None, refl, sym, ◌∙◌, ap, subst, arith, ⊎_elim, inl, inr}
use Rattle.std.specs.Prelude.{if◌then◌else◌, ◌==◌, IsTrue}
use Rattle.std.proofs.lemmas.Bool.{cases_Bool, cases_lt, not-true, not-false}
use Rattle.dconf_files.proofs.SameLaws.{same_holds}
use Rattle.dconf_verdicts.specs.declared.faults.FaultKind.{FaultKind}
use Rattle.dconf_verdicts.specs.Faults.{is_files_own}
use Rattle.dconf_steps.specs.declared.refresh.Refresh.{Refresh}
use Rattle.dconf_steps.specs.declared.refresh.LookStage.TheVariants.{Asking, Reading}
use Rattle.dconf_steps.specs.declared.refresh.LookEnd.{LookEnd}
use Rattle.dconf_steps.specs.declared.refresh.LookEnd.TheVariants.{Failed, Same, Newer}
use Rattle.dconf_steps.specs.declared.refresh.LookStep.{LookStep}
use Rattle.dconf_steps.specs.declared.refresh.LookStep.TheVariants.{Stat, Read, Compare, Keep, Open, Done}
use Rattle.dconf_steps.specs.Looks.{look_step_at, look_step, IsLookDone, first_look, after_reading, end_of, AreNext, LookGoes, newer_after, IsRefreshBegun, IsLookAnswered}
use Rattle.dconf_steps.specs.RefreshLaws.{Looked, RanLook, HasLooked, SaysSame, IsKeptWell, AreKeptWell, had_by, had_of, numbers_from, IsOpening, HasOpened, IsRefusal, HasRefused, IsJudged, AreJudged, IsNotOwn, HasRefusedOtherwise, IsUnread, HasUnread, Files, was, is, NoteChanges, IsSaidSame, IsTrueOf, AreTrueOf, WhateverIsSeen}

-- ---- which step comes

abbrev IsFirst : LookStep → ℕ → Type 0
IsFirst next at = (next ≡ Stat at) ⊎ (next ≡ Read at)

first_by : (b : Bool) (at : ℕ) → IsFirst (look_step_at (if b then Asking else Reading) at) at
first_by true at = inl refl
first_by false at = inr refl

first_is : (has_old in_turn : Bool) (at : ℕ) → IsFirst (look_step_at (first_look has_old in_turn at) at) at
first_is has_old in_turn at = first_by (has_old && not (in_turn && (at == 0))) at

abbrev IsNext : Refresh → ℕ → Bool → LookStep → Type 0
IsNext r at newer next = ((at + 1 < r.count) × IsFirst next (at + 1)) ⊎ ((r.count ≤ at + 1) × (next ≡ Done (end_of newer)))

next_is : (r : Refresh) (at : ℕ) (newer : Bool) (next : LookStep) → AreNext r at newer next → IsNext r at newer next
next_is r at newer next n =
    ⊎_elim (λ (l : at + 1 < r.count). inl (l, subst (λ x. IsFirst x (at + 1)) (sym (n.more l)) (first_is r.has_old r.in_turn (at + 1))))
    (λ (l : r.count ≤ at + 1). inr (l, n.last l)) (cases_lt (at + 1) r.count)

abbrev IsReadOn : LookStep → ℕ → Type 0
IsReadOn next at = (next ≡ Compare at) ⊎ (next ≡ Open at)

read_on : (has_old : Bool) (at : ℕ) → IsReadOn (look_step_at (after_reading has_old) at) at
read_on true at = inl refl
read_on false at = inr refl

read_on_is : (r : Refresh) (at : ℕ) (next : LookStep) → next ≡ look_step_at (after_reading r.has_old) at → IsReadOn next at
read_on_is r at next e = subst (λ x. IsReadOn x at) (sym e) (read_on r.has_old at)

stays : (taken : List Looked) (r u : Refresh) → RanLook taken r u → IsLookDone (look_step r) → (u ≡ r) × (taken ≡ [])
stays [] r u h d = (h, refl)
stays (s ∷ more) r u h d = absurd (h.1 (subst IsLookDone (sym h.0) d))

ended_at : (taken : List Looked) (r u : Refresh) (end : LookEnd) → RanLook taken r u → look_step r ≡ Done end → (look_step u ≡ Done end) × (taken ≡ [])
ended_at taken r u end h e = let s = stays taken r u h (subst IsLookDone (sym e) tt) in (ap look_step s.0 ∙ e, s.1)

-- ---- what is kept

module _ (s : Looked) (r : Refresh) where
  abbrev Kept : LookStep → Type 0
  Kept next = IsKeptWell (Some s) next

  kept_first : (next : LookStep) (at : ℕ) → IsFirst next at → Kept next
  kept_first next at h = ⊎_elim (λ (e : next ≡ Stat at). subst Kept (sym e) tt) (λ (e : next ≡ Read at). subst Kept (sym e) tt) h

  kept_next : (at : ℕ) (newer : Bool) (next : LookStep) → AreNext r at newer next → Kept next
  kept_next at newer next n = ⊎_elim (λ h. kept_first next (at + 1) h.1) (λ h. subst Kept (sym h.1) tt) (next_is r at newer next n)

  next_kept : (step : LookStep) (said : Bool) (next : LookStep) → s.step ≡ step → s.said ≡ said → LookGoes r step said next → Kept next
  next_kept (Stat at) true next e y g = subst Kept (sym g) (inl e, y)
  next_kept (Read at) true next e y g = ⊎_elim (λ (c : next ≡ Compare at). subst Kept (sym c) tt) (λ (c : next ≡ Open at). subst Kept (sym c) tt) (read_on_is r at next g)
  next_kept (Compare at) true next e y g = subst Kept (sym g) (inr e, y)
  next_kept (Keep at) said next e y g = kept_next at r.is_newer next g
  next_kept (Open at) true next e y g = kept_next at true next g
  next_kept (Done end) said next e y g = subst Kept (sym g) tt
  next_kept _ false next e y g = subst Kept (sym g) tt

kept_well : (before : Option Looked) (taken : List Looked) (r u : Refresh) → RanLook taken r u → IsKeptWell before (look_step r) → AreKeptWell before taken
kept_well before [] r u h k = tt
kept_well before (s ∷ more) r u h k = (
  subst (λ x. IsKeptWell before x) (sym h.0) k,
  kept_well (Some s) more h.2.0 u h.2.2 (next_kept s r (look_step r) s.said (look_step h.2.0) h.0 refl h.2.1.goes),
)

-- ---- a turn

stat_next : (r : Refresh) (at : ℕ) (newer : Bool) (next : LookStep) → AreNext r at newer next → next ≡ Stat 0 → ⊥
stat_next r at newer next n e =
    ⊎_elim (λ h. ⊎_elim (λ (c : next ≡ Stat (at + 1)). (let bad : Stat (at + 1) ≡ Stat 0 = sym c ∙ e in let same : at + 1 ≡ 0 = cc in omega arith))
    (λ (c : next ≡ Read (at + 1)). (let bad : Read (at + 1) ≡ Stat 0 = sym c ∙ e in cc)) h.1)
    (λ h. (let bad : Done (end_of newer) ≡ Stat 0 = sym h.1 ∙ e in cc)) (next_is r at newer next n)

not_asked : (r : Refresh) (step : LookStep) (said : Bool) (next : LookStep) → LookGoes r step said next → next ≡ Stat 0 → ⊥
not_asked r (Stat at) true next g e = let bad : Keep at ≡ Stat 0 = sym g ∙ e in cc
not_asked r (Stat at) false next g e = let bad : Read at ≡ Stat 0 = sym g ∙ e in cc
not_asked r (Read at) true next g e =
    ⊎_elim (λ (c : next ≡ Compare at). (let bad : Compare at ≡ Stat 0 = sym c ∙ e in cc)) (λ (c : next ≡ Open at). (let bad : Open at ≡ Stat 0 = sym c ∙ e in cc)) (read_on_is r at next g)
not_asked r (Compare at) true next g e = let bad : Keep at ≡ Stat 0 = sym g ∙ e in cc
not_asked r (Compare at) false next g e = let bad : Open at ≡ Stat 0 = sym g ∙ e in cc
not_asked r (Keep at) said next g e = stat_next r at r.is_newer next g e
not_asked r (Open at) true next g e = stat_next r at true next g e
not_asked r (Done end) said next g e = let bad : Done end ≡ Stat 0 = sym g ∙ e in cc
not_asked r _ false next g e = let bad : Done Failed ≡ Stat 0 = sym g ∙ e in cc

never_asked : (taken : List Looked) (r u : Refresh) → RanLook taken r u → (look_step r ≡ Stat 0 → ⊥) → (said : Bool) → HasLooked (Stat 0) said taken → ⊥
never_asked [] r u h n said x = x
never_asked (s ∷ more) r u h n said x =
    ⊎_elim (λ here. n (sym h.0 ∙ here.0))
    (λ later. never_asked more h.2.0 u h.2.2 (not_asked r (look_step r) s.said (look_step h.2.0) h.2.1.goes) said later) x

turn_first : (has_old : Bool) → look_step_at (first_look has_old true 0) 0 ≡ Read 0
turn_first true = refl
turn_first false = refl

failed_read : (r next : Refresh) (step : LookStep) (said : Bool) → step ≡ Read 0 → said ≡ false → LookGoes r step said (look_step next) → look_step next ≡ Done Failed
failed_read r next step said e y g = subst (λ b. LookGoes r (Read 0) b (look_step next)) y (subst (λ x. LookGoes r x said (look_step next)) e g)

abbrev IsGoodEnd : LookStep → Type 0
IsGoodEnd step = (step ≡ Done Same) ⊎ (step ≡ Done Newer)

not_failed : (step : LookStep) → IsGoodEnd step → step ≡ Done Failed → ⊥
not_failed step g e = ⊎_elim (λ (s : step ≡ Done Same). (let bad : Done Same ≡ Done Failed = sym s ∙ e in cc)) (λ (s : step ≡ Done Newer). (let bad : Done Newer ≡ Done Failed = sym s ∙ e in cc)) g

not_read : (step : LookStep) (at : ℕ) → IsGoodEnd step → step ≡ Read at → ⊥
not_read step at g e = ⊎_elim (λ (s : step ≡ Done Same). (let bad : Done Same ≡ Read at = sym s ∙ e in cc)) (λ (s : step ≡ Done Newer). (let bad : Done Newer ≡ Read at = sym s ∙ e in cc)) g

first_read : (taken : List Looked) (r u : Refresh) → RanLook taken r u → look_step r ≡ Read 0 → IsGoodEnd (look_step u) → HasLooked (Read 0) true taken
first_read [] r u h e g = absurd (not_read (look_step u) 0 g (ap look_step h ∙ e))
first_read (s ∷ more) r u h e g =
    ⊎_elim (λ (y : s.said ≡ true). inl (h.0 ∙ e, y))
    (λ (y : s.said ≡ false). absurd (not_failed (look_step u) g (ended_at more h.2.0 u Failed h.2.2 (failed_read r h.2.0 (look_step r) s.said e y h.2.1.goes)).0))
    (cases_Bool s.said)

-- ---- which parts are had

abbrev InRange : ℕ → LookStep → Type 0
InRange count (Stat at) = at < count
InRange count (Read at) = at < count
InRange count (Compare at) = at < count
InRange count (Keep at) = at < count
InRange count (Open at) = at < count
InRange count (Done end) = Unit {0}

abbrev rest_of : ℕ → LookStep → List ℕ
rest_of count (Stat at) = numbers_from at (count - at)
rest_of count (Read at) = numbers_from at (count - at)
rest_of count (Compare at) = numbers_from at (count - at)
rest_of count (Keep at) = numbers_from at (count - at)
rest_of count (Open at) = numbers_from at (count - at)
rest_of count (Done end) = []

abbrev left_of : ℕ → LookStep → ℕ
left_of count (Stat at) = 4 * (count - at)
left_of count (Read at) = 4 * (count - at) - 1
left_of count (Compare at) = 4 * (count - at) - 2
left_of count (Keep at) = 4 * (count - at) - 3
left_of count (Open at) = 4 * (count - at) - 3
left_of count (Done end) = 0

numbers_next : (at count : ℕ) → at < count → at ∷ numbers_from (at + 1) (count - (at + 1)) ≡ numbers_from at (count - at)
numbers_next at count lt =
    let e : count - at ≡ suc (count - (at + 1)) = omega arith in
    let s : at + 1 ≡ suc at = omega arith in
    ap (λ k. at ∷ numbers_from k (count - (at + 1))) s ∙ ap (λ n. numbers_from at n) (sym e)

numbers_last : (at count : ℕ) → at < count → count ≤ at + 1 → at ∷ [] ≡ numbers_from at (count - at)
numbers_last at count lt le = let e : count - at ≡ suc 0 = omega arith in ap (λ n. numbers_from at n) (sym e)

-- what a step leaves
record IsOne (count : ℕ) (step : LookStep) (said : Bool) (next : LookStep) : Type 0 where
  parts : (next ≡ Done Failed → ⊥) → had_by step said (rest_of count next) ≡ rest_of count step
  fewer : left_of count next < left_of count step
  within : InRange count next

module _ (count at : ℕ) (lt : at < count) where
  to_read : IsOne count (Stat at) false (Read at)
  to_read = record { parts = λ n. refl; fewer = omega arith; within = lt }

  to_keep : IsOne count (Stat at) true (Keep at)
  to_keep = record { parts = λ n. refl; fewer = omega arith; within = lt }

  to_compare : IsOne count (Read at) true (Compare at)
  to_compare = record { parts = λ n. refl; fewer = omega arith; within = lt }

  to_open : IsOne count (Read at) true (Open at)
  to_open = record { parts = λ n. refl; fewer = omega arith; within = lt }

  not_had : IsOne count (Read at) false (Done Failed)
  not_had = record { parts = λ n. absurd (n refl); fewer = omega arith; within = tt }

  same_bytes : IsOne count (Compare at) true (Keep at)
  same_bytes = record { parts = λ n. refl; fewer = omega arith; within = lt }

  other_bytes : IsOne count (Compare at) false (Open at)
  other_bytes = record { parts = λ n. refl; fewer = omega arith; within = lt }

  not_opened : IsOne count (Open at) false (Done Failed)
  not_opened = record { parts = λ n. absurd (n refl); fewer = omega arith; within = tt }

  keep_stat : (said : Bool) → at + 1 < count → IsOne count (Keep at) said (Stat (at + 1))
  keep_stat said l = record { parts = λ n. numbers_next at count lt; fewer = omega arith; within = l }

  keep_read : (said : Bool) → at + 1 < count → IsOne count (Keep at) said (Read (at + 1))
  keep_read said l = record { parts = λ n. numbers_next at count lt; fewer = omega arith; within = l }

  keep_last : (said : Bool) (end : LookEnd) → count ≤ at + 1 → IsOne count (Keep at) said (Done end)
  keep_last said end l = record { parts = λ n. numbers_last at count lt l; fewer = omega arith; within = tt }

  open_stat : at + 1 < count → IsOne count (Open at) true (Stat (at + 1))
  open_stat l = record { parts = λ n. numbers_next at count lt; fewer = omega arith; within = l }

  open_read : at + 1 < count → IsOne count (Open at) true (Read (at + 1))
  open_read l = record { parts = λ n. numbers_next at count lt; fewer = omega arith; within = l }

  open_last : (end : LookEnd) → count ≤ at + 1 → IsOne count (Open at) true (Done end)
  open_last end l = record { parts = λ n. numbers_last at count lt l; fewer = omega arith; within = tt }

module _ (r : Refresh) where
  abbrev One : LookStep → Bool → LookStep → Type 0
  One step said next = IsOne r.count step said next

  after_keep : (at : ℕ) (said newer : Bool) (next : LookStep) → at < r.count → AreNext r at newer next → One (Keep at) said next
  after_keep at said newer next lt n =
      ⊎_elim (λ h. ⊎_elim (λ (c : next ≡ Stat (at + 1)). subst (One (Keep at) said) (sym c) (keep_stat r.count at lt said h.0))
      (λ (c : next ≡ Read (at + 1)). subst (One (Keep at) said) (sym c) (keep_read r.count at lt said h.0)) h.1)
      (λ h. subst (One (Keep at) said) (sym h.1) (keep_last r.count at lt said (end_of newer) h.0)) (next_is r at newer next n)

  after_open : (at : ℕ) (newer : Bool) (next : LookStep) → at < r.count → AreNext r at newer next → One (Open at) true next
  after_open at newer next lt n =
      ⊎_elim (λ h. ⊎_elim (λ (c : next ≡ Stat (at + 1)). subst (One (Open at) true) (sym c) (open_stat r.count at lt h.0))
      (λ (c : next ≡ Read (at + 1)). subst (One (Open at) true) (sym c) (open_read r.count at lt h.0)) h.1)
      (λ h. subst (One (Open at) true) (sym h.1) (open_last r.count at lt (end_of newer) h.0)) (next_is r at newer next n)

  one : (step : LookStep) (said : Bool) (next : LookStep) → InRange r.count step → ¬ IsLookDone step → LookGoes r step said next → One step said next
  one (Stat at) true next lt d g = subst (One (Stat at) true) (sym g) (to_keep r.count at lt)
  one (Stat at) false next lt d g = subst (One (Stat at) false) (sym g) (to_read r.count at lt)
  one (Read at) true next lt d g =
      ⊎_elim (λ (c : next ≡ Compare at). subst (One (Read at) true) (sym c) (to_compare r.count at lt))
      (λ (c : next ≡ Open at). subst (One (Read at) true) (sym c) (to_open r.count at lt)) (read_on_is r at next g)
  one (Read at) false next lt d g = subst (One (Read at) false) (sym g) (not_had r.count at lt)
  one (Compare at) true next lt d g = subst (One (Compare at) true) (sym g) (same_bytes r.count at lt)
  one (Compare at) false next lt d g = subst (One (Compare at) false) (sym g) (other_bytes r.count at lt)
  one (Keep at) said next lt d g = after_keep at said r.is_newer next lt g
  one (Open at) true next lt d g = after_open at true next lt g
  one (Open at) false next lt d g = subst (One (Open at) false) (sym g) (not_opened r.count at lt)
  one (Done end) said next lt d g = absurd (d tt)

-- the step that was carried out
taken_one : (s : Looked) (r next : Refresh) → s.step ≡ look_step r → ¬ IsLookDone s.step → IsLookAnswered r s.said next → InRange r.count (look_step r)
    → IsOne r.count (look_step r) s.said (look_step next)
taken_one s r next e d a within = one r (look_step r) s.said (look_step next) within (subst (λ x. ¬ IsLookDone x) e d) a.goes

whole : (taken : List Looked) (r u : Refresh) → RanLook taken r u → InRange r.count (look_step r) → IsGoodEnd (look_step u) → had_of taken ≡ rest_of r.count (look_step r)
whole [] r u h w g = done_rest r.count (look_step r) (subst IsGoodEnd (ap look_step h) g)
  where
    done_rest : (count : ℕ) (step : LookStep) → IsGoodEnd step → [] ≡ rest_of count step
    done_rest count step e = ⊎_elim (λ (s : step ≡ Done Same). subst (λ x. [] ≡ rest_of count x) (sym s) refl) (λ (s : step ≡ Done Newer). subst (λ x. [] ≡ rest_of count x) (sym s) refl) e
whole (s ∷ more) r u h w g =
    let next = h.2.0 in
    let a : IsLookAnswered r s.said next = h.2.1 in
    let o : IsOne r.count (look_step r) s.said (look_step next) = taken_one s r next h.0 h.1 a w in
    let rest : had_of more ≡ rest_of next.count (look_step next) = whole more next u h.2.2 (subst (λ n. InRange n (look_step next)) (sym a.count) o.within) g in
    let counts : rest_of next.count (look_step next) ≡ rest_of r.count (look_step next) = ap (λ n. rest_of n (look_step next)) a.count in
    ap (λ x. had_by x s.said (had_of more)) h.0 ∙ ap (λ l. had_by (look_step r) s.said l) (rest ∙ counts)
    ∙ o.parts (λ (f : look_step next ≡ Done Failed). not_failed (look_step u) g (ended_at more next u Failed h.2.2 f).0)

counted : (taken : List Looked) (r u : Refresh) → RanLook taken r u → InRange r.count (look_step r) → length taken ≤ left_of r.count (look_step r)
counted [] r u h w = omega arith
counted (s ∷ more) r u h w =
    let next = h.2.0 in
    let a : IsLookAnswered r s.said next = h.2.1 in
    let o : IsOne r.count (look_step r) s.said (look_step next) = taken_one s r next h.0 h.1 a w in
    let rest : length more ≤ left_of next.count (look_step next) = counted more next u h.2.2 (subst (λ n. InRange n (look_step next)) (sym a.count) o.within) in
    let counts : left_of next.count (look_step next) ≡ left_of r.count (look_step next) = ap (λ n. left_of n (look_step next)) a.count in
    let less : left_of r.count (look_step next) < left_of r.count (look_step r) = o.fewer in omega arith

-- ---- how it ends

end_same : (newer : Bool) → Done (end_of newer) ≡ Done Same → newer ≡ false
end_same false e = refl
end_same true e = let bad : Done Newer ≡ Done Same = e in cc

end_newer : (newer : Bool) → Done (end_of newer) ≡ Done Newer → newer ≡ true
end_newer true e = refl
end_newer false e = let bad : Done Same ≡ Done Newer = e in cc

end_failed : (newer : Bool) → Done (end_of newer) ≡ Done Failed → ⊥
end_failed true e = let bad : Done Newer ≡ Done Failed = e in cc
end_failed false e = let bad : Done Same ≡ Done Failed = e in cc

-- the end comes after the last file
last_end : (r : Refresh) (at : ℕ) (newer : Bool) (next : LookStep) (end : LookEnd) → AreNext r at newer next → next ≡ Done end → Done (end_of newer) ≡ Done end
last_end r at newer next end n e =
    ⊎_elim (λ h. ⊎_elim (λ (c : next ≡ Stat (at + 1)). (let bad : Stat (at + 1) ≡ Done end = sym c ∙ e in cc))
    (λ (c : next ≡ Read (at + 1)). (let bad : Read (at + 1) ≡ Done end = sym c ∙ e in cc)) h.1)
    (λ h. sym h.1 ∙ e) (next_is r at newer next n)

abbrev SameBy : Refresh → LookStep → Bool → Type 0
SameBy r step said = (step ≡ Done Same) ⊎ ((r.is_newer ≡ false) × ¬ IsOpening step said)

same_by : (r : Refresh) (step : LookStep) (said : Bool) (next : LookStep) → LookGoes r step said next → next ≡ Done Same → SameBy r step said
same_by r (Stat at) true next g e = let bad : Keep at ≡ Done Same = sym g ∙ e in cc
same_by r (Stat at) false next g e = let bad : Read at ≡ Done Same = sym g ∙ e in cc
same_by r (Read at) true next g e =
    ⊎_elim (λ (c : next ≡ Compare at). (let bad : Compare at ≡ Done Same = sym c ∙ e in cc)) (λ (c : next ≡ Open at). (let bad : Open at ≡ Done Same = sym c ∙ e in cc)) (read_on_is r at next g)
same_by r (Compare at) true next g e = let bad : Keep at ≡ Done Same = sym g ∙ e in cc
same_by r (Compare at) false next g e = let bad : Open at ≡ Done Same = sym g ∙ e in cc
same_by r (Keep at) said next g e = inr (end_same r.is_newer (last_end r at r.is_newer next Same g e), λ x. x)
same_by r (Open at) true next g e = let bad : true ≡ false = end_same true (last_end r at true next Same g e) in cc
same_by r (Done end) said next g e = inl (sym g ∙ e)
same_by r _ false next g e = let bad : Done Failed ≡ Done Same = sym g ∙ e in cc

newer_false : (step : LookStep) (said before : Bool) → newer_after step said before ≡ false → (before ≡ false) × ¬ IsOpening step said
newer_false (Open at) true before e = let bad : true ≡ false = e in cc
newer_false (Open at) false before e = (e, λ x. x)
newer_false _ said before e = (e, λ x. x)

abbrev NewerBy : Refresh → LookStep → Bool → Type 0
NewerBy r step said = (step ≡ Done Newer) ⊎ ((r.is_newer ≡ true) ⊎ IsOpening step said)

newer_by : (r : Refresh) (step : LookStep) (said : Bool) (next : LookStep) → LookGoes r step said next → next ≡ Done Newer → NewerBy r step said
newer_by r (Stat at) true next g e = let bad : Keep at ≡ Done Newer = sym g ∙ e in cc
newer_by r (Stat at) false next g e = let bad : Read at ≡ Done Newer = sym g ∙ e in cc
newer_by r (Read at) true next g e =
    ⊎_elim (λ (c : next ≡ Compare at). (let bad : Compare at ≡ Done Newer = sym c ∙ e in cc)) (λ (c : next ≡ Open at). (let bad : Open at ≡ Done Newer = sym c ∙ e in cc)) (read_on_is r at next g)
newer_by r (Compare at) true next g e = let bad : Keep at ≡ Done Newer = sym g ∙ e in cc
newer_by r (Compare at) false next g e = let bad : Open at ≡ Done Newer = sym g ∙ e in cc
newer_by r (Keep at) said next g e = inr (inl (end_newer r.is_newer (last_end r at r.is_newer next Newer g e)))
newer_by r (Open at) true next g e = inr (inr tt)
newer_by r (Done end) said next g e = inl (sym g ∙ e)
newer_by r _ false next g e = let bad : Done Failed ≡ Done Newer = sym g ∙ e in cc

newer_true : (step : LookStep) (said before : Bool) → newer_after step said before ≡ true → (before ≡ true) ⊎ IsOpening step said
newer_true (Open at) true before e = inr tt
newer_true (Open at) false before e = inl e
newer_true _ said before e = inl e

failed_by : (r : Refresh) (step : LookStep) (said : Bool) (next : LookStep) → LookGoes r step said next → next ≡ Done Failed → (step ≡ Done Failed) ⊎ IsRefusal step said
failed_by r (Stat at) true next g e = let bad : Keep at ≡ Done Failed = sym g ∙ e in cc
failed_by r (Stat at) false next g e = let bad : Read at ≡ Done Failed = sym g ∙ e in cc
failed_by r (Read at) true next g e =
    ⊎_elim (λ (c : next ≡ Compare at). (let bad : Compare at ≡ Done Failed = sym c ∙ e in cc)) (λ (c : next ≡ Open at). (let bad : Open at ≡ Done Failed = sym c ∙ e in cc)) (read_on_is r at next g)
failed_by r (Compare at) true next g e = let bad : Keep at ≡ Done Failed = sym g ∙ e in cc
failed_by r (Compare at) false next g e = let bad : Open at ≡ Done Failed = sym g ∙ e in cc
failed_by r (Keep at) said next g e = absurd (end_failed r.is_newer (last_end r at r.is_newer next Failed g e))
failed_by r (Open at) true next g e = absurd (end_failed true (last_end r at true next Failed g e))
failed_by r (Done end) said next g e = inl (sym g ∙ e)
failed_by r _ false next g e = inr tt

is_opening : (s : Looked) (step : LookStep) → s.step ≡ step → IsOpening s.step s.said → IsOpening step s.said
is_opening s step e o = subst (λ x. IsOpening x s.said) e o

abbrev SameEnd : List Looked → Refresh → Type 0
SameEnd taken r = (look_step r ≡ Done Same) ⊎ ((r.is_newer ≡ false) × ¬ HasOpened taken)

same_end : (taken : List Looked) (r u : Refresh) → RanLook taken r u → look_step u ≡ Done Same → SameEnd taken r
same_end [] r u h e = inl (ap look_step (sym h) ∙ e)
same_end (s ∷ more) r u h e =
    let next = h.2.0 in
    let a : IsLookAnswered r s.said next = h.2.1 in
    ⊎_elim (λ (end : look_step next ≡ Done Same). ⊎_elim (λ was. inl was)
    (λ it. inr (
      it.0,
      λ o. ⊎_elim (λ here. it.1 (is_opening s (look_step r) h.0 here))
          (λ later. subst HasOpened (ended_at more next u Same h.2.2 end).1 later) o,
    ))
    (same_by r (look_step r) s.said (look_step next) a.goes end))
    (λ it. (let was = newer_false (look_step r) s.said r.is_newer (sym a.newer ∙ it.0) in
    inr (was.0, λ o. ⊎_elim (λ here. was.1 (is_opening s (look_step r) h.0 here)) (λ later. it.1 later) o)))
    (same_end more next u h.2.2 e)

abbrev NewerEnd : List Looked → Refresh → Type 0
NewerEnd taken r = (look_step r ≡ Done Newer) ⊎ ((r.is_newer ≡ true) ⊎ HasOpened taken)

newer_end : (taken : List Looked) (r u : Refresh) → RanLook taken r u → look_step u ≡ Done Newer → NewerEnd taken r
newer_end [] r u h e = inl (ap look_step (sym h) ∙ e)
newer_end (s ∷ more) r u h e =
    let next = h.2.0 in
    let a : IsLookAnswered r s.said next = h.2.1 in
    let back = λ (o : IsOpening (look_step r) s.said). subst (λ x. IsOpening x s.said) (sym h.0) o in
    ⊎_elim (λ (end : look_step next ≡ Done Newer). ⊎_elim (λ was. inl was) (λ it. inr (⊎_elim (λ n. inl n) (λ o. inr (inl (back o))) it))
    (newer_by r (look_step r) s.said (look_step next) a.goes end))
    (λ it. ⊎_elim (λ n. inr (⊎_elim (λ b. inl b) (λ o. inr (inl (back o))) (newer_true (look_step r) s.said r.is_newer (sym a.newer ∙ n)))) (λ o. inr (inr (inr o))) it)
    (newer_end more next u h.2.2 e)

failed_end : (taken : List Looked) (r u : Refresh) → RanLook taken r u → look_step u ≡ Done Failed → (look_step r ≡ Done Failed) ⊎ HasRefused taken
failed_end [] r u h e = inl (ap look_step (sym h) ∙ e)
failed_end (s ∷ more) r u h e =
    ⊎_elim (λ (end : look_step h.2.0 ≡ Done Failed). ⊎_elim (λ was. inl was) (λ it. inr (inl (subst (λ x. IsRefusal x s.said) (sym h.0) it)))
    (failed_by r (look_step r) s.said (look_step h.2.0) h.2.1.goes end)) (λ later. inr (inr later)) (failed_end more h.2.0 u h.2.2 e)

-- ---- what the parts are of

abbrev BeforeTrue : Files → Option Looked → Type 0
BeforeTrue f None = Unit {0}
BeforeTrue f (Some s) = IsTrueOf f s.step s.said

stat_tells : (f : Files) → NoteChanges f → (at : ℕ) → IsSaidSame f at → is f at ≡ was f at
stat_tells f notes at same = same_holds (f.course at) (notes at) (f.reading at) (f.now at) (f.later at) same

same_of : (f : Files) (before : Option Looked) (at : ℕ) → NoteChanges f → BeforeTrue f before → SaysSame before at → is f at ≡ was f at
same_of f None at tells t s = absurd s
same_of f (Some b) at tells t s =
    ⊎_elim (λ (e : b.step ≡ Stat at). stat_tells f tells at (subst (λ y. IsTrueOf f (Stat at) y) s.1 (subst (λ x. IsTrueOf f x b.said) e t)))
    (λ (e : b.step ≡ Compare at). subst (λ y. IsTrueOf f (Compare at) y) s.1 (subst (λ x. IsTrueOf f x b.said) e t)) s.0

kept_true : (f : Files) (before : Option Looked) (taken : List Looked) (at : ℕ) (said : Bool) → NoteChanges f → AreKeptWell before taken → BeforeTrue f before → AreTrueOf f taken
    → HasLooked (Keep at) said taken → is f at ≡ was f at
kept_true f before [] at said tells k b t h = absurd h
kept_true f before (s ∷ more) at said tells k b t h =
    ⊎_elim (λ here. same_of f before at tells b (subst (λ x. IsKeptWell before x) here.0 k.0))
    (λ later. kept_true f (Some s) more at said tells k.1 t.0 t.1 later) h

-- ---- the law

none_or_some : (count : ℕ) → (count ≡ 0) ⊎ (0 < count)
none_or_some zero = inl refl
none_or_some (suc n) = inr (omega arith)

module _ (count : ℕ) (has_old in_turn is_lenient : Bool) (r : Refresh) (b : IsRefreshBegun count has_old in_turn is_lenient r) where
  abbrev FirstOf : LookStep → Type 0
  FirstOf step = ((0 < count) × IsFirst step 0) ⊎ ((count ≡ 0) × (step ≡ Done (end_of (not has_old))))

  begun : FirstOf (look_step r)
  begun = ⊎_elim (λ none. inr (none, b.none none)) (λ some. inl (some, subst (λ x. IsFirst x 0) (sym (b.some some)) (first_is has_old in_turn 0))) (none_or_some count)

  first_end : (end : LookEnd) → look_step r ≡ Done end → (count ≡ 0) × (Done (end_of (not has_old)) ≡ Done end)
  first_end end e =
      ⊎_elim (λ h. ⊎_elim (λ (c : look_step r ≡ Stat 0). (let bad : Stat 0 ≡ Done end = sym c ∙ e in cc)) (λ (c : look_step r ≡ Read 0). (let bad : Read 0 ≡ Done end = sym c ∙ e in cc)) h.1)
      (λ h. (h.0, sym h.1 ∙ e)) begun

  first_range : InRange r.count (look_step r)
  first_range =
      ⊎_elim (λ h. (let lt : 0 < r.count = subst (λ n. 0 < n) (sym b.count_is) h.0 in
      ⊎_elim (λ (c : look_step r ≡ Stat 0). subst (λ x. InRange r.count x) (sym c) lt) (λ (c : look_step r ≡ Read 0). subst (λ x. InRange r.count x) (sym c) lt) h.1))
      (λ h. subst (λ x. InRange r.count x) (sym h.1) tt) begun

  all_of : r.count - 0 ≡ count
  all_of = let same : r.count ≡ count = b.count_is in omega arith

  first_rest : rest_of r.count (look_step r) ≡ numbers_from 0 count
  first_rest =
      ⊎_elim (λ h. ⊎_elim (λ (c : look_step r ≡ Stat 0). ap (λ x. rest_of r.count x) c ∙ ap (λ n. numbers_from 0 n) all_of)
      (λ (c : look_step r ≡ Read 0). ap (λ x. rest_of r.count x) c ∙ ap (λ n. numbers_from 0 n) all_of) h.1)
      (λ h. ap (λ x. rest_of r.count x) h.1 ∙ ap (λ n. numbers_from 0 n) (sym h.0)) begun

  first_left : left_of r.count (look_step r) ≤ 4 * count
  first_left =
      (let same : r.count ≡ count = b.count_is in
      ⊎_elim (λ h. ⊎_elim (λ (c : look_step r ≡ Stat 0). (let e : left_of r.count (look_step r) ≡ 4 * (r.count - 0) = ap (λ x. left_of r.count x) c in omega arith))
      (λ (c : look_step r ≡ Read 0). (let e : left_of r.count (look_step r) ≡ 4 * (r.count - 0) - 1 = ap (λ x. left_of r.count x) c in omega arith)) h.1)
      (λ h. (let e : left_of r.count (look_step r) ≡ 0 = ap (λ x. left_of r.count x) h.1 in omega arith)) begun)

  first_kept : IsKeptWell None (look_step r)
  first_kept =
      ⊎_elim (λ h. ⊎_elim (λ (c : look_step r ≡ Stat 0). subst (λ x. IsKeptWell None x) (sym c) tt) (λ (c : look_step r ≡ Read 0). subst (λ x. IsKeptWell None x) (sym c) tt) h.1)
      (λ h. subst (λ x. IsKeptWell None x) (sym h.1) tt) begun

  in_turn_read : IsTrue in_turn → 0 < count → look_step r ≡ Read 0
  in_turn_read t some = b.some some ∙ subst (λ x. look_step_at (first_look has_old x 0) 0 ≡ Read 0) (sym t) (turn_first has_old)

  in_turn_not_asked : IsTrue in_turn → look_step r ≡ Stat 0 → ⊥
  in_turn_not_asked t e =
      ⊎_elim (λ none. (let bad : Done (end_of (not has_old)) ≡ Stat 0 = sym (b.none none) ∙ e in cc)) (λ some. (let bad : Read 0 ≡ Stat 0 = sym (in_turn_read t some) ∙ e in cc)) (none_or_some count)

-- ---- faults of the host

not_own : (lenient : Bool) (step : LookStep) (said : Bool) (fault : Option FaultKind) → lenient ≡ true → IsJudged lenient step said fault → IsRefusal step said
    → IsNotOwn step fault
not_own lenient (Read at) true fault l j r = absurd r
not_own lenient (Read at) false None l j r = tt
not_own lenient (Read at) false (Some kind) l j r = subst (λ x. (x && is_files_own kind) ≡ false) l (sym j)
not_own lenient (Stat at) said fault l j r = absurd r
not_own lenient (Compare at) said fault l j r = absurd r
not_own lenient (Keep at) said fault l j r = absurd r
not_own lenient (Open at) said fault l j r = tt
not_own lenient (Done end) said fault l j r = absurd r

refused_otherwise : (lenient : Bool) (taken : List Looked) → lenient ≡ true → AreJudged lenient taken → HasRefused taken → HasRefusedOtherwise taken
refused_otherwise lenient [] l j r = absurd r
refused_otherwise lenient (s ∷ more) l j r =
    ⊎_elim (λ here. inl (here, not_own lenient s.step s.said s.fault l j.0 here)) (λ later. inr (refused_otherwise lenient more l j.1 later)) r

refuses : (lenient : Bool) (step : LookStep) (said : Bool) (fault : Option FaultKind) → lenient ≡ false → IsJudged lenient step said fault → IsUnread step fault
    → IsRefusal step said
refuses lenient (Read at) said None l j u = absurd u
refuses lenient (Read at) said (Some kind) l j u =
    subst (λ x. IsRefusal (Read at) x) (sym (j ∙ ap (λ x. x && is_files_own kind) l)) tt
refuses lenient (Stat at) said fault l j u = absurd u
refuses lenient (Compare at) said fault l j u = absurd u
refuses lenient (Keep at) said fault l j u = absurd u
refuses lenient (Open at) said fault l j u = absurd u
refuses lenient (Done end) said fault l j u = absurd u

unread_refuses : (lenient : Bool) (taken : List Looked) → lenient ≡ false → AreJudged lenient taken → HasUnread taken → HasRefused taken
unread_refuses lenient [] l j u = absurd u
unread_refuses lenient (s ∷ more) l j u =
    ⊎_elim (λ here. inl (refuses lenient s.step s.said s.fault l j.0 here)) (λ later. inr (unread_refuses lenient more l j.1 later)) u

pub whatever_is_seen : WhateverIsSeen
whatever_is_seen count has_old in_turn is_lenient taken r u b ran =
    let kept : AreKeptWell None taken = kept_well None taken r u ran (first_kept count has_old in_turn is_lenient r b) in
    let range = first_range count has_old in_turn is_lenient r b in
    let parts = λ (g : IsGoodEnd (look_step u)). whole taken r u ran range g ∙ first_rest count has_old in_turn is_lenient r b in
    record {
      kept = kept;
      unasked = λ t said x. never_asked taken r u ran (in_turn_not_asked count has_old in_turn is_lenient r b t) said x;
      read = λ t some g. first_read taken r u ran (in_turn_read count has_old in_turn is_lenient r b t some) g;
      same = λ e. (
        parts (inl e),
        ⊎_elim (λ was. not-false has_old (end_same (not has_old) (first_end count has_old in_turn is_lenient r b Same was).1)) (λ it. not-false has_old (sym b.newer ∙ it.0)) (same_end taken r u ran e),
        λ o. ⊎_elim (λ was. subst HasOpened (ended_at taken r u Same ran was).1 o) (λ it. it.1 o) (same_end taken r u ran e),
      );
      newer = λ e. (
        parts (inr e),
        ⊎_elim (λ was. inl (not-true has_old (end_newer (not has_old) (first_end count has_old in_turn is_lenient r b Newer was).1)))
            (λ it. ⊎_elim (λ n. inl (not-true has_old (sym b.newer ∙ n))) (λ o. inr o) it) (newer_end taken r u ran e),
      );
      failed = λ e. ⊎_elim (λ was. absurd (end_failed (not has_old) (first_end count has_old in_turn is_lenient r b Failed was).1)) (λ x. x) (failed_end taken r u ran e);
      lenient = λ lenient judged e. refused_otherwise is_lenient taken lenient judged (⊎_elim (λ was. absurd (end_failed (not has_old) (first_end count has_old in_turn is_lenient r b Failed was).1)) (λ x. x) (failed_end taken r u ran e));
      strict = λ strict judged unread. unread_refuses is_lenient taken strict judged unread;
      count_is = (let c = counted taken r u ran range in let l = first_left count has_old in_turn is_lenient r b in omega arith);
      seen = λ f tells t at c p. ⊎_elim (λ k. k.1 ∙ sym (kept_true f None taken at k.0.0 tells kept tt t k.0.1)) (λ o. o.1) p;
    }
