-- Edits that wait, after one of them was left out, or its change refused.
use Rattle.std.proofs.Common.{ℕ, zero, suc, ◌+◌, ◌≡◌, ◌≢◌, ◌⊎◌, Bool, true, false, not, cond, List, [], ◌∷◌, length, map, Option, Some, None, refl, sym, ◌∙◌, ap, subst, arith, ⊎_elim, inl, inr}
use Rattle.std.specs.Prelude.{slice_get, slice_set}
use Rattle.std.proofs.lemmas.Bool.{and_parts, cases_Bool, cases_eq, not-true}
use Rattle.dconf_steps.specs.declared.queue.QueuedEdit.{QueuedEdit}
use Rattle.dconf_steps.specs.declared.queue.QueueStep.{QueueStep}
use Rattle.dconf_steps.specs.declared.queue.QueueStep.TheVariants.{Take, Pass, Write, Ask, Done}
use Rattle.dconf_steps.specs.declared.queue.QueueAnswer.{QueueAnswer}
use Rattle.dconf_steps.specs.declared.queue.QueueAnswer.TheVariants.{Locked, Fault}
use Rattle.dconf_steps.specs.Queues.{is_open_by, is_open, goes_by, goes, refused, refused_by, unmade, unmade_by, faulted_by, refused_for, marked}
use Rattle.dconf_steps.specs.QueueLaws.{is_refused_by, is_refused, is_left_out_by, is_left_out, IsOf, Sets, IsOwnFault, IsLockedReset, flag, unmarked, asked_of}

-- ---- an element that is set

set_same : (es : List QueuedEdit) (i : ℕ) (x y : QueuedEdit) → slice_get es i ≡ Some x → slice_get (slice_set es i y) i ≡ Some y
set_same [] i x y e = let bad : None ≡ Some x = e in cc
set_same (z ∷ more) zero x y e = refl
set_same (z ∷ more) (suc i) x y e = set_same more i x y e

set_other : (es : List QueuedEdit) (i k : ℕ) (y : QueuedEdit) → k ≢ i → slice_get (slice_set es i y) k ≡ slice_get es k
set_other [] i k y n = refl
set_other (z ∷ more) zero zero y n = absurd (n refl)
set_other (z ∷ more) zero (suc k) y n = refl
set_other (z ∷ more) (suc i) zero y n = refl
set_other (z ∷ more) (suc i) (suc k) y n = set_other more i k y (λ e. n (ap suc e))

set_length : (es : List QueuedEdit) (i : ℕ) (y : QueuedEdit) → length (slice_set es i y) ≡ length es
set_length [] i y = refl
set_length (z ∷ more) zero y = refl
set_length (z ∷ more) (suc i) y = ap (λ n. suc n) (set_length more i y)

abbrev with_refusal : QueuedEdit → QueuedEdit
with_refusal edit = record edit { is_refused = true }

abbrev without_it : QueuedEdit → QueuedEdit
without_it edit = record edit { is_left_out = true }

fewer_by : (es : List QueuedEdit) (i : ℕ) (x y : QueuedEdit) → slice_get es i ≡ Some x → (flag y.is_left_out + flag y.is_refused) + 1 ≡ flag x.is_left_out + flag x.is_refused
    → unmarked (slice_set es i y) + 1 ≡ unmarked es
fewer_by [] i x y e f = let bad : None ≡ Some x = e in cc
fewer_by (z ∷ more) zero x y e f =
    let one : Some z ≡ Some x = e in
    let same : x ≡ z = cc in
    let g : (flag y.is_left_out + flag y.is_refused) + 1 ≡ flag z.is_left_out + flag z.is_refused = subst (λ w. (flag y.is_left_out + flag y.is_refused) + 1 ≡ flag w.is_left_out + flag w.is_refused) same f in
    omega arith
fewer_by (z ∷ more) (suc i) x y e f = let rest : unmarked (slice_set more i y) + 1 ≡ unmarked more = fewer_by more i x y e f in omega arith

refusal_counts : (x : QueuedEdit) → x.is_refused ≡ false → (flag x.is_left_out + flag true) + 1 ≡ flag x.is_left_out + flag x.is_refused
refusal_counts x e = let one : flag x.is_refused ≡ 1 = ap flag e in omega arith

left_out_counts : (x : QueuedEdit) → x.is_left_out ≡ false → (flag true + flag x.is_refused) + 1 ≡ flag x.is_left_out + flag x.is_refused
left_out_counts x e = let one : flag x.is_left_out ≡ 1 = ap flag e in omega arith

-- ---- an edit that goes

pub record Going (es : List QueuedEdit) (at : ℕ) : Type 0 where
  pub edit : QueuedEdit
  pub is : slice_get es at ≡ Some edit
  pub left_in : edit.is_left_out ≡ false
  pub first : QueuedEdit
  pub first_is : slice_get es edit.change ≡ Some first
  pub kept : first.is_refused ≡ false

open_first : (o : Option QueuedEdit) → is_open_by o ≡ true → (first : QueuedEdit) × (o ≡ Some first) × (first.is_refused ≡ false)
open_first None e = let bad : false ≡ true = e in cc
open_first (Some first) e = (first, refl, not-true first.is_refused e)

going_by : (es : List QueuedEdit) (at : ℕ) (o : Option QueuedEdit) → slice_get es at ≡ o → goes_by es o ≡ true → Going es at
going_by es at None e g = let bad : false ≡ true = g in cc
going_by es at (Some edit) e g =
    let f = open_first (slice_get es edit.change) (and_parts (not edit.is_left_out) (is_open es edit.change) g).1 in
    record { edit = edit; is = e; left_in = not-true edit.is_left_out (and_parts (not edit.is_left_out) (is_open es edit.change) g).0; first = f.0; first_is = f.1; kept = f.2 }

pub going_is : (es : List QueuedEdit) (at : ℕ) → goes es at ≡ true → Going es at
going_is es at g = going_by es at (slice_get es at) refl g

-- ---- what becomes of them

refused_is : (es : List QueuedEdit) (change : ℕ) (first : QueuedEdit) → slice_get es change ≡ Some first → refused es change ≡ slice_set es change (with_refusal first)
refused_is es change first e = ap (λ o. refused_by es change o) e

unmade_is : (es : List QueuedEdit) (at : ℕ) (edit : QueuedEdit) → slice_get es at ≡ Some edit → unmade es at ≡ cond edit.sets (refused es edit.change) (slice_set es at (without_it edit))
unmade_is es at edit e = ap (λ o. unmade_by es at o) e

module _ (es : List QueuedEdit) (at : ℕ) (g : Going es at) where
  refused_fewer : unmarked (refused es g.edit.change) + 1 ≡ unmarked es
  refused_fewer =
      ap (λ l. unmarked l + 1) (refused_is es g.edit.change g.first g.first_is)
      ∙ fewer_by es g.edit.change g.first (with_refusal g.first) g.first_is (refusal_counts g.first g.kept)

  left_out_fewer : unmarked (slice_set es at (without_it g.edit)) + 1 ≡ unmarked es
  left_out_fewer = fewer_by es at g.edit (without_it g.edit) g.is (left_out_counts g.edit g.left_in)

  pub unmade_fewer : unmarked (unmade es at) + 1 ≡ unmarked es
  unmade_fewer =
      ⊎_elim (λ (t : g.edit.sets ≡ true). ap (λ l. unmarked l + 1) (unmade_is es at g.edit g.is ∙ ap (λ b. cond b (refused es g.edit.change) (slice_set es at (without_it g.edit))) t) ∙ refused_fewer)
      (λ (f : g.edit.sets ≡ false). ap (λ l. unmarked l + 1) (unmade_is es at g.edit g.is ∙ ap (λ b. cond b (refused es g.edit.change) (slice_set es at (without_it g.edit))) f) ∙ left_out_fewer)
      (cases_Bool g.edit.sets)

  pub refused_for_fewer : goes es at ≡ true → unmarked (refused_for es at) + 1 ≡ unmarked es
  refused_for_fewer t =
      ap (λ l. unmarked l + 1) (ap (λ b. cond b (faulted_by es (slice_get es at)) es) t ∙ ap (λ o. faulted_by es o) g.is) ∙ refused_fewer

refused_length : (es : List QueuedEdit) (change : ℕ) (o : Option QueuedEdit) → length (refused_by es change o) ≡ length es
refused_length es change None = refl
refused_length es change (Some first) = set_length es change (with_refusal first)

pub unmade_length : (es : List QueuedEdit) (at : ℕ) → length (unmade es at) ≡ length es
unmade_length es at = by (slice_get es at)
  where
    either : (b : Bool) (edit : QueuedEdit) → length (cond b (refused es edit.change) (slice_set es at (without_it edit))) ≡ length es
    either true edit = refused_length es edit.change (slice_get es edit.change)
    either false edit = set_length es at (without_it edit)

    by : (o : Option QueuedEdit) → length (unmade_by es at o) ≡ length es
    by None = refl
    by (Some edit) = either edit.sets edit

pub refused_for_length : (es : List QueuedEdit) (at : ℕ) → length (refused_for es at) ≡ length es
refused_for_length es at = either (goes es at)
  where
    by : (o : Option QueuedEdit) → length (faulted_by es o) ≡ length es
    by None = refl
    by (Some edit) = refused_length es edit.change (slice_get es edit.change)

    either : (b : Bool) → length (cond b (faulted_by es (slice_get es at)) es) ≡ length es
    either true = by (slice_get es at)
    either false = refl

-- ---- which changes are refused

module _ (es : List QueuedEdit) where
  -- of a change that is refused only that one
  refused_only : (change k : ℕ) (o : Option QueuedEdit) → slice_get es change ≡ o → is_refused (refused_by es change o) k ≡ true → (is_refused es k ≡ true) ⊎ (change ≡ k)
  refused_only change k None e r = inl r
  refused_only change k (Some first) e r =
      ⊎_elim (λ (same : k ≡ change). inr (sym same))
      (λ (other : k ≢ change). inl (sym (ap is_refused_by (set_other es change k (with_refusal first) other)) ∙ r)) (cases_eq k change)

  left_out_refuses : (at k : ℕ) (edit : QueuedEdit) → slice_get es at ≡ Some edit → is_refused (slice_set es at (without_it edit)) k ≡ true → is_refused es k ≡ true
  left_out_refuses at k edit e r =
      ⊎_elim (λ (same : k ≡ at). (let is : is_refused es at ≡ edit.is_refused = ap is_refused_by e in let now : is_refused (slice_set es at (without_it edit)) at ≡ edit.is_refused = ap is_refused_by (set_same es at edit (without_it edit) e) in
      subst (λ i. is_refused es i ≡ true) (sym same) (is ∙ sym now ∙ subst (λ i. is_refused (slice_set es at (without_it edit)) i ≡ true) same r)))
      (λ (other : k ≢ at). sym (ap is_refused_by (set_other es at k (without_it edit) other)) ∙ r) (cases_eq k at)

  unmade_own : (at k : ℕ) (o : Option QueuedEdit) → slice_get es at ≡ o → is_refused (unmade_by es at o) k ≡ true → (is_refused es k ≡ true) ⊎ (IsOf o k × Sets o true)
  unmade_own at k None e r = inl r
  unmade_own at k (Some edit) e r = either edit.sets refl r
    where
      either : (b : Bool) → edit.sets ≡ b → is_refused (cond b (refused es edit.change) (slice_set es at (without_it edit))) k ≡ true → (is_refused es k ≡ true) ⊎ ((edit.change ≡ k) × (edit.sets ≡ true))
      either true s r = ⊎_elim (λ was. inl was) (λ it. inr (it, s)) (refused_only edit.change k (slice_get es edit.change) refl r)
      either false s r = inl (left_out_refuses at k edit e r)

  faulted_own : (k : ℕ) (o : Option QueuedEdit) → is_refused (faulted_by es o) k ≡ true → (is_refused es k ≡ true) ⊎ IsOf o k
  faulted_own k None r = inl r
  faulted_own k (Some edit) r = refused_only edit.change k (slice_get es edit.change) refl r

  for_own : (at k : ℕ) (b : Bool) → is_refused (cond b (faulted_by es (slice_get es at)) es) k ≡ true → (is_refused es k ≡ true) ⊎ IsOf (slice_get es at) k
  for_own at k true r = faulted_own k (slice_get es at) r
  for_own at k false r = inl r

  pub own_by : (k : ℕ) (step : QueueStep) (answer : QueueAnswer) → is_refused (marked es step answer) k ≡ true → (is_refused es k ≡ true) ⊎ IsOwnFault k step es answer
  own_by k (Ask at) Locked r = unmade_own at k (slice_get es at) refl r
  own_by k Write (Fault at) r = for_own at k (goes es at) r
  own_by k (Take at) answer r = inl r
  own_by k (Pass at) answer r = inl r
  own_by k (Done end) answer r = inl r
  own_by k Write _ r = inl r
  own_by k (Ask at) _ r = inl r

  -- ---- which edits are left out

  refused_leaves : (change k : ℕ) (o : Option QueuedEdit) → slice_get es change ≡ o → is_left_out (refused_by es change o) k ≡ true → is_left_out es k ≡ true
  refused_leaves change k None e r = r
  refused_leaves change k (Some first) e r =
      ⊎_elim (λ (same : k ≡ change). (let is : is_left_out es change ≡ first.is_left_out = ap is_left_out_by e in let now : is_left_out (slice_set es change (with_refusal first)) change ≡ first.is_left_out = ap is_left_out_by (set_same es change first (with_refusal first) e) in
      subst (λ i. is_left_out es i ≡ true) (sym same) (is ∙ sym now ∙ subst (λ i. is_left_out (slice_set es change (with_refusal first)) i ≡ true) same r)))
      (λ (other : k ≢ change). sym (ap is_left_out_by (set_other es change k (with_refusal first) other)) ∙ r) (cases_eq k change)

  unmade_reset : (at k : ℕ) (o : Option QueuedEdit) → slice_get es at ≡ o → is_left_out (unmade_by es at o) k ≡ true → (is_left_out es k ≡ true) ⊎ ((k ≡ at) × Sets o false)
  unmade_reset at k None e r = inl r
  unmade_reset at k (Some edit) e r = either edit.sets refl r
    where
      either : (b : Bool) → edit.sets ≡ b → is_left_out (cond b (refused es edit.change) (slice_set es at (without_it edit))) k ≡ true → (is_left_out es k ≡ true) ⊎ ((k ≡ at) × (edit.sets ≡ false))
      either true s r = inl (refused_leaves edit.change k (slice_get es edit.change) refl r)
      either false s r =
          ⊎_elim (λ (same : k ≡ at). inr (same, s)) (λ (other : k ≢ at). inl (sym (ap is_left_out_by (set_other es at k (without_it edit) other)) ∙ r)) (cases_eq k at)

  faulted_leaves : (k : ℕ) (o : Option QueuedEdit) → is_left_out (faulted_by es o) k ≡ true → is_left_out es k ≡ true
  faulted_leaves k None r = r
  faulted_leaves k (Some edit) r = refused_leaves edit.change k (slice_get es edit.change) refl r

  for_leaves : (at k : ℕ) (b : Bool) → is_left_out (cond b (faulted_by es (slice_get es at)) es) k ≡ true → is_left_out es k ≡ true
  for_leaves at k true r = faulted_leaves k (slice_get es at) r
  for_leaves at k false r = r

  pub reset_by : (k : ℕ) (step : QueueStep) (answer : QueueAnswer) → is_left_out (marked es step answer) k ≡ true → (is_left_out es k ≡ true) ⊎ IsLockedReset k step es answer
  reset_by k (Ask at) Locked r = unmade_reset at k (slice_get es at) refl r
  reset_by k Write (Fault at) r = inl (for_leaves at k (goes es at) r)
  reset_by k (Take at) answer r = inl r
  reset_by k (Pass at) answer r = inl r
  reset_by k (Done end) answer r = inl r
  reset_by k Write _ r = inl r
  reset_by k (Ask at) _ r = inl r

-- ---- what is asked stays

set_map : (es : List QueuedEdit) (i : ℕ) (x y : QueuedEdit) → slice_get es i ≡ Some x → asked_of y ≡ asked_of x → map asked_of (slice_set es i y) ≡ map asked_of es
set_map [] i x y e s = refl
set_map (z ∷ more) zero x y e s = let one : Some z ≡ Some x = e in let same : x ≡ z = cc in ap (λ (w : QueuedEdit). w ∷ map asked_of more) (s ∙ ap asked_of same)
set_map (z ∷ more) (suc i) x y e s = ap (λ l. asked_of z ∷ l) (set_map more i x y e s)

module _ (es : List QueuedEdit) where
  abbrev Same : List QueuedEdit → Type 0
  Same after = map asked_of after ≡ map asked_of es

  refused_asked : (change : ℕ) (o : Option QueuedEdit) → slice_get es change ≡ o → Same (refused_by es change o)
  refused_asked change None e = refl
  refused_asked change (Some first) e = set_map es change first (with_refusal first) e refl

  unmade_asked : (at : ℕ) (o : Option QueuedEdit) → slice_get es at ≡ o → Same (unmade_by es at o)
  unmade_asked at None e = refl
  unmade_asked at (Some edit) e = either edit.sets
    where
      either : (b : Bool) → Same (cond b (refused es edit.change) (slice_set es at (without_it edit)))
      either true = refused_asked edit.change (slice_get es edit.change) refl
      either false = set_map es at edit (without_it edit) e refl

  faulted_asked : (o : Option QueuedEdit) → Same (faulted_by es o)
  faulted_asked None = refl
  faulted_asked (Some edit) = refused_asked edit.change (slice_get es edit.change) refl

  for_asked : (at : ℕ) (b : Bool) → Same (cond b (faulted_by es (slice_get es at)) es)
  for_asked at true = faulted_asked (slice_get es at)
  for_asked at false = refl

  pub marked_asked : (step : QueueStep) (answer : QueueAnswer) → Same (marked es step answer)
  marked_asked (Ask at) Locked = unmade_asked at (slice_get es at) refl
  marked_asked Write (Fault at) = for_asked at (goes es at)
  marked_asked (Take at) answer = refl
  marked_asked (Pass at) answer = refl
  marked_asked (Done end) answer = refl
  marked_asked Write _ = refl
  marked_asked (Ask at) _ = refl
