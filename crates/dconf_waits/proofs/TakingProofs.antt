-- A try to take a lock ends: each answer leaves less to be done, by what is left of what is counted.
use Rattle.std.proofs.Common.{ℕ, zero, suc, ◌+◌, ◌-◌, ◌*◌, ◌<◌, ◌≤◌, ◌≡◌, ◌⊎◌, ◌==◌, ◌&&◌, Bool, true, false, not, List, [], ◌∷◌, length, if◌then◌else◌, refl, sym, ◌∙◌, ap, subst, arith, ⊎_elim, inl, inr}
use Rattle.std.specs.Prelude.{nat_lt}
use Rattle.std.proofs.lemmas.Bool.{eqb-true, ltb-true, ne_eqb}
use Rattle.dconf_verdicts.specs.declared.standing.Seen.{Seen}
use Rattle.dconf_verdicts.specs.declared.standing.Standing.{Standing}
use Rattle.dconf_verdicts.specs.declared.standing.Standing.TheVariants as standing
use Rattle.dconf_verdicts.specs.declared.standing.Purpose.TheVariants.{Look, OpenLock, HoldLock}
use Rattle.dconf_verdicts.specs.Standings.{standing_of}
use Rattle.dconf_waits.specs.declared.taking.TakingRecord.{TakingRecord}
use Rattle.dconf_waits.specs.Takings.{above_seen, begun, by_names, by_old, by_removal, failed, file_made, folder_made, folder_opened, forked, is_for_others, listed, locked, missing, moved, opened_anew, over, taken, to, unmade}
use Rattle.dconf_waits.specs.TakingLaws.{EachTryEnds, EndsIn, ForksArePausedFor, is_over, makes_at, NothingIsMadeUnasked}

-- ---- what is left

abbrev again_left : Bool → ℕ
again_left is = if is then 0 else 1

abbrev made_left : Bool → ℕ
made_left is = if is then 0 else 1

-- who makes the folder has made it
abbrev folders_left : ℕ → Bool → ℕ
folders_left task is = if task == 2 then 0 else made_left is

-- a folder that is to be opened has all openings of the lock's file before it
abbrev openings_left : ℕ → ℕ → ℕ
openings_left task openings = if task == 12 then 100 else if nat_lt task 3 then 100 else 99 - openings

abbrev place : ℕ → ℕ
place task = if task == 1 then 12 else if task == 2 then 13 else if task == 12 then 13 else 13 - task

abbrev left_at : ℕ → TakingRecord → ℕ
left_at task t =
    16000 * again_left t.is_again + (1450 * (9 - t.forks) + (1450 * folders_left task t.has_made + (14 * openings_left task t.openings + place task)))

abbrev left : TakingRecord → ℕ
left t = left_at t.task t

-- ---- what is less

less_place : (a k f o p q : ℕ) → q < p → 16000 * a + (1450 * k + (1450 * f + (14 * o + q))) < 16000 * a + (1450 * k + (1450 * f + (14 * o + p)))
less_place a k f o p q h = omega arith

less_open : (a k f o n p q : ℕ) → n < o → q < p + 14 → 16000 * a + (1450 * k + (1450 * f + (14 * n + q))) < 16000 * a + (1450 * k + (1450 * f + (14 * o + p)))
less_open a k f o n p q h g = omega arith

less_made : (a k f o p : ℕ) → f ≡ 1 → 16000 * a + (1450 * k + 1413) < 16000 * a + (1450 * k + (1450 * f + (14 * o + p)))
less_made a k f o p h = omega arith

less_forked : (a k n f o p : ℕ) → n < k → 16000 * a + (1450 * n + (1450 * f + 1413)) < 16000 * a + (1450 * k + (1450 * f + (14 * o + p)))
less_forked a k n f o p h = omega arith

less_again : (a k f o p : ℕ) → a ≡ 1 → 15912 < 16000 * a + (1450 * k + (1450 * f + (14 * o + p)))
less_again a k f o p h = omega arith

-- ---- where it goes

abbrev Falls : ℕ → TakingRecord → Type 0
Falls n u = (is_over u ≡ true) ⊎ ((0 < u.task) × (u.task < 13) × (left u < n))

by_test : (is : Bool) (n : ℕ) (u v : TakingRecord) → (is ≡ true → Falls n u) → (is ≡ false → Falls n v) → Falls n (if is then u else v)
by_test true n u v p q = p refl
by_test false n u v p q = q refl

goes_to : (n k : ℕ) (u : TakingRecord) → u.task ≡ k → 0 < k → k < 13 → left u < n → Falls n u
goes_to n k u e a b h = inr (subst (λ (x : ℕ). 0 < x) (sym e) a, subst (λ (x : ℕ). x < 13) (sym e) b, h)

one_left : (a b : Bool) → (a && not b) ≡ true → made_left b ≡ 1
one_left true false h = refl
one_left true true h = absurd (let bad : false ≡ true = h in cc)
one_left false b h = absurd (let bad : false ≡ true = h in cc)

first_time : (b : Bool) → b ≡ false → again_left b ≡ 1
first_time false h = refl
first_time true h = absurd (let bad : true ≡ false = h in cc)

failed_falls : (t : TakingRecord) (fault o p : ℕ)
    → Falls (16000 * again_left t.is_again + (1450 * (9 - t.forks) + (1450 * made_left t.has_made + (14 * o + p)))) (failed t fault)
failed_falls t fault o p =
    by_test ((fault == 2) && not t.has_made) _ (to t 2) (over t 15 3 fault)
    (λ is. goes_to _ 2 (to t 2) refl (omega arith) (omega arith) (less_made (again_left t.is_again) (9 - t.forks) (made_left t.has_made) o p (one_left (fault == 2) t.has_made is)))
    (λ is. inl refl)

missing_falls : (t : TakingRecord) (may_make : Bool) (fault o p : ℕ)
    → Falls (16000 * again_left t.is_again + (1450 * (9 - t.forks) + (1450 * made_left t.has_made + (14 * o + p)))) (missing t may_make fault)
missing_falls t may_make fault o p = by_test may_make _ (failed t fault) (over t 15 3 fault) (λ is. failed_falls t fault o p) (λ is. inl refl)

moved_falls : (t : TakingRecord) (f o p : ℕ) → Falls (16000 * again_left t.is_again + (1450 * (9 - t.forks) + (1450 * f + (14 * o + p)))) (moved t)
moved_falls t f o p =
    by_test t.is_again _ (over t 15 2 0) (record (begun t) { is_again = true })
    (λ is. inl refl)
    (λ is. goes_to _ 1 (record (begun t) { is_again = true }) refl (omega arith) (omega arith) (less_again (again_left t.is_again) (9 - t.forks) f o p (first_time t.is_again is)))

-- it goes on to a later task
later_falls : (t : TakingRecord) (k next : ℕ) → 2 < k → k < next → next < 12
    → left (to t next) ≡ 16000 * again_left t.is_again + (1450 * (9 - t.forks) + (1450 * made_left t.has_made + (14 * (99 - t.openings) + (13 - next))))
    → Falls (16000 * again_left t.is_again + (1450 * (9 - t.forks) + (1450 * made_left t.has_made + (14 * (99 - t.openings) + (13 - k))))) (to t next)
later_falls t k next a b c is =
    goes_to _ next (to t next) refl (omega (arith, a, b)) (omega (arith, c))
    (subst
    (λ (x : ℕ). x < 16000 * again_left t.is_again + (1450 * (9 - t.forks) + (1450 * made_left t.has_made + (14 * (99 - t.openings) + (13 - k))))) (sym is)
    (less_place (again_left t.is_again) (9 - t.forks) (made_left t.has_made) (99 - t.openings) (13 - k) (13 - next) (omega (arith, a, b, c))))

forked_falls : (t : TakingRecord) (o p : ℕ)
    → Falls (16000 * again_left t.is_again + (1450 * (9 - t.forks) + (1450 * made_left t.has_made + (14 * o + p)))) (forked t)
forked_falls t o p =
    by_test (nat_lt t.forks 9) _ (record t { task = 12; forks = t.forks + 1 }) (over t 15 1 11)
    (λ is. (let fewer : t.forks < 9 = ltb-true t.forks 9 is in
    goes_to _ 12 (record t { task = 12; forks = t.forks + 1 }) refl (omega arith) (omega arith)
    (less_forked (again_left t.is_again) (9 - t.forks) (9 - (t.forks + 1)) (made_left t.has_made) o p (omega (arith, fewer)))))
    (λ is. inl refl)

-- ---- the tasks

opened_falls : (t : TakingRecord) (may_make : Bool) (fault : ℕ) → Falls (left_at 1 t) (folder_opened t may_make fault)
opened_falls t may_make fault =
    by_test (fault == 0) _ (record t { task = 3; openings = 0 }) _
    (λ is. goes_to _ 3 (record t { task = 3; openings = 0 }) refl (omega arith) (omega arith) (less_open (again_left t.is_again) (9 - t.forks) (made_left t.has_made) 100 99 12 10 (omega arith) (omega arith)))
    (λ is. by_test (fault == 11) _ (forked t) (missing t may_make fault) (λ is. forked_falls t 100 12) (λ is. missing_falls t may_make fault 100 12))

folder_falls : (t : TakingRecord) (fault : ℕ) → Falls (left_at 2 t) (folder_made t fault)
folder_falls t fault =
    by_test (fault == 0) _ (record t { task = 1; has_made = true }) (over t 15 3 fault)
    (λ is. goes_to _ 1 (record t { task = 1; has_made = true }) refl (omega arith) (omega arith) (less_place (again_left t.is_again) (9 - t.forks) 0 100 13 12 (omega arith)))
    (λ is. inl refl)

unmade_falls : (t : TakingRecord) (may_make : Bool) → Falls (left_at 3 t) (unmade t may_make)
unmade_falls t may_make =
    by_test may_make _ (to t 4) (over t 15 3 2) (λ is. later_falls t 3 4 (omega arith) (omega arith) (omega arith) refl) (λ is. inl refl)

old_falls : (t : TakingRecord) (may_make : Bool) (st : Standing) → Falls (left_at 3 t) (by_old t may_make st)
old_falls t may_make standing.Good = later_falls t 3 8 (omega arith) (omega arith) (omega arith) refl
old_falls t may_make (standing.Fault fault) = missing_falls t may_make fault (99 - t.openings) 10
old_falls t may_make standing.Nothing = unmade_falls t may_make
old_falls t may_make standing.Map = unmade_falls t may_make
old_falls t may_make standing.Head = unmade_falls t may_make
old_falls t may_make standing.Other = unmade_falls t may_make

above_falls : (t : TakingRecord) (s : Seen) → Falls (left_at 4 t) (above_seen t s)
above_falls t s =
    by_test (not (s.fault == 0)) _ (failed t s.fault) _
    (λ is. failed_falls t s.fault (99 - t.openings) 9)
    (λ at_once. by_test (is_for_others s) _ (to t 5) (to t 7)
    (λ is. later_falls t 4 5 (omega arith) (omega arith) (omega arith) refl)
    (λ is. later_falls t 4 7 (omega arith) (omega arith) (omega arith) refl))

anew_falls : (t : TakingRecord) (p : ℕ) → Falls (16000 * again_left t.is_again + (1450 * (9 - t.forks) + (1450 * made_left t.has_made + (14 * (99 - t.openings) + p)))) (opened_anew t)
anew_falls t p =
    by_test (nat_lt t.openings 99) _ (record t { task = 3; openings = t.openings + 1 }) (over t 15 3 17)
    (λ is. (let fewer : t.openings < 99 = ltb-true t.openings 99 is in
    goes_to _ 3 (record t { task = 3; openings = t.openings + 1 }) refl (omega arith) (omega arith)
    (less_open (again_left t.is_again) (9 - t.forks) (made_left t.has_made) (99 - t.openings) (99 - (t.openings + 1)) p 10 (omega (arith, fewer)) (omega arith))))
    (λ is. inl refl)

-- one way after the other
file_falls : (t : TakingRecord) (k fault : ℕ) → 4 < k → k < 8 → t.task ≡ k
    → Falls (16000 * again_left t.is_again + (1450 * (9 - t.forks) + (1450 * made_left t.has_made + (14 * (99 - t.openings) + (13 - k))))) (file_made t fault)
file_falls t k fault a b e =
    by_test (fault == 0) _ (to t 8) _ (λ h. later_falls t k 8 (omega (arith, a)) b (omega arith) refl)
    (λ h. by_test (fault == 17) _ (opened_anew t) _ (λ g. anew_falls t (13 - k))
    (λ g. by_test (t.task == 5) _ (to t 6) _ (λ five. (let at5 : k ≡ 5 = sym e ∙ eqb-true t.task 5 five in later_falls t k 6 (omega (arith, a)) (omega (arith, at5)) (omega arith) refl))
    (λ five. by_test (t.task == 6) _ (to t 7) _ (λ six. (let at6 : k ≡ 6 = sym e ∙ eqb-true t.task 6 six in later_falls t k 7 (omega (arith, a)) (omega (arith, at6)) (omega arith) refl))
    (λ six. failed_falls t fault (99 - t.openings) (13 - k)))))

listed_falls : (t : TakingRecord) (fault : ℕ) → Falls (left_at 8 t) (listed t fault)
listed_falls t fault =
    by_test (fault == 0) _ (to t 9) (forked t) (λ h. later_falls t 8 9 (omega arith) (omega arith) (omega arith) refl)
    (λ h. forked_falls t (99 - t.openings) 5)

locked_falls : (t : TakingRecord) (fault : ℕ) → Falls (left_at 9 t) (locked t fault)
locked_falls t fault = by_test (fault == 0) _ (to t 10) (over t 14 1 fault) (λ h. later_falls t 9 10 (omega arith) (omega arith) (omega arith) refl) (λ h. inl refl)

names_fall : (t : TakingRecord) (st : Standing) → Falls (left_at 10 t) (by_names t st)
names_fall t standing.Good = inl refl
names_fall t standing.Other = later_falls t 10 11 (omega arith) (omega arith) (omega arith) refl
names_fall t standing.Nothing = moved_falls t (made_left t.has_made) (99 - t.openings) 3
names_fall t standing.Map = moved_falls t (made_left t.has_made) (99 - t.openings) 3
names_fall t standing.Head = moved_falls t (made_left t.has_made) (99 - t.openings) 3
names_fall t (standing.Fault fault) = moved_falls t (made_left t.has_made) (99 - t.openings) 3

removal_falls : (t : TakingRecord) (st : Standing) → Falls (left_at 11 t) (by_removal t st)
removal_falls t (standing.Fault fault) = inl refl
removal_falls t standing.Good = moved_falls t (made_left t.has_made) (99 - t.openings) 2
removal_falls t standing.Nothing = moved_falls t (made_left t.has_made) (99 - t.openings) 2
removal_falls t standing.Map = moved_falls t (made_left t.has_made) (99 - t.openings) 2
removal_falls t standing.Head = moved_falls t (made_left t.has_made) (99 - t.openings) 2
removal_falls t standing.Other = moved_falls t (made_left t.has_made) (99 - t.openings) 2

pause_falls : (t : TakingRecord) → Falls (left_at 12 t) (to t 1)
pause_falls t =
    goes_to _ 1 (to t 1) refl (omega arith) (omega arith) (less_place (again_left t.is_again) (9 - t.forks) (made_left t.has_made) 100 13 12 (omega arith))

-- ---- each of them

abbrev taken_at : ℕ → TakingRecord → Seen → TakingRecord
taken_at task t s =
    if task == 1 then folder_opened t s.may_make s.fault else if task == 2 then folder_made t s.fault else
    if task == 3 then by_old t s.may_make (standing_of OpenLock s) else if task == 4 then above_seen t s else
    if task == 5 then file_made t s.fault else if task == 6 then file_made t s.fault else if task == 7 then file_made t s.fault else
    if task == 8 then listed t s.fault else if task == 9 then locked t s.fault else
    if task == 10 then by_names t (standing_of HoldLock s) else if task == 11 then by_removal t (standing_of Look s) else
    if task == 12 then to t 1 else if task == 14 then record (begun t) { task = 9 } else begun t

task_falls : (k : ℕ) (t : TakingRecord) (s : Seen) → t.task ≡ k → 0 < k → k < 13 → Falls (left_at k t) (taken_at k t s)
task_falls zero t s e a b = absurd (omega (arith, a))
task_falls (suc zero) t s e a b = opened_falls t s.may_make s.fault
task_falls (suc (suc zero)) t s e a b = folder_falls t s.fault
task_falls (suc (suc (suc zero))) t s e a b = old_falls t s.may_make (standing_of OpenLock s)
task_falls (suc (suc (suc (suc zero)))) t s e a b = above_falls t s
task_falls (suc (suc (suc (suc (suc zero))))) t s e a b = file_falls t 5 s.fault (omega arith) (omega arith) e
task_falls (suc (suc (suc (suc (suc (suc zero)))))) t s e a b = file_falls t 6 s.fault (omega arith) (omega arith) e
task_falls (suc (suc (suc (suc (suc (suc (suc zero))))))) t s e a b = file_falls t 7 s.fault (omega arith) (omega arith) e
task_falls (suc (suc (suc (suc (suc (suc (suc (suc zero)))))))) t s e a b = listed_falls t s.fault
task_falls (suc (suc (suc (suc (suc (suc (suc (suc (suc zero))))))))) t s e a b = locked_falls t s.fault
task_falls (suc (suc (suc (suc (suc (suc (suc (suc (suc (suc zero)))))))))) t s e a b = names_fall t (standing_of HoldLock s)
task_falls (suc (suc (suc (suc (suc (suc (suc (suc (suc (suc (suc zero))))))))))) t s e a b = removal_falls t (standing_of Look s)
task_falls (suc (suc (suc (suc (suc (suc (suc (suc (suc (suc (suc (suc zero)))))))))))) t s e a b = pause_falls t
task_falls (suc (suc (suc (suc (suc (suc (suc (suc (suc (suc (suc (suc (suc n))))))))))))) t s e a b = absurd (omega (arith, b))

each_falls : (t : TakingRecord) (s : Seen) → 0 < t.task → t.task < 13 → Falls (left t) (taken t s)
each_falls t s a b = task_falls t.task t s refl a b

-- ---- it ends

ends : (n : ℕ) (answers : List Seen) (t : TakingRecord) → 0 < t.task → t.task < 13 → left t < n → n ≤ length answers → EndsIn answers t
ends zero answers t a b h l = absurd (omega (arith, h))
ends (suc n) [] t a b h l = absurd (omega (arith, l))
ends (suc n) (s ∷ more) t a b h l =
    ⊎_elim (λ (is : is_over (taken t s) ≡ true). inl is)
    (λ (r : (0 < (taken t s).task) × ((taken t s).task < 13) × (left (taken t s) < left t)). inr (ends n more (taken t s) r.0 r.1 (omega (arith, r.2, h)) (omega (arith, l))))
    (each_falls t s a b)

-- the first answer begins it
begin : (t : TakingRecord) (s : Seen) (more : List Seen) (k : ℕ) → t.task ≡ k → 31999 ≤ length more → taken_at k t s ≡ begun t → EndsIn (s ∷ more) t
begin t s more k e l is =
    let same : taken t s ≡ begun t = ap (λ (n : ℕ). taken_at n t s) e ∙ is in
    let low : 0 < 1 = omega arith in
    let high : 1 < 13 = omega arith in
    let few : 31912 < 31913 = omega arith in
    inr (subst (EndsIn more) (sym same) (ends 31913 more (begun t) low high few (omega (arith, l))))

again : (t : TakingRecord) (s : Seen) (more : List Seen) → t.task ≡ 14 → 31999 ≤ length more → EndsIn (s ∷ more) t
again t s more e l =
    let same : taken t s ≡ record (begun t) { task = 9 } = ap (λ (n : ℕ). taken_at n t s) e in
    let low : 0 < 9 = omega arith in
    let high : 9 < 13 = omega arith in
    let few : 31890 < 31913 = omega arith in
    inr (subst (EndsIn more) (sym same) (ends 31913 more (record (begun t) { task = 9 }) low high few (omega (arith, l))))

pub each_try_ends : EachTryEnds
each_try_ends [] t h l = absurd (omega (arith, l))
each_try_ends (s ∷ more) t h l =
    let enough : 31999 ≤ length more = omega (arith, l) in
    ⊎_elim (λ e. begin t s more 0 e enough refl)
    (λ r. ⊎_elim (λ e. begin t s more 13 e enough refl) (λ q. ⊎_elim (λ e. again t s more e enough) (λ e. begin t s more 15 e enough refl) q) r) h

-- ---- nothing is made unasked

abbrev Unmaking : TakingRecord → Type 0
Unmaking u = makes_at u.task ≡ false

either : (is : Bool) (u v : TakingRecord) → Unmaking u → Unmaking v → Unmaking (if is then u else v)
either true u v p q = p
either false u v p q = q

old_unmaking : (t : TakingRecord) (st : Standing) → Unmaking (by_old t false st)
old_unmaking t standing.Good = refl
old_unmaking t (standing.Fault fault) = refl
old_unmaking t standing.Nothing = refl
old_unmaking t standing.Map = refl
old_unmaking t standing.Head = refl
old_unmaking t standing.Other = refl

moved_unmaking : (t : TakingRecord) → Unmaking (moved t)
moved_unmaking t = either t.is_again (over t 15 2 0) (record (begun t) { is_again = true }) refl refl

names_unmaking : (t : TakingRecord) (st : Standing) → Unmaking (by_names t st)
names_unmaking t standing.Good = refl
names_unmaking t standing.Other = refl
names_unmaking t standing.Nothing = moved_unmaking t
names_unmaking t standing.Map = moved_unmaking t
names_unmaking t standing.Head = moved_unmaking t
names_unmaking t (standing.Fault fault) = moved_unmaking t

removal_unmaking : (t : TakingRecord) (st : Standing) → Unmaking (by_removal t st)
removal_unmaking t (standing.Fault fault) = refl
removal_unmaking t standing.Good = moved_unmaking t
removal_unmaking t standing.Nothing = moved_unmaking t
removal_unmaking t standing.Map = moved_unmaking t
removal_unmaking t standing.Head = moved_unmaking t
removal_unmaking t standing.Other = moved_unmaking t

forked_unmaking : (t : TakingRecord) → Unmaking (forked t)
forked_unmaking t = either (nat_lt t.forks 9) (record t { task = 12; forks = t.forks + 1 }) (over t 15 1 11) refl refl

listed_unmaking : (t : TakingRecord) (fault : ℕ) → Unmaking (listed t fault)
listed_unmaking t fault = either (fault == 0) (to t 9) _ refl (forked_unmaking t)

unless : (is : Bool) (u v : TakingRecord) → is ≡ false → Unmaking v → Unmaking (if is then u else v)
unless true u v h p = absurd (let bad : true ≡ false = h in cc)
unless false u v h p = p

far : (m k : ℕ) → k < 15 → 14 < m → (m == k) ≡ false
far m k a b = ne_eqb m k (λ (e : m ≡ k). omega (arith, a, b, e))

beyond : (m : ℕ) (t : TakingRecord) (s : Seen) → 14 < m → Unmaking (taken_at m t s)
beyond m t s b =
    unless (m == 1) _ _ (far m 1 (omega arith) b) (
    unless (m == 2) _ _ (far m 2 (omega arith) b) (
    unless (m == 3) _ _ (far m 3 (omega arith) b) (
    unless (m == 4) _ _ (far m 4 (omega arith) b) (
    unless (m == 5) _ _ (far m 5 (omega arith) b) (
    unless (m == 6) _ _ (far m 6 (omega arith) b) (
    unless (m == 7) _ _ (far m 7 (omega arith) b) (
    unless (m == 8) _ _ (far m 8 (omega arith) b) (
    unless (m == 9) _ _ (far m 9 (omega arith) b) (
    unless (m == 10) _ _ (far m 10 (omega arith) b) (
    unless (m == 11) _ _ (far m 11 (omega arith) b) (
    unless (m == 12) _ _ (far m 12 (omega arith) b) (
    unless (m == 14) _ _ (far m 14 (omega arith) b) refl))))))))))))

task_unmaking : (k : ℕ) (t : TakingRecord) (s : Seen) → s.may_make ≡ false → makes_at k ≡ false → Unmaking (taken_at k t s)
task_unmaking zero t s h m = refl
task_unmaking (suc zero) t s h m = subst (λ (is : Bool). Unmaking (folder_opened t is s.fault)) (sym h)
    (either (s.fault == 0) (record t { task = 3; openings = 0 }) _ refl (either (s.fault == 11) (forked t) (over t 15 3 s.fault) (forked_unmaking t) refl))
task_unmaking (suc (suc zero)) t s h m = absurd (let bad : true ≡ false = m in cc)
task_unmaking (suc (suc (suc zero))) t s h m = subst (λ (is : Bool). Unmaking (by_old t is (standing_of OpenLock s))) (sym h) (old_unmaking t (standing_of OpenLock s))
task_unmaking (suc (suc (suc (suc zero)))) t s h m = absurd (let bad : true ≡ false = m in cc)
task_unmaking (suc (suc (suc (suc (suc zero))))) t s h m = absurd (let bad : true ≡ false = m in cc)
task_unmaking (suc (suc (suc (suc (suc (suc zero)))))) t s h m = absurd (let bad : true ≡ false = m in cc)
task_unmaking (suc (suc (suc (suc (suc (suc (suc zero))))))) t s h m = absurd (let bad : true ≡ false = m in cc)
task_unmaking (suc (suc (suc (suc (suc (suc (suc (suc zero)))))))) t s h m = listed_unmaking t s.fault
task_unmaking (suc (suc (suc (suc (suc (suc (suc (suc (suc zero))))))))) t s h m = either (s.fault == 0) (to t 10) (over t 14 1 s.fault) refl refl
task_unmaking (suc (suc (suc (suc (suc (suc (suc (suc (suc (suc zero)))))))))) t s h m = names_unmaking t (standing_of HoldLock s)
task_unmaking (suc (suc (suc (suc (suc (suc (suc (suc (suc (suc (suc zero))))))))))) t s h m = removal_unmaking t (standing_of Look s)
task_unmaking (suc (suc (suc (suc (suc (suc (suc (suc (suc (suc (suc (suc zero)))))))))))) t s h m = refl
task_unmaking (suc (suc (suc (suc (suc (suc (suc (suc (suc (suc (suc (suc (suc zero))))))))))))) t s h m = refl
task_unmaking (suc (suc (suc (suc (suc (suc (suc (suc (suc (suc (suc (suc (suc (suc zero)))))))))))))) t s h m = refl
task_unmaking (suc (suc (suc (suc (suc (suc (suc (suc (suc (suc (suc (suc (suc (suc (suc n))))))))))))))) t s h m = beyond (suc (suc (suc (suc (suc (suc (suc (suc (suc (suc (suc (suc (suc (suc (suc n))))))))))))))) t s (omega arith)

pub nothing_is_made_unasked : NothingIsMadeUnasked
nothing_is_made_unasked t s h m = task_unmaking t.task t s h m

-- ---- forks are paused for: nothing else counts them

abbrev Pausing : TakingRecord → TakingRecord → Type 0
Pausing t u = nat_lt t.forks u.forks ≡ true → u.task ≡ 12

same : (t u : TakingRecord) → u.forks ≡ t.forks → Pausing t u
same t u e h = absurd (let less : t.forks < u.forks = ltb-true t.forks u.forks h in omega (arith, less, e))

fresh : (t u : TakingRecord) → u.forks ≡ 0 → Pausing t u
fresh t u e h = absurd (let less : t.forks < u.forks = ltb-true t.forks u.forks h in omega (arith, less, e))

choose : (is : Bool) (t u v : TakingRecord) → Pausing t u → Pausing t v → Pausing t (if is then u else v)
choose true t u v p q = p
choose false t u v p q = q

goes_on : (t : TakingRecord) (task : ℕ) → Pausing t (to t task)
goes_on t task = same t (to t task) refl

stops : (t : TakingRecord) (task tried fault : ℕ) → Pausing t (over t task tried fault)
stops t task tried fault = same t (over t task tried fault) refl

forked_pauses : (t : TakingRecord) → Pausing t (forked t)
forked_pauses t = choose (nat_lt t.forks 9) t (record t { task = 12; forks = t.forks + 1 }) (over t 15 1 11) (λ h. refl) (stops t 15 1 11)

failed_pauses : (t : TakingRecord) (fault : ℕ) → Pausing t (failed t fault)
failed_pauses t fault = choose ((fault == 2) && not t.has_made) t (to t 2) (over t 15 3 fault) (goes_on t 2) (stops t 15 3 fault)

missing_pauses : (t : TakingRecord) (may_make : Bool) (fault : ℕ) → Pausing t (missing t may_make fault)
missing_pauses t may_make fault = choose may_make t (failed t fault) (over t 15 3 fault) (failed_pauses t fault) (stops t 15 3 fault)

unmade_pauses : (t : TakingRecord) (may_make : Bool) → Pausing t (unmade t may_make)
unmade_pauses t may_make = choose may_make t (to t 4) (over t 15 3 2) (goes_on t 4) (stops t 15 3 2)

moved_pauses : (t : TakingRecord) → Pausing t (moved t)
moved_pauses t =
    choose t.is_again t (over t 15 2 0) (record (begun t) { is_again = true }) (stops t 15 2 0) (fresh t (record (begun t) { is_again = true }) refl)

opened_pauses : (t : TakingRecord) (may_make : Bool) (fault : ℕ) → Pausing t (folder_opened t may_make fault)
opened_pauses t may_make fault =
    choose (fault == 0) t (record t { task = 3; openings = 0 }) _ (same t (record t { task = 3; openings = 0 }) refl)
    (choose (fault == 11) t (forked t) (missing t may_make fault) (forked_pauses t) (missing_pauses t may_make fault))

folder_pauses : (t : TakingRecord) (fault : ℕ) → Pausing t (folder_made t fault)
folder_pauses t fault =
    choose (fault == 0) t (record t { task = 1; has_made = true }) (over t 15 3 fault) (same t (record t { task = 1; has_made = true }) refl) (stops t 15 3 fault)

old_pauses : (t : TakingRecord) (may_make : Bool) (st : Standing) → Pausing t (by_old t may_make st)
old_pauses t may_make standing.Good = goes_on t 8
old_pauses t may_make (standing.Fault fault) = missing_pauses t may_make fault
old_pauses t may_make standing.Nothing = unmade_pauses t may_make
old_pauses t may_make standing.Map = unmade_pauses t may_make
old_pauses t may_make standing.Head = unmade_pauses t may_make
old_pauses t may_make standing.Other = unmade_pauses t may_make

above_pauses : (t : TakingRecord) (s : Seen) → Pausing t (above_seen t s)
above_pauses t s =
    choose (not (s.fault == 0)) t (failed t s.fault) _ (failed_pauses t s.fault) (choose (is_for_others s) t (to t 5) (to t 7) (goes_on t 5) (goes_on t 7))

anew_pauses : (t : TakingRecord) → Pausing t (opened_anew t)
anew_pauses t =
    choose (nat_lt t.openings 99) t (record t { task = 3; openings = t.openings + 1 }) (over t 15 3 17)
    (same t (record t { task = 3; openings = t.openings + 1 }) refl) (stops t 15 3 17)

file_pauses : (t : TakingRecord) (fault : ℕ) → Pausing t (file_made t fault)
file_pauses t fault =
    choose (fault == 0) t (to t 8) _ (goes_on t 8) (
    choose (fault == 17) t (opened_anew t) _ (anew_pauses t) (
    choose (t.task == 5) t (to t 6) _ (goes_on t 6) (
    choose (t.task == 6) t (to t 7) (failed t fault) (goes_on t 7) (failed_pauses t fault))))

listed_pauses : (t : TakingRecord) (fault : ℕ) → Pausing t (listed t fault)
listed_pauses t fault = choose (fault == 0) t (to t 9) (forked t) (goes_on t 9) (forked_pauses t)

locked_pauses : (t : TakingRecord) (fault : ℕ) → Pausing t (locked t fault)
locked_pauses t fault = choose (fault == 0) t (to t 10) (over t 14 1 fault) (goes_on t 10) (stops t 14 1 fault)

names_pause : (t : TakingRecord) (st : Standing) → Pausing t (by_names t st)
names_pause t standing.Good = stops t 13 1 0
names_pause t standing.Other = goes_on t 11
names_pause t standing.Nothing = moved_pauses t
names_pause t standing.Map = moved_pauses t
names_pause t standing.Head = moved_pauses t
names_pause t (standing.Fault fault) = moved_pauses t

removal_pauses : (t : TakingRecord) (st : Standing) → Pausing t (by_removal t st)
removal_pauses t (standing.Fault fault) = stops t 15 2 fault
removal_pauses t standing.Good = moved_pauses t
removal_pauses t standing.Nothing = moved_pauses t
removal_pauses t standing.Map = moved_pauses t
removal_pauses t standing.Head = moved_pauses t
removal_pauses t standing.Other = moved_pauses t

each_pauses : (t : TakingRecord) (s : Seen) → Pausing t (taken t s)
each_pauses t s =
    choose (t.task == 1) t (folder_opened t s.may_make s.fault) _ (opened_pauses t s.may_make s.fault) (
    choose (t.task == 2) t (folder_made t s.fault) _ (folder_pauses t s.fault) (
    choose (t.task == 3) t (by_old t s.may_make (standing_of OpenLock s)) _ (old_pauses t s.may_make (standing_of OpenLock s)) (
    choose (t.task == 4) t (above_seen t s) _ (above_pauses t s) (
    choose (t.task == 5) t (file_made t s.fault) _ (file_pauses t s.fault) (
    choose (t.task == 6) t (file_made t s.fault) _ (file_pauses t s.fault) (
    choose (t.task == 7) t (file_made t s.fault) _ (file_pauses t s.fault) (
    choose (t.task == 8) t (listed t s.fault) _ (listed_pauses t s.fault) (
    choose (t.task == 9) t (locked t s.fault) _ (locked_pauses t s.fault) (
    choose (t.task == 10) t (by_names t (standing_of HoldLock s)) _ (names_pause t (standing_of HoldLock s)) (
    choose (t.task == 11) t (by_removal t (standing_of Look s)) _ (removal_pauses t (standing_of Look s)) (
    choose (t.task == 12) t (to t 1) _ (goes_on t 1) (
    choose (t.task == 14) t (record (begun t) { task = 9 }) (begun t) (fresh t (record (begun t) { task = 9 }) refl) (fresh t (begun t) refl)))))))))))))

pub forks_are_paused_for : ForksArePausedFor
forks_are_paused_for t s = record { pause = each_pauses t s; after = λ e. ap (λ (n : ℕ). taken_at n t s) e }
