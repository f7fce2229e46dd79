-- A turn that is driven on a folder: what each step does, and what is so after it.
use Rattle.std.proofs.Common.{ℕ, ◌+◌, ◌<◌, ◌≤◌, ◌≡◌, ◌≢◌, ◌⊎◌, Bool, true, false, cond, Result, OnOk, OnErr, List, [], ◌∷◌, length, take, drop, Some, None, refl, sym, ◌∙◌, ap, subst, arith, inl, inr, ⊎_elim}
use Rattle.std.specs.Bool.{IsTrue}
use Rattle.std.proofs.lemmas.List.{take_all}
use Rattle.dconf_model.specs.Folders.{Event, file_of, files_made}
use Rattle.dconf_model.specs.Folders.Event.{create, append, sync, touch, rename, remove, link, sync_folder}
use Rattle.dconf_model.specs.Replacing.{new_name, MaybeReplaced, Replaced}
use Rattle.dconf_model.proofs.ParentLaws.{by_bool}
use Rattle.dconf_model.proofs.SameBytes.{other_path}
use Rattle.dconf_turn.specs.declared.turn.Turn.{Turn}
use Rattle.dconf_turn.specs.declared.turn.State.{State}
use Rattle.dconf_turn.specs.declared.turn.State.TheVariants.{Locking, Reading, Making, Creating, Writing, Syncing, SettingAside, Exchanging, Renaming, SyncingFolder, Removing, Settling, Noting, Unlocking, Over}
use Rattle.dconf_turn.specs.declared.step.Outcome.{Outcome}
use Rattle.dconf_turn.specs.declared.step.Outcome.TheVariants.{Made, Kept, Either, Unsettled, Unsynced}
use Rattle.dconf_turn.specs.declared.step.Step.{Step}
use Rattle.dconf_turn.specs.declared.step.Step.TheVariants.{Lock, Read, Make, Create, Append, Sync, SetAside, Exchange, Rename, SyncFolder, Remove, Settle, Note, Unlock, Done}
use Rattle.dconf_turn.specs.declared.step.Answer.{Answer}
use Rattle.dconf_turn.specs.declared.step.Answer.TheVariants.{Yes, No}
use Rattle.dconf_turn.specs.Jobs.{Job, IsFree, IsLockApart, IsOwn}
use Rattle.dconf_turn.specs.Sayings.{IsMade, IsWhole as IsWholeFile}
use Rattle.dconf_turn.specs.Steps.{place, step_at, step_of, GoesOn, Follows, IsRead, IsSaid, IsDone, KnowsAfter}
use Rattle.dconf_turn.specs.Progress.{Apart, Holds, IsAsideAt, Placed, Staged, Stands, StandsAt}
use Rattle.dconf_turn.proofs.HistoryLaws.{done_is}
use Rattle.dconf_turn.specs.Hosts.{DidStep, IsLockMade, IsNoted}
use Rattle.dconf_turn.proofs.ApartLaws.{appended, appended_apart, created_apart, made, nothing_yet, removed_apart, synced, touched_apart}
use Rattle.dconf_turn.proofs.OwnNames.{aside_is_not_new, differs, name_not_own, new_own}
use Rattle.dconf_turn.proofs.PlacedLaws.{by_rename}
use Rattle.dconf_turn.proofs.SayingLaws.{kept, kept_whole, placed_whole, says_removed, settled_made}
use Rattle.dconf_folders.specs.declared.fault.FolderFault.{FolderFault}
use Rattle.dconf_folders.specs.Failures.{IsOneMore}
use Rattle.dconf_folders.specs.Staging.{staged_onto, settled_onto}
use Rattle.dconf_disk.specs.Driving.{DidHere, IsLookedAt, IsRoomy, IsWhole, IsCounted, IsStraight, IsRefused, IsIdle, CountsSo, aside_of, job_of, result_of}

-- ---- what is said, in the words of dconf_model

pub lock_apart : (name bytes : List ℕ) → IsLockApart (job_of name bytes)
lock_apart name bytes lock e = let bad : None ≡ Some lock = e in cc

module _ (old now : List Event) (name bytes : List ℕ) where
  other_than_new : (other : List ℕ) → other ≢ new_name name → ¬ IsOwn false (job_of name bytes) old other
  other_than_new other differ o =
      ⊎_elim (λ (e : other ≡ new_name name). differ e)
      (λ r. ⊎_elim (λ (e : None ≡ Some other). (let bad : None ≡ Some other = e in cc)) (λ (a : (false ≡ true) × IsFree (job_of name bytes) old other). (let bad : false ≡ true = a.0 in cc)) r) o

  pub as_maybe : IsWholeFile false (job_of name bytes) old now → MaybeReplaced old now name bytes
  as_maybe w = record {
    any_moment = record { grown = w.grown; own = w.crash; others = λ other c d n h. w.others_crash other c d (other_than_new other n) h };
    whole = record { own = w.read; others = λ other d n. w.others_read other d (other_than_new other n) };
  }

  pub as_replaced : IsMade false (job_of name bytes) old now → Replaced old now name bytes
  as_replaced m =
      let r = as_maybe m.whole in
      record { any_moment = r.any_moment; settled = m.settled; read = m.read; others = r.whole }

-- nothing was done
pub as_it_was : (es : List Event) (name bytes : List ℕ) → MaybeReplaced es es name bytes
as_it_was es name bytes =
    let job = job_of name bytes in
    as_maybe es es name bytes (kept_whole false job es es (lock_apart name bytes) (kept false job es es (nothing_yet es (IsOwn false job es))))

-- ---- what was done step by step, where no step failed

module _ (old : List Event) (name bytes : List ℕ) where
  abbrev job : Job
  job = job_of name bytes

  abbrev own : List ℕ → Type 0
  own = IsOwn false job old

  abbrev new : List ℕ
  new = new_name name

  abbrev staged : List Event
  staged = staged_onto old new bytes

  abbrev placed : List Event
  placed = rename new name ∷ staged

  apart : IsLockApart job
  apart = lock_apart name bytes

  n_own : own new
  n_own = new_own false job old

  not_own : ¬ own name
  not_own = name_not_own false job old apart

  no_aside : (es : List Event) → IsTrue false → IsAsideAt job old es
  no_aside es k = let bad : false ≡ true = k in cc

  untouched : Apart old old own
  untouched = nothing_yet old own

  created : Holds old (create new ∷ old) own new []
  created = made old old own untouched new n_own

  filled : Holds old (append new bytes ∷ create new ∷ old) own new bytes
  filled = appended old (create new ∷ old) own new [] created bytes bytes refl

  is_staged : Staged old staged own new bytes
  is_staged = synced old (append new bytes ∷ create new ∷ old) own new bytes filled

  is_placed : Placed old placed own name bytes
  is_placed = by_rename old staged own name bytes new is_staged n_own not_own

  abbrev W : List Event → Type 0
  W now = IsWholeFile false job old now

  pub whole_at : (l now : List Event) → now ≡ l → Apart old l own → W now
  whole_at l now is a = subst (λ x. W x) (sym is) (kept_whole false job old l apart (kept false job old l a))

  pub whole_yet : (now : List Event) → now ≡ old → W now
  whole_yet now is = whole_at old now is untouched

  pub whole_creating : (now : List Event) → (now ≡ old) ⊎ ((now ≡ create new ∷ old) ⊎ (now ≡ remove new ∷ old)) → W now
  whole_creating now d =
      ⊎_elim (λ (is : now ≡ old). whole_yet now is)
      (λ r. ⊎_elim (λ (is : now ≡ create new ∷ old). whole_at (create new ∷ old) now is (created_apart old old own untouched new n_own))
      (λ (is : now ≡ remove new ∷ old). whole_at (remove new ∷ old) now is (removed_apart old old own untouched new n_own)) r) d

  pub whole_writing : (now : List Event) → (now ≡ touch new ∷ create new ∷ old) ⊎ ((some : List ℕ) × (now ≡ append new some ∷ create new ∷ old)) → W now
  whole_writing now d =
      ⊎_elim (λ (is : now ≡ touch new ∷ create new ∷ old). whole_at (touch new ∷ create new ∷ old) now is (touched_apart old (create new ∷ old) own new [] created))
      (λ (w : (some : List ℕ) × (now ≡ append new some ∷ create new ∷ old)).
      whole_at (append new w.0 ∷ create new ∷ old) now w.1 (appended_apart old (create new ∷ old) own new [] created w.0)) d

  pub whole_syncing : (now : List Event) → now ≡ touch new ∷ append new bytes ∷ create new ∷ old → W now
  whole_syncing now is = whole_at (touch new ∷ append new bytes ∷ create new ∷ old) now is (touched_apart old (append new bytes ∷ create new ∷ old) own new bytes filled)

  pub whole_staged : (now : List Event) → now ≡ staged → W now
  whole_staged now is = whole_at staged now is is_staged.holds.apart

  pub whole_placed : (now : List Event) → now ≡ placed → W now
  whole_placed now is = subst (λ x. W x) (sym is) (placed_whole false job old placed is_placed (no_aside placed))

  pub whole_renaming : (now : List Event) → (now ≡ staged) ⊎ (now ≡ placed) → W now
  whole_renaming now d = ⊎_elim (λ (is : now ≡ staged). whole_staged now is) (λ (is : now ≡ placed). whole_placed now is) d

  pub is_made : IsMade false job old (sync_folder ∷ placed)
  is_made = settled_made false job old placed is_placed (no_aside placed)

  pub whole_settled : (now : List Event) → now ≡ sync_folder ∷ placed → W now
  whole_settled now is = subst (λ x. W x) (sym is) is_made.whole

  pub whole_removing : (es now : List Event) → W es → (now ≡ es) ⊎ (now ≡ remove new ∷ es) → W now
  whole_removing es now w d =
      ⊎_elim (λ (is : now ≡ es). subst (λ x. W x) (sym is) w)
      (λ (is : now ≡ remove new ∷ es). subst (λ x. W x) (sym is) (says_removed false (Either 0) job old es apart w (λ e. differs name (sym e)) n_own)) d

-- ---- at the end

module _ (t : Turn) (es now : List Event) (name bytes : List ℕ) (outcome : Outcome) (straight : IsStraight (step_of t) t.outcome es now name bytes) (over : step_of t ≡ Done outcome) where
  at_end : IsStraight (Done outcome) t.outcome es now name bytes
  at_end = subst (λ s. IsStraight s t.outcome es now name bytes) over straight

  pub end_replaced : outcome ≡ Made → Replaced es now name bytes
  end_replaced said =
      let is = at_end.1 (done_is t t.state outcome over ∙ said) in
      as_replaced es now name bytes (subst (λ l. IsMade false (job_of name bytes) es l) (sym is) (is_made es name bytes))

  pub end_maybe : MaybeReplaced es now name bytes
  end_maybe = as_maybe es now name bytes at_end.0

pub ok_of : (X : Type 0) (outcome : Outcome) (r : Result (Unit {0}) FolderFault) → r ≡ result_of outcome → (outcome ≡ Made → X) → OnOk r X
ok_of X Made r is x = subst (λ q. OnOk q X) (sym is) (x refl)
ok_of X _ r is x = subst (λ q. OnOk q X) (sym is) tt

pub err_of : (X : Type 0) (outcome : Outcome) (r : Result (Unit {0}) FolderFault) → r ≡ result_of outcome → X → OnErr r X
err_of X Made r is x = subst (λ q. OnErr q X) (sym is) tt
err_of X _ r is x = subst (λ q. OnErr q X) (sym is) x

pub is_done : (step : Step) → IsDone step → (outcome : Outcome) × (step ≡ Done outcome)
is_done (Done x) d = (x, refl)
is_done _ d = absurd d

-- ---- what a step may do

-- the first other name is none of the new file's
not_new : (name : List ℕ) → aside_of name ≢ new_name name
not_new name e = aside_is_not_new name (aside_of name) ([], refl) e

still_free : (name : List ℕ) (es : List Event) → file_of es (aside_of name) ≡ None → file_of (create (new_name name) ∷ es) (aside_of name) ≡ None
still_free name es free = ap (λ b. cond b (Some (files_made es)) (file_of es (aside_of name))) (other_path (aside_of name) (new_name name) (not_new name)) ∙ free

abbrev Can : Step → Answer → List ℕ → List ℕ → List Event → Type 0
Can step answer name bytes es =
    IsWhole step answer (length bytes) → IsRoomy step name es
    → (now : List Event) × DidStep step answer (job_of name bytes) es now × (place step < 6 → file_of now (aside_of name) ≡ None)

-- Some folder is what any answer admits; and the first other name is free there until it is asked for.
pub can : (step : Step) (answer : Answer) (name bytes : List ℕ) (es : List Event) → Can step answer name bytes es
can Lock (Yes n) name bytes es w r = (es, inl refl, λ p. r (omega arith))
can Lock (No f) name bytes es w r = (es, inl refl, λ p. r (omega arith))
can Read (Yes n) name bytes es w r = (es, refl, λ p. r (omega arith))
can Read (No f) name bytes es w r = (es, refl, λ p. r (omega arith))
can Make (Yes n) name bytes es w r = (es, (refl, w), λ p. r (omega arith))
can Make (No f) name bytes es w r = absurd w
can (Create m) (Yes n) name bytes es w r = (create (new_name name) ∷ es, refl, λ p. still_free name es (r (omega arith)))
can (Create m) (No f) name bytes es w r = (es, inl refl, λ p. r (omega arith))
can (Append at) (Yes n) name bytes es w r = (append (new_name name) (take n (drop at bytes)) ∷ es, refl, λ p. r (omega arith))
can (Append at) (No f) name bytes es w r = (touch (new_name name) ∷ es, inl refl, λ p. r (omega arith))
can (Sync b) (Yes n) name bytes es w r = (sync (new_name name) ∷ es, refl, λ p. r (omega arith))
can (Sync b) (No f) name bytes es w r = (touch (new_name name) ∷ es, refl, λ p. r (omega arith))
can SetAside (Yes n) name bytes es w r = (link name (aside_of name) ∷ es, inl (w, inl (aside_of name, (([], refl), r (omega arith)), refl)), λ p. absurd (omega (arith, p)))
can SetAside (No f) name bytes es w r = (es, inl refl, λ p. absurd (omega (arith, p)))
can Exchange (Yes n) name bytes es w r = absurd w
can Exchange (No f) name bytes es w r = (es, inl refl, λ p. absurd (omega (arith, p)))
can Settle (Yes n) name bytes es w r = absurd w
can Settle (No f) name bytes es w r = (es, inl refl, λ p. absurd (omega (arith, p)))
can Rename (Yes n) name bytes es w r = (rename (new_name name) name ∷ es, refl, λ p. absurd (omega (arith, p)))
can Rename (No f) name bytes es w r = (es, inl refl, λ p. absurd (omega (arith, p)))
can SyncFolder (Yes n) name bytes es w r = (sync_folder ∷ es, refl, λ p. absurd (omega (arith, p)))
can SyncFolder (No f) name bytes es w r = (es, refl, λ p. absurd (omega (arith, p)))
can Remove (Yes n) name bytes es w r = (remove (new_name name) ∷ es, refl, λ p. absurd (omega (arith, p)))
can Remove (No f) name bytes es w r = (es, inl refl, λ p. absurd (omega (arith, p)))
can Note (Yes n) name bytes es w r = (es, inl refl, λ p. absurd (omega (arith, p)))
can Note (No f) name bytes es w r = absurd w
can Unlock (Yes n) name bytes es w r = (es, refl, λ p. absurd (omega (arith, p)))
can Unlock (No f) name bytes es w r = absurd w
can (Done o) (Yes n) name bytes es w r = (es, refl, λ p. absurd (omega (arith, p)))
can (Done o) (No f) name bytes es w r = absurd w

-- a step that others follow before the name is asked for
earlier : (step next : Step) → Follows step next → place next < 7 → place step < 6
earlier (Append at) next f p = omega arith
earlier (Done o) next f p = let e : place next ≡ 14 = ap place f in absurd (omega (arith, e, p))
earlier Lock next f p = omega (arith, f, p)
earlier Read next f p = omega (arith, f, p)
earlier Make next f p = omega (arith, f, p)
earlier (Create m) next f p = omega (arith, f, p)
earlier (Sync b) next f p = omega (arith, f, p)
earlier SetAside next f p = omega (arith, f, p)
earlier Exchange next f p = omega (arith, f, p)
earlier Rename next f p = omega (arith, f, p)
earlier SyncFolder next f p = omega (arith, f, p)
earlier Remove next f p = omega (arith, f, p)
earlier Settle next f p = omega (arith, f, p)
earlier Note next f p = omega (arith, f, p)
earlier Unlock next f p = omega (arith, f, p)

pub roomy_on : (step next : Step) (name : List ℕ) (now : List Event) → Follows step next → (place step < 6 → file_of now (aside_of name) ≡ None) → IsRoomy next name now
roomy_on step next name now f free p = free (earlier step next f p)

-- without a lock's file nothing is done to it
not_locked : (es now : List Event) → (now ≡ es) ⊎ IsLockMade None es now → now ≡ es
not_locked es now d = ⊎_elim (λ (e : now ≡ es). e) (λ (l : IsLockMade None es now). (let bad : None ≡ Some l.0 = l.1 in cc)) d

not_noted : (es now : List Event) → (now ≡ es) ⊎ IsNoted None es now → now ≡ es
not_noted es now d = ⊎_elim (λ (e : now ≡ es). e) (λ (l : IsNoted None es now). (let bad : None ≡ Some l.0 = l.2 in cc)) d

-- What is set aside has its other name in a folder behind this one.
hides_by_read : (hides : Bool) (n : ℕ) (u : Turn) → IsLookedAt hides Read (Yes n) → IsRead n u.bits u.keeps → IsTrue u.keeps → hides ≡ true
hides_by_read hides n u l k asked =
    ⊎_elim (λ (lt : n < 512). (let bad : false ≡ true = sym (k.file lt).1 ∙ asked in cc))
    (λ r. ⊎_elim (λ (lt : 1023 < n). (let bad : false ≡ true = sym (k.absent lt).1 ∙ asked in cc)) (λ (h : (511 < n) × (n < 1024) × (hides ≡ true)). h.2) r) l

pub hides_on : (hides : Bool) (step : Step) (answer : Answer) (t u : Turn) → IsLookedAt hides step answer → KnowsAfter step answer t u
    → (IsTrue t.keeps → hides ≡ true) → IsTrue u.keeps → hides ≡ true
hides_on hides Read (Yes n) t u l k h asked = hides_by_read hides n u l k asked
hides_on hides Read (No f) t u l k h asked = h (subst (λ b. IsTrue b) k.1 asked)
hides_on hides _ (Yes n) t u l k h asked = h (subst (λ b. IsTrue b) k.1 asked)
hides_on hides _ (No f) t u l k h asked = h (subst (λ b. IsTrue b) k.1 asked)

-- it is asked for where the turn keeps the old file
aside_at : (t : Turn) (job : Job) (es : List Event) (s : State) → StandsAt s t job [] es → step_at s t ≡ SetAside → IsTrue t.keeps
aside_at t job es SettingAside h e = h.1
aside_at t job es Locking h e = cc
aside_at t job es Reading h e = cc
aside_at t job es Making h e = cc
aside_at t job es Creating h e = cc
aside_at t job es Writing h e = cc
aside_at t job es Syncing h e = cc
aside_at t job es Exchanging h e = cc
aside_at t job es Renaming h e = cc
aside_at t job es SyncingFolder h e = cc
aside_at t job es Removing h e = cc
aside_at t job es Settling h e = cc
aside_at t job es Noting h e = cc
aside_at t job es Unlocking h e = cc
aside_at t job es Over h e = cc

pub keeps_at : (t : Turn) (job : Job) (es : List Event) → Stands t job [] es → step_of t ≡ SetAside → IsTrue t.keeps
keeps_at t job es h e = aside_at t job es t.state h e

-- ---- the next step

not_made : (o p : Outcome) → o ≡ p → ¬ (p ≡ Made) → ¬ (o ≡ Made)
not_made o p e n m = n (sym e ∙ m)

module _ (es now : List Event) (name bytes : List ℕ) (o : Outcome) where
  abbrev S : Step → Type 0
  S next = IsStraight next o es now name bytes

  late : (next : Step) → 10 ≤ place next → ¬ (o ≡ Made) → IsWholeFile false (job_of name bytes) es now → S next
  late Remove p n w = (w, n)
  late Settle p n w = (w, n)
  late Note p n w = (w, λ h. absurd (n h))
  late Unlock p n w = (w, λ h. absurd (n h))
  late (Done x) p n w = (w, λ h. absurd (n h))
  late _ p n w = absurd (omega arith)

  last : (next : Step) → 11 < place next → IsWholeFile false (job_of name bytes) es now
      → (o ≡ Made → now ≡ settled_onto (staged_onto es (new_name name) bytes) (new_name name) name) → S next
  last Note p w n = (w, n)
  last Unlock p w n = (w, n)
  last (Done x) p w n = (w, n)
  last _ p w n = absurd (omega arith)

  third : (next : Step) → place next ≡ 3 → now ≡ es → S next
  third Lock p n = n
  third Read p n = n
  third Make p n = n
  third (Create m) p n = n
  third _ p n = absurd (omega arith)

  fifth : (next : Step) → place next ≡ 5 → now ≡ append (new_name name) bytes ∷ create (new_name name) ∷ es → S next
  fifth (Sync b) p n = n
  fifth _ p n = absurd (omega arith)

none_such : (k : ℕ) → (k < 7) ⊎ ((k ≡ 8) ⊎ (k ≡ 9)) → ¬ (k < 7) → ¬ (k ≡ 8) → ¬ (k ≡ 9) → ⊥
none_such k p a b c = ⊎_elim a (λ r. ⊎_elim b c r) p

module _ (before now : ℕ) (o : Outcome) where
  abbrev C : Step → Type 0
  C next = CountsSo next o before now

  late_counts : (next : Step) → 10 ≤ place next → ¬ (o ≡ Made) → IsOneMore before now → C next
  late_counts Remove p n h = (n, h)
  late_counts Settle p n h = (n, h)
  late_counts Note p n h = (λ m. absurd (n m), λ x. h)
  late_counts Unlock p n h = (λ m. absurd (n m), λ x. h)
  late_counts (Done x) p n h = (λ m. absurd (n m), λ y. h)
  late_counts _ p n h = absurd (omega arith)

  last_counts : (next : Step) → 11 < place next → (o ≡ Made → now ≡ before) × (¬ (o ≡ Made) → IsOneMore before now) → C next
  last_counts Note p h = h
  last_counts Unlock p h = h
  last_counts (Done x) p h = h
  last_counts _ p h = absurd (omega arith)

  early_counts : (next : Step) → (place next < 7) ⊎ ((place next ≡ 8) ⊎ (place next ≡ 9)) → now ≡ before → C next
  early_counts Exchange p h = absurd (none_such (place Exchange) p (λ q. omega arith) (λ q. omega arith) (λ q. omega arith))
  early_counts Remove p h = absurd (none_such (place Remove) p (λ q. omega arith) (λ q. omega arith) (λ q. omega arith))
  early_counts Settle p h = absurd (none_such (place Settle) p (λ q. omega arith) (λ q. omega arith) (λ q. omega arith))
  early_counts Note p h = absurd (none_such (place Note) p (λ q. omega arith) (λ q. omega arith) (λ q. omega arith))
  early_counts Unlock p h = absurd (none_such (place Unlock) p (λ q. omega arith) (λ q. omega arith) (λ q. omega arith))
  early_counts (Done x) p h = absurd (none_such (place (Done x)) p (λ q. omega arith) (λ q. omega arith) (λ q. omega arith))
  early_counts _ p h = h

made_kept : (o : Outcome) (f : ℕ) → o ≡ Kept f → ¬ (o ≡ Made)
made_kept o f e m = let bad : Kept f ≡ Made = sym e ∙ m in cc

made_either : (o : Outcome) (f : ℕ) → o ≡ Either f → ¬ (o ≡ Made)
made_either o f e m = let bad : Either f ≡ Made = sym e ∙ m in cc

made_unsynced : (o : Outcome) (f : ℕ) → o ≡ Unsynced f → ¬ (o ≡ Made)
made_unsynced o f e m = let bad : Unsynced f ≡ Made = sym e ∙ m in cc

made_unsettled : (o : Outcome) (f : ℕ) → o ≡ Unsettled f → ¬ (o ≡ Made)
made_unsettled o f e m = let bad : Unsettled f ≡ Made = sym e ∙ m in cc

module _ (t : Turn) (next : Step) (o p : Outcome) (hides : Bool) (old es now : List Event) (name bytes : List ℕ) where
  abbrev On : Step → Answer → Type 0
  On step answer = ((at : ℕ) → step ≡ Append at → t.len ≡ length bytes) → (step ≡ SetAside → hides ≡ true) → GoesOn t step answer next → Follows step next → IsSaid step answer o p
      → IsWhole step answer (length bytes) → DidHere hides step answer name bytes es now → IsStraight step o old es name bytes → IsStraight next p old now name bytes

  is : (step : Step) → next ≡ step → IsStraight step p old now name bytes → IsStraight next p old now name bytes
  is step e h = subst (λ x. IsStraight x p old now name bytes) (sym e) h

  abbrev WholeAt : List Event → Type 0
  WholeAt l = IsWholeFile false (job_of name bytes) old l

  same_whole : now ≡ es → WholeAt es → WholeAt now
  same_whole d w = subst (λ l. WholeAt l) (sym d) w

  all_of : (at n : ℕ) → at ≡ 0 → at + n ≡ length bytes → take n (drop at bytes) ≡ bytes
  all_of at n z w = let first : take n (drop at bytes) ≡ take n (drop 0 bytes) = ap (λ a. take n (drop a bytes)) z in first ∙ take_all n bytes (omega arith)

  ends : (next_late : 10 ≤ place next) → ¬ (p ≡ Made) → WholeAt now → IsStraight next p old now name bytes
  ends lt n w = late old now name bytes p next lt n w

  after_sync : (t.keeps ≡ false → next ≡ Rename) × (t.keeps ≡ true → next ≡ SetAside) → now ≡ staged_onto old (new_name name) bytes → IsStraight next p old now name bytes
  after_sync g h = by_bool t.keeps (IsStraight next p old now name bytes) (λ k. is SetAside (g.1 k) h) (λ k. is Rename (g.0 k) h)

  pub straight_on : (step : Step) (answer : Answer) → On step answer
  straight_on Lock (Yes n) l a g f s w d h = is Read g (not_locked es now d ∙ h)
  straight_on Lock (No k) l a g f s w d h = ends g (made_kept p k s) (whole_yet old name bytes now (not_locked es now d ∙ h))
  straight_on Read (Yes n) l a g f s w d h = is Make g (d ∙ h)
  straight_on Read (No k) l a g f s w d h = ends g (made_kept p k s) (whole_yet old name bytes now (d ∙ h))
  straight_on Make (Yes n) l a g f s w d h = third old now name bytes p next g (d.0 ∙ h)
  straight_on Make (No k) l a g f s w d h = absurd w
  straight_on (Create m) (Yes n) l a g f s w d h = is (Append 0) g (refl, d ∙ ap (λ x. create (new_name name) ∷ x) h)
  straight_on (Create m) (No k) l a g f s w d h =
      ends g (made_kept p k s) (whole_creating old name bytes now
      (subst (λ x. (now ≡ x) ⊎ ((now ≡ create (new_name name) ∷ x) ⊎ (now ≡ remove (new_name name) ∷ x))) h d))
  straight_on (Append at) (Yes n) l a g f s w d h =
      fifth old now name bytes p next (g.whole (w ∙ sym (l at refl)))
      (d ∙ ap (λ x. append (new_name name) (take n (drop at bytes)) ∷ x) h.1 ∙ ap (λ (x : List ℕ). append (new_name name) x ∷ create (new_name name) ∷ old) (all_of at n h.0 w))
  straight_on (Append at) (No k) l a g f s w d h =
      ends g (made_kept p k s) (whole_writing old name bytes now
      (subst (λ x. (now ≡ touch (new_name name) ∷ x) ⊎ ((some : List ℕ) × (now ≡ append (new_name name) some ∷ x))) h.1 d))
  straight_on (Sync b) (Yes n) l a g f s w d h = after_sync g (d ∙ ap (λ x. sync (new_name name) ∷ x) h)
  straight_on (Sync b) (No k) l a g f s w d h = ends g (made_kept p k s) (whole_syncing old name bytes now (d ∙ ap (λ x. touch (new_name name) ∷ x) h))
  straight_on SetAside (Yes n) l a g f s w d h = is Rename (g.0 w) (d (a refl) ∙ h)
  straight_on SetAside (No k) l a g f s w d h = ends g (made_kept p k s) (whole_staged old name bytes now (d (a refl) ∙ h))
  straight_on Exchange answer l a g f s w d h = absurd h
  straight_on Rename (Yes n) l a g f s w d h = is SyncFolder g (d ∙ ap (λ x. rename (new_name name) name ∷ x) h)
  straight_on Rename (No k) l a g f s w d h =
      ends g (made_either p k s) (whole_renaming old name bytes now (subst (λ x. (now ≡ x) ⊎ (now ≡ rename (new_name name) name ∷ x)) h d))
  straight_on SyncFolder (Yes n) l a g f s w d h =
      let done = d ∙ ap (λ x. sync_folder ∷ x) h in is Note g (whole_settled old name bytes now done, λ m. done)
  straight_on SyncFolder (No k) l a g f s w d h = is Note g (whole_placed old name bytes now (d ∙ h), λ m. absurd (made_unsettled p k s m))
  straight_on Settle (Yes n) l a g f s w d h = absurd w
  straight_on Settle (No k) l a g f s w d h = is Note g (same_whole d h.0, λ m. absurd (made_unsynced p k s m))
  straight_on Note (Yes n) l a g f s w d h =
      let same = not_noted es now d in last old now name bytes p next (omega (arith, f)) (same_whole same h.0) (λ m. same ∙ h.1 (sym s ∙ m))
  straight_on Note (No k) l a g f s w d h = absurd w
  straight_on Unlock (Yes n) l a g f s w d h = last old now name bytes p next (omega (arith, f)) (same_whole d h.0) (λ m. d ∙ h.1 (sym s ∙ m))
  straight_on Unlock (No k) l a g f s w d h = absurd w
  straight_on (Done x) (Yes n) l a g f s w d h = is (Done x) f (same_whole d h.0, λ m. d ∙ h.1 (sym s ∙ m))
  straight_on (Done x) (No k) l a g f s w d h = absurd w
  straight_on Remove (Yes n) l a g f s w d h = ends g (not_made p o s h.1) (whole_removing old name bytes es now h.0 (inr d))
  straight_on Remove (No k) l a g f s w d h = ends g (not_made p o s h.1) (whole_removing old name bytes es now h.0 d)

module _ (t : Turn) (next : Step) (o p : Outcome) (before mid now : ℕ) (bytes : List ℕ) where
  abbrev CountsOn : Step → Answer → Type 0
  CountsOn step answer = ((at : ℕ) → step ≡ Append at → t.len ≡ length bytes) → GoesOn t step answer next → Follows step next → IsSaid step answer o p → IsWhole step answer (length bytes)
      → IsCounted mid now step answer → CountsSo step o before mid → CountsSo next p before now

  early : (k : ℕ) → place next ≡ k → (k < 7) ⊎ ((k ≡ 8) ⊎ (k ≡ 9)) → now ≡ before → CountsSo next p before now
  early k e lt h = early_counts before now p next (subst (λ x. (x < 7) ⊎ ((x ≡ 8) ⊎ (x ≡ 9))) (sym e) lt) h

  one_more : mid ≡ before → IsOneMore mid now → IsOneMore before now
  one_more h c = subst (λ b. IsOneMore b now) h c

  late_now : (next_late : 10 ≤ place next) → ¬ (p ≡ Made) → IsOneMore before now → CountsSo next p before now
  late_now lt n h = late_counts before now p next lt n h

  kept_count : IsSaid Note (Yes 0) o p → now ≡ mid → (o ≡ Made → mid ≡ before) × (¬ (o ≡ Made) → IsOneMore before mid) → (p ≡ Made → now ≡ before) × (¬ (p ≡ Made) → IsOneMore before now)
  kept_count s c h = (λ m. c ∙ h.0 (sym s ∙ m), λ n. subst (λ x. IsOneMore before x) (sym c) (h.1 (λ m. n (s ∙ m))))

  pub counts_on : (step : Step) (answer : Answer) → CountsOn step answer
  counts_on Lock (Yes n) l g f s w c h = early 1 (ap place g) (inl (omega arith)) (c ∙ h)
  counts_on Lock (No k) l g f s w c h = late_now g (made_kept p k s) (one_more h c)
  counts_on Read (No k) l g f s w c h = late_now g (made_kept p k s) (one_more h c)
  counts_on Read (Yes n) l g f s w c h = early 2 (ap place g) (inl (omega arith)) (c ∙ h)
  counts_on Make (Yes n) l g f s w c h = early 3 g (inl (omega arith)) (c ∙ h)
  counts_on (Create m) (Yes n) l g f s w c h = early 4 (ap place g) (inl (omega arith)) (c ∙ h)
  counts_on (Create m) (No k) l g f s w c h = late_now g (made_kept p k s) (one_more h c)
  counts_on (Append at) (Yes n) l g f s w c h = early 5 (g.whole (w ∙ sym (l at refl))) (inl (omega arith)) (c ∙ h)
  counts_on (Append at) (No k) l g f s w c h = late_now g (made_kept p k s) (one_more h c)
  counts_on (Sync b) (Yes n) l g f s w c h =
      by_bool t.keeps (CountsSo next p before now) (λ k. early 6 (ap place (g.1 k)) (inl (omega arith)) (c ∙ h)) (λ k. early 8 (ap place (g.0 k)) (inr (inl refl)) (c ∙ h))
  counts_on (Sync b) (No k) l g f s w c h = late_now g (made_kept p k s) (one_more h c)
  counts_on SetAside (Yes n) l g f s w c h = early 8 (ap place (g.0 w)) (inr (inl refl)) (c ∙ h)
  counts_on SetAside (No k) l g f s w c h = late_now g (made_kept p k s) (one_more h c)
  counts_on Exchange answer l g f s w c h = absurd h
  counts_on Rename (Yes n) l g f s w c h = early 9 (ap place g) (inr (inr refl)) (c ∙ h)
  counts_on Rename (No k) l g f s w c h = late_now g (made_either p k s) (one_more h c)
  counts_on SyncFolder (Yes n) l g f s w c h = subst (λ x. CountsSo x p before now) (sym g) (λ m. c ∙ h, λ no_made. absurd (no_made s))
  counts_on SyncFolder (No k) l g f s w c h = subst (λ x. CountsSo x p before now) (sym g) (λ m. absurd (made_unsettled p k s m), λ n. one_more h c)
  counts_on Settle (Yes n) l g f s w c h = absurd w
  counts_on Settle (No k) l g f s w c h =
      subst (λ x. CountsSo x p before now) (sym g) (λ m. absurd (made_unsynced p k s m), λ n. subst (λ x. IsOneMore before x) (sym c) h.1)
  counts_on Note (Yes n) l g f s w c h = last_counts before now p next (omega (arith, f)) (kept_count s c h)
  counts_on Unlock (Yes n) l g f s w c h = last_counts before now p next (omega (arith, f)) (kept_count s c h)
  counts_on (Done x) (Yes n) l g f s w c h = subst (λ y. CountsSo y p before now) (sym f) (kept_count s c h)
  counts_on Remove _ l g f s w c h = late_now g (not_made p o s h.0) (subst (λ x. IsOneMore before x) (sym c) h.1)
  counts_on _ (No k) l g f s w c h = absurd w

-- ---- without the turn to replace files

pub not_idle : (t : Turn) (outcome : Outcome) → step_of t ≡ Done outcome → outcome ≡ Made → IsIdle (step_of t) t.outcome → ⊥
not_idle t outcome over made idle =
    let end : IsIdle (Done outcome) t.outcome = subst (λ s. IsIdle s t.outcome) over idle in
    end (done_is t t.state outcome over ∙ made)

late_idle : (o : Outcome) (next : Step) → 10 ≤ place next → ¬ (o ≡ Made) → IsIdle next o
late_idle o Lock p n = tt
late_idle o Remove p n = n
late_idle o Settle p n = n
late_idle o Note p n = n
late_idle o Unlock p n = n
late_idle o (Done x) p n = n
late_idle o _ p n = absurd (omega arith)

module _ (t : Turn) (next : Step) (o p : Outcome) (size : ℕ) where
  abbrev IdleOn : Step → Answer → Type 0
  IdleOn step answer = GoesOn t step answer next → Follows step next → IsSaid step answer o p → IsWhole step answer size → IsRefused step answer → IsIdle step o → IsIdle next p

  idle_is : (step : Step) → next ≡ step → IsIdle step p → IsIdle next p
  idle_is step e h = subst (λ x. IsIdle x p) (sym e) h

  pub idle_on : (step : Step) (answer : Answer) → IdleOn step answer
  idle_on Lock (Yes n) g f s w r h = absurd r
  idle_on Lock (No k) g f s w r h = late_idle p next g (made_kept p k s)
  idle_on Read answer g f s w r h = absurd h
  idle_on Make answer g f s w r h = absurd h
  idle_on (Create m) answer g f s w r h = absurd h
  idle_on (Append at) answer g f s w r h = absurd h
  idle_on (Sync b) answer g f s w r h = absurd h
  idle_on SetAside answer g f s w r h = absurd h
  idle_on Exchange answer g f s w r h = absurd h
  idle_on Rename answer g f s w r h = absurd h
  idle_on SyncFolder answer g f s w r h = absurd h
  idle_on Settle (Yes n) g f s w r h = absurd w
  idle_on Settle (No k) g f s w r h = idle_is Note g (made_unsynced p k s)
  idle_on Note (Yes n) g f s w r h = late_idle p next (omega (arith, f)) (not_made p o s h)
  idle_on Unlock (Yes n) g f s w r h = late_idle p next (omega (arith, f)) (not_made p o s h)
  idle_on (Done x) (Yes n) g f s w r h = idle_is (Done x) f (not_made p o s h)
  idle_on Remove (Yes n) g f s w r h = late_idle p next g (not_made p o s h)
  idle_on Remove (No k) g f s w r h = late_idle p next g (not_made p o s h)
  idle_on _ (No k) g f s w r h = absurd w
