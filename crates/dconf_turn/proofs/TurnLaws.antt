-- A turn after each answer: what it stands at, and that fewer steps are left.
use Rattle.std.proofs.Common.{ℕ, ◌+◌, ◌-◌, ◌<◌, ◌≤◌, ◌≡◌, ◌≢◌, Bool, true, false, cond, List, [], ◌∷◌, length, take, drop, Option, refl, sym, ◌∙◌, ap, subst, arith, ⊎_elim, inl, inr, ◌⊎◌, None, Some}
use Rattle.std.specs.Bool.{IsTrue}
use Rattle.std.proofs.Math.Seq.{take-add}
use Rattle.std.proofs.lemmas.List.{take_all}
use Rattle.dconf_model.specs.Folders.{Event, IsSettled, files_made, file_of, read_content}
use Rattle.dconf_model.specs.Folders.Event.{create, append, sync, touch, rename, remove, link, exchange, sync_folder}
use Rattle.dconf_model.specs.Replacing.{new_name}
use Rattle.dconf_model.proofs.SameBytes.{itself, other_path}
use Rattle.dconf_turn.specs.declared.turn.Turn.{Turn}
use Rattle.dconf_turn.specs.declared.turn.State.{State}
use Rattle.dconf_turn.specs.declared.turn.State.TheVariants.{Locking, Reading, Making, Creating, Writing, Syncing, SettingAside, Exchanging, Renaming, SyncingFolder, Removing, Settling, Noting, Unlocking, Over}
use Rattle.dconf_turn.specs.declared.step.Outcome.TheVariants.{Made, Kept, Either, Unsettled, Same, Unsynced}
use Rattle.dconf_turn.specs.declared.step.Answer.{Answer}
use Rattle.dconf_turn.specs.declared.step.Answer.TheVariants.{Yes, No}
use Rattle.dconf_turn.specs.Jobs.{Job, IsFree, IsFreeFor, IsOwn, IsLockApart}
use Rattle.dconf_turn.specs.Hosts.{DidStep, IsLockMade, IsLinked, WasLinked, IsNoted}
use Rattle.dconf_turn.specs.Steps.{step_of, steps_left, nothing_to_make, KnowsAfter, IsSaid, GoesOn, Follows, EndsWell, IsRead}
use Rattle.dconf_turn.specs.Sayings.{IsKept, IsSame, IsWhole, Says}
use Rattle.dconf_turn.specs.Progress.{Apart, Holds, Staged, Placed, IsAsideAt, IsEarly, IsCleared, Stands, IsAnswered}
use Rattle.dconf_turn.proofs.ApartLaws.{created_apart, removed_apart, linked_apart, made, appended, appended_apart, touched_apart, synced, linked, moved}
use Rattle.dconf_turn.proofs.OwnNames.{differs, aside_is_not_name, aside_is_not_new, new_own, aside_own, name_not_own, was_free, was_free_for}
use Rattle.dconf_turn.proofs.PlacedLaws.{by_rename, by_exchange, changed, gone, beside_rename, beside_exchange}
use Rattle.dconf_turn.proofs.SayingLaws.{kept, early_apart, kept_whole, placed_whole, unsettled, settled_made, kept_synced, kept_settled, same_before, same_now, says_removed, says_noted, is_gone, named_noted}

abbrev at_state : Turn → State → Turn
at_state t s = record t { state = s }

-- a turn whose state is known
as_known : (t u : Turn) (answer : Answer) (s : State) → t.state ≡ s → IsAnswered (at_state t s) answer u → IsAnswered t answer u
as_known t u answer s e h = let same : at_state t s ≡ t = ap (λ x. at_state t x) (sym e) in subst (λ x. IsAnswered x answer u) same h

-- what a turn became whose state is known: what it stands at, fewer steps left, their order, what follows, what is said, how it
-- ends, what is known of the old file, and that a new file is left only if one was
became : (t u : Turn) (answer : Answer) (s : State) → t.state ≡ s →
    ((job : Job) (old es now : List Event) → IsLockApart job → Stands (at_state t s) job old es → DidStep (step_of (at_state t s)) answer job es now → Stands u job old now) →
    ((size : ℕ) → steps_left u size < steps_left (at_state t s) size) →
    Follows (step_of (at_state t s)) (step_of u) → GoesOn (at_state t s) (step_of (at_state t s)) answer (step_of u) →
    IsSaid (step_of (at_state t s)) answer t.outcome u.outcome → EndsWell (step_of (at_state t s)) answer (step_of u) →
    KnowsAfter (step_of (at_state t s)) answer (at_state t s) u → u.leaves_new ≡ t.leaves_new → IsAnswered t answer u
became t u answer s e stands fewer order on said ends knows leaves = as_known t u answer s e (record {
  stands = stands;
  fewer = λ job old es now h d. inr (fewer (length job.bytes));
  order = order;
  on = on;
  said = said;
  ends = ends;
  knows = knows;
  leaves = λ l. inl (subst (λ b. IsTrue b) leaves l);
})

-- ---- what a step makes of a folder

module _ (keeps : Bool) (job : Job) (old es now : List Event) (apart : IsLockApart job) where
  abbrev own : List ℕ → Type 0
  own = IsOwn keeps job old

  abbrev new : List ℕ
  new = new_name job.name

  n_own : own new
  n_own = new_own keeps job old

  not_own : ¬ own job.name
  not_own = name_not_own keeps job old apart

  new_is_other : new ≢ job.name
  new_is_other e = differs job.name (sym e)

  early_now : es ≡ old → (now ≡ es) ⊎ IsLockMade job.lock es now → IsEarly job old now
  early_now s d = subst (λ x. (now ≡ x) ⊎ IsLockMade job.lock x now) s d

  still_early : IsEarly job old es → now ≡ es → IsEarly job old now
  still_early s d = subst (λ x. IsEarly job old x) (sym d) s

  early_file : (l : List Event) → IsEarly job old l → file_of l new ≡ file_of old new
  early_file l (inl same) = ap (λ x. file_of x new) same
  early_file l (inr m) = ap (λ x. file_of x new) m.2 ∙ ap (λ b. cond b (Some (files_made old)) (file_of old new)) (other_path new m.0 (λ e. (apart m.0 m.1).1 (sym e)))

  early_same : IsEarly job old now → file_of now new ≡ file_of old new
  early_same e = early_file now e

  kept_early : IsEarly job old now → IsKept keeps job old now
  kept_early e = kept keeps job old now (early_apart keeps job old now e)

  kept_at : (l : List Event) → now ≡ l → Apart old l own → IsKept keeps job old now
  kept_at l is a = subst (λ x. IsKept keeps job old x) (sym is) (kept keeps job old l a)

  whole_at : (l : List Event) → now ≡ l → Apart old l own → IsWhole keeps job old now
  whole_at l is a = kept_whole keeps job old now apart (kept_at l is a)

  kept_creating : IsEarly job old es → (now ≡ es) ⊎ ((now ≡ create new ∷ es) ⊎ (now ≡ remove new ∷ es)) → IsKept keeps job old now
  kept_creating s d =
      let a = early_apart keeps job old es s in
      ⊎_elim (λ (is : now ≡ es). kept_at es is a)
      (λ r. ⊎_elim (λ (is : now ≡ create new ∷ es). kept_at (create new ∷ es) is (created_apart old es own a new n_own))
      (λ (is : now ≡ remove new ∷ es). kept_at (remove new ∷ es) is (removed_apart old es own a new n_own)) r) d

  module _ (s : IsEarly job old es) where
    k_early : IsKept keeps job old es
    k_early = kept keeps job old es (early_apart keeps job old es s)

    new_early : file_of es new ≡ file_of old new
    new_early = early_file es s

    abbrev IsOnDisk : Type 0
    IsOnDisk = (now ≡ sync_folder ∷ sync job.name ∷ es) ⊎ ((now ≡ es) × IsSettled es job.name (read_content es job.name))

    abbrev IsTried : Type 0
    IsTried = (now ≡ es) ⊎ ((now ≡ sync job.name ∷ es) ⊎ (now ≡ sync_folder ∷ sync job.name ∷ es))

    same_at : IsOnDisk → IsSame keeps job old now
    same_at (inl is) = subst (λ l. IsSame keeps job old l) (sym is) (same_now keeps job old es apart k_early)
    same_at (inr d) = subst (λ l. IsSame keeps job old l) (sym d.0) (same_before keeps job old es apart k_early d.1)

    new_at : IsOnDisk → file_of now new ≡ file_of old new
    new_at (inl is) = ap (λ l. file_of l new) is ∙ new_early
    new_at (inr d) = ap (λ l. file_of l new) d.0 ∙ new_early

    kept_settling : IsTried → IsKept keeps job old now
    kept_settling (inl is) = subst (λ l. IsKept keeps job old l) (sym is) k_early
    kept_settling (inr (inl is)) = subst (λ l. IsKept keeps job old l) (sym is) (kept_synced es job.name keeps job old k_early)
    kept_settling (inr (inr is)) = subst (λ l. IsKept keeps job old l) (sym is) (kept_settled es job.name keeps job old k_early)

    new_settling : IsTried → file_of now new ≡ file_of old new
    new_settling (inl is) = ap (λ l. file_of l new) is ∙ new_early
    new_settling (inr (inl is)) = ap (λ l. file_of l new) is ∙ new_early
    new_settling (inr (inr is)) = ap (λ l. file_of l new) is ∙ new_early

  module _ (bytes : List ℕ) (h : Holds old es own new bytes) where
    kept_writing : (now ≡ touch new ∷ es) ⊎ ((some : List ℕ) × (now ≡ append new some ∷ es)) → IsKept keeps job old now
    kept_writing d = ⊎_elim (λ (is : now ≡ touch new ∷ es). kept_at (touch new ∷ es) is (touched_apart old es own new bytes h))
        (λ (w : (some : List ℕ) × (now ≡ append new some ∷ es)). kept_at (append new w.0 ∷ es) w.1 (appended_apart old es own new bytes h w.0)) d

    kept_touched : now ≡ touch new ∷ es → IsKept keeps job old now
    kept_touched is = kept_at (touch new ∷ es) is (touched_apart old es own new bytes h)

  module _ (s : Staged old es own new job.bytes) where
    a : Apart old es own
    a = s.holds.apart

    staged_now : now ≡ es → Staged old now own new job.bytes
    staged_now d = subst (λ l. Staged old l own new job.bytes) (sym d) s

    module _ (k : IsTrue keeps) where
      free_of : (aside : List ℕ) → IsFree job es aside → IsFree job old aside
      free_of aside f = was_free keeps job old es apart a aside f

      free_for : (aside : List ℕ) → IsFree job es aside → IsFreeFor job old aside
      free_for aside f = let g = free_of aside f in (g.0, inl g.1)

      is_own : (aside : List ℕ) → IsFree job es aside → own aside
      is_own aside f = aside_own keeps job old aside k (free_of aside f)

      abbrev IsAsideNow : Type 0
      IsAsideNow = Staged old now own new job.bytes × (IsTrue keeps → IsAsideAt job old now)

      was_linked : WasLinked job es now → IsAsideNow
      was_linked d =
          let same : file_of es d.0 ≡ file_of old job.name = d.2 ∙ a.names job.name not_own in
          (staged_now d.3, λ x. (d.0, was_free_for keeps job old es apart a d.0 d.1 same, ap (λ l. file_of l d.0) d.3 ∙ same))

      set_aside : IsLinked job es now ⊎ WasLinked job es now → IsAsideNow
      set_aside (inr d) = was_linked d
      set_aside (inl d) = (
        subst (λ l. Staged old l own new job.bytes) (sym d.2) (linked old es own new job.bytes s job.name d.0 (is_own d.0 d.1) (λ e. aside_is_not_new job.name d.0 d.1.0 (sym e))),
        λ x. (d.0, free_for d.0 d.1, ap (λ l. file_of l d.0) d.2 ∙ ap (λ b. cond b (file_of es job.name) (file_of es d.0)) (itself d.0) ∙ a.names job.name not_own),
      )

      kept_aside : (now ≡ es) ⊎ IsLinked job es now → IsKept keeps job old now
      kept_aside d = ⊎_elim (λ (is : now ≡ es). kept_at es is a)
          (λ (l : IsLinked job es now). kept_at (link job.name l.0 ∷ es) l.2 (linked_apart old es own a job.name l.0 (is_own l.0 l.1))) d

      module _ (aside : List ℕ) (f : IsFree job es aside) where
        abbrev mid : List Event
        mid = rename new aside ∷ es

        abbrev exchanged : List Event
        exchanged = exchange aside job.name ∷ mid

        mid_staged : Staged old mid own aside job.bytes
        mid_staged = moved old es own new job.bytes s aside n_own (is_own aside f)

        exchanged_placed : Placed old exchanged own job.name job.bytes
        exchanged_placed = by_exchange old mid own job.name job.bytes aside mid_staged (is_own aside f) not_own

        aside_is_other : new ≢ aside
        aside_is_other e = aside_is_not_new job.name aside f.0 (sym e)

        exchanged_cleared : file_of exchanged new ≡ None
        exchanged_cleared = beside_exchange mid aside job.name new new_is_other aside_is_other ∙ gone es new aside aside_is_other

        exchanged_aside : IsAsideAt job old exchanged
        exchanged_aside = (
          aside,
          free_for aside f,
          changed old mid own job.name job.bytes aside mid_staged (is_own aside f) not_own ∙ mid_staged.holds.apart.names job.name not_own,
        )

        whole_exchanged : now ≡ exchanged → IsWhole keeps job old now
        whole_exchanged is = subst (λ l. IsWhole keeps job old l) (sym is) (placed_whole keeps job old exchanged exchanged_placed (λ x. exchanged_aside))

        abbrev Stopped : Type 0
        Stopped = (now ≡ mid) ⊎ ((now ≡ exchanged) ⊎ (now ≡ remove aside ∷ mid))

        whole_stopped : Stopped → IsWhole keeps job old now
        whole_stopped d = ⊎_elim (λ (is : now ≡ mid). whole_at mid is mid_staged.holds.apart)
            (λ r. ⊎_elim (λ (is : now ≡ exchanged). whole_exchanged is)
            (λ (is : now ≡ remove aside ∷ mid). whole_at (remove aside ∷ mid) is (removed_apart old mid own mid_staged.holds.apart aside (is_own aside f))) r) d

      abbrev IsPlacedNow : Type 0
      IsPlacedNow = Placed old now own job.name job.bytes × (file_of now new ≡ None) × (IsTrue keeps → IsAsideAt job old now)

      exchanged_now : (d : (aside : List ℕ) × IsFree job es aside × (now ≡ exchange aside job.name ∷ rename new aside ∷ es)) → IsPlacedNow
      exchanged_now d = (
        subst (λ l. Placed old l own job.name job.bytes) (sym d.2) (exchanged_placed d.0 d.1),
        ap (λ l. file_of l new) d.2 ∙ exchanged_cleared d.0 d.1,
        λ x. subst (λ l. IsAsideAt job old l) (sym d.2) (exchanged_aside d.0 d.1),
      )

      whole_exchanging : (now ≡ es) ⊎ ((aside : List ℕ) × IsFree job es aside × ((now ≡ rename new aside ∷ es)
          ⊎ ((now ≡ exchange aside job.name ∷ rename new aside ∷ es) ⊎ (now ≡ remove aside ∷ rename new aside ∷ es)))) → IsWhole keeps job old now
      whole_exchanging (inl is) = whole_at es is a
      whole_exchanging (inr d) = whole_stopped d.0 d.1 d.2

    module _ (aside : IsTrue keeps → IsAsideAt job old es) where
      abbrev renamed : List Event
      renamed = rename new job.name ∷ es

      renamed_placed : Placed old renamed own job.name job.bytes
      renamed_placed = by_rename old es own job.name job.bytes new s n_own not_own

      renamed_aside : IsTrue keeps → IsAsideAt job old renamed
      renamed_aside k =
          let w = aside k in
          (w.0, w.1, beside_rename es new job.name w.0 (aside_is_not_name job.name w.0 w.1.0) (aside_is_not_new job.name w.0 w.1.0) ∙ w.2)

      renamed_now : now ≡ renamed → Placed old now own job.name job.bytes × (file_of now new ≡ None) × (IsTrue keeps → IsAsideAt job old now)
      renamed_now d = (
        subst (λ l. Placed old l own job.name job.bytes) (sym d) renamed_placed,
        ap (λ l. file_of l new) d ∙ gone es new job.name new_is_other,
        λ k. subst (λ l. IsAsideAt job old l) (sym d) (renamed_aside k),
      )

      whole_renaming : (now ≡ es) ⊎ (now ≡ renamed) → IsWhole keeps job old now
      whole_renaming d = ⊎_elim (λ (is : now ≡ es). whole_at es is a)
          (λ (is : now ≡ renamed). subst (λ l. IsWhole keeps job old l) (sym is) (placed_whole keeps job old renamed renamed_placed renamed_aside)) d

-- ---- a turn

module _ (t : Turn) where
  -- ---- steps that were done

  pub done_locking : (n : ℕ) → (e : t.state ≡ Locking) → IsAnswered t (Yes n) (at_state t Reading)
  done_locking n e = became t _ (Yes n) Locking e (λ job old es now apart s d. early_now t.keeps job old es now apart s d) (λ z. omega arith) (omega arith) refl refl (λ x. x) (refl, refl) refl

  pub done_reading : (n : ℕ) → (bits : Option ℕ) → (keeps : Bool) → (e : t.state ≡ Reading) → (r : IsRead n bits keeps) → IsAnswered t (Yes n) (record t { state = Making; bits = bits; keeps = keeps })
  done_reading n bits keeps e r = became t _ (Yes n) Reading e (λ job old es now apart s d. still_early t.keeps job old es now apart s d) (λ z. omega arith) (omega arith) refl refl (λ x. x) r refl

  pub done_making : (n : ℕ) → (e : t.state ≡ Making) → IsAnswered t (Yes n) (record t { state = Creating; len = n })
  done_making n e =
      became t _ (Yes n) Making e (λ job old es now apart s d. (still_early t.keeps job old es now apart s d.0, d.1))
      (λ z. omega arith) (omega arith) refl refl (λ x. x) (refl, refl) refl

  pub done_creating : (n : ℕ) → (e : t.state ≡ Creating) → IsAnswered t (Yes n) (record t { state = Writing; at = 0 })
  done_creating n e =
      became t _ (Yes n) Creating e (λ job old es now apart s d. (
        subst (λ l. Holds old l (IsOwn t.keeps job old) (new_name job.name) []) (sym d)
            (made old es (IsOwn t.keeps job old) (early_apart t.keeps job old es s.0) (new_name job.name) (new_own t.keeps job old)),
        s.1,
        omega arith,
      ))
      (λ z. omega arith) (omega arith) refl refl (λ x. x) (refl, refl) refl

  pub synced_renames : (n : ℕ) → (e : t.state ≡ Syncing) → (k : t.keeps ≡ false) → IsAnswered t (Yes n) (at_state t Renaming)
  synced_renames n e k =
      became t _ (Yes n) Syncing e (λ job old es now apart s d. (
        subst (λ l. Staged old l (IsOwn t.keeps job old) (new_name job.name) job.bytes) (sym d) (synced old es (IsOwn t.keeps job old) (new_name job.name) job.bytes s),
        λ x. (let bad : false ≡ true = sym k ∙ x in cc),
      ))
      (λ z. omega arith) (omega arith) (λ x. refl, λ x. (let bad : false ≡ true = sym k ∙ x in cc)) refl (λ x. x) (refl, refl) refl

  pub synced_sets_aside : (n : ℕ) → (e : t.state ≡ Syncing) → (k : t.keeps ≡ true) → IsAnswered t (Yes n) (at_state t SettingAside)
  synced_sets_aside n e k =
      became t _ (Yes n) Syncing e (λ job old es now apart s d. (
        subst (λ l. Staged old l (IsOwn t.keeps job old) (new_name job.name) job.bytes) (sym d) (synced old es (IsOwn t.keeps job old) (new_name job.name) job.bytes s),
        k,
      ))
      (λ z. omega arith) (omega arith) (λ x. (let bad : false ≡ true = sym x ∙ k in cc), λ x. refl) refl (λ x. x) (refl, refl) refl

  pub was_set_aside : (n : ℕ) → (e : t.state ≡ SettingAside) → (z : n ≡ 0) → IsAnswered t (Yes n) (at_state t Renaming)
  was_set_aside n e z =
      became t _ (Yes n) SettingAside e (λ job old es now apart s d. ⊎_elim (λ (h : (n ≡ 0) × (IsLinked job es now ⊎ WasLinked job es now)). set_aside t.keeps job old es now apart s.0 s.1 h.1)
      (λ (h : (0 < n) × (now ≡ es)). (let lt = h.0 in absurd (omega arith))) d)
      (λ z. omega arith) (omega arith) (λ x. refl, λ x. absurd (omega arith)) refl (λ x. x) (refl, refl) refl

  pub has_no_aside : (n : ℕ) → (e : t.state ≡ SettingAside) → (z : 0 < n) → IsAnswered t (Yes n) (at_state t Exchanging)
  has_no_aside n e z =
      became t _ (Yes n) SettingAside e (λ job old es now apart s d. ⊎_elim (λ (h : (n ≡ 0) × (IsLinked job es now ⊎ WasLinked job es now)). (let is = h.0 in absurd (omega arith)))
      (λ (h : (0 < n) × (now ≡ es)). (staged_now t.keeps job old es now apart s.0 h.1, s.1)) d)
      (λ z. omega arith) (omega arith) (λ x. absurd (omega arith), λ x. refl) refl (λ x. x) (refl, refl) refl

  pub done_exchanging : (n : ℕ) → (e : t.state ≡ Exchanging) → IsAnswered t (Yes n) (at_state t SyncingFolder)
  done_exchanging n e =
      became t _ (Yes n) Exchanging e (λ job old es now apart s d. exchanged_now t.keeps job old es now apart s.0 s.1 d)
      (λ z. omega arith) (omega arith) refl refl (λ x. x) (refl, refl) refl

  pub done_renaming : (n : ℕ) → (e : t.state ≡ Renaming) → IsAnswered t (Yes n) (at_state t SyncingFolder)
  done_renaming n e =
      became t _ (Yes n) Renaming e (λ job old es now apart s d. renamed_now t.keeps job old es now apart s.0 s.1 d)
      (λ z. omega arith) (omega arith) refl refl (λ x. x) (refl, refl) refl

  pub done_syncing_folder : (n : ℕ) → (e : t.state ≡ SyncingFolder) → IsAnswered t (Yes n) (record t { state = Noting; outcome = Made })
  done_syncing_folder n e =
      became t _ (Yes n) SyncingFolder e (λ job old es now apart s d. (
        subst (λ l. Says t.keeps Made job old l) (sym d) (settled_made t.keeps job old es s.0 s.2),
        inr (inl (ap (λ l. file_of l (new_name job.name)) d ∙ s.1)),
      ))
      (λ z. omega arith) (omega arith) refl refl (λ x. x) (refl, refl) refl

  pub done_removing : (n : ℕ) → (e : t.state ≡ Removing) → IsAnswered t (Yes n) (at_state t Unlocking)
  done_removing n e =
      became t _ (Yes n) Removing e (λ job old es now apart s d. (
        subst (λ l. Says t.keeps t.outcome job old l) (sym d)
            (says_removed t.keeps t.outcome job old es apart s (λ x. differs job.name (sym x)) (new_own t.keeps job old)),
        inr (inl (ap (λ l. file_of l (new_name job.name)) d ∙ is_gone es (new_name job.name))),
      ))
      (λ z. omega arith) (omega arith) (omega arith) refl (λ x. x) (refl, refl) refl

  pub done_settling : (n : ℕ) → (e : t.state ≡ Settling) → IsAnswered t (Yes n) (record t { state = Noting; outcome = Same })
  done_settling n e =
      became t _ (Yes n) Settling e (λ job old es now apart s d. (same_at t.keeps job old es now apart s d, inl (new_at t.keeps job old es now apart s d)))
      (λ z. omega arith) (omega arith) refl refl (λ x. x) (refl, refl) refl

  -- ---- bytes that were written

  rest_of : (at n size : ℕ) → n ≡ size - at → at ≤ size → at + n ≡ size
  rest_of at n size e le = omega arith

  pub all_written : (n : ℕ) → (e : t.state ≡ Writing) → (rest : n ≡ t.len - t.at) → IsAnswered t (Yes n) (record t { state = Syncing; at = t.len })
  all_written n e rest =
      became t _ (Yes n) Writing e (λ job old es now apart s d. (let whole : t.at + n ≡ length job.bytes = rest_of t.at n t.len rest s.2 ∙ s.1 in
      subst (λ l. Holds old l (IsOwn t.keeps job old) (new_name job.name) job.bytes) (sym d)
      (appended old es (IsOwn t.keeps job old) (new_name job.name) (take t.at job.bytes) s.0 (take n (drop t.at job.bytes)) job.bytes
      (sym (take-add t.at n job.bytes) ∙ take_all (t.at + n) job.bytes (omega arith)))))
      (λ z. omega arith) (omega arith) (record { whole = λ h. refl; part = λ h g. absurd (omega arith); any = inr (inl refl) }) (inl refl) (λ x. x) (refl, refl) refl

  pub some_written : (n : ℕ) → t.state ≡ Writing → n < t.len - t.at → 0 < n → IsAnswered t (Yes n) (record t { at = t.at + n })
  some_written n e less more =
      subst (λ s. IsAnswered t (Yes n) (record t { state = s; at = t.at + n })) (sym e)
      (as_known t (record t { state = Writing; at = t.at + n }) (Yes n) Writing e (record {
        stands = λ job old es now apart s d. (
          subst (λ l. Holds old l (IsOwn t.keeps job old) (new_name job.name) (take (t.at + n) job.bytes)) (sym d)
              (appended old es (IsOwn t.keeps job old) (new_name job.name) (take t.at job.bytes) s.0 (take n (drop t.at job.bytes)) (take (t.at + n) job.bytes)
              (sym (take-add t.at n job.bytes))),
          s.1,
          omega arith,
        );
        fewer = λ job old es now s d. (let size : t.len ≡ length job.bytes = s.1 in inr (omega arith));
        order = omega arith;
        on = record { whole = λ h. absurd (omega arith); part = λ h g. refl; any = inl refl };
        said = inl refl;
        ends = λ x. x;
        knows = (refl, refl);
        leaves = λ l. inl l;
      }))

  pub badly_written : (n : ℕ) → (e : t.state ≡ Writing) → (bad : (n ≡ 0) ⊎ (t.len - t.at < n)) → (other : ¬ (n ≡ t.len - t.at)) → IsAnswered t (Yes n) (record t { state = Removing; outcome = Kept 0 })
  badly_written n e bad other =
      became t _ (Yes n) Writing e (λ job old es now apart s d. kept_at t.keeps job old es now apart (append (new_name job.name) (take n (drop t.at job.bytes)) ∷ es) d
      (appended_apart old es (IsOwn t.keeps job old) (new_name job.name) (take t.at job.bytes) s.0 (take n (drop t.at job.bytes))))
      (λ z. omega arith) (omega arith) (record { whole = λ h. absurd (other (omega arith)); part = λ h g. ⊎_elim (λ (z : n ≡ 0). absurd (omega arith)) (λ (z : t.len - t.at < n). absurd (omega arith)) bad; any = inr (inr (omega arith)) }) (inr refl) (λ x. x) (refl, refl) refl

  -- ---- steps that failed

  pub failed_locking : (fault : ℕ) → (e : t.state ≡ Locking) → IsAnswered t (No fault) (record t { state = Over; outcome = Kept fault })
  failed_locking fault e =
      became t _ (No fault) Locking e (λ job old es now apart s d. (let k = early_now t.keeps job old es now apart s d in (kept_early t.keeps job old es now apart k, inl (early_same t.keeps job old es now apart k))))
      (λ z. omega arith) (omega arith) (omega arith) refl tt (refl, refl) refl

  pub failed_reading : (fault : ℕ) → (e : t.state ≡ Reading) → IsAnswered t (No fault) (record t { state = Unlocking; outcome = Kept fault })
  failed_reading fault e =
      became t _ (No fault) Reading e (λ job old es now apart s d. (let k = still_early t.keeps job old es now apart s d in (kept_early t.keeps job old es now apart k, inl (early_same t.keeps job old es now apart k))))
      (λ z. omega arith) (omega arith) (omega arith) refl (λ x. x) (refl, refl) refl

  pub failed_making : (fault : ℕ) → (e : t.state ≡ Making) → (other : fault ≢ nothing_to_make) → IsAnswered t (No fault) (record t { state = Noting; outcome = Kept fault })
  failed_making fault e other =
      became t _ (No fault) Making e (λ job old es now apart s d. (let k = still_early t.keeps job old es now apart s d in (kept_early t.keeps job old es now apart k, inl (early_same t.keeps job old es now apart k))))
      (λ z. omega arith) (omega arith) (omega arith, λ x. absurd (other x)) refl (λ x. x) (refl, refl) refl

  pub nothing_made : (fault : ℕ) → (e : t.state ≡ Making) → IsAnswered t (No fault) (record t { state = Settling; outcome = Kept fault })
  nothing_made fault e =
      became t _ (No fault) Making e (λ job old es now apart s d. still_early t.keeps job old es now apart s d)
      (λ z. omega arith) (omega arith) (omega arith, λ x. refl) refl (λ x. x) (refl, refl) refl

  pub failed_creating : (fault : ℕ) → (e : t.state ≡ Creating) → IsAnswered t (No fault) (record t { state = Removing; outcome = Kept fault })
  failed_creating fault e =
      became t _ (No fault) Creating e (λ job old es now apart s d. kept_creating t.keeps job old es now apart s.0 d)
      (λ z. omega arith) (omega arith) (omega arith) refl (λ x. x) (refl, refl) refl

  pub failed_writing : (fault : ℕ) → (e : t.state ≡ Writing) → IsAnswered t (No fault) (record t { state = Removing; outcome = Kept fault })
  failed_writing fault e =
      became t _ (No fault) Writing e (λ job old es now apart s d. kept_writing t.keeps job old es now apart (take t.at job.bytes) s.0 d)
      (λ z. omega arith) (omega arith) (omega arith) refl (λ x. x) (refl, refl) refl

  pub failed_syncing : (fault : ℕ) → (e : t.state ≡ Syncing) → IsAnswered t (No fault) (record t { state = Removing; outcome = Kept fault })
  failed_syncing fault e =
      became t _ (No fault) Syncing e (λ job old es now apart s d. kept_touched t.keeps job old es now apart job.bytes s d)
      (λ z. omega arith) (omega arith) (omega arith) refl (λ x. x) (refl, refl) refl

  pub failed_setting_aside : (fault : ℕ) → (e : t.state ≡ SettingAside) → IsAnswered t (No fault) (record t { state = Removing; outcome = Kept fault })
  failed_setting_aside fault e =
      became t _ (No fault) SettingAside e (λ job old es now apart s d. kept_aside t.keeps job old es now apart s.0 s.1 d)
      (λ z. omega arith) (omega arith) (omega arith) refl (λ x. x) (refl, refl) refl

  pub failed_exchanging : (fault : ℕ) → (e : t.state ≡ Exchanging) → IsAnswered t (No fault) (record t { state = Removing; outcome = Either fault })
  failed_exchanging fault e =
      became t _ (No fault) Exchanging e (λ job old es now apart s d. whole_exchanging t.keeps job old es now apart s.0 s.1 d)
      (λ z. omega arith) (omega arith) (omega arith) refl (λ x. x) (refl, refl) refl

  pub failed_renaming : (fault : ℕ) → (e : t.state ≡ Renaming) → IsAnswered t (No fault) (record t { state = Removing; outcome = Either fault })
  failed_renaming fault e =
      became t _ (No fault) Renaming e (λ job old es now apart s d. whole_renaming t.keeps job old es now apart s.0 s.1 d)
      (λ z. omega arith) (omega arith) (omega arith) refl (λ x. x) (refl, refl) refl

  pub failed_syncing_folder : (fault : ℕ) → (e : t.state ≡ SyncingFolder) → IsAnswered t (No fault) (record t { state = Noting; outcome = Unsettled fault })
  failed_syncing_folder fault e =
      became t _ (No fault) SyncingFolder e (λ job old es now apart s d. (
        subst (λ l. Says t.keeps (Unsettled fault) job old l) (sym d) (unsettled t.keeps job old es s.0 s.2),
        inr (inl (ap (λ l. file_of l (new_name job.name)) d ∙ s.1)),
      ))
      (λ z. omega arith) (omega arith) refl refl (λ x. x) (refl, refl) refl

  pub failed_removing : (fault : ℕ) → (e : t.state ≡ Removing) → IsAnswered t (No fault) (record t { state = Unlocking; leaves_new = true })
  failed_removing fault e = as_known t (record t { state = Unlocking; leaves_new = true }) (No fault) Removing e (record {
    stands = λ job old es now apart s d. (
      ⊎_elim (λ (same : now ≡ es). subst (λ l. Says t.keeps t.outcome job old l) (sym same) s)
          (λ (is : now ≡ remove (new_name job.name) ∷ es). subst (λ l. Says t.keeps t.outcome job old l) (sym is)
          (says_removed t.keeps t.outcome job old es apart s (λ x. differs job.name (sym x)) (new_own t.keeps job old))) d,
      inr (inr refl),
    );
    fewer = λ job old es now s d. inr (omega arith);
    order = omega arith;
    on = omega arith;
    said = refl;
    ends = λ x. x;
    knows = (refl, refl);
    leaves = λ l. inr tt;
  })

  pub failed_settling : (fault : ℕ) → (e : t.state ≡ Settling) → IsAnswered t (No fault) (record t { state = Noting; outcome = Unsynced fault })
  failed_settling fault e =
      became t _ (No fault) Settling e (λ job old es now apart s d. (kept_settling t.keeps job old es now apart s d, inl (new_settling t.keeps job old es now apart s d)))
      (λ z. omega arith) (omega arith) refl refl (λ x. x) (refl, refl) refl

  -- ---- steps whose answer is no matter

  -- what has no new file, or the old one, still has it where the name stands for what it stood for
  still_cleared : (job : Job) (old es now : List Event) → file_of now (new_name job.name) ≡ file_of es (new_name job.name) → IsCleared t job old es → IsCleared t job old now
  still_cleared job old es now same (inl c) = inl (same ∙ c)
  still_cleared job old es now same (inr (inl c)) = inr (inl (same ∙ c))
  still_cleared job old es now same (inr (inr c)) = inr (inr c)

  noted_now : (job : Job) (old es now : List Event) → IsLockApart job → Says t.keeps t.outcome job old es × IsCleared t job old es → (now ≡ es) ⊎ IsNoted job.lock es now →
      Says t.keeps t.outcome job old now × IsCleared t job old now
  noted_now job old es now apart s (inl d) = (
    subst (λ l. Says t.keeps t.outcome job old l) (sym d) s.0,
    still_cleared job old es now (ap (λ l. file_of l (new_name job.name)) d) s.1,
  )
  noted_now job old es now apart s (inr d) = (
    subst (λ l. Says t.keeps t.outcome job old l) (sym d.3) (says_noted t.keeps t.outcome job old es apart s.0 d.0 d.1 d.2),
    still_cleared job old es now (ap (λ l. file_of l (new_name job.name)) d.3 ∙ named_noted es d.0 d.1 (new_name job.name) (λ e. (apart d.0 d.2).1 (sym e))) s.1,
  )

  pub noted : (answer : Answer) → t.state ≡ Noting → IsAnswered t answer (at_state t Unlocking)
  noted answer e = became t _ answer Noting e (λ job old es now apart s d. noted_now job old es now apart s d) (λ z. omega arith) (omega arith) (omega arith) refl (λ x. x) (refl, refl) refl

  pub unlocked : (answer : Answer) → t.state ≡ Unlocking → IsAnswered t answer (at_state t Over)
  unlocked answer e =
      became t _ answer Unlocking e (λ job old es now apart s d. subst (λ l. Says t.keeps t.outcome job old l × IsCleared t job old l) (sym d) s)
      (λ z. omega arith) (omega arith) (omega arith) refl tt (refl, refl) refl

  stay : (answer : Answer) → IsAnswered (at_state t Over) answer (at_state t Over)
  stay (Yes n) = record {
    stands = λ job old es now apart s d. subst (λ l. Says t.keeps t.outcome job old l × IsCleared t job old l) (sym d) s;
    fewer = λ job old es now s d. inl tt;
    order = refl;
    on = omega arith;
    said = refl;
    ends = tt;
    knows = (refl, refl);
    leaves = λ l. inl l;
  }
  stay (No fault) = record {
    stands = λ job old es now apart s d. subst (λ l. Says t.keeps t.outcome job old l × IsCleared t job old l) (sym d) s;
    fewer = λ job old es now s d. inl tt;
    order = refl;
    on = omega arith;
    said = refl;
    ends = tt;
    knows = (refl, refl);
    leaves = λ l. inl l;
  }

  pub stayed : (answer : Answer) → t.state ≡ Over → IsAnswered t answer (at_state t Over)
  stayed answer e = as_known t (at_state t Over) answer Over e (stay answer)

-- a turn that is equal to one that an answer gives
pub by_equal : (t u v : Turn) (answer : Answer) → v ≡ u → IsAnswered t answer u → IsAnswered t answer v
by_equal t u v answer e h = subst (λ x. IsAnswered t answer x) (sym e) h
