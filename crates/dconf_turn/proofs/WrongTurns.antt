-- Wrong machines, of each of which it is proved that it has not the promise of an answer: in an empty folder and a file `a` of
-- one byte, or whatever the folder.
use Rattle.std.proofs.Common.{ℕ, ◌≡◌, ◌<◌, ◌⊎◌, true, false, cond, List, [], ◌∷◌, Some, None, refl, sym, ◌∙◌, ap, arith, ⊎_elim, inl, inr}
use Rattle.std.specs.Bool.{IsTrue}
use Rattle.std.proofs.lemmas.Option.{none-some}
use Rattle.dconf_model.specs.Folders.{Event, file_of, content, is_synced, MayLeave}
use Rattle.dconf_model.specs.Folders.Event.{create, append, sync, touch, rename, link}
use Rattle.dconf_model.specs.Replacing.{new_name}
use Rattle.dconf_model.proofs.SameBytes.{other_path}
use Rattle.dconf_turn.specs.declared.turn.Turn.{Turn}
use Rattle.dconf_turn.specs.declared.turn.State.{State}
use Rattle.dconf_turn.specs.declared.turn.State.TheVariants.{Locking, Reading, Making, Writing, Syncing, Renaming, SyncingFolder, Removing, Noting, Unlocking}
use Rattle.dconf_turn.specs.declared.step.Outcome.TheVariants.{Made, Kept}
use Rattle.dconf_turn.specs.declared.step.Answer.TheVariants.{Yes, No}
use Rattle.dconf_turn.specs.declared.step.Step.TheVariants.{Rename, SetAside}
use Rattle.dconf_turn.specs.Hosts.{DidStep, IsLinked, WasLinked}
use Rattle.dconf_turn.specs.Jobs.{Job, IsOwn, IsLockApart}
use Rattle.dconf_turn.specs.Sayings.{IsKept, IsMade}
use Rattle.dconf_turn.specs.Progress.{Holds, Staged, Placed, IsAnswered}
use Rattle.dconf_turn.proofs.ApartLaws.{nothing_yet, made, appended, synced}
use Rattle.dconf_turn.proofs.OwnNames.{aside_is_not_name, new_own, name_not_own}
use Rattle.dconf_turn.proofs.PlacedLaws.{by_rename}

abbrev a : List ℕ
a = 97 ∷ []

abbrev anew : List ℕ
anew = new_name (97 ∷ [])

abbrev one : List ℕ
one = 1 ∷ []

abbrev job : Job
job = record { name = 97 ∷ []; bytes = 1 ∷ []; lock = None }

abbrev own : List ℕ → Type 0
own = IsOwn false job []

apart : IsLockApart job
apart lock e = let bad : None ≡ Some lock = e in cc

abbrev written : List Event
written = append anew one ∷ create anew ∷ []

abbrev synced_file : List Event
synced_file = sync anew ∷ written

abbrev renamed : List Event
renamed = rename anew a ∷ synced_file

holds_first : Holds [] (create anew ∷ []) own anew []
holds_first = made [] [] own (nothing_yet [] own) anew (new_own false job [])

holds_one : Holds [] written own anew one
holds_one = appended [] (create anew ∷ []) own anew [] holds_first one one refl

staged_one : Staged [] synced_file own anew one
staged_one = synced [] written own anew one holds_one

placed_one : Placed [] renamed own a one
placed_one = by_rename [] synced_file own a one anew staged_one (new_own false job []) (name_not_own false job [] apart)

-- what may not be said
unsynced_is_not_staged : Staged [] written own anew one → ⊥
unsynced_is_not_staged s =
    let is : Some 0 ≡ Some s.holds.number = s.holds.number_is in
    let number : s.holds.number ≡ 0 = cc in
    let bad : false ≡ true = ap (λ f. is_synced written f) (sym number) ∙ s.synced in cc

unsettled_is_not_made : IsMade false job [] renamed → ⊥
unsettled_is_not_made r =
    let may : MayLeave renamed a None = (None, inr (inr (inr refl)), refl) in
    let bad : None ≡ Some one = r.settled None may in cc

renamed_is_not_kept : IsKept false job [] renamed → ⊥
renamed_is_not_kept k = let bad : Some one ≡ None = k.read a (name_not_own false job [] apart) in cc

abbrev turn : State → Turn
turn s = record { state = s; outcome = Kept 0; bits = None; keeps = false; len = 1; at = 0; leaves_new = false }

not_cleared : (es : List Event) → file_of es anew ≡ Some 0 → (file_of es anew ≡ None) ⊎ ((file_of es anew ≡ None) ⊎ IsTrue false) → ⊥
not_cleared es there h =
    let gone : ¬ (file_of es anew ≡ None) = λ e. (let bad : Some 0 ≡ None = sym there ∙ e in cc) in
    ⊎_elim gone (λ r. ⊎_elim gone (λ (f : IsTrue false). (let bad : false ≡ true = f in cc)) r) h

-- ---- the wrong machines

-- the sync is left out
pub no_sync : IsAnswered (turn Writing) (Yes 1) (record (turn Renaming) { at = 1 }) → ⊥
no_sync h = unsynced_is_not_staged (h.stands job [] (create anew ∷ []) written apart (holds_first, refl, omega arith) refl).0

-- the rename comes before the sync
pub early_rename : IsAnswered (turn Writing) (Yes 1) (record (turn SyncingFolder) { at = 1 }) → ⊥
early_rename h =
    let p = (h.stands job [] (create anew ∷ []) written apart (holds_first, refl, omega arith) refl).0 in
    let bad : None ≡ Some p.number = p.number_is in cc

-- the folder's sync is left out
pub no_folder_sync : IsAnswered (turn Renaming) (Yes 0) (record (turn Unlocking) { outcome = Made }) → ⊥
no_folder_sync h = unsettled_is_not_made (h.stands job [] synced_file renamed apart (staged_one, λ k. (let bad : false ≡ true = k in cc)) refl).0

-- it says made though the folder's sync failed
pub made_too_early : IsAnswered (turn SyncingFolder) (No 5) (record (turn Noting) { outcome = Made }) → ⊥
made_too_early h = unsettled_is_not_made (h.stands job [] renamed renamed apart (placed_one, refl, λ k. (let bad : false ≡ true = k in cc)) refl).0

-- it says kept though the rename may have been done
pub kept_too_late : IsAnswered (turn Renaming) (No 5) (record (turn Removing) { outcome = Kept 5 }) → ⊥
kept_too_late h = renamed_is_not_kept (h.stands job [] synced_file renamed apart (staged_one, λ k. (let bad : false ≡ true = k in cc)) (inr refl))

-- it unlocks before it renames
pub early_unlock : IsAnswered (turn Syncing) (Yes 0) (turn Unlocking) → ⊥
early_unlock h = not_cleared synced_file refl (h.stands job [] written synced_file apart holds_one refl).1

-- a fault leaves the new file
pub left_file : IsAnswered (turn Writing) (No 28) (record (turn Unlocking) { outcome = Kept 28 }) → ⊥
left_file h =
    not_cleared (touch anew ∷ create anew ∷ []) refl
    (h.stands job [] (create anew ∷ []) (touch anew ∷ create anew ∷ []) apart (holds_first, refl, omega arith) (inl refl)).1

-- a short write is taken for a whole one
pub short_write : IsAnswered (turn Writing) (Yes 0) (record (turn Syncing) { at = 1 }) → ⊥
short_write h =
    let w = h.stands job [] (create anew ∷ []) (append anew [] ∷ create anew ∷ []) apart (holds_first, refl, omega arith) refl in
    let is : Some 0 ≡ Some w.number = w.number_is in
    let number : w.number ≡ 0 = cc in
    let bad : [] ≡ one = ap (λ f. content (append anew [] ∷ create anew ∷ []) f) (sym number) ∙ w.bytes_are in cc

-- it gives up after the bytes are made
pub gives_up : IsAnswered (turn Making) (Yes 1) (record (turn Unlocking) { len = 1 }) → ⊥
gives_up h = omega (arith, h.on)

-- it goes on without the lock
pub no_lock : IsAnswered (turn Locking) (No 11) (record (turn Reading) { outcome = Kept 11 }) → ⊥
no_lock h = h.ends

-- it forgets the permission bits
pub no_bits : IsAnswered (turn Reading) (Yes 384) (turn Making) → ⊥
no_bits h = none-some 384 (h.knows.file (omega arith)).0

-- it forgets that the old file is to be set aside
pub no_aside : IsAnswered (record (turn Syncing) { keeps = true }) (Yes 0) (record (turn Renaming) { keeps = true }) → ⊥
no_aside h = let bad : Rename ≡ SetAside = h.on.1 refl in cc

-- ---- a wrong host

-- it says that the old file is set aside, which has no other name
pub nothing_linked : DidStep SetAside (Yes 0) job (create a ∷ []) (create a ∷ []) → ⊥
nothing_linked d =
    ⊎_elim (λ (h : (0 ≡ 0) × (IsLinked job (create a ∷ []) (create a ∷ []) ⊎ WasLinked job (create a ∷ []) (create a ∷ []))).
    ⊎_elim (λ (l : IsLinked job (create a ∷ []) (create a ∷ [])). (let bad : create a ∷ [] ≡ link a l.0 ∷ create a ∷ [] = l.2 in cc))
    (λ (w : WasLinked job (create a ∷ []) (create a ∷ [])).
    (let none : file_of (create a ∷ []) w.0 ≡ None = ap (λ b. cond b (Some 0) None) (other_path w.0 a (aside_is_not_name a w.0 w.1)) in
    let bad : None ≡ Some 0 = sym none ∙ w.2 in cc)) h.1)
    (λ (h : (0 < 0) × (create a ∷ [] ≡ create a ∷ [])). (let lt = h.0 in absurd (omega arith))) d
