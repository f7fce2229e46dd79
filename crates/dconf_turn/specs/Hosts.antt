-- What a host may have done to a folder, by the step that it was told and the answer that it gave. A no says little: the call
-- may have had its effect. It is also what a call may have done that was cut off.
use Rattle.std.specs.Prelude.{ℕ, ◌≡◌, ◌⊎◌, ◌<◌, List, ◌∷◌, Option, Some, length, take, drop}
use Rattle.dconf_model.specs.Folders.{Event, IsSettled, file_of, read_content}
use Rattle.dconf_model.specs.Folders.Event.{create, append, sync, touch, rename, remove, link, exchange, sync_folder}
use Rattle.dconf_model.specs.Replacing.{new_name}
use Rattle.dconf_turn.specs.declared.step.Step.{Step}
use Rattle.dconf_turn.specs.declared.step.Step.TheVariants.{Lock, Make, Create, Append, Sync, SetAside, Exchange, Rename, SyncFolder, Remove, Settle, Note}
use Rattle.dconf_turn.specs.declared.step.Answer.{Answer}
use Rattle.dconf_turn.specs.declared.step.Answer.TheVariants.{Yes, No}
use Rattle.dconf_turn.specs.Jobs.{Job, IsAside, IsFree}

-- the lock's own file was made
abbrev pub IsLockMade : Option (List ℕ) → List Event → List Event → Type 0
IsLockMade lock es now = (own : List ℕ) × (lock ≡ Some own) × (now ≡ create own ∷ es)

-- It may hold any bytes from then on, and none of them need be synced.
abbrev pub IsNoted : Option (List ℕ) → List Event → List Event → Type 0
IsNoted lock es now = (own : List ℕ) × (some : List ℕ) × (lock ≡ Some own) × (now ≡ append own some ∷ create own ∷ es)

-- the old file has a name more, which was free
abbrev pub IsLinked : Job → List Event → List Event → Type 0
IsLinked job es now = (aside : List ℕ) × IsFree job es aside × (now ≡ link job.name aside ∷ es)

-- It has such a name already, by a program that was killed before it renamed, say, and nothing is done.
abbrev pub WasLinked : Job → List Event → List Event → Type 0
WasLinked job es now = (aside : List ℕ) × IsAside job.name aside × (file_of es aside ≡ file_of es job.name) × (now ≡ es)

abbrev pub DidStep : Step → Answer → Job → List Event → List Event → Type 0
DidStep Lock answer job es now = (now ≡ es) ⊎ IsLockMade job.lock es now
-- these are the bytes that were made
DidStep Make (Yes n) job es now = (now ≡ es) × (n ≡ length job.bytes)
DidStep (Create mode) (Yes n) job es now = now ≡ create (new_name job.name) ∷ es
-- also where it removed another file of that name, and then made none
DidStep (Create mode) (No fault) job es now = (now ≡ es) ⊎ ((now ≡ create (new_name job.name) ∷ es) ⊎ (now ≡ remove (new_name job.name) ∷ es))
-- so many of the bytes from that one on
DidStep (Append at) (Yes n) job es now = now ≡ append (new_name job.name) (take n (drop at job.bytes)) ∷ es
DidStep (Append at) (No fault) job es now = (now ≡ touch (new_name job.name) ∷ es) ⊎ ((some : List ℕ) × (now ≡ append (new_name job.name) some ∷ es))
DidStep (Sync bits) (Yes n) job es now = now ≡ sync (new_name job.name) ∷ es
DidStep (Sync bits) (No fault) job es now = now ≡ touch (new_name job.name) ∷ es
-- a number but 0: it can't have another name
DidStep SetAside (Yes n) job es now = ((n ≡ 0) × (IsLinked job es now ⊎ WasLinked job es now)) ⊎ ((0 < n) × (now ≡ es))
DidStep SetAside (No fault) job es now = (now ≡ es) ⊎ IsLinked job es now
-- The new file takes the free name, and then changes places with the old one.
DidStep Exchange (Yes n) job es now = (aside : List ℕ) × IsFree job es aside × (now ≡ exchange aside job.name ∷ rename (new_name job.name) aside ∷ es)
DidStep Exchange (No fault) job es now =
    (now ≡ es) ⊎ ((aside : List ℕ) × IsFree job es aside × ((now ≡ rename (new_name job.name) aside ∷ es)
    ⊎ ((now ≡ exchange aside job.name ∷ rename (new_name job.name) aside ∷ es) ⊎ (now ≡ remove aside ∷ rename (new_name job.name) aside ∷ es))))
DidStep Rename (Yes n) job es now = now ≡ rename (new_name job.name) job.name ∷ es
DidStep Rename (No fault) job es now = (now ≡ es) ⊎ (now ≡ rename (new_name job.name) job.name ∷ es)
DidStep SyncFolder (Yes n) job es now = now ≡ sync_folder ∷ es
DidStep Remove (Yes n) job es now = now ≡ remove (new_name job.name) ∷ es
DidStep Remove (No fault) job es now = (now ≡ es) ⊎ (now ≡ remove (new_name job.name) ∷ es)
-- Nothing need be done to what is on the disk already. Where a sync failed, no byte is lost that was on the disk before.
DidStep Settle (Yes n) job es now = (now ≡ sync_folder ∷ sync job.name ∷ es) ⊎ ((now ≡ es) × IsSettled es job.name (read_content es job.name))
DidStep Settle (No fault) job es now = (now ≡ es) ⊎ ((now ≡ sync job.name ∷ es) ⊎ (now ≡ sync_folder ∷ sync job.name ∷ es))
DidStep Note answer job es now = (now ≡ es) ⊎ IsNoted job.lock es now
DidStep _ _ job es now = now ≡ es
