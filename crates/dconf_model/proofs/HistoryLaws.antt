-- What a file may be after a history.
use Rattle.std.specs.Prelude.{◌≡◌, ◌⊎◌, ℕ, List, [], ◌∷◌, length, refl}
use Rattle.std.proofs.Common.{inl, inr, subst}
use Rattle.dconf_model.specs.Bytes.{MaybeBytes}
use Rattle.dconf_model.specs.Folders.{Event, MayLeave, read_content}
use Rattle.dconf_model.proofs.Histories.{Ending, MayRun, Step, History, Kept, IsNeverLost}
use Rattle.dconf_model.proofs.Histories.Ending.{done, refused, faulted, stopped, crashed}
use Rattle.dconf_model.proofs.FolderLaws.{seen_may, counts_now, longer}

module _ {Command : Type 0} (may : MaybeBytes → Command → MaybeBytes → Type 0) (name : List ℕ) where
  -- a content that a crash might have left before, and what some of the commands made of it
  abbrev From : List Event → List (Command × Ending) → MaybeBytes → Type 0
  From old steps c = (first : MaybeBytes) × MayLeave old name first × ((kept : List Command) × Kept steps kept × MayRun may first kept c)

  done_first : (old mid : List Event) (command : Command) (more : List (Command × Ending)) (c : MaybeBytes) → Step may name old command done mid → From mid more c → From old ((command, done) ∷ more) c
  done_first old mid command more c step later =
      let same : later.0 ≡ step.0 = step.2 later.0 later.1 in
      (read_content old name, seen_may old name, (command ∷ later.2.0, (later.2.0, refl, later.2.1), (step.0, step.1, subst (λ first. MayRun may first later.2.0 c) same later.2.2)))

  made : (old mid : List Event) (command : Command) (end : Ending) (more : List (Command × Ending)) (c first : MaybeBytes) (kept : List Command) →
      ((all : List Command) → (Kept more all ⊎ ((others : List Command) × (all ≡ command ∷ others) × Kept more others)) → Kept ((command, end) ∷ more) all) →
      MayLeave old name first ⊎ may (read_content old name) command first → Kept more kept → MayRun may first kept c → From old ((command, end) ∷ more) c
  made old mid command end more c first kept may_keep how k run = elim how [
    | inl before ↦ (first, before, (kept, may_keep kept (inl k), run))
    | inr by ↦ (read_content old name, seen_may old name, (command ∷ kept, may_keep (command ∷ kept) (inr (kept, refl, k)), (first, by, run)))
  ]

  one_more : (end : Ending) (old mid : List Event) (command : Command) (more : List (Command × Ending)) (c : MaybeBytes) → Step may name old command end mid → From mid more c → From old ((command, end) ∷ more) c
  one_more done old mid command more c step later = done_first old mid command more c step later
  one_more refused old mid command more c step later = (later.0, step.0 later.0 later.1, later.2)
  one_more faulted old mid command more c step later =
      made old mid command faulted more c later.0 later.2.0 (λ all h. h)
      (step.0.any_moment later.0 (counts_now mid (length old) name later.0 (longer old mid step.0.grown) later.1)) later.2.1 later.2.2
  one_more stopped old mid command more c step later =
      let same : later.0 ≡ step.2.0 = step.2.2 later.0 later.1 in
      made old mid command stopped more c step.2.0 later.2.0 (λ all h. h)
      (step.1.any_moment step.2.0 step.2.1) later.2.1 (subst (λ first. MayRun may first later.2.0 c) same later.2.2)
  one_more crashed old mid command more c step later =
      let same : later.0 ≡ step.0 = step.2 later.0 later.1 in
      (step.0, step.1, (later.2.0, later.2.1, subst (λ first. MayRun may first later.2.0 c) same later.2.2))

  from_all : (old new : List Event) (steps : List (Command × Ending)) (c : MaybeBytes) → History may name old steps new → MayLeave new name c → From old steps c
  from_all old new [] c history m = (c, subst (λ es. MayLeave es name c) history m, ([], refl, refl))
  from_all old new (step ∷ more) c history m = one_more step.1 old history.0 step.0 more c history.1 (from_all history.0 new more c history.2 m)

pub never_lost : {Command : Type 0} (may : MaybeBytes → Command → MaybeBytes → Type 0) → IsNeverLost may
never_lost may name old new steps c settled history m =
    let all = from_all may name old new steps c history m in
    let same : all.0 ≡ read_content old name = settled all.0 all.1 in
    (all.2.0, all.2.1, subst (λ first. MayRun may first all.2.0 c) same all.2.2)
