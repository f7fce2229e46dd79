-- No turn that said made is lost, whatever comes after it.
use Rattle.std.proofs.Common.{ℕ, ◌≡◌, false, List, [], ◌∷◌, length, Option, Some, None, refl, sym, ap, subst, arith, ⊎_elim, inl, inr}
use Rattle.dconf_model.specs.Bytes.{MaybeBytes}
use Rattle.dconf_model.specs.Folders.{Event, IsLeft, read_content}
use Rattle.dconf_model.proofs.Histories.{Ending, MayRun, KeepsFirst, IsWholeAtAnyMoment, Step, History, KeptBy, Kept as KeptOf}
use Rattle.dconf_model.proofs.Histories.Ending.{done, refused, faulted, stopped}
use Rattle.dconf_model.proofs.HistoryLaws.{never_lost}
use Rattle.dconf_model.proofs.FolderLaws.{counts_now, longer, only_now}
use Rattle.dconf_turn.specs.declared.turn.Turn.{Turn}
use Rattle.dconf_turn.specs.declared.step.Outcome.{Outcome}
use Rattle.dconf_turn.specs.declared.step.Outcome.TheVariants.{Made, Kept, Either, Unsettled, Same, Unsynced}
use Rattle.dconf_turn.specs.Jobs.{Job, IsLockApart}
use Rattle.dconf_turn.specs.Sayings.{IsKept, IsWhole}
use Rattle.dconf_turn.specs.Progress.{IsEarly}
use Rattle.dconf_turn.specs.Histories.{IsGoodTurn}
use Rattle.dconf_turn.specs.Survivals.{TurnEnd, Happening, Drove, job_of, DroveFor, SaidSo, WasCut, CameTo, CameInTurn, IsKeptBy, AreTurnsKept, NoTurnIsLost}
use Rattle.dconf_turn.specs.Survivals.TurnEnd.{said, killed, crashed}
use Rattle.dconf_turn.specs.Survivals.Happening.{turn, crash}
use Rattle.dconf_turn.proofs.OwnNames.{name_not_own}
use Rattle.dconf_turn.proofs.SayingLaws.{kept, early_apart}
use Rattle.dconf_turn.proofs.HistoryLaws.{whatever_is_answered}

good : (u : Turn) (job : Job) (old now : List Event) → IsLockApart job → (d : Drove u job old now) → IsGoodTurn d.taken u job old now
good u job old now apart d = whatever_is_answered d.taken d.begun u job old now apart d.is_begun d.ran

abbrev ending_of : TurnEnd → Ending
ending_of (said Made) = done
ending_of (said (Kept fault)) = refused
ending_of (said (Either fault)) = faulted
ending_of (said (Unsettled fault)) = faulted
ending_of (said Same) = done
ending_of (said (Unsynced fault)) = refused
ending_of killed = faulted
ending_of crashed = stopped

-- a crash between turns is a command that changes nothing, and is stopped
abbrev MayOrNot : {Command : Type 0} → (MaybeBytes → Command → MaybeBytes → Type 0) → MaybeBytes → Option Command → MaybeBytes → Type 0
MayOrNot may c None d = d ≡ c
MayOrNot may c (Some command) d = may c command d

abbrev commands : {Command : Type 0} → List (Option Command) → List Command
commands [] = []
commands (None ∷ more) = commands more
commands (Some command ∷ more) = command ∷ commands more

module _ {Command : Type 0} (may : MaybeBytes → Command → MaybeBytes → Type 0) (name : List ℕ) (lock : Option (List ℕ)) (apart : IsLockApart (job_of may name lock [])) where
  abbrev StepOf : List Event → Option Command → Ending → List Event → Type 0
  StepOf old command end new = Step (MayOrNot may) name old command end new

  abbrev IsWholeFor : List Event → List Event → Command → Type 0
  IsWholeFor old new command = IsWholeAtAnyMoment (MayOrNot may) name old new (Some command)

  whole : (keeps : _) (command : Command) (old new : List Event) (bytes : List ℕ) → may (read_content old name) command (Some bytes) → IsWhole keeps (job_of may name lock bytes) old new →
      IsWholeFor old new command
  whole keeps command old new bytes made m = record {
    grown = m.grown;
    any_moment = λ c h. ⊎_elim (λ left. inl left) (λ (e : c ≡ Some bytes). inr (subst (λ x. may (read_content old name) command x) (sym e) made)) (m.crash c h);
  }

  at_fault : (command : Command) (old new : List Event) (u : Turn) → DroveFor may name lock command u old new → StepOf old (Some command) faulted new
  at_fault command old new u d =
      let m = (good u (job_of may name lock d.0) old new apart d.2).safe in (
        whole u.keeps command old new d.0 d.1 m,
        ⊎_elim (λ same. inl same) (λ (e : read_content new name ≡ Some d.0). inr (subst (λ x. may (read_content old name) command x) (sym e) d.1)) m.read,
      )

  not_done : (keeps : _) (bytes : List ℕ) (command : Command) (old new : List Event) → IsKept keeps (job_of may name lock bytes) old new → StepOf old (Some command) refused new
  not_done keeps bytes command old new k =
      let other = name_not_own keeps (job_of may name lock bytes) old apart in
      (λ c m. k.crash name c other (counts_now new (length old) name c (longer old new k.grown) m), k.read name other)

  step_of_outcome : (command : Command) (outcome : Outcome) (old new : List Event) → SaidSo may name lock command outcome old new → StepOf old (Some command) (ending_of (said outcome)) new
  step_of_outcome command Made old new s =
      let d = s.1 in
      let r = (good s.0 (job_of may name lock d.0) old new apart d.2).said Made s.2 in
      (Some d.0, d.1, r.settled, r.read)
  step_of_outcome command (Kept fault) old new s = not_done s.0.keeps s.1 command old new ((good s.0 (job_of may name lock s.1) old new apart s.2).said (Kept fault) s.3)
  step_of_outcome command (Either fault) old new s = at_fault command old new s.0 s.1
  step_of_outcome command (Unsettled fault) old new s = at_fault command old new s.0 s.1
  step_of_outcome command Same old new s =
      let r = (good s.0 (job_of may name lock s.1) old new apart s.2).said Same s.3 in
      (read_content old name, s.4, r.settled, r.kept.read name (name_not_own s.0.keeps (job_of may name lock s.1) old apart))
  step_of_outcome command (Unsynced fault) old new s = not_done s.0.keeps s.1 command old new ((good s.0 (job_of may name lock s.1) old new apart s.2).said (Unsynced fault) s.3)

  early_kept : (old cut : List Event) → IsEarly (job_of may name lock []) old cut → IsKept false (job_of may name lock []) old cut
  early_kept old cut e = kept false (job_of may name lock []) old cut (early_apart false (job_of may name lock []) old cut e)

  early_whole : (command : Command) (old cut : List Event) → IsEarly (job_of may name lock []) old cut → IsWholeFor old cut command
  early_whole command old cut e =
      let k = early_kept old cut e in
      record { grown = k.grown; any_moment = λ c h. inl (k.crash name c (name_not_own false (job_of may name lock []) old apart) h) }

  killed_step : (command : Command) (old cut : List Event) → WasCut may name lock command old cut → StepOf old (Some command) faulted cut
  killed_step command old cut (inl e) = (early_whole command old cut e, inl ((early_kept old cut e).read name (name_not_own false (job_of may name lock []) old apart)))
  killed_step command old cut (inr (inl w)) =
      let job = job_of may name lock w.1 in
      let k = (good w.0 job old cut apart w.2).unwritten w.3 w.4 in
      let other = name_not_own w.0.keeps job old apart in
      (record { grown = k.grown; any_moment = λ c h. inl (k.crash name c other h) }, inl (k.read name other))
  killed_step command old cut (inr (inr d)) = at_fault command old cut d.0 d.1

  step_of_end : (command : Command) (end : TurnEnd) (old new : List Event) → CameTo may name lock command end old new → StepOf old (Some command) (ending_of end) new
  step_of_end command (said outcome) old new s = step_of_outcome command outcome old new s
  step_of_end command killed old new s = killed_step command old new s
  step_of_end command crashed old new s =
      (s.0, (killed_step command old s.0 s.1).0, (read_content new name, s.2.left name, s.2.settled name, refl))

  crash_step : (old new : List Event) → IsLeft old new → StepOf old None stopped new
  crash_step old new l = (
    old,
    record { grown = ([], refl); any_moment = λ c h. inl (only_now old name c h) },
    (read_content new name, counts_now old (length old) name (read_content new name) (omega arith) (l.allowed name), l.settled name, refl),
  )

  abbrev steps_of : List (Happening Command) → List (Option Command × Ending)
  steps_of [] = []
  steps_of (turn command end ∷ more) = (Some command, ending_of end) ∷ steps_of more
  steps_of (crash ∷ more) = (None, stopped) ∷ steps_of more

  history : (happened : List (Happening Command)) (old new : List Event) → CameInTurn may name lock old happened new → History (MayOrNot may) name old (steps_of happened) new
  history [] old new h = h
  history (turn command end ∷ more) old new h = (h.0, step_of_end command end old h.0 h.1, history more h.0 new h.2)
  history (crash ∷ more) old new h = (h.0, crash_step old h.0 h.1, history more h.0 new h.2)

  -- ---- which are kept

  abbrev KeptLater : List (Happening Command) → List (Option Command) → Type 0
  KeptLater more all = AreTurnsKept more (commands all)

  first_kept : (command : Command) (more : List (Happening Command)) → ((all : List (Option Command)) → KeptOf (steps_of more) all → KeptLater more all) → (all : List (Option Command)) →
      KeepsFirst (Some command) (KeptOf (steps_of more)) all → KeepsFirst command (AreTurnsKept more) (commands all)
  first_kept command more later all h = (commands h.0, ap commands h.1, later h.0 h.2)

  by_end : (end : TurnEnd) (command : Command) (more : List (Happening Command)) → ((all : List (Option Command)) → KeptOf (steps_of more) all → KeptLater more all) → (all : List (Option Command)) →
      KeptBy (ending_of end) (Some command) (KeptOf (steps_of more)) all → IsKeptBy end command (AreTurnsKept more) (commands all)
  by_end (said Made) command more later all h = first_kept command more later all h
  by_end (said (Kept fault)) command more later all h = later all h
  by_end (said (Either fault)) command more later all h = ⊎_elim (λ out. inl (later all out)) (λ k. inr (first_kept command more later all k)) h
  by_end (said Same) command more later all h = first_kept command more later all h
  by_end (said (Unsynced fault)) command more later all h = later all h
  by_end (said (Unsettled fault)) command more later all h = ⊎_elim (λ out. inl (later all out)) (λ k. inr (first_kept command more later all k)) h
  by_end killed command more later all h = ⊎_elim (λ out. inl (later all out)) (λ k. inr (first_kept command more later all k)) h
  by_end crashed command more later all h = ⊎_elim (λ out. inl (later all out)) (λ k. inr (first_kept command more later all k)) h

  kept_so : (happened : List (Happening Command)) (all : List (Option Command)) → KeptOf (steps_of happened) all → AreTurnsKept happened (commands all)
  kept_so [] all h = ap commands h
  kept_so (turn command end ∷ more) all h = by_end end command more (kept_so more) all h
  kept_so (crash ∷ more) all h =
      ⊎_elim (λ out. kept_so more all out)
      (λ (k : KeepsFirst None (KeptOf (steps_of more)) all). subst (λ l. AreTurnsKept more l) (sym (ap commands k.1)) (kept_so more k.0 k.2)) h

  runs : (all : List (Option Command)) (c d : MaybeBytes) → MayRun (MayOrNot may) c all d → MayRun may c (commands all) d
  runs [] c d h = h
  runs (None ∷ more) c d h = subst (λ x. MayRun may x (commands more) d) h.1 (runs more h.0 d h.2)
  runs (Some command ∷ more) c d h = (h.0, h.1, runs more h.0 d h.2)

pub no_turn_is_lost : {Command : Type 0} (may : MaybeBytes → Command → MaybeBytes → Type 0) → NoTurnIsLost may
no_turn_is_lost may name lock old new happened c apart settled came left =
    let all = never_lost (MayOrNot may) name old new (steps_of may name lock apart happened) c settled (history may name lock apart happened old new came) left in
    (commands all.0, kept_so may name lock apart happened all.0 all.1, runs may name lock apart all.0 (read_content old name) c all.2)
