-- Attempts one after another, by the calls that made them.
use Rattle.std.proofs.Common.{◌++◌, ◌∷◌, [], inl, inr, List, Option, Some, None, length, refl, sym, subst}
use Rattle.std.specs.List.{AllByRecursion}
use Rattle.dconf_model.specs.Folders.{Event, Grows, IsLeft, read_content}
use Rattle.dconf_model.specs.Commands.{Command}
use Rattle.dconf_model.specs.Reads.{Input}
use Rattle.dconf_model.specs.Outcomes.{Output, Replacement}
use Rattle.dconf_model.specs.Runs.{Did, Ran, RunEnding}
use Rattle.dconf_model.specs.Runs.RunEnding.{as_meant, device}
use Rattle.dconf_model.specs.Programs.{IsChangeOf}
use Rattle.dconf_model.specs.Survivals.{Attempt as Tried, CameInTurn, CameTo, CrashedSince}
use Rattle.dconf_model.specs.Survivals.RunEnd.{stopped, crashed}
use Rattle.dconf_model.proofs.FolderLaws.{counts_now, longer}
use Rattle.dconf_model.proofs.SurvivalLaws.{nothing_is_lost, next_run_finds_all}
use Rattle.dconf_runs.specs.declared.attempt.Attempt.{Attempt}
use Rattle.dconf_runs.specs.declared.request.Ended.{Ended}
use Rattle.dconf_runs.specs.Programs.{asked_of, AreAttempts, HaveComeInTurn, IsAttempt, NothingIsLostBy}

-- ---- one attempt more

turn_more : (old mid new : List Event) (all : List Tried) (t : Tried) → CameInTurn old all mid → CameTo t.command t.input t.end mid new →
    CameInTurn old (all ++ t ∷ []) new
turn_more old mid new [] t same came = (new, subst (λ es. CameTo t.command t.input t.end es new) same came, refl)
turn_more old mid new (q ∷ all) t turn came = (turn.0, turn.1, turn_more turn.0 mid new all t turn.2 came)

attempts_more : (attempts : List Attempt) (lefts : List (Option Ended)) (all : List Tried) (a : Attempt) (left : Option Ended) (t : Tried) →
    AreAttempts attempts lefts all → IsAttempt a left t → AreAttempts (attempts ++ a ∷ []) (lefts ++ left ∷ []) (all ++ t ∷ [])
attempts_more [] [] [] a left t are is = (is, tt)
attempts_more (b ∷ attempts) (n ∷ lefts) (q ∷ all) a left t are is = (are.0, attempts_more attempts lefts all a left t are.1 is)
attempts_more [] [] (q ∷ all) a left t are is = absurd are
attempts_more [] (n ∷ lefts) all a left t are is = absurd are
attempts_more (b ∷ attempts) [] all a left t are is = absurd are
attempts_more (b ∷ attempts) (n ∷ lefts) [] a left t are is = absurd are

pub one_attempt_more : (old mid new : List Event) (attempts : List Attempt) (lefts : List (Option Ended)) (a : Attempt) (left : Option Ended) (t : Tried) →
    HaveComeInTurn old attempts lefts mid → IsAttempt a left t → CameTo t.command t.input t.end mid new →
    HaveComeInTurn old (attempts ++ a ∷ []) (lefts ++ left ∷ []) new
one_attempt_more old mid new attempts lefts a left t h is came =
    (h.0 ++ t ∷ [], attempts_more attempts lefts h.0 a left t h.1 is, turn_more old mid new h.0 t h.2 came)

-- ---- a crash, at the end of what was done

did_grow : (change : Option Replacement) (ending : RunEnding) (old new : List Event) → Did change ending old new → Grows old new
did_grow None as_meant old new same = ([], same)
did_grow None device old new never = absurd never
did_grow (Some r) as_meant old new replaced = replaced.any_moment.grown
did_grow (Some r) device old new maybe = maybe.any_moment.grown

ran_grows : (command : Command) (input : Input) (old new : List Event) (output : Output) → Ran command input old new output → Grows old new
ran_grows command input old new output r = elim r.answers [
  | inl did ↦ did_grow did.0.outcome.change did.0.ending old new did.1
  | inr none ↦ ([], none.1)
]

crashed_since : (old cut new : List Event) → Grows old cut → IsLeft cut new → CrashedSince old cut new
crashed_since old cut new grows is = record {
  left = λ name. counts_now cut (length old) name (read_content new name) (longer old cut grows) (is.allowed name);
  settled = is.settled;
}

pub came_stopped : (command : Command) (input : Input) (old cut new : List Event) (output : Output) → Ran command input old cut output → IsLeft cut new →
    CameTo command input stopped old new
came_stopped command input old cut new output ran is =
    (cut, output, ran, crashed_since old cut new (ran_grows command input old cut output ran) is)

pub came_crashed : (command : Command) (input : Input) (old new : List Event) → IsLeft old new → CameTo command input crashed old new
came_crashed command input old new is = crashed_since old old new ([], refl) is

-- ---- the law

commands_are : (P : Command → Type 0) (attempts : List Attempt) (lefts : List (Option Ended)) (all : List Tried) → AreAttempts attempts lefts all →
    AllByRecursion (λ (a : Attempt). P (asked_of a.request).0) attempts → AllByRecursion (λ (t : Tried). P t.command) all
commands_are P [] [] [] are h = tt
commands_are P (a ∷ attempts) (n ∷ lefts) (t ∷ all) are h = (subst P (sym are.0.command_is) h.0, commands_are P attempts lefts all are.1 h.1)
commands_are P [] [] (q ∷ all) are h = absurd are
commands_are P [] (n ∷ lefts) all are h = absurd are
commands_are P (b ∷ attempts) [] all are h = absurd are
commands_are P (b ∷ attempts) (n ∷ lefts) [] are h = absurd are

pub nothing_is_lost_by : (old new : List Event) (attempts : List Attempt) (lefts : List (Option Ended)) → HaveComeInTurn old attempts lefts new →
    NothingIsLostBy old attempts lefts new
nothing_is_lost_by old new attempts lefts h profile d ds own gs apart holds settled of =
    let each = commands_are (IsChangeOf profile) attempts lefts h.0 h.1 of in (
      h.0,
      h.1,
      record {
        left = λ c may. nothing_is_lost profile d ds own gs h.0 old new c apart holds settled each h.2 may;
        found = next_run_finds_all profile d ds own gs h.0 old new apart holds settled each h.2;
      },
    )
