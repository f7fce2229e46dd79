-- A turn, its step and its answer as numbers.
use Rattle.std.specs.Prelude.{ℕ, ◌≡◌, true, false, Some, None, if◌then◌else◌, ◌==◌}
use Rattle.dconf_turn.specs.declared.turn.Turn.{Turn}
use Rattle.dconf_turn.specs.declared.turn.State.{State}
use Rattle.dconf_turn.specs.declared.turn.State.TheVariants.{Locking, Reading, Making, Creating, Writing, Syncing, SettingAside, Exchanging, Renaming, SyncingFolder, Removing, Settling, Noting, Unlocking, Over}
use Rattle.dconf_turn.specs.declared.step.Outcome.{Outcome}
use Rattle.dconf_turn.specs.declared.step.Outcome.TheVariants.{Made, Kept, Either, Unsettled, Same, Unsynced}
use Rattle.dconf_turn.specs.declared.step.Step.{Step}
use Rattle.dconf_turn.specs.declared.step.Step.TheVariants.{Create, Append, Sync, Done}
use Rattle.dconf_turn.specs.declared.step.Answer.{Answer}
use Rattle.dconf_turn.specs.declared.step.Answer.TheVariants.{Yes, No}
use Rattle.dconf_turn.specs.declared.record.TurnRecord.{TurnRecord}
use Rattle.dconf_turn.specs.declared.record.StepRecord.{StepRecord}
use Rattle.dconf_turn.specs.Steps.{place}

abbrev pub answer_of : ℕ → ℕ → Answer
answer_of fault n = if fault == 0 then Yes n else No fault

abbrev pub state_of : ℕ → State
state_of n =
    if n == 0 then Locking else if n == 1 then Reading else if n == 2 then Making else if n == 3 then Creating else if n == 4 then Writing else
    if n == 5 then Syncing else if n == 6 then SettingAside else if n == 7 then Exchanging else if n == 8 then Renaming else if n == 9 then SyncingFolder else
    if n == 10 then Removing else if n == 11 then Settling else if n == 12 then Noting else if n == 13 then Unlocking else Over

abbrev pub outcome_of : ℕ → ℕ → Outcome
outcome_of n fault =
    if n == 0 then Made else if n == 1 then Kept fault else if n == 2 then Either fault else if n == 3 then Unsettled fault else if n == 4 then Same else Unsynced fault

abbrev pub turn_of : TurnRecord → Turn
turn_of r = record {
  state = state_of r.state;
  outcome = outcome_of r.outcome r.fault;
  bits = if r.has_bits then Some r.bits else None;
  keeps = r.keeps;
  len = r.len;
  at = r.at;
  leaves_new = r.leaves_new;
}

abbrev pub IsOutcomeTold : Outcome → ℕ → ℕ → Type 0
IsOutcomeTold Made number fault = number ≡ 0
IsOutcomeTold (Kept f) number fault = (number ≡ 1) × (fault ≡ f)
IsOutcomeTold (Either f) number fault = (number ≡ 2) × (fault ≡ f)
IsOutcomeTold (Unsettled f) number fault = (number ≡ 3) × (fault ≡ f)
IsOutcomeTold Same number fault = number ≡ 4
IsOutcomeTold (Unsynced f) number fault = (number ≡ 5) × (fault ≡ f)

abbrev pub IsNumberTold : Step → StepRecord → Type 0
IsNumberTold (Create mode) r = r.number ≡ mode
IsNumberTold (Append at) r = r.number ≡ at
IsNumberTold (Sync None) r = r.has_number ≡ false
IsNumberTold (Sync (Some bits)) r = (r.has_number ≡ true) × (r.number ≡ bits)
IsNumberTold (Done outcome) r = IsOutcomeTold outcome r.number r.fault
IsNumberTold step r = Unit {0}

abbrev pub IsStepTold : Step → StepRecord → Type 0
IsStepTold step r = (r.kind ≡ place step) × IsNumberTold step r
