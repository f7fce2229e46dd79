-- What an answer of a command stands for, and what its refusal does.
use Rattle.std.specs.Prelude.{ℕ, List, [], ◌∷◌, ◌++◌, Option, Some, None, Result, Ok, Err, IfSome, codes, string_bytes, vec_items}
use Rattle.std.specs.declared.alloc.Global.{Global}
use Rattle.std.specs.declared.string.String.{String}
use Rattle.refused.specs.declared.Refused as faults
use Rattle.refused.specs.declared.Refused.TheVariants.{Fault, Memory}
use Rattle.dconf_model.specs.Outcomes.{Gives, Outcome, Refused, done, changing}
use Rattle.dconf_streams.specs.declared.answer.Answer.{Answer}
use Rattle.dconf_streams.specs.declared.answer.Answer.TheVariants.{Done, Changed}

-- why a command is refused
abbrev pub Refusal : Type 0
Refusal = faults.Refused (String Global)

-- what a command answers, or why it is refused
abbrev pub Answered : Type 0
Answered = Result Answer Refusal

-- refused with this line, its line feed with it
abbrev pub refused_by : List ℕ → Outcome
refused_by line = record { output = record { out = []; err = line; status = 1 }; change = None }

-- the line of a refusal, with its line feed
abbrev pub line_of : Refusal → List ℕ
line_of (Fault line) = string_bytes line
line_of Memory = codes "error: Memory" ++ 10 ∷ []

abbrev pub outcome_of_answer : Answer → Outcome
outcome_of_answer (Done text) = done (string_bytes text)
outcome_of_answer (Changed file bytes text) = changing (string_bytes file) (vec_items bytes) (string_bytes text)

-- without memory there is none
abbrev pub outcome_of_refusal : Refusal → Option Outcome
outcome_of_refusal (Fault line) = Some (refused_by (string_bytes line))
outcome_of_refusal Memory = None

-- the outcome that is to come about
abbrev pub outcome_of : Answered → Option Outcome
outcome_of (Ok answer) = Some (outcome_of_answer answer)
outcome_of (Err refusal) = outcome_of_refusal refusal

-- the outcome is one of these, unless memory ran out
abbrev pub GivesOutcome : Answered → Gives → Type 0
GivesOutcome answered Makes = IfSome (outcome_of answered) Makes

-- the refusal that says why, unless memory ran out
abbrev pub RefusesFor : Answered → List ℕ → Type 0
RefusesFor answered why = GivesOutcome answered (Refused why)

-- nothing is made yet
abbrev pub NoOutcome : Gives
NoOutcome o = ⊥
