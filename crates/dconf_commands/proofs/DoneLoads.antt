-- A `load` that is done came to the end of its input.
use Rattle.std.proofs.Common.{◌≡◌, ◌≤◌, ◌<◌, ◌+◌, ◌∷◌, ℕ, Bool, true, false, zero, suc, List, [], length, Result, Ok, Err, refl, ap, subst, arith}
use Rattle.std.specs.Prelude.{OnOk, codes, nat_lt}
use Rattle.dconf_model.specs.Causes.SettingsCause.{too_big}
use Rattle.dconf_model.specs.FaultTexts.{line_fault_text}
use Rattle.dconf_model.specs.Lines.{LineFault, longest_text}
use Rattle.dconf_model.specs.Outcomes.{Gives, OrLine, Outcome, Refused}
use Rattle.dconf_model.specs.Reads.{FileRead, ReadResults}
use Rattle.dconf_model.specs.Reads.FileRead.{no_file}
use Rattle.dconf_model.specs.Sources.{Loaded, and_rows, loaded, rows_taken}
use Rattle.dconf_folders.specs.declared.folder.Folder.{Ghosts}
use Rattle.dconf_streams.specs.declared.answer.Answer.{Answer}
use Rattle.dconf_streams.specs.declared.answer.Answer.TheVariants.{Done, Changed}
use Rattle.dconf_streams.specs.Answers.{Answered, outcome_of_answer}
use Rattle.dconf_streams.specs.Readings.{Decides, Gave, Reading}
use Rattle.dconf_commands.proofs.LoadLaws.{long_rows}

-- ---- reads that gave what was read

read_at : List Reading → ℕ → FileRead
read_at [] i = no_file
read_at (r ∷ log) zero = r.gave
read_at (r ∷ log) (suc i) = read_at log i

gave_from : (log : List Reading) (k : ℕ) (reads : ReadResults) → ((i m : ℕ) (name : List ℕ) → m ≡ k + i → reads m name ≡ read_at log i) → Gave reads k log
unfolding read_at
gave_from [] k reads same = tt
gave_from (r ∷ log) k reads same = (
  same zero k r.name (omega arith),
  gave_from log (k + 1) reads (λ i m name e. same (suc i) m name (omega arith)),
)

gave_all : (log : List Reading) → Gave (λ n name. read_at log n) 0 log
gave_all log = gave_from log 0 (λ n name. read_at log n) (λ i m name e. let same : m ≡ i = omega arith in ap (read_at log) same)

-- ---- what is done is no refusal

not_refused : (answer : Answer) (why : List ℕ) → Refused why (outcome_of_answer answer) → ⊥
not_refused (Done text) why is = let same = ap (λ (o : Outcome). o.output.status) is in omega arith
not_refused (Changed file bytes text) why is = let same = ap (λ (o : Outcome). o.output.status) is in omega arith

not_too_long : (skip : Bool) (directory bytes : List ℕ) (Go : Loaded → Gives) (answer : Answer) → OrLine (codes "input") (loaded skip directory bytes) Go (outcome_of_answer answer)
    → (long : Bool) → nat_lt longest_text (length bytes) ≡ long → length bytes ≤ longest_text
not_too_long skip directory bytes Go answer h true e =
    let long : longest_text < length bytes = grind arith in
    absurd (not_refused answer (line_fault_text (codes "input") 0 too_big) (subst (λ (r : Result Loaded LineFault). OrLine (codes "input") r Go (outcome_of_answer answer))
    (ap (and_rows (rows_taken skip directory)) (long_rows bytes long)) h))
not_too_long skip directory bytes Go answer h false e = grind arith

pub done_at_end : {F : Type 0} (ghosts : Ghosts F) (old new : F) (answer : Answered) (skip : Bool) (directory bytes : List ℕ) (Go : ReadResults → Loaded → Gives)
    (AtEnd : Type 0) → Decides ghosts old new 0 (λ reads. OrLine (codes "input") (loaded skip directory bytes) (Go reads)) answer
    → (length bytes ≤ longest_text → AtEnd) → OnOk answer AtEnd
done_at_end ghosts old new (Ok answer) skip directory bytes Go AtEnd d ends =
    let reads : ReadResults = λ n name. read_at d.log n in
    ends (not_too_long skip directory bytes (Go reads) answer (d.answers reads (gave_all d.log)) _ refl)
done_at_end ghosts old new (Err refusal) skip directory bytes Go AtEnd d ends = tt
