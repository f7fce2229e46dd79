-- Runs that change the first database and runs that put a database in place, in any order.
use Rattle.std.specs.Prelude.{◌≡◌, ◌⊎◌, ℕ, zero, suc, List, [], ◌∷◌, refl}
use Rattle.std.proofs.Common.{sym, subst, inl, inr}
use Rattle.dconf_model.specs.Sources.{Given}
use Rattle.dconf_model.specs.Profiles.{Database}
use Rattle.dconf_model.specs.Folders.{Event, read_content}
use Rattle.dconf_model.specs.Commands.{Command}
use Rattle.dconf_model.specs.Reads.{Content, Input}
use Rattle.dconf_model.specs.Outcomes.{Output}
use Rattle.dconf_model.specs.Runs.{RanCalmly}
use Rattle.dconf_model.specs.Programs.{AreApart, IsChangeOf, IsPut, OnlyReads, Run, asked_change, if_done}
use Rattle.dconf_model.specs.Standings.{FolderStands, MayRunOver, PutsFile, PutsRows, RunsAreKept, Standing, StepsBy, WholeProgramGives, with_changes, with_put}
use Rattle.dconf_model.specs.Standings.PutsFile.{compiling, repairing}
use Rattle.dconf_model.specs.Standings.PutsRows.{compiling as compiled_rows, repairing as repaired_rows}
use Rattle.dconf_model.proofs.ProgramLaws.{questions_are_answered}
use Rattle.dconf_model.proofs.RunChanges.{run_is_kept}
use Rattle.dconf_model.proofs.CompiledFolders.{compile_gives, repair_gives, put_steps}

-- a command that changes the first database, or no file, puts none in place
pub puts_none : (profile : List ℕ) (command : Command) (out : List ℕ) → IsChangeOf profile command ⊎ OnlyReads command → ¬ PutsFile command out
puts_none profile _ _ (inl change) (compiling out lock_names names) = change
puts_none profile _ _ (inl change) (repairing file out) = change
puts_none profile _ _ (inr reads) (compiling out lock_names names) = reads
puts_none profile _ _ (inr reads) (repairing file out) = reads

-- ---- a run that puts a file in place

record HasPut (command : Command) (input : Input) (old new : List Event) (output : Output) (out : List ℕ) : Type 0 where
  g : Given
  done : output.status ≡ 0
  rows : PutsRows (read_content old) command out g
  put : IsPut old new out g

has_put : (command : Command) (input : Input) (old new : List Event) (output : Output) (out : List ℕ) → PutsFile command out → RanCalmly command input old new output →
    HasPut command input old new output out ⊎ ((output.status ≡ 1) × (new ≡ old))
has_put _ input old new output _ (compiling out lock_names names) ran = elim (compile_gives out lock_names names input old new output ran) [
  | inl c ↦ inl (record { g = c.1.0; done = c.0; rows = compiled_rows out lock_names names c.1.0 c.1.1.sources; put = c.1.1.put })
  | inr nothing ↦ inr nothing
]
has_put _ input old new output _ (repairing file out) ran = elim (repair_gives file out input old new output ran) [
  | inl c ↦ inl (record { g = c.1.0; done = c.0; rows = repaired_rows file out c.1.0 c.1.1.salvage; put = c.1.1.put })
  | inr nothing ↦ inr nothing
]

-- ---- a run

module _ (profile : List ℕ) (d : Database) (ds : List Database) (apart : AreApart profile d ds) where
  record Stepped (s : Standing) (r : Run) (old new : List Event) : Type 0 where
    after : Standing
    steps : StepsBy r.output.status (read_content old) d ds r.command r.input s after
    stands : FolderStands (read_content new) profile d ds after

  steps_plainly : (n : ℕ) (content : Content) (command : Command) (input : Input) (s : Standing) → IsChangeOf profile command ⊎ OnlyReads command →
      StepsBy n content d ds command input s (with_changes (if_done n (asked_change command input)) s)
  steps_plainly zero content command input s plain = inr (λ out. puts_none profile command out plain, refl)
  steps_plainly (suc n) content command input s plain = refl

  puts : (n : ℕ) (content : Content) (command : Command) (input : Input) (s : Standing) (out : List ℕ) (g : Given) → n ≡ 0 → PutsRows content command out g →
      StepsBy n content d ds command input s (with_put out g d ds s)
  puts n content command input s out g e rows =
      subst (λ n. StepsBy n content d ds command input s (with_put out g d ds s)) (sym e) (inl (out, g, rows, refl))

  stays : (n : ℕ) (content : Content) (command : Command) (input : Input) (s : Standing) → n ≡ 1 → StepsBy n content d ds command input s s
  stays n content command input s e = subst (λ n. StepsBy n content d ds command input s s) (sym e) refl

  stepped : (s : Standing) (r : Run) (old new : List Event) → FolderStands (read_content old) profile d ds s → MayRunOver profile (d ∷ ds) r.command →
      RanCalmly r.command r.input old new r.output → Stepped s r old new
  stepped s r old new h (inl plain) ran = record {
    after = with_changes (if_done r.output.status (asked_change r.command r.input)) s;
    steps = steps_plainly r.output.status (read_content old) r.command r.input s plain;
    stands = run_is_kept profile d ds s.own s.others r.command r.input old new r.output apart plain h ran;
  }
  stepped s r old new h (inr file) ran = elim (has_put r.command r.input old new r.output file.0 file.1 ran) [
    | inl p ↦ record {
      after = with_put file.0 p.g d ds s;
      steps = puts r.output.status (read_content old) r.command r.input s file.0 p.g p.done p.rows;
      stands = put_steps profile d ds s.own s.others file.0 p.g old new h file.2.profile_is file.2.databases_are p.put;
    }
    | inr nothing ↦ record {
      after = s;
      steps = stays r.output.status (read_content old) r.command r.input s nothing.0;
      stands = subst (λ es. FolderStands (read_content es) profile d ds s) (sym nothing.1) h;
    }
  ]

pub runs_are_kept : RunsAreKept
runs_are_kept profile d ds s [] old new apart h of ran = (s, (ran, refl), subst (λ es. FolderStands (read_content es) profile d ds s) (sym ran) h)
runs_are_kept profile d ds s (r ∷ more) old new apart h of ran =
    let one = stepped profile d ds apart s r old ran.0 h of.0 ran.1 in
    let rest = runs_are_kept profile d ds one.after more ran.0 new apart one.stands of.1 ran.2 in
    (rest.0, (ran.0, one.after, ran.1, one.steps, rest.1), rest.2)

pub whole_program_gives : WholeProgramGives
whole_program_gives profile d ds s runs command input old mid new output apart h of ran asks last =
    let all = runs_are_kept profile d ds s runs old mid apart h of ran in
    (all.0, all.1, questions_are_answered profile d ds all.0.own all.0.others command input mid new output all.2 asks last)
