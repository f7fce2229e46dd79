use Rattle.std.proofs.Common.{◌≡◌, ℕ, Bool, true, List, Err, codes, subst, sym, vec_items}
use Rattle.dconf_model.specs.Outcomes.{Loads, Gives, OrLine, UnlessFailed, WithRows, read_failed}
use Rattle.dconf_model.specs.Reads.{ReadResults}
use Rattle.dconf_model.specs.Sources.{Loaded, loaded}
use Rattle.dconf_path.specs.Paths.{directory_text}
use Rattle.refused.specs.declared.Refused.TheVariants.{Memory}
use Rattle.dconf_streams.specs.Answers.{GivesOutcome}
use Rattle.dconf_streams.specs.Readings.{Decides}
use Rattle.dconf_streams.proofs.Decisions.{decides_at_once}
use Rattle.dconf_commands.proofs.DoneLoads.{done_at_end}
use Rattle.dconf_commands.proofs.LoadLaws.{decides_text}
use Rattle.dconf_commands.proofs.commands.load.load_below.Goals as goal

pub returns-in-Ok-clause-answer : goal.returns-in-Ok-clause-answer
returns-in-Ok-clause-answer g c =
    let Go : ReadResults → Loaded → Gives = λ reads. Loads reads c.args.profile.now c.args.force in
    let directory = directory_text c.args.directory in
    let t = c.in-Ok.ensures.took in (
      t.0,
      t.1,
      decides_text g.F.Folder c.load_bytes.result c.args.skip_doubles directory Go t.0 c.args.folder.now c.load_bytes.new.folder (vec_items c.in-Ok.bytes)
          t.2.text.0 t.2.text.1 (subst (λ (b : List ℕ). Decides g.F.Folder c.args.folder.now c.load_bytes.new.folder 0
          (λ reads. OrLine (codes "input") (loaded c.args.skip_doubles directory b) (Go reads)) c.load_bytes.result) c.deref.ensures.value c.load_bytes.ensures),
    )

pub returns-in-Err-Memory-clause-answer : goal.returns-in-Err-Memory-clause-answer
returns-in-Err-Memory-clause-answer g c =
    let Go : ReadResults → Loaded → Gives = λ reads. Loads reads c.args.profile.now c.args.force in
    let t = c.in-Err-Memory.ensures.took in
    (t.0, t.1, decides_at_once g.F.Folder c.args.folder.now 0 (Err Memory) (λ reads. WithRows c.args.skip_doubles (directory_text c.args.directory) t.0 (Go reads)) (λ reads. tt))

pub returns-in-Ok-clause-limit : goal.returns-in-Ok-clause-limit
returns-in-Ok-clause-limit g c = c.in-Ok.ensures.limit

pub returns-in-Ok-clause-end : goal.returns-in-Ok-clause-end
returns-in-Ok-clause-end g c =
    let Go : ReadResults → Loaded → Gives = λ reads. Loads reads c.args.profile.now c.args.force in
    done_at_end g.F.Folder c.args.folder.now c.load_bytes.new.folder c.load_bytes.result c.args.skip_doubles (directory_text c.args.directory) (vec_items c.in-Ok.bytes) Go _
    (subst (λ (b : List ℕ). Decides g.F.Folder c.args.folder.now c.load_bytes.new.folder 0
    (λ reads. OrLine (codes "input") (loaded c.args.skip_doubles (directory_text c.args.directory) b) (Go reads)) c.load_bytes.result) c.deref.ensures.value c.load_bytes.ensures) c.in-Ok.ensures.end

pub returns-in-Err-Fault-clause-answer : goal.returns-in-Err-Fault-clause-answer
returns-in-Err-Fault-clause-answer g c =
    let Go : ReadResults → Loaded → Gives = λ reads. Loads reads c.args.profile.now c.args.force in
    let directory = directory_text c.args.directory in
    let t = c.in-Err-Fault.ensures.took in
    let broken : read_failed t.0 ≡ true = rw c.in-Err-Fault.field-0-is at t.2.failing in (
      t.0,
      t.1,
      decides_at_once g.F.Folder c.args.folder.now 0 (Err c.refused.result) (λ reads. WithRows c.args.skip_doubles directory t.0 (Go reads)) (λ reads.
          subst (λ (b : Bool). GivesOutcome (Err c.refused.result) (UnlessFailed b (OrLine (codes "input") (loaded c.args.skip_doubles directory t.0.bytes) (Go reads)))) (sym broken)
          c.refused.ensures),
    )
