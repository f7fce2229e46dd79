use Rattle.std.proofs.Common.{Result, Err, codes, sym, subst}
use Rattle.dconf_model.specs.Lines.{LineFault}
use Rattle.dconf_model.specs.Outcomes.{Loads, Gives, OrLine}
use Rattle.dconf_model.specs.Reads.{ReadResults}
use Rattle.dconf_model.specs.Sources.{Loaded, loaded}
use Rattle.dconf_path.specs.Paths.{directory_text}
use Rattle.dconf_compile.specs.LineStops.{line_fault_of}
use Rattle.dconf_streams.specs.Readings.{Decides}
use Rattle.dconf_commands.proofs.LoadLaws.{decides_line}
use Rattle.dconf_commands.proofs.commands.load.load_bytes.Goals as goal

pub returns-in-Ok : goal.returns-in-Ok
returns-in-Ok g c =
    let Go : ReadResults → Loaded → Gives = λ reads. Loads reads c.args.profile.now c.args.force in
    subst (λ (r : Result Loaded LineFault). Decides g.F.Folder c.args.folder.now c.load_rows.new.folder 0
    (λ reads. OrLine (codes "input") r (Go reads)) c.load_rows.result) (sym (c.in-Ok.ensures.found c.args.skip_doubles)) c.load_rows.ensures

pub returns-in-Err : goal.returns-in-Err
returns-in-Err g c =
    let Go : ReadResults → Loaded → Gives = λ reads. Loads reads c.args.profile.now c.args.force in
    decides_line g.F.Folder c.args.folder.now (Err c.line_refused.result) (line_fault_of c.in-Err.stop)
    (loaded c.args.skip_doubles (directory_text c.args.directory) c.args.bytes.now) Go (c.in-Err.ensures.fault c.args.skip_doubles) c.line_refused.ensures
