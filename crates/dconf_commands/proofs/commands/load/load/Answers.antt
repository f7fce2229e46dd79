use Rattle.std.proofs.Common.{ℕ, List, Err, subst}
use Rattle.std.proofs.lemmas.Result.{err_from_is_err_and}
use Rattle.dconf_model.specs.Outcomes.{Loads, Gives, UnlessFault, WithRows}
use Rattle.dconf_model.specs.Paths.{directory_fault}
use Rattle.dconf_model.specs.Reads.{ReadResults}
use Rattle.dconf_model.specs.Sources.{Loaded}
use Rattle.dconf_streams.specs.Counted.{inner_of}
use Rattle.dconf_streams.specs.Readings.{Decides}
use Rattle.dconf_commands.proofs.PathArguments.{decides_at_path, decides_faultless}
use Rattle.dconf_commands.proofs.UnreadInputs.{input_of, took, takes_none}
use Rattle.dconf_commands.proofs.commands.load.load.Goals as goal

pub returns-in_err-directory-clause-answer : goal.returns-in_err-directory-clause-answer
returns-in_err-directory-clause-answer g c =
    let Go : ReadResults → Loaded → Gives = λ reads. Loads reads c.args.profile.now c.args.force in
    let given = g.I.Read.remaining (inner_of c.args.input.now) in
    let i = input_of given in
    let p = err_from_is_err_and c.from_residual.result c.from_residual.ensures.1 in
    rw (p.1, p.2) (
      i,
      took g.I.Read.remaining c.args.input.now,
      decides_at_path g.F.Folder c.args.folder.now (λ reads. WithRows c.args.skip_doubles c.args.directory.now i (Go reads)) (Err c.in_err-directory.field-0.0)
          (directory_fault c.args.directory.now) c.in_err-directory.ensures.err,
    )

pub returns-in_err-directory-clause-limit : goal.returns-in_err-directory-clause-limit
returns-in_err-directory-clause-limit g c = takes_none g.I.Read.remaining c.args.input.now

pub returns-clause-answer : goal.returns-clause-answer
returns-clause-answer g c =
    let Go : ReadResults → Loaded → Gives = λ reads. Loads reads c.args.profile.now c.args.force in
    let a = c.load_below.ensures.answer in (
      a.0,
      a.1,
      subst (λ (directory : List ℕ). Decides g.F.Folder c.args.folder.now c.load_below.new.folder 0
          (λ reads. UnlessFault (directory_fault c.args.directory.now) (WithRows c.args.skip_doubles directory a.0 (Go reads))) c.load_below.result) c.in_ok-directory.ensures.ok
          (decides_faultless g.F.Folder c.args.folder.now c.load_below.new.folder _ c.load_below.result (directory_fault c.args.directory.now)
          c.in_ok-directory.ensures.faultless a.2),
    )
