use Rattle.std.proofs.Common.{ℕ, Err, IfErr, refl, subst, ◌∙◌}
use Rattle.std.proofs.lemmas.Result.{err_from_is_err_and}
use Rattle.dconf_model.specs.Outcomes.{OrNoDatabase}
use Rattle.dconf_model.specs.Profiles.{database_file}
use Rattle.dconf_path.specs.Profiles.{database_of}
use Rattle.dconf_streams.specs.Readings.{Decides, NothingIfAny}
use Rattle.dconf_streams.proofs.Decisions.{at_once, decides_no_memory}
use Rattle.dconf_commands.proofs.store_files.read_database.Goals as goal

pub returns-clause-err : goal.returns-clause-err
returns-clause-err g c =
    subst (λ name. IfErr c.file_if_any.result (λ refusal. (n : ℕ) → Decides g.F.Folder c.args.folder.now c.file_if_any.new.folder n
    (λ reads. OrNoDatabase name (reads n name) NothingIfAny) (Err refusal))) (c.as_str.ensures.value ∙ c.in_ok-name.ensures) c.file_if_any.ensures.err

pub returns-in_err-name-clause-err : goal.returns-in_err-name-clause-err
returns-in_err-name-clause-err g c =
    let p = err_from_is_err_and c.from_residual.result c.from_residual.ensures.1 in
    rw (p.1, p.2) (λ n. decides_no_memory g.F.Folder c.args.folder.now c.args.folder.now (database_file (database_of c.args.database)) (at_once g.F.Folder c.args.folder.now) n refl _)
