use Rattle.std.proofs.lemmas.Result.{err_from_is_err_and}
use Rattle.std.proofs.Common.{Err, map, string_bytes, subst}
use Rattle.dconf_model.specs.Outcomes.{Compiles}
use Rattle.dconf_streams.specs.Answers.{GivesOutcome}
use Rattle.dconf_streams.specs.Readings.{named_sources}
use Rattle.dconf_commands.proofs.CompileLaws.{compiles_all, compiles_no_files, compiles_no_locks}
use Rattle.dconf_commands.proofs.commands.compile.compile.Goals as goal

pub returns-in_err-keyfiles : goal.returns-in_err-keyfiles
returns-in_err-keyfiles g c = λ input.
    let p = err_from_is_err_and c.from_residual.result c.from_residual.ensures.1 in
    rw (p.1, p.2) (compiles_no_files g.F.Folder c.args.out.now (map string_bytes c.args.locks.now) (map string_bytes c.args.keyfiles.now) (Err c.in_err-keyfiles.field-0.0) input
    c.args.folder.now c.files.new.folder (c.in_err-keyfiles.ensures.err 0))

pub returns-in_err-locks : goal.returns-in_err-locks
returns-in_err-locks g c = λ input.
    let p = err_from_is_err_and c.from_residual-in_err-locks.result c.from_residual-in_err-locks.ensures.1 in
    rw (p.1, p.2) (compiles_no_locks g.F.Folder c.args.out.now (map string_bytes c.args.locks.now) (map string_bytes c.args.keyfiles.now) (Err c.in_err-locks.field-0.0)
    input c.args.folder.now c.files.new.folder c.files-2.new.folder (named_sources c.in_ok-keyfiles.keyfiles.items) c.in_ok-keyfiles.ensures.names c.in_ok-keyfiles.ensures.ok c.in_err-locks.ensures.err)

pub returns : goal.returns
returns g c = λ input.
    compiles_all g.F.Folder c.args.out.now (map string_bytes c.args.locks.now) (map string_bytes c.args.keyfiles.now) c.compiled.result input
    c.args.folder.now c.files.new.folder c.files-2.new.folder (named_sources c.in_ok-keyfiles.keyfiles.items) c.in_ok-keyfiles.ensures.names c.in_ok-keyfiles.ensures.ok
    (named_sources c.in_ok-locks.locks.items) c.in_ok-locks.ensures.names c.in_ok-locks.ensures.ok
    (subst (λ files. GivesOutcome c.compiled.result (Compiles c.args.out.now (named_sources files) (named_sources c.in_ok-locks.locks.items))) c.deref.ensures.value
    (subst (λ locks. GivesOutcome c.compiled.result (Compiles c.args.out.now (named_sources c.deref.result.now) (named_sources locks))) c.deref-2.ensures.value
    c.compiled.ensures))
