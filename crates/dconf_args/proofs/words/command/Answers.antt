use Rattle.std.proofs.Common.{map, string_bytes, subst, sym}
use Rattle.std.proofs.lemmas.Result.{err_from_is_err_and}
use Rattle.clap.specs.Words.{FailsBy, HasKind, fault_of}
use Rattle.dconf_args.specs.CommandLine.{command_line}
use Rattle.dconf_args.proofs.words.command.Goals as goal

pub all_asked-requires : goal.all_asked-requires
all_asked-requires c = (map string_bytes c.args.words.now, c.in_ok-matches.ensures.ok)

pub returns-clause-asked : goal.returns-clause-asked
returns-clause-asked c = c.in_ok-all_asked.ensures (map string_bytes c.args.words.now) c.in_ok-matches.ensures.ok

pub returns-clause-faults : goal.returns-clause-faults
returns-clause-faults c = c.in_ok-matches.ensures.ok.sound

pub returns-in_err-matches-clause-faults : goal.returns-in_err-matches-clause-faults
returns-in_err-matches-clause-faults c =
    let words = map string_bytes c.args.words.now in
    let p = err_from_is_err_and c.from_residual.result c.from_residual.ensures.1 in
    let kind : HasKind (fault_of command_line words) p.0 = subst (HasKind (fault_of command_line words)) (sym p.2) c.in_err-matches.ensures.err in
    subst (FailsBy (fault_of command_line words)) (sym p.1) kind
