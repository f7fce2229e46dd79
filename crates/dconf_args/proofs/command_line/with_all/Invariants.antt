use Rattle.std.proofs.Common.{◌≡◌, drop, map, string_bytes}
use Rattle.clap.specs.Words.{app_of}
use Rattle.dconf_args.specs.Taken.{with_lines}
use Rattle.dconf_args.proofs.command_line.with_all.Given as goal

abbrev pub invariant-loop-command : goal.invariant-loop-command
invariant-loop-command l =
    let words = map string_bytes l.given in
    with_lines words (app_of l.line) (drop l.command-index l.commands) ≡ with_lines words (app_of l.fn.line) l.commands
