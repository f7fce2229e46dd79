use Rattle.std.proofs.Common.{rules}
use Rattle.dconf_streams.specs.Answers.{line_of}
use Rattle.dconf_cli.proofs.StreamsLeft.{prints_line}
use Rattle.dconf_cli.proofs.outcome.refuse.Goals as goal

pub returns-clause-refused : goal.returns-clause-refused
returns-clause-refused g c = search rules

pub returns-clause-line : goal.returns-clause-line
returns-clause-line g c =
    prints_line g.E.Write.contents c.args.err.now c.put.new.self c.as_bytes.result.now (line_of c.args.refusal) c.put.result (search rules)
    c.put.ensures.written c.put.ensures.err c.put.ensures.part
