use Rattle.std.proofs.Common.{length, rules, vec_items}
use Rattle.dconf_streams.proofs.InputLaws.{took_all}
use Rattle.dconf_streams.proofs.input.append_piece.Goals as goal

pub returns-clause-took : goal.returns-clause-took
returns-clause-took g c =
    took_all g.I.Read.remaining c.args.input.now c.read_once.new.self (length c.args.piece.now) c.read_once.new.buf (vec_items c.args.bytes.now)
    (vec_items c.extend_from_slice.new.self) c.in-Ok.n c.in-Ok.ensures.transfer c.in-Ok.ensures.bytes.0 c.in-Ok.ensures.bound.0 (search rules) (search rules)
    c.in-Ok.ensures.bytes.1
