use Rattle.std.proofs.Common.{sym}
use Rattle.gv_types.specs.TypeStr.{ty}
use Rattle.gv_layout.proofs.Cuts.{body_of_none}
use Rattle.gv_layout.proofs.tuple.body_of.Goals as goal

pub returns-in-None : goal.returns-in-None
returns-in-None c = body_of_none (ty c.args.of) c.args.bytes.now c.fixed_size.result c.fixed_size.ensures (sym c.in-None.is) c.if-len-eq0.true
