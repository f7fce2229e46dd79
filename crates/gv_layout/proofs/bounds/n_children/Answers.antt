use Rattle.gv_types.specs.TypeStr.{ty}
use Rattle.gv_layout.proofs.Cuts.{one_of_variant}
use Rattle.gv_layout.proofs.bounds.n_children.Goals as goal

pub returns-in-Variant : goal.returns-in-Variant
returns-in-Variant c = one_of_variant (ty c.args.of) c.args.bytes.now c.class.result c.class.ensures c.in-Variant.is
