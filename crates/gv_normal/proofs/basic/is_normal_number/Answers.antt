use Rattle.std.proofs.Common.{refl}
use Rattle.gv_normal.proofs.BasicBytes.{byte_normal, other_normal}
use Rattle.gv_normal.proofs.Pieces.{are_bytes}
use Rattle.gv_normal.proofs.basic.is_normal_number.Goals as goal

pub returns-in-Boolean : goal.returns-in-Boolean
returns-in-Boolean c = byte_normal c.args.of c.args.bytes.now c.in-Boolean.is c.requires

pub returns-in_default : goal.returns-in_default
returns-in_default c = let h = other_normal c.args.of c.args.bytes.now (are_bytes c.args.bytes.now c.type_inv.bytes) c.in_default.not-Boolean c.requires in (λ g. h, λ g. refl)
