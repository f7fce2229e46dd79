use Rattle.std.proofs.Common.{refl}
use Rattle.gv_types.proofs.Letters.{first_class}
use Rattle.gv_types.proofs.Splits.{singles_of_read}
use Rattle.gv_types.proofs.type_str.TypeStr.as_read.Goals as goal

pub bounds-text-0 : goal.bounds-text-0
bounds-text-0 c = rw c.as_bytes-text.ensures.value (first_class c.args.self.text.now c.args.self.spells_type).some

pub invariant_of-result : goal.invariant_of-result
invariant_of-result c =
    let w = c.args.self.text.now in
    let read = rw c.as_bytes-text.ensures.value at c.in-Ok.ensures in
    record { spells_type = c.args.self.spells_type; alone = singles_of_read w c.in-Ok.read.rest.now c.in-Ok.read.singles c.args.self.spells_type read; «open» = c.args.self.«open» }

pub returns-clause-known : goal.returns-clause-known
returns-clause-known c = refl
