use Rattle.std.proofs.Common.{arith}
use Rattle.gv_infer.proofs.TypeShapes.{maybe_of, less_than_maybe}
use Rattle.gv_infer.proofs.bare.+bare.Goals as goal

pub bare-requires : goal.bare-requires
bare-requires t c =
    let less = less_than_maybe _ _ (maybe_of _ _ _ _ c.class.ensures c.in-Maybe.is c.element.ensures c.unwrap.ensures) in
    (omega (arith, less, c.decreases), tt)
