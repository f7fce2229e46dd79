use Rattle.std.proofs.Common.{arith, subst}
use Rattle.std.proofs.lemmas.Result.{err_from_is_err_and}
use Rattle.gv_types.specs.TypeStr.{ty}
use Rattle.gv_infer.specs.BareTypes.{bare_type}
use Rattle.gv_infer.specs.Building.{IsWithinLimits, IsOfType, IsBuilt}
use Rattle.gv_infer.proofs.TypeShapes.{maybe_of, less_than_maybe}
use Rattle.gv_infer.proofs.MadeTrees.{within_type, maybe_built, maybe_fault}
use Rattle.gv_infer.proofs.containers.+in_maybes.Goals as goal

pub in_maybes-requires : goal.in_maybes-requires
in_maybes-requires t c =
    let is = maybe_of _ _ _ _ c.class.ensures c.in-Maybe.is c.element.ensures c.unwrap-inner.ensures in
    let less = less_than_maybe _ _ is in
    (omega (arith, less, c.decreases), subst (λ u. IsOfType (bare_type u) c.args.built) is c.requires)

pub returns-in_err-child-in-Maybe-clause-built : goal.returns-in_err-child-in-Maybe-clause-built
returns-in_err-child-in-Maybe-clause-built t c =
    let is = maybe_of _ _ _ _ c.class.ensures c.in-Maybe.is c.element.ensures c.unwrap-inner.ensures in
    let p = err_from_is_err_and c.from_residual.result c.from_residual.ensures.1 in
    λ f b. rw (p.1, p.2) (maybe_fault f (ty c.args.of) (ty c.unwrap-inner.result) _ is (c.in_err-child-in-Maybe.ensures.built f (subst (λ u. IsBuilt (f (bare_type u)) c.args.built) is b)))

pub just-requires-clause-within : goal.just-requires-clause-within
just-requires-clause-within t c =
    let is = maybe_of _ _ _ _ c.class.ensures c.in-Maybe.is c.element.ensures c.unwrap-inner.ensures in
    subst IsWithinLimits is (within_type _ c.args.of.spells_type)

pub returns-in_ok-child-in-Maybe-clause-built : goal.returns-in_ok-child-in-Maybe-clause-built
returns-in_ok-child-in-Maybe-clause-built t c =
    let is = maybe_of _ _ _ _ c.class.ensures c.in-Maybe.is c.element.ensures c.unwrap-inner.ensures in
    λ f b. maybe_built f (ty c.args.of) (ty c.unwrap-inner.result) c.in_ok-child-in-Maybe.child c.just.result is (c.in_ok-child-in-Maybe.ensures.built f (subst (λ u. IsBuilt (f (bare_type u)) c.args.built) is b)) c.just.ensures.built
