use Rattle.std.proofs.Common.{◌∙◌, ap, refl}
use Rattle.dconf_model.specs.Names.{full_name}
use Rattle.gvdb_check.specs.Backwards.{backwards_left}
use Rattle.gvdb_format.specs.Tables.{region}
use Rattle.gvdb_check.proofs.BackwardSteps.{hash_begins, hash_goes_on, hash_ends}
use Rattle.gvdb_check.proofs.hash.hash_of_name.Goals as goal

pub loop-byte-init : goal.loop-byte-init
loop-byte-init c =
    (tt, tt, hash_begins (full_name (region c.args.table) c.args.i) (backwards_left c.into_iter-byte-iterator.result) (ap backwards_left c.into_iter-byte-iterator.ensures.into_iter_gives ∙ c.name_of-byte-items.ensures))

pub loop-byte-preserved : goal.loop-byte-preserved
loop-byte-preserved c =
    (tt, tt, hash_goes_on (backwards_left c.loop-byte.byte-iterator) (backwards_left c.next.new.self) c.in-Some.byte _ _ _ _ _ _ _ c.in-Some.ensures.steps c.signed.ensures refl refl refl c.loop-byte.invariant.2)

pub returns : goal.returns
returns c = hash_ends (backwards_left c.loop-byte.byte-iterator) _ _ _ _ _ c.in-None.ensures.steps.0 refl refl c.loop-byte.invariant.2
