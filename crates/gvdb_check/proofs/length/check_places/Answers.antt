use Rattle.std.proofs.Common.{refl, arith}
use Rattle.dconf_model.specs.Sound.{HasPlace}
use Rattle.dconf_model.specs.Sound.Rule.{chain, place}
use Rattle.gvdb_check.specs.NotedItems.{IsLong}
use Rattle.gvdb_format.specs.Tables.{region}
use Rattle.gvdb_check.proofs.Below.{below_next}
use Rattle.gvdb_check.proofs.NotedWalks.{none_are}
use Rattle.gvdb_check.proofs.RuleOrder.{one_more}
use Rattle.gvdb_check.proofs.length.check_places.Goals as goal

pub loop-i-init : goal.loop-i-init
loop-i-init c = record { kept = λ j lt. absurd (omega (arith, lt)); noted = none_are (IsLong (region c.args.table)) _ c.none-noted.ensures }

pub loop-i-preserved : goal.loop-i-preserved
loop-i-preserved c = record {
  kept = below_next (HasPlace (region c.args.table)) c.loop-i.i c.loop-i.invariant.kept (c.in-Some.ensures.some.0 refl);
  noted = c.note_up.ensures.lens (c.requires.earlier chain (omega arith)) c.in-Some.ensures.len c.loop-i.invariant.noted;
}

pub returns-clause-kept : goal.returns-clause-kept
returns-clause-kept c = one_more (region c.args.table) place c.requires.earlier (λ i counted. c.loop-i.invariant.kept i (omega (arith, counted, c.loop-i-test.false, c.n_items-i-end.ensures)))

pub note_up-requires-clause-ends : goal.note_up-requires-clause-ends
note_up-requires-clause-ends c = let end = c.requires.earlier chain (omega arith) c.loop-i.i (omega (arith, c.loop-i-test.true, c.n_items-i-end.ensures)) in (end.parents, end.ends)
