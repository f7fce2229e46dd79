use Rattle.std.proofs.Common.{arith, inl, inr}
use Rattle.gv_model.specs.Tree.{depth, nodes}
use Rattle.gv_tree.proofs.sums.Sums.container.Goals as goal
use Rattle.gv_tree.proofs.sums.Sums.container.Goals.{then-levels-gt-MAX_LEVELS-via-then-levels-gt-MAX_LEVELS, then-levels-gt-MAX_LEVELS-via-else-levels-gt-MAX_LEVELS+then-type_levels-gt-MAX_LEVELS}

pub returns-then-levels-gt-MAX_LEVELS : goal.returns-then-levels-gt-MAX_LEVELS
unfolding depth
returns-then-levels-gt-MAX_LEVELS c t vs h e f = elim c.then-levels-gt-MAX_LEVELS.branch [ then-levels-gt-MAX_LEVELS-via-then-levels-gt-MAX_LEVELS w ↦ inl (omega (arith, h.levels)) | then-levels-gt-MAX_LEVELS-via-else-levels-gt-MAX_LEVELS+then-type_levels-gt-MAX_LEVELS w ↦ inr (omega arith) ]

pub returns-then-type_bytes-gt-MAX_LEN : goal.returns-then-type_bytes-gt-MAX_LEN
unfolding depth
returns-then-type_bytes-gt-MAX_LEN c t vs h e f = record {
  levels = omega (arith, h.levels);
  type_levels = omega arith;
  long = omega arith;
}

pub returns : goal.returns
unfolding depth nodes
returns c t vs h e f = record {
  levels = omega (arith, h.levels);
  type_levels = e;
  values = omega (arith, h.values, c.saturating_add.ensures);
  low = omega (arith, h.levels);
  type_low = omega arith;
  short = omega arith;
}
