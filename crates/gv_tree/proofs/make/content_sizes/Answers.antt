use Rattle.std.proofs.Common.{arith, length, ap, rules}
use Rattle.gv_model.specs.Ty.{nesting, spelling}
use Rattle.gv_model.specs.Ty.Ty.{array, maybe}
use Rattle.gv_types.specs.TypeStr.{ty}
use Rattle.gv_tree.specs.Nodes.{trees_of}
use Rattle.gv_types.proofs.NestingLaws.{low_type, short_type}
use Rattle.gv_tree.proofs.SumLaws.{low_levels}
use Rattle.gv_tree.proofs.MadeLaws.{content_sizes}
use Rattle.gv_tree.proofs.make.content_sizes.Goals as goal

pub overflow_add-nesting_of : goal.overflow_add-nesting_of
overflow_add-nesting_of c = omega (arith, c.nesting_of.ensures, low_type _ c.args.of.spells_type)

pub container-requires : goal.container-requires
container-requires c = low_levels _ _ c.of-sums.ensures

pub returns-clause-array : goal.returns-clause-array
unfolding nesting spelling
returns-clause-array c =
    let short = short_type _ c.args.of.spells_type in
    let length_of = ap length c.as_str.ensures.text in
    let said = ap length c.as_str.ensures.spelled in
    content_sizes _ _ _ c.container.result c.in_default.ensures c.of-sums.ensures.whole (c.container.ensures (array (ty c.args.of)) (trees_of c.args.trees.now) c.of-sums.ensures (omega (arith, c.nesting_of.ensures)) (omega (arith, short, length_of, said)))

pub returns-clause-maybe : goal.returns-clause-maybe
unfolding nesting spelling
returns-clause-maybe c =
    let short = short_type _ c.args.of.spells_type in
    let length_of = ap length c.as_str.ensures.text in
    let said = ap length c.as_str.ensures.spelled in
    content_sizes _ _ _ c.container.result c.in_default.ensures c.of-sums.ensures.whole (c.container.ensures (maybe (ty c.args.of)) (trees_of c.args.trees.now) c.of-sums.ensures (omega (arith, c.nesting_of.ensures)) (omega (arith, short, length_of, said)))

pub returns-in-Some-clause-array : goal.returns-in-Some-clause-array
returns-in-Some-clause-array c = search rules

pub returns-in-Some-clause-maybe : goal.returns-in-Some-clause-maybe
returns-in-Some-clause-maybe c = search rules
