use Rattle.std.proofs.Common.{arith}
use Rattle.gv_view.specs.Views.{value}
use Rattle.gv_view.proofs.Copies.{always_ok}
use Rattle.dconf_differences.proofs.SameValueLaws.{some_nodes}
use Rattle.dconf_differences.proofs.same_values.Compared.compare.Goals as goal

pub returns-in-false-false-clause-less : goal.returns-in-false-false-clause-less
returns-in-false-false-clause-less c = let some = some_nodes (value c.args.self.first) in always_ok c.are_one_tree.result (omega (arith, some))

pub returns-in_default-clause-less : goal.returns-in_default-clause-less
returns-in_default-clause-less c = let some = some_nodes (value c.args.self.first) in omega (arith, some)

pub returns-in_default-2-clause-less : goal.returns-in_default-2-clause-less
returns-in_default-2-clause-less c = let some = some_nodes (value c.args.self.first) in omega (arith, some)
