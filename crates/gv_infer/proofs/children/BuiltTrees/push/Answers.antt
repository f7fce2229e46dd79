use Rattle.gv_infer.proofs.MadeTrees.{held_more, deep_more, shown_some, shown_none}
use Rattle.gv_infer.proofs.children.BuiltTrees.push.Goals as goal

pub returns-in_ok-push-in-Some : goal.returns-in_ok-push-in-Some
returns-in_ok-push-in-Some c = λ vs v h g. held_more _ _ _ _ _ _ c.in_ok-push-in-Some.ensures.items h (shown_some _ _ v c.in-Some.is g)

pub returns-in-None : goal.returns-in-None
returns-in-None c = λ vs v h g. deep_more c.args.self.now.shallow c.args.self.now.trees.items v vs (shown_none _ v c.in-None.is g)
