use Rattle.std.proofs.Common.{◌≡◌, subst}
use Rattle.std.specs.Prelude.{IfOk}
use Rattle.std.proofs.lemmas.Result.{MatchResult-weaker}
use Rattle.gv_view.proofs.Copies.{tuple_made}
use Rattle.gv_view.proofs.copy.tuple.Goals as goal

pub returns-clause-tree : goal.returns-clause-tree
returns-clause-tree c = subst (λ v. IfOk c.tuple.result (λ t. t ≡ v)) (tuple_made c.args.view c.args.members.items c.requires).is c.tuple.ensures.made

pub returns-clause-fault : goal.returns-clause-fault
returns-clause-fault c = MatchResult-weaker c.tuple.result c.tuple.ensures.fault (λ t h. tt) (tuple_made c.args.view c.args.members.items c.requires).memory
