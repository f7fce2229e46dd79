use Rattle.std.proofs.Common.{sym, ap}
use Rattle.gv_model.specs.Tree.{children, trees_len}
use Rattle.dconfdb_values.proofs.parts.n_children.Goals as goal

pub returns-in-None : goal.returns-in-None
unfolding trees_len
returns-in-None c = sym (ap (λ v. trees_len (children v)) c.in-None.ensures.nothing)
