use Rattle.gv_tree.proofs.ShapeLaws.{entry_children}
use Rattle.gv_tree.proofs.shape.container_shape.Goals as goal

pub returns-in-Entry : goal.returns-in-Entry
returns-in-Entry c = entry_children _ _ _ _ c.in-Entry.ensures c.requires c.index-children-0.is c.index-children-1.is
