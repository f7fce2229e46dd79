use Rattle.gv_layout.proofs.bounds.places.Goals as goal

pub returns : goal.returns
returns c = c.new.ensures
