use Rattle.std.proofs.Common.{◌<◌, ◌≤◌, ◌⊎◌, inl, inr}
use Rattle.gvdb_alike.proofs.patch.Patch.same_record.Goals as goal
use Rattle.gvdb_alike.proofs.patch.Patch.same_record.Goals.{else-i-self-via-then-i-self+else-i-self-2, else-i-self-via-else-i-self}

pub returns : goal.returns
returns c =
    let outside : (c.args.i < c.args.self.first_item) ⊎ (c.args.self.end_item ≤ c.args.i) = elim c.else-i-self.branch [
      | else-i-self-via-then-i-self+else-i-self-2 w ↦ inr w.if-i-self-2.false
      | else-i-self-via-else-i-self w ↦ inl w.if-i-self.false
    ] in
    record { same = c.args.self.records c.args.i c.requires outside; stored = c.stored.ensures }
