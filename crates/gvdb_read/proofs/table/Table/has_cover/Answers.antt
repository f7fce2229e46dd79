use Rattle.std.proofs.Common.{◌≡◌, ◌+◌, ◌∙◌, arith, eqb-true, sym, take, true}
use Rattle.std.specs.Prelude.{slice_index}
use Rattle.dconf_model.specs.Locks.{covers}
use Rattle.gvdb_read.proofs.CoveredPaths.{all_covers, prefix_covers}
use Rattle.gvdb_read.proofs.table.Table.has_cover.Goals as goal
use Rattle.gvdb_read.proofs.table.Table.has_cover.Goals.{then-i-path, else-i-path}

pub returns-then-path-i-eq47 : goal.returns-then-path-i-eq47
returns-then-path-i-eq47 c =
    let path = c.args.path.now in
    let i = c.args.i in
    let covering : covers (take (i + 1) path) path ≡ true =
    elim c.if-i-path.branch [
      | then-i-path w ↦ all_covers path (i + 1) w.if-i-path.true
      | else-i-path w ↦ prefix_covers path i c.requires.within (eqb-true (slice_index path i) 47 (sym w.value-is ∙ c.if-path-i-eq47.true))
    ] in
    let within = c.requires.within in (
      λ t. record { some = omega arith; within = omega (arith, within); covering = covering; found = c.has_prefix.ensures.0 t },
      λ k. c.has_prefix.ensures.1 k.found,
    )
