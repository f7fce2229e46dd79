use Rattle.std.proofs.Common.{sym, subst}
use Rattle.dconf_model.specs.Opening.{root_of}
use Rattle.dconf_model.specs.Salvaging.{IsSalvaged, IsOpenLocks}
use Rattle.dconf_model.specs.Table.{Table}
use Rattle.gvdb_read.specs.Tables.{region}
use Rattle.gvdb_write.specs.Salvaged.{HasLowestValues, IsLowestLocks}
use Rattle.gvdb_write.proofs.SalvagedSteps.{salvaged_with_locks, salvaged_without_locks}
use Rattle.gvdb_write.proofs.salvaged.salvage.Goals as goal
use Rattle.gvdb_write.proofs.salvaged.salvage.Goals.{in-Some+in_ok-salvage_locks, in_default}

pub returns-clause-salvaged : goal.returns-clause-salvaged
returns-clause-salvaged c =
    let file = c.args.file.now in
    let root = c.in-Ok.ensures.root in
    let map = c.in_ok-map.map in
    let values : HasLowestValues (root_of file) map = subst (λ (t : Table). HasLowestValues t map) root c.in_ok-map.ensures.values in
    elim c.match-lowest_locks.branch [
      | in-Some+in_ok-salvage_locks w ↦
          let low = subst (λ (t : Table). IsLowestLocks t (region w.in-Some.locks)) root w.in-Some.ensures.some in
          subst (IsSalvaged file) (sym w.map-is)
          (salvaged_with_locks file map w.salvage_locks.new.map (region w.in-Some.locks) values c.in_ok-map.ensures.no_locks low w.in_ok-salvage_locks.ensures.locks w.in_ok-salvage_locks.ensures.values)
      | in_default w ↦
          subst (IsSalvaged file) (sym w.map-is)
          (salvaged_without_locks file map values c.in_ok-map.ensures.no_locks (λ i h. w.in_default.ensures.none i (subst (λ (t : Table). IsOpenLocks t i) (sym root) h)))
    ]
