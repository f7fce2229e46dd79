use Rattle.std.proofs.Common.{◌++◌, refl}
use Rattle.dconf_model.specs.Folders.Event.{sync_folder}
use Rattle.dconf_found.specs.FoundFolders.{held_by, held_of}
use Rattle.dconf_found.proofs.PastLaws.{did, ok_from}
use Rattle.dconf_found.proofs.found.FoundFolderFolder.sync_folder.Goals as goal

pub returns-clause-ok : goal.returns-clause-ok
returns-clause-ok g c es past =
    ok_from c.with_count.result c.sync_folder-synced.result _ _ c.with_count.ensures.same (c.sync_folder-synced.ensures.ok (held_by past.deeds ++ held_of c.args.self.now) past.inner)
    (λ inner. did g.F.Folder.past c.args.self.now _ es (record { lookup = refl; shown = refl; held = refl }) past sync_folder inner refl past.own)
