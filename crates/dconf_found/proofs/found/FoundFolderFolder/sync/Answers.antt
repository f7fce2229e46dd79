use Rattle.std.proofs.Common.{◌++◌, refl}
use Rattle.dconf_folders.proofs.Results.{always_err}
use Rattle.dconf_model.specs.Folders.Event.{sync, touch}
use Rattle.dconf_found.specs.FoundFolders.{held_by, held_of}
use Rattle.dconf_found.proofs.PastLaws.{did, err_from, ok_from, refused}
use Rattle.dconf_found.proofs.found.FoundFolderFolder.sync.Goals as goal

pub returns-then-not-is_name-clause-err : goal.returns-then-not-is_name-clause-err
returns-then-not-is_name-clause-err g c turn es past = always_err c.with_count.result _ (refused g.F.Folder.past c.args.self.now _ es (record { lookup = refl; shown = refl; held = refl }) past c.args.name.now past.inner refl past.own)

pub returns-clause-ok : goal.returns-clause-ok
returns-clause-ok g c es past =
    ok_from c.with_count-2.result c.sync-synced.result _ _ c.with_count-2.ensures.same (c.sync-synced.ensures.ok (held_by past.deeds ++ held_of c.args.self.now) past.inner)
    (λ inner. did g.F.Folder.past c.args.self.now _ es (record { lookup = refl; shown = refl; held = refl }) past (sync c.args.name.now) inner refl past.own)

pub returns-clause-err : goal.returns-clause-err
returns-clause-err g c turn es past =
    err_from c.with_count-2.result c.sync-synced.result _ _ c.with_count-2.ensures.same (c.sync-synced.ensures.err turn (held_by past.deeds ++ held_of c.args.self.now) past.inner)
    (λ inner. did g.F.Folder.past c.args.self.now _ es (record { lookup = refl; shown = refl; held = refl }) past (touch c.args.name.now) inner refl past.own)
