use Rattle.std.proofs.Common.{◌++◌, inl, inr, refl}
use Rattle.dconf_model.specs.Folders.Event.{remove}
use Rattle.dconf_found.specs.FoundFolders.{held_by, held_of}
use Rattle.dconf_found.proofs.PastLaws.{did, kept, written}
use Rattle.dconf_found.proofs.found.FoundFolderFolder.remove.Goals as goal

pub returns-clause-done : goal.returns-clause-done
returns-clause-done g c es past was =
    did g.F.Folder.past c.args.self.now _ es (record { lookup = refl; shown = refl; held = refl }) past (remove c.args.name.now) (c.remove.ensures.done (held_by past.deeds ++ held_of c.args.self.now) past.inner was) refl tt

pub returns-clause-any : goal.returns-clause-any
returns-clause-any g c es past =
    elim (c.remove.ensures.any (held_by past.deeds ++ held_of c.args.self.now) past.inner) [
      | inl inner ↦ inl (kept g.F.Folder.past c.args.self.now _ es (record { lookup = refl; shown = refl; held = refl }) past inner (written c.args.self.now.is_written) tt)
      | inr inner ↦ inr (did g.F.Folder.past c.args.self.now _ es (record { lookup = refl; shown = refl; held = refl }) past (remove c.args.name.now) inner refl tt)
    ]
