use Rattle.std.proofs.Common.{◌++◌, inl, inr, refl}
use Rattle.dconf_found.specs.FoundFolders.{held_by, held_of}
use Rattle.dconf_found.proofs.PastLaws.{kept, was_set_aside, written}
use Rattle.dconf_found.proofs.found.FoundFolderFolder.set_aside.Goals as goal

pub returns-clause-hidden : goal.returns-clause-hidden
returns-clause-hidden g c hides es past =
    elim (c.set_aside-done.ensures.any (held_by past.deeds ++ held_of c.args.self.now) past.inner) [
      | inl inner ↦ kept g.F.Folder.past c.args.self.now _ es (record { lookup = refl; shown = refl; held = refl }) past inner (written c.args.self.now.is_written) past.own
      | inr is ↦ was_set_aside g.F.Folder.past c.args.self.now _ es (record { lookup = refl; shown = refl; held = refl }) past c.args.name.now is.0 is.1 refl past.own
    ]

pub returns-clause-any : goal.returns-clause-any
returns-clause-any g c es past =
    elim (c.set_aside-done.ensures.any (held_by past.deeds ++ held_of c.args.self.now) past.inner) [
      | inl inner ↦ inl (kept g.F.Folder.past c.args.self.now _ es (record { lookup = refl; shown = refl; held = refl }) past inner (written c.args.self.now.is_written) past.own)
      | inr is ↦ inl (was_set_aside g.F.Folder.past c.args.self.now _ es (record { lookup = refl; shown = refl; held = refl }) past c.args.name.now is.0 is.1 refl past.own)
    ]
