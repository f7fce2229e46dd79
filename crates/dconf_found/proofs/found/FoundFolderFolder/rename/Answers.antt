use Rattle.std.proofs.Common.{◌++◌, inl, inr, refl}
use Rattle.dconf_model.specs.Folders.Event.{rename}
use Rattle.dconf_found.specs.FoundFolders.{held_by, held_of}
use Rattle.dconf_found.proofs.PastLaws.{did, err_from, kept, ok_from, written}
use Rattle.dconf_found.proofs.found.FoundFolderFolder.rename.Goals as goal

pub returns-clause-ok : goal.returns-clause-ok
returns-clause-ok g c es past =
    ok_from c.with_count-2.result c.rename-renamed.result _ _ c.with_count-2.ensures.same (c.rename-renamed.ensures.ok (held_by past.deeds ++ held_of c.args.self.now) past.inner)
    (λ inner. did g.F.Folder.past c.args.self.now _ es (record { lookup = refl; shown = refl; held = refl }) past (rename c.args.from.now c.args.to.now) inner refl tt)

pub returns-clause-err : goal.returns-clause-err
returns-clause-err g c es past =
    err_from c.with_count-2.result c.rename-renamed.result _ _ c.with_count-2.ensures.same (c.rename-renamed.ensures.err (held_by past.deeds ++ held_of c.args.self.now) past.inner)
    (λ either. elim either [
      | inl inner ↦ inl (kept g.F.Folder.past c.args.self.now _ es (record { lookup = refl; shown = refl; held = refl }) past inner (written c.args.self.now.is_written) tt)
      | inr inner ↦ inr (did g.F.Folder.past c.args.self.now _ es (record { lookup = refl; shown = refl; held = refl }) past (rename c.args.from.now c.args.to.now) inner refl tt)
    ])
