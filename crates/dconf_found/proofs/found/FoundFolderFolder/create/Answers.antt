use Rattle.std.proofs.Common.{◌++◌, inl, inr, refl}
use Rattle.dconf_model.specs.Folders.Event.{create, remove}
use Rattle.dconf_found.specs.FoundFolders.{held_by, held_of}
use Rattle.dconf_found.proofs.PastLaws.{did, err_both, kept, made_is_there, none_after, none_is, ok_both, written}
use Rattle.dconf_found.proofs.found.FoundFolderFolder.create.Goals as goal

pub returns-clause-ok : goal.returns-clause-ok
returns-clause-ok g c es past =
    ok_both c.with_count-2.result c.create-made.result _ _ _ c.with_count-2.ensures.same (c.create-made.ensures.ok (held_by past.deeds ++ held_of c.args.self.now) past.inner) c.if_made.ensures.made
    (λ inner own. did g.F.Folder.past c.args.self.now _ es (record { lookup = refl; shown = refl; held = refl }) past (create c.args.name.now) inner refl (made_is_there es c.args.name.now c.in-Ok.own c.if_made.result own c.in-Ok.ensures.ok))

pub returns-clause-err : goal.returns-clause-err
returns-clause-err g c es past =
    err_both c.with_count-2.result c.create-made.result _ _ _ c.with_count-2.ensures.same (c.create-made.ensures.err (held_by past.deeds ++ held_of c.args.self.now) past.inner) c.if_made.ensures.fault
    (λ any none. elim any [
      | inl inner ↦ inl (kept g.F.Folder.past c.args.self.now _ es (record { lookup = refl; shown = refl; held = refl }) past inner (written c.args.self.now.is_written) (none_is c.if_made.result _ none))
      | inr either ↦ inr (elim either [
        | inl inner ↦ inl (did g.F.Folder.past c.args.self.now _ es (record { lookup = refl; shown = refl; held = refl }) past (create c.args.name.now) inner refl (none_is c.if_made.result _ none))
        | inr inner ↦ inr (did g.F.Folder.past c.args.self.now _ es (record { lookup = refl; shown = refl; held = refl }) past (remove c.args.name.now) inner refl (none_is c.if_made.result _ none))
      ])
    ])

pub returns-clause-untouched : goal.returns-clause-untouched
returns-clause-untouched g c turn es past =
    kept g.F.Folder.past c.args.self.now _ es (record { lookup = refl; shown = refl; held = refl }) past (c.create-made.ensures.untouched turn (held_by past.deeds ++ held_of c.args.self.now) past.inner) (written c.args.self.now.is_written) (none_after c.create-made.result _ c.if_made.result _ (c.create-made.ensures.read_only turn) c.if_made.ensures.fault)
