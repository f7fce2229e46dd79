use Rattle.std.proofs.Common.{inl, inr, subst, List}
use Rattle.std.proofs.lemmas.Result.{on_ok_weaker}
use Rattle.std.specs.Prelude.{IsTrue}
use Rattle.dconf_model.specs.Folders.{Event}
use Rattle.dconf_found.specs.Renamed.{held_events, names_in}
use Rattle.dconf_found.proofs.RenamedLaws.{as_free, as_linked, shown_name}
use Rattle.dconf_found.proofs.renamed.RenamedFolderFolder.set_aside.Goals as goal

pub returns-clause-ok : goal.returns-clause-ok
returns-clause-ok g c hides es past =
    let n = names_in c.args.self.now in
    let name = c.args.name.now in
    on_ok_weaker c.set_aside.result
    (λ it. (
      shown_name n it.0,
      (λ honest. subst IsTrue (as_free n es name it.0 c.held.result.now c.held.ensures) (it.1 honest)),
      subst (λ (l : List Event). g.F.Folder.past c.set_aside.new.self l) (as_linked n es name it.0 c.held.result.now c.held.ensures) it.2,
    ))
    (c.set_aside.ensures.ok hides (held_events n es) past)

pub returns-clause-any : goal.returns-clause-any
returns-clause-any g c es past =
    let n = names_in c.args.self.now in
    let name = c.args.name.now in
    elim (c.set_aside.ensures.any (held_events n es) past) [
      | inl same ↦ inl same
      | inr it ↦ inr (
        shown_name n it.0,
        subst (λ (l : List Event). g.F.Folder.past c.set_aside.new.self l) (as_linked n es name it.0 c.held.result.now c.held.ensures) it.1,
      )
    ]
