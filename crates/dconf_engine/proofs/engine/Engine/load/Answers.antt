use Rattle.std.proofs.Common.{◌∙◌, ap, Ok}
use Rattle.std.proofs.lemmas.Result.{err_from_is_err_and}
use Rattle.dconf_model.specs.Changes.{with_all}
use Rattle.dconf_model.specs.Layers.{Layers}
use Rattle.dconf_engine.specs.Loads.{rows_of, not_locked}
use Rattle.dconf_engine.specs.Unsaved.{Unsaved, and_rows, with_changes}
use Rattle.dconf_engine.proofs.UnsavedLaws.{rows_more}
use Rattle.dconf_engine.proofs.WritingLaws.{load_accepted, load_too_large_as, changed_beside}
use Rattle.dconf_engine.proofs.engine.Engine.load.Goals as goal

pub returns-in_err-set_rows-clause-fault : goal.returns-in_err-set_rows-clause-fault
returns-in_err-set_rows-clause-fault c =
    let p = err_from_is_err_and c.from_residual-in_err-set_rows.result c.from_residual-in_err-set_rows.ensures.1 in
    rw (p.1, p.2) (load_too_large_as c.args.self.now (rows_of c.args.rows.now) c.args.force _ c.in_ok-check_rows.ensures.ok c.in_err-set_rows.ensures.fault)

pub returns-clause-ok : goal.returns-clause-ok
returns-clause-ok c =
    let i = c.self.inside in
    let l = c.args.self.now in
    let rows = not_locked l (rows_of c.args.rows.now) in
    load_accepted l (rows_of c.args.rows.now) c.args.force c.in_ok-check_rows.ensures.ok c.in_ok-set_rows.ensures.storable
    ∙ ap (λ (l : Layers). Ok l) (changed_beside (with_all rows) i.changes c.set_rows.new.changes i.layers.items i.writable l c.self.view_is (λ v.
    ap (λ (u : Unsaved). with_changes u v) (c.in_ok-set_rows.ensures.ok ∙ ap (and_rows rows) c.in_ok-changes.ensures) ∙ rows_more rows i.changes v))
