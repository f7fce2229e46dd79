use Rattle.std.proofs.Common.{◌≡◌, ◌∙◌, List, ap, length, map, nat_eq, sym}
use Rattle.std.proofs.lemmas.Result.{err_from_is_err_and}
use Rattle.dconf_model.specs.Changes.{changed, saved, with_all, with_first_layer}
use Rattle.dconf_layers.specs.LayerSettings.{settings_of}
use Rattle.dconf_layers.specs.declared.layer.Layer.{Layer}
use Rattle.dconf_engine.specs.Loads.{rows_of, not_locked}
use Rattle.dconf_engine.specs.Unsaved.{Unsaved, with_changes}
use Rattle.dconf_engine.proofs.SavedLaws.{none_loaded, saved_loaded}
use Rattle.dconf_engine.proofs.WritingLaws.{load_accepted, load_too_large_as}
use Rattle.dconf_engine.proofs.engine.Engine.loaded_values.Goals as goal

pub returns-in_err-add_rows-clause-fault : goal.returns-in_err-add_rows-clause-fault
returns-in_err-add_rows-clause-fault c =
    let p = err_from_is_err_and c.from_residual-in_err-add_rows.result c.from_residual-in_err-add_rows.ensures.1 in
    rw (p.1, p.2) (load_too_large_as c.args.self.now (rows_of c.args.rows.now) c.args.force _ c.in_ok-check_rows.ensures.ok c.in_err-add_rows.ensures.fault)

pub returns-then-is_empty-clause-ok : goal.returns-then-is_empty-clause-ok
returns-then-is_empty-clause-ok c =
    let i = c.self.inside in
    let l = c.args.self.now in
    let rows = not_locked l (rows_of c.args.rows.now) in
    let len : i.layers.len ≡ length i.layers.items = sym c.deref.ensures.len ∙ ap (λ (ls : List Layer). length ls) c.deref.ensures.value in (
      changed (with_all rows) l,
      load_accepted l (rows_of c.args.rows.now) c.args.force c.in_ok-check_rows.ensures.ok c.in_ok-add_rows.ensures.storable,
      c.new.ensures ∙ none_loaded i.changes i.layers.items i.writable l rows c.self.view_is (sym (ap (λ n. nat_eq n 0) len) ∙ sym c.is_empty.ensures ∙ c.if-is_empty.true),
    )

pub returns-clause-ok : goal.returns-clause-ok
returns-clause-ok c =
    let i = c.self.inside in
    let l = c.args.self.now in
    let rows = not_locked l (rows_of c.args.rows.now) in
    let len : i.layers.len ≡ length i.layers.items = sym c.deref.ensures.len ∙ ap (λ (ls : List Layer). length ls) c.deref.ensures.value in
    let values = c.in_ok-values.ensures
    ∙ ap (λ (ls : List Layer). saved (with_first_layer (with_changes c.in_ok-try_copy.field-0) (map settings_of ls))) c.deref.ensures.value
    ∙ ap (λ (changes : Unsaved). saved (with_first_layer (with_changes changes) (map settings_of i.layers.items))) c.in_ok-try_copy.ensures in (
      changed (with_all rows) l,
      load_accepted l (rows_of c.args.rows.now) c.args.force c.in_ok-check_rows.ensures.ok c.in_ok-add_rows.ensures.storable,
      c.in_ok-add_rows.ensures.ok
          ∙ saved_loaded i.changes i.layers.items i.writable l rows _ c.self.view_is (sym (ap (λ n. nat_eq n 0) len) ∙ sym c.is_empty.ensures ∙ c.if-is_empty.false) values,
    )
