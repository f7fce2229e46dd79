use Rattle.std.proofs.Common.{IfErr, IfOk, ◌∙◌, ap, subst, sym}
use Rattle.dconf_model.specs.Databases.{IsDatabaseOf}
use Rattle.dconf_model.specs.Settings.{IsSettings, Settings}
use Rattle.gvdb_maps.specs.Limits.{IsRefusal}
use Rattle.gvdb_maps.specs.Maps.{AreSorted, lent_entries, value_entries, values_after}
use Rattle.gvdb_maps.proofs.OrderedRows.{kept_rise, kept_settings}
use Rattle.gvdb_maps.proofs.LentRows.{last_are}
use Rattle.gvdb_maps.proofs.map_builder.MapBuilder.write.Goals as goal

pub invariant_of-sorted : goal.invariant_of-sorted
invariant_of-sorted c =
    let rows = c.in_ok-rows.ensures ∙ ap (λ l. values_after (value_entries l)) c.deref.ensures.value in
    let last = last_are c.in_ok-rows.rows.items _ _ c.in_ok-entries.entries.items c.deref-2.ensures.value c.in_ok-sort_by_path.ensures c.in_ok-entries.ensures in
    record {
      settings = subst IsSettings (sym (kept_settings (lent_entries c.in_ok-rows.rows.items) (lent_entries c.in_ok-entries.entries.items) (value_entries c.self.inside.rows.items) c.self.inside.locks last rows)) c.self.invariant;
      rising = subst AreSorted (sym last) (kept_rise (lent_entries c.in_ok-rows.rows.items));
    }

pub returns-clause-database : goal.returns-clause-database
returns-clause-database c =
    let rows = c.in_ok-rows.ensures ∙ ap (λ l. values_after (value_entries l)) c.deref.ensures.value in
    let last = last_are c.in_ok-rows.rows.items _ _ c.in_ok-entries.entries.items c.deref-2.ensures.value c.in_ok-sort_by_path.ensures c.in_ok-entries.ensures in
    let same = kept_settings (lent_entries c.in_ok-rows.rows.items) (lent_entries c.in_ok-entries.entries.items) (value_entries c.self.inside.rows.items) c.self.inside.locks last rows in
    subst (λ (s : Settings). IfOk c.write_sorted.result (λ file. IsDatabaseOf s file.items)) (same ∙ c.self.view_is) c.write_sorted.ensures.database

pub returns-clause-fault : goal.returns-clause-fault
returns-clause-fault c =
    let rows = c.in_ok-rows.ensures ∙ ap (λ l. values_after (value_entries l)) c.deref.ensures.value in
    let last = last_are c.in_ok-rows.rows.items _ _ c.in_ok-entries.entries.items c.deref-2.ensures.value c.in_ok-sort_by_path.ensures c.in_ok-entries.ensures in
    let same = kept_settings (lent_entries c.in_ok-rows.rows.items) (lent_entries c.in_ok-entries.entries.items) (value_entries c.self.inside.rows.items) c.self.inside.locks last rows in
    subst (λ (s : Settings). IfErr c.write_sorted.result (IsRefusal s)) (same ∙ c.self.view_is) c.write_sorted.ensures.fault
