use Rattle.std.proofs.Common.{◌≡◌, ◌∙◌, ap, subst, sym, List, Vec, ℕ}
use Rattle.std.specs.FinMap.{empty, from_entries}
use Rattle.std.specs.declared.alloc.Global.{Global}
use Rattle.std.specs.declared.string.String.{String}
use Rattle.dconf_model.specs.Settings.{IsSettings, no_settings}
use Rattle.gvdb_maps.specs.Maps.{lock_entries, settings_of_rows}
use Rattle.gvdb_maps.proofs.KeyPaths.{no_paths}
use Rattle.gvdb_maps.proofs.map_builder.MapBuilder.new.Goals as goal

none : (c : goal.After-new-locks) → settings_of_rows c.new-rows.result.items c.new-locks.result ≡ no_settings
none c =
    ap (λ (rows : List (String Global × Vec ℕ Global)). settings_of_rows rows c.new-locks.result) c.new-rows.ensures.items
    ∙ ap (λ (ks : List (String Global)). record { values = empty; locks = from_entries (lock_entries ks) }) c.new-locks.ensures.empty

pub invariant_of-result : goal.invariant_of-result
invariant_of-result c = subst IsSettings (sym (none c)) no_paths

pub returns : goal.returns
returns c = none c
