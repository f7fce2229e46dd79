-- Entries in order have the paths of the settings that they stand for, and the bytes of their values.
use Rattle.std.proofs.Common.{◌≡◌, ap, sym, subst, List, ℕ}
use Rattle.std.specs.FinMap.{keys}
use Rattle.dconf_model.specs.Paths.{is_key_path}
use Rattle.dconf_model.specs.Settings.{Settings}
use Rattle.gvdb_maps.specs.declared.entries.Sorted.{Sorted}
use Rattle.gvdb_maps.specs.Maps.{AreKeyPaths, lent_entries, sorted_settings}
use Rattle.gvdb_maps.proofs.HeldEntries.{sorted_held, AreHeld, paths_of}
use Rattle.gvdb_maps.proofs.KeyPaths.{listed_pass}
use Rattle.gvdb_maps.proofs.Order.{entries_of_sorted}

abbrev pub settings_in : Sorted → Settings
settings_in sorted = sorted_settings (lent_entries sorted.entries.items) sorted.locks.now

module _ (sorted : Sorted) where
  pub listed : paths_of (lent_entries sorted.entries.items) ≡ keys (settings_in sorted).values
  listed = ap paths_of (sym (entries_of_sorted (lent_entries sorted.entries.items) sorted.rising))

  pub are_paths : AreKeyPaths (paths_of (lent_entries sorted.entries.items))
  are_paths = subst (λ (ps : List (List ℕ)). AreKeyPaths ps) (sym listed) (listed_pass is_key_path (settings_in sorted).values sorted.settings.valued)

  pub held : AreHeld (settings_in sorted).values (lent_entries sorted.entries.items)
  held = sorted_held (lent_entries sorted.entries.items) sorted.rising
