-- The changes that an iterator has left.
use Rattle.std.specs.Prelude.{ℕ, List, Option, option_map}
use Rattle.dconf_path.specs.Paths.{key_text}
use Rattle.dconf_engine.specs.declared.changes.Changed.{Changed}
use Rattle.dconf_engine.specs.declared.changes.ChangesLeft.{ChangesLeft}
use Rattle.dconf_engine.specs.TextMaps.{entries_by}
use Rattle.dconf_engine.specs.Unsaved.{edit_bytes}

-- a path, and the bytes that it was set to, or none
abbrev pub entry_changed : Changed → List ℕ × Option (List ℕ)
entry_changed c = (key_text c.path, option_map (λ b. b.now) c.bytes)

abbrev pub changes_left : ChangesLeft → List (List ℕ × Option (List ℕ))
changes_left c = entries_by edit_bytes c.rest
