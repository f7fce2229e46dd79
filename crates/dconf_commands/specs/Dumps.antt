-- A dump as it is put together, from what is seen at each key.
use Rattle.std.specs.Prelude.{◌≡◌, ℕ, List, ◌++◌, Bool, Result, Ok, Err, drop, filter, is_some, map, option_map, string_bytes, take}
use Rattle.dconf_model.specs.Doubles.{comment_lines, left_out, not_left_out}
use Rattle.dconf_model.specs.Keyfiles.{Setting}
use Rattle.dconf_model.specs.Layers.{Layers, visible, visible_bytes}
use Rattle.dconf_model.specs.Outcomes.{Outcome, dump_of, setting_paths, settings_at, with_lines}
use Rattle.dconf_layers.specs.declared.seen.SeenKey.{SeenKey}
use Rattle.dconf_layers.specs.Children.{seen_path}
use Rattle.dconf_commands.specs.declared.printed_setting.PrintedSetting.{PrintedSetting}
use Rattle.dconf_commands.specs.declared.dump_parts.DumpParts.{DumpParts}

-- the path, and behind it the text
abbrev pub setting_of : PrintedSetting → Setting
setting_of s = record { path = take s.path_len (string_bytes s.line); text = drop s.path_len (string_bytes s.line) }

-- what is seen through these layers
abbrev pub IsSeen : Layers → SeenKey → Type 0
IsSeen l key = option_map (λ bytes. bytes.now) key.bytes ≡ visible_bytes l (seen_path key)

abbrev pub with_earlier : List Setting → Result (List Setting) (List ℕ) → Result (List Setting) (List ℕ)
with_earlier earlier (Ok settings) = Ok (earlier ++ settings)
with_earlier earlier (Err why) = Err why

-- the dump of settings behind comments, and of what is seen at further keys
abbrev pub dump_onto : Bool → Layers → List ℕ → List ℕ → List Setting → List (List ℕ) → Outcome
dump_onto skips l directory comments earlier keys =
    with_lines (comments ++ comment_lines (left_out skips (visible l) keys))
    (dump_of directory (setting_paths earlier ++ filter (λ path. is_some (visible l path)) keys)
    (with_earlier earlier (settings_at l (not_left_out skips (visible l) keys))))

abbrev pub goes_on : Bool → Layers → List ℕ → DumpParts → List (List ℕ) → Outcome
goes_on skips l directory parts keys = dump_onto skips l directory (string_bytes parts.comments) (map setting_of parts.settings.items) keys
