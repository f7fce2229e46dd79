-- What is read again of the text that a dump prints, comment lines and all.
use Rattle.std.specs.Prelude.{◌≡◌, ◌≤◌, IsTrue, ℕ, List, ◌++◌, length, map, Option, Ok, Bool, not, ◌&&◌}
use Rattle.std.specs.List.{AllByRecursion}
use Rattle.std.specs.Str.{is_utf8}
use Rattle.dconf_model.specs.Paths.{is_directory_path}
use Rattle.dconf_model.specs.Lines.{longest_text}
use Rattle.dconf_model.specs.Keyfiles.{Row, Setting, rows_of, setting_of, dumped, in_dump_order, is_one_line}
use Rattle.dconf_model.specs.Doubles.{comment_lines, has_line_feed, left_out, not_left_out}
use Rattle.dconf_model.specs.Databases.{AreLayers}
use Rattle.dconf_model.specs.Layers.{Layers, visible, paths_below}
use Rattle.dconf_model.specs.Outcomes.{done, dump_at, settings_at}

-- the text of the value stands on a line, as it has no line feed, no zero byte and no blank at either end
pub record FitsOnLine (x : Setting) : Type 0 where
  pub utf8 : IsTrue (is_utf8 x.text)
  pub line : IsTrue (is_one_line x.text)

-- a keyfile's reader finds just these settings, in this order
pub record ReadsAs (directory text : List ℕ) (settings : List Setting) : Type 0 where
  pub rows : List Row
  pub read : rows_of text ≡ Ok rows
  pub are : map (setting_of directory) rows ≡ settings

-- A text is what is dumped: comment lines that name what is left out, and behind them the dump of the other settings that are
-- seen. It reads as those settings, in the order of the dump, and so does the dump without the comment lines.
pub record IsDumpText (skip : Bool) (directory : List ℕ) (l : Layers) (text : List ℕ) : Type 0 where
  pub settings : List Setting
  pub seen : settings_at l (not_left_out (skip && not (has_line_feed directory)) (visible l) (paths_below l directory)) ≡ Ok settings
  pub rest : List ℕ
  pub dumps : dumped directory settings ≡ Ok rest
  pub lines : text ≡ comment_lines (left_out (skip && not (has_line_feed directory)) (visible l) (paths_below l directory)) ++ rest
  pub reads : AllByRecursion FitsOnLine settings → ReadsAs directory text (in_dump_order directory settings)
  pub rest_reads : AllByRecursion FitsOnLine settings → ReadsAs directory rest (in_dump_order directory settings)

-- law: whatever names databases have, what is printed of them is such a text, so that no part of a name is read as a row
abbrev pub PrintedReadsAsDumped : Type 0
PrintedReadsAsDumped =
    (items : List (Option (List ℕ))) (l : Layers) (skip : Bool) (directory text : List ℕ) →
    AreLayers items l.layers → IsTrue (is_directory_path directory) → length text ≤ longest_text →
    dump_at skip directory l (paths_below l directory) ≡ done text → IsDumpText skip directory l text
