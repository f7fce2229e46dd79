-- Why a text has no tokens, or no syntax tree, and where.
-- GLib, "GVariant Text Format".
use Rattle.std.specs.Prelude.{ℕ, Result, Err}

pub data Cause : Type 0 where
  bad_token unclosed bad_escape double_text unexpected too_deep : Cause

pub record Fault : Type 0 where
  pub cause : Cause
  pub start : ℕ
  pub stop : ℕ

abbrev pub fault : {A : Type 0} → Cause → ℕ → ℕ → Result A Fault
fault cause start stop = Err (record { cause = cause; start = start; stop = stop })
