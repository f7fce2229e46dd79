-- What a file of settings gives, by the fault of its text: lemmas for whoever reads its lines.
use Rattle.std.proofs.Common.{ℕ, ◌≡◌, List, length, true, false, Some, None, Result, Err, refl, ap}
use Rattle.std.specs.Prelude.{nat_lt}
use Rattle.std.specs.Str.{is_utf8}
use Rattle.dconf_model.specs.Causes.SettingsCause.{not_utf8}
use Rattle.dconf_model.specs.Lines.{LineFault, longest_text, bad_line, read_file, settings_text_fault, unless_fault}

pub is_faultless : (bytes : List ℕ) → nat_lt longest_text (length bytes) ≡ false → is_utf8 bytes ≡ true → settings_text_fault bytes ≡ None
is_faultless bytes small text = rw (small, text) refl

pub is_not_utf8 : (bytes : List ℕ) → nat_lt longest_text (length bytes) ≡ false → is_utf8 bytes ≡ false
    → settings_text_fault bytes ≡ Some (record { line = bad_line bytes; cause = not_utf8 })
is_not_utf8 bytes small text = rw (small, text) refl

-- its lines are read
pub reads_lines : {X : Type 0} (read : List ℕ → Result X LineFault) (bytes : List ℕ) → settings_text_fault bytes ≡ None → read_file read bytes ≡ read bytes
reads_lines read bytes none = ap (λ o. unless_fault o (read bytes)) none

-- they aren't
pub reads_no_lines : {X : Type 0} (read : List ℕ → Result X LineFault) (bytes : List ℕ) (fault : LineFault) → settings_text_fault bytes ≡ Some fault → read_file read bytes ≡ Err fault
reads_no_lines read bytes fault some = ap (λ o. unless_fault o (read bytes)) some
