-- What a line says of its text, past the tests of its bytes.
use Rattle.std.proofs.Common.{◌≡◌, ℕ, true, false, List, refl}
use Rattle.std.specs.Str.{is_utf8}
use Rattle.dconf_model.specs.Keyfiles.{line_kind, without_blanks}
use Rattle.dconf_model.specs.Paths.{has_zero_byte, starts_with_slash}
use Rattle.keyfile_lines.specs.Kinds.{sign_by, sign_of}
use Rattle.keyfile_lines.specs.Kinds.LineSign.{other}

pub of_text : (line : List ℕ) → has_zero_byte line ≡ false → starts_with_slash line ≡ false → is_utf8 line ≡ true →
    sign_of line ≡ sign_by (line_kind (without_blanks line)) (without_blanks line)
of_text line zero slash is = rw (zero, slash, is) refl

pub of_no_text : (line : List ℕ) → has_zero_byte line ≡ false → starts_with_slash line ≡ false → is_utf8 line ≡ false → sign_of line ≡ other
of_no_text line zero slash none = rw (zero, slash, none) refl
