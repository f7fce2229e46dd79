-- Keys of small letters, digits and `-` are read again.
use Rattle.std.proofs.Common.{◌≡◌, ◌∙◌, ◌<◌, ◌==◌, ◌||◌, ℕ, Bool, true, false, List, [], ◌∷◌, ◌++◌, length, refl, sym, ap, arith, append_assoc}
use Rattle.std.specs.Prelude.{nat_eq, nat_lt}
use Rattle.std.specs.List.{list_all, list_any, prefix_len, suffix_len}
use Rattle.std.specs.Cmp.Lexicographic.{bytes_decides}
use Rattle.std.proofs.lemmas.Bool.{and_parts, or_parts}
use Rattle.std.proofs.lemmas.Bool.Decides.{nat_tests}
use Rattle.dconf_model.specs.Keyfiles.{begins_with, is_control, is_equals, is_readable_key}
use Rattle.dconf_model.specs.Lines.{is_space}
use Rattle.dconf_model.proofs.Trimmed.{both_whole, end_stops}
use Rattle.keyfile_core.specs.SchemaKeys.{is_schema_byte}

abbrev IsOther : (ℕ → Bool) → Type 0
IsOther f = (c : ℕ) → is_schema_byte c ≡ true → f c ≡ false

none_passes : (f : ℕ → Bool) → IsOther f → (s : List ℕ) → list_all is_schema_byte s ≡ true → list_any f s ≡ false
none_passes f other [] e = refl
none_passes f other (x ∷ s) e =
    let parts = and_parts (is_schema_byte x) (list_all is_schema_byte s) e in
    rw (other x parts.0, none_passes f other s parts.1) refl

none_ends : (f : ℕ → Bool) (before : List ℕ) (x : ℕ) (s : List ℕ) → list_any f (x ∷ s) ≡ false → suffix_len f (before ++ x ∷ s) ≡ 0
none_ends f before x [] e = end_stops f before x [] refl (or_parts (f x) false e).0
none_ends f before x (y ∷ s) e =
    ap (suffix_len f) (sym (append_assoc before (x ∷ []) (y ∷ s))) ∙ none_ends f (before ++ x ∷ []) y s (or_parts (f x) (list_any f (y ∷ s)) e).1

pub schema_key : (s : List ℕ) → 0 < length s → list_all is_schema_byte s ≡ true → is_readable_key s ≡ true
schema_key [] filled e = absurd (omega (arith, filled))
schema_key (x ∷ s) filled e =
    let none = λ (f : ℕ → Bool) (other : IsOther f). none_passes f other (x ∷ s) e in
    let slash = none (λ c. c == 47) (λ c h. grind (arith, nat_tests)) in
    let special = none (λ c. c == 91 || (c == 93 || is_control c)) (λ c h. grind (arith, nat_tests)) in
    let equals = none is_equals (λ c h. grind (arith, nat_tests)) in
    let first = (or_parts (nat_eq 35 x) (list_any (nat_eq 35) s) (none (nat_eq 35) (λ c h. grind (arith, nat_tests)))).0 in
    let mark : begins_with 35 (x ∷ s) ≡ false = rw first refl in
    let blank = none is_space (λ c h. grind (arith, nat_tests)) in
    let start : prefix_len is_space (x ∷ s) ≡ 0 = rw ((or_parts (is_space x) (list_any is_space s) blank).0) refl in
    let whole = (bytes_decides _ (x ∷ s)).1 (both_whole is_space is_space (x ∷ s) start (none_ends is_space [] x s blank)) in
    let some : nat_lt 0 (length (x ∷ s)) ≡ true = grind (arith, nat_tests) in
    rw (some, slash, special, equals, mark) whole
