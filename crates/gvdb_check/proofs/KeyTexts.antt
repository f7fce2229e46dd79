-- Bytes that are taken for a text.
use Rattle.std.proofs.Common.{ℕ, List, Option, Some, None, Bool, true, false, ◌≡◌, IsTrue, refl, sym, ◌∙◌, ap}
use Rattle.std.specs.Prelude.{option_map, Contains, IsUtf8}
use Rattle.std.specs.List.{list_all}
use Rattle.std.specs.Option.{is_some}
use Rattle.std.specs.Str.{is_utf8}
use Rattle.std.proofs.lemmas.Str.{is_utf8-from_IsUtf8}
use Rattle.std.proofs.lemmas.List.Folds.{list_all_at}
use Rattle.gv_view.specs.Texts.{is_ascii_char, utf8_of}

-- a text is found where the bytes are UTF-8
pub found_where_utf8 : {S : Type 0} (now : S → List ℕ) (bytes : List ℕ) (o : Option S) → option_map now o ≡ utf8_of bytes → IsUtf8 bytes → IsTrue (is_some o)
found_where_utf8 now bytes (Some s) e h = refl
found_where_utf8 now bytes None e h =
    let test : is_utf8 bytes ≡ true = is_utf8-from_IsUtf8 bytes h in
    let bad = rw test at e in absurd cc

-- a byte that doesn't pass isn't among those that do
pub none_of : (p : ℕ → Bool) (s : List ℕ) (b : ℕ) → p b ≡ false → list_all p s ≡ true → Contains s b → ⊥
none_of p s b other h there = let bad : true ≡ false = sym h ∙ list_all_at p s there.0 b there.1 (ap p there.2 ∙ other) in cc

-- an ASCII text as it is asked for here has no zero byte
pub no_zero : (s : List ℕ) → list_all is_ascii_char s ≡ true → Contains s 0 → ⊥
no_zero s = none_of is_ascii_char s 0 refl
