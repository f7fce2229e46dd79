-- A text that ends at its first zero byte.
use Rattle.std.proofs.Common.{◌≡◌, ◌≢◌, ◌<◌, ◌+◌, ℕ, zero, suc, Bool, true, false, cond, ◌==◌, List, [], ◌∷◌, length, take, get_or, Option, Some, None, Result, Ok, Err, refl, sym, ap, subst, ◌∙◌, arith, eq-eqb, ne_eqb, eqb-true}
use Rattle.std.specs.Prelude.{option_map, option_and_then, MatchResult, IsUtf8}
use Rattle.std.specs.Result.{result_ok}
use Rattle.std.specs.Str.{is_utf8}
use Rattle.std.proofs.lemmas.Option.{none-some, cond_some}
use Rattle.std.proofs.lemmas.Bool.{false≢true}
use Rattle.std.proofs.lemmas.Str.{IsUtf8-from_is_utf8, is_utf8-from_IsUtf8}
use Rattle.memchr.specs.Find.{Nowhere, NoneBefore, Passes, is_byte}
use Rattle.gv_model.specs.Ty.{Basic}
use Rattle.gv_model.specs.Ty.Ty.{basic}
use Rattle.gv_model.specs.Ty.Basic.{string, path, signature}
use Rattle.gv_model.specs.Tree.{basic_default}
use Rattle.gv_model.specs.Tree.Tree.{text}
use Rattle.gv_model.specs.Layout.{basic_size}
use Rattle.gv_model.specs.Texts.{is_text}
use Rattle.gv_model.specs.BasicValue.{basic_value, basic_of_size, text_in, text_or_default}
use Rattle.gv_model.specs.Decode.{decode}
use Rattle.gv_model.proofs.DecodeLaws.{decode_children}
use Rattle.gv_view.specs.Texts.{utf8_of, utf8_in}
use Rattle.gv_view.proofs.AsciiTexts.{path_is_utf8, signature_is_utf8}

-- no zero byte, no text
no_zero : (b : List ℕ) → ((k : ℕ) → k < length b → get_or b k 0 ≢ 0) → text_in b ≡ None
unfolding text_in
no_zero [] h = refl
no_zero (c ∷ []) h = let e : (c == 0) ≡ false = ne_eqb c 0 (h 0 (omega arith)) in rw e refl
no_zero (c ∷ d ∷ cs) h =
    let e : (c == 0) ≡ false = ne_eqb c 0 (h 0 (omega arith)) in
    let rest = no_zero (d ∷ cs) (λ k lt. h (suc k) (omega arith)) in
    rw (e, rest) refl

-- the first zero byte is the last byte
first_is_last : (b : List ℕ) (end : ℕ) → ((k : ℕ) → k < end → get_or b k 0 ≢ 0) → get_or b end 0 ≡ 0 → end + 1 ≡ length b → text_in b ≡ Some (take end b)
unfolding text_in
first_is_last [] end before at last = absurd (omega arith)
first_is_last (c ∷ []) zero before at last = let e : (c == 0) ≡ true = eq-eqb c 0 at in rw e refl
first_is_last (c ∷ []) (suc end) before at last = absurd (omega arith)
first_is_last (c ∷ d ∷ cs) zero before at last = absurd (omega arith)
first_is_last (c ∷ d ∷ cs) (suc end) before at last =
    let e : (c == 0) ≡ false = ne_eqb c 0 (before 0 (omega arith)) in
    let rest = first_is_last (d ∷ cs) end (λ k lt. before (suc k) (omega arith)) at (omega arith) in
    rw (e, rest) refl

-- the first zero byte is not the last byte
first_is_inside : (b : List ℕ) (end : ℕ) → ((k : ℕ) → k < end → get_or b k 0 ≢ 0) → get_or b end 0 ≡ 0 → end + 1 < length b → text_in b ≡ None
unfolding text_in
first_is_inside [] end before at last = absurd (omega arith)
first_is_inside (c ∷ []) end before at last = absurd (omega arith)
first_is_inside (c ∷ d ∷ cs) zero before at last = let e : (c == 0) ≡ true = eq-eqb c 0 at in rw e refl
first_is_inside (c ∷ d ∷ cs) (suc end) before at last =
    let e : (c == 0) ≡ false = ne_eqb c 0 (before 0 (omega arith)) in
    let rest = first_is_inside (d ∷ cs) end (λ k lt. before (suc k) (omega arith)) at (omega arith) in
    rw (e, rest) refl

-- what the search for a zero byte says
passes_not : (b : List ℕ) (n : ℕ) → Nowhere (Passes (is_byte 0) b) 0 n → (k : ℕ) → k < n → get_or b k 0 ≢ 0
passes_not b n none k lt e = none k (omega arith) lt (eq-eqb (get_or b k 0) 0 e)

pub no_end : (b : List ℕ) → Nowhere (Passes (is_byte 0) b) 0 (length b) → None ≡ utf8_in b
no_end b nowhere = let e = no_zero b (passes_not b (length b) nowhere) in rw e refl

pub end_inside : (b : List ℕ) (end : ℕ) → NoneBefore (Passes (is_byte 0) b) 0 (length b) end × Passes (is_byte 0) b end → end + 1 ≢ length b → None ≡ utf8_in b
end_inside b end first other =
    let below = first.0.high in
    let e = first_is_inside b end (passes_not b end first.0.before) (eqb-true (get_or b end 0) 0 first.1) (omega arith) in
    rw e refl

pub end_last : (b : List ℕ) (end : ℕ) → NoneBefore (Passes (is_byte 0) b) 0 (length b) end × Passes (is_byte 0) b end → end + 1 ≡ length b → utf8_of (take end b) ≡ utf8_in b
end_last b end first last =
    let e = first_is_last b end (passes_not b end first.0.before) (eqb-true (get_or b end 0) 0 first.1) last in
    rw e refl

-- what the test for UTF-8 says
pub utf8_cases : {S E : Type 0} (now : S → List ℕ) (Q : E → Type 0) (body : List ℕ) (r : Result S E) → MatchResult r (λ s. (now s ≡ body) × IsUtf8 body) (λ e. (IsUtf8 body → ⊥) × Q e)
    → option_map now (result_ok r) ≡ utf8_of body
utf8_cases now Q body (Ok s) h = let e : is_utf8 body ≡ true = is_utf8-from_IsUtf8 body h.1 in rw e (ap Some h.0)
utf8_cases now Q body (Err e) h = go (is_utf8 body) refl
  where
    go : (c : Bool) → is_utf8 body ≡ c → None ≡ cond c (Some body) None
    go true is = absurd (h.0 (IsUtf8-from_is_utf8 body is))
    go false is = refl

-- ---- the value at a type of texts

-- the texts of the type are UTF-8, so a test for UTF-8 before changes nothing
abbrev AreUtf8 : Basic → Type 0
AreUtf8 k = (s : List ℕ) → is_text k s ≡ true → is_utf8 s ≡ true

tested : (k : Basic) → AreUtf8 k → (o : Option (List ℕ)) → text_or_default k o ≡ text_or_default k (option_and_then utf8_of o)
tested k h None = refl
tested k h (Some s) = go (is_utf8 s) refl
  where
    untested : is_utf8 s ≡ false → (d : Bool) → is_text k s ≡ d → cond d (text k s) (basic_default k) ≡ basic_default k
    untested e true is = absurd (false≢true (sym e ∙ h s is))
    untested e false is = refl

    go : (c : Bool) → is_utf8 s ≡ c → text_or_default k (Some s) ≡ text_or_default k (cond c (Some s) None)
    go true e = refl
    go false e = untested e (is_text k s) refl

text_value : (k : Basic) → basic_size k ≡ None → AreUtf8 k → (b : List ℕ) (o : Option (List ℕ)) → o ≡ utf8_in b → decode (basic k) b ≡ text_or_default k o
unfolding basic_value
text_value k e h b o is = decode_children (basic k) b ∙ (ap (basic_of_size k b) e ∙ (tested k h (text_in b) ∙ ap (text_or_default k) (sym is)))

pub string_value : (b : List ℕ) (o : Option (List ℕ)) → o ≡ utf8_in b → decode (basic string) b ≡ text_or_default string o
string_value = text_value string refl (λ s h. h)

pub path_value : (b : List ℕ) (o : Option (List ℕ)) → o ≡ utf8_in b → decode (basic path) b ≡ text_or_default path o
path_value = text_value path refl path_is_utf8

pub signature_value : (b : List ℕ) (o : Option (List ℕ)) → o ≡ utf8_in b → decode (basic signature) b ≡ text_or_default signature o
signature_value = text_value signature refl signature_is_utf8

-- what was found is a text of the type, or is not
pub allowed : (k : Basic) (s : List ℕ) → is_text k s ≡ true → text_or_default k (Some s) ≡ text k s
allowed k s e = rw e refl

pub not_allowed : (k : Basic) (s : List ℕ) → is_text k s ≡ false → text_or_default k (Some s) ≡ basic_default k
not_allowed k s e = rw e refl

-- a text in the bytes is UTF-8
pub found_is_utf8 : (b s : List ℕ) → Some s ≡ utf8_in b → is_utf8 s ≡ true
found_is_utf8 b s e = go (text_in b) e
  where
    go : (o : Option (List ℕ)) → Some s ≡ option_and_then utf8_of o → is_utf8 s ≡ true
    go None k = absurd (none-some s (sym k))
    go (Some r) k = let parts = cond_some (is_utf8 r) r s (sym k) in subst (λ (x : List ℕ). is_utf8 x ≡ true) parts.1 parts.0
