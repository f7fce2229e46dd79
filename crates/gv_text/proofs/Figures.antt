-- The texts of basic values.
use Rattle.std.proofs.Common.{◌≡◌, ◌++◌, ℕ, List, [], Option, Some, None, Bool, true, false, cond, refl, sym, ap, ◌∙◌, append_assoc, length, ◌==◌, subst, arith}
use Rattle.std.proofs.lemmas.Option.{none-some}
use Rattle.gv_model.specs.Ty.{Ty, Basic}
use Rattle.gv_model.specs.Ty.Ty.{basic}
use Rattle.gv_model.specs.Ty.Basic.{boolean, double, string, path, signature}
use Rattle.gv_model.specs.Layout.{basic_size}
use Rattle.gv_model.specs.Tree.{Tree, basic_default, children, depth, nodes}
use Rattle.gv_model.specs.Tree.Tree.{number, text}
use Rattle.gv_model.specs.Tree.Trees.{none}
use Rattle.gv_model.specs.Texts.{is_text}
use Rattle.gv_model.specs.BasicValue.{basic_value, basic_of_size, text_or_default, text_in, bits_of, number_in}
use Rattle.gv_model.specs.Decode.{decode}
use Rattle.gv_model.specs.Printed.{text_of, word, when, ends_in_nothing, figures, holds_double, is_double_type}
use Rattle.gv_model.proofs.DecodeLaws.{decode_children}
use Rattle.gv_text.specs.Printing.{IsWritten, byte_string_of, figures_of}

-- ---- a value of a basic type

-- a basic value of this type, as a number or a text
pub record IsOf (k : Basic) (v : Tree) : Type 0 where
  pub text : (annotated in_array : Bool) → text_of v annotated in_array ≡ when annotated (word k) ++ figures_of v
  pub double : holds_double v ≡ is_double_type k
  pub one : nodes v ≡ 1
  pub flat : depth v ≡ 1
  pub childless : children v ≡ none
  pub just : ends_in_nothing v ≡ false
  pub bytes : byte_string_of v ≡ None

of_number : (k : Basic) (n : ℕ) → IsOf k (number k n)
unfolding text_of holds_double nodes depth
of_number k n = record { text = λ a i. refl; double = refl; one = refl; flat = refl; childless = refl; just = refl; bytes = refl }

of_text : (k : Basic) (s : List ℕ) → is_double_type k ≡ false → IsOf k (text k s)
unfolding text_of holds_double nodes depth
of_text k s h = record { text = λ a i. refl; double = sym h; one = refl; flat = refl; childless = refl; just = refl; bytes = refl }

of_default : (k : Basic) → IsOf k (basic_default k)
of_default string = of_text string [] refl
of_default path = of_text path _ refl
of_default signature = of_text signature [] refl
of_default boolean = of_number boolean 0
of_default Basic.byte = of_number Basic.byte 0
of_default _ = of_number _ 0

no_double : (k : Basic) → basic_size k ≡ None → is_double_type k ≡ false
no_double double e = absurd (none-some 8 (sym e))
no_double _ e = refl

of_size : (k : Basic) (b : List ℕ) (o : Option ℕ) → basic_size k ≡ o → IsOf k (basic_of_size k b o)
of_size k b None e = go (text_in b)
  where
    pick : (c : Bool) (s : List ℕ) → IsOf k (cond c (text k s) (basic_default k))
    pick true s = of_text k s (no_double k e)
    pick false s = of_default k

    go : (o : Option (List ℕ)) → IsOf k (text_or_default k o)
    go None = of_default k
    go (Some s) = pick (is_text k s) s
of_size k b (Some n) e = go (length b == n)
  where
    go : (c : Bool) → IsOf k (cond c (number k (bits_of k (number_in b))) (basic_default k))
    go true = of_number k (bits_of k (number_in b))
    go false = of_default k

of_value : (k : Basic) (b : List ℕ) → IsOf k (basic_value k b)
unfolding basic_value
of_value k b = of_size k b (basic_size k) refl

of_decoded : (k : Basic) (b : List ℕ) → IsOf k (decode (basic k) b)
of_decoded k b = subst (IsOf k) (sym (decode_children (basic k) b)) (of_value k b)

pub of_basic : (t : Ty) (k : Basic) (b : List ℕ) → t ≡ basic k → IsOf k (decode t b)
of_basic t k b e = subst (λ (u : Ty). IsOf k (decode u b)) (sym e) (of_decoded k b)

-- ---- what the code wrote

pub wrote_number : (k : Basic) (n : ℕ) (v : Tree) (old new s : List ℕ) → v ≡ number k n → is_double_type k ≡ false → new ≡ old ++ s → s ≡ figures k n → IsWritten (holds_double v) (depth v) 1 (figures_of v) old new
unfolding holds_double depth
wrote_number k n v old new s e plain wrote is =
    let flat : depth v ≡ 1 = ap depth e in
    record { plain = ap holds_double e ∙ plain; text = wrote ∙ ap (λ (r : List ℕ). old ++ r) (is ∙ sym (ap figures_of e)); fits = omega (arith, flat) }

pub wrote_text : (k : Basic) (s : List ℕ) (v : Tree) (old new : List ℕ) → v ≡ text k s → new ≡ old ++ figures_of (text k s) → IsWritten (holds_double v) (depth v) 1 (figures_of v) old new
unfolding holds_double depth
wrote_text k s v old new e wrote =
    let flat : depth v ≡ 1 = ap depth e in
    record { plain = ap holds_double e; text = wrote ∙ ap (λ (u : Tree). old ++ figures_of u) (sym e); fits = omega (arith, flat) }

pub wrote_basic : (k : Basic) (v : Tree) (annotated : Bool) (old mid new : List ℕ) → IsOf k v → mid ≡ old ++ when annotated (word k) → new ≡ mid ++ figures_of v → new ≡ old ++ text_of v annotated false
wrote_basic k v annotated old mid new is before wrote =
    wrote ∙ (ap (λ (l : List ℕ). l ++ figures_of v) before ∙ (append_assoc old (when annotated (word k)) (figures_of v) ∙ ap (λ (l : List ℕ). old ++ l) (sym (is.text annotated false))))
