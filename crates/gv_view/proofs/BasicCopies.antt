-- A basic value that was read is never refused as a tree.
use Rattle.std.proofs.Common.{◌≡◌, ◌<◌, ◌==◌, ℕ, Bool, true, false, cond, List, [], ◌∷◌, length, Option, Some, None, refl, sym, ap, ◌∙◌, subst, arith}
use Rattle.std.specs.Prelude.{◌||◌}
use Rattle.std.specs.List.{AllByRecursion}
use Rattle.gv_model.specs.Ty.{Ty, Basic}
use Rattle.gv_model.specs.Ty.Ty.{basic}
use Rattle.gv_model.specs.Layout.{basic_size}
use Rattle.gv_model.specs.Tree.{Tree, basic_default}
use Rattle.gv_model.specs.Tree.Tree.{number, text, node}
use Rattle.gv_model.specs.Texts.{is_object_path, is_signature, is_text, has_zero_byte}
use Rattle.gv_model.specs.Typed.{IsValue, IsTextOf}
use Rattle.gv_model.specs.BasicValue.{basic_value, basic_of_size, bits_of, number_in}
use Rattle.gv_model.specs.Decode.{decode}
use Rattle.gv_model.proofs.DecodeLaws.{decode_children}
use Rattle.gv_model.proofs.WellTyped.{text_value, default_value}
use Rattle.refused.specs.declared.Refused.{Refused}
use Rattle.refused.specs.declared.Refused.TheVariants.{Memory}
use Rattle.refused.specs.Faults.{OfFaultAlone}
use Rattle.refused.proofs.Faults.{never_refused as never}
use Rattle.gv_tree.specs.declared.fault.TreeFlaw.{TreeFlaw}
use Rattle.gv_tree.specs.declared.fault.TreeFlaw.TheVariants.{HasNul, BadObjectPath, BadSignature, WrongType, KeyNotBasic, TooDeep, TooLarge}
use Rattle.gv_tree.specs.Faults.{IsBasicFault}

-- a text is one that its type allows
abbrev HasFineText : Tree → Type 0
HasFineText (text k s) = IsTextOf k s
HasFineText _ = Unit {0}

fine_value : (v : Tree) → IsValue v → HasFineText v
fine_value (number k n) h = tt
fine_value (text k s) h = h
fine_value (node t vs) h = tt

fine_of_size : (k : Basic) (b : List ℕ) (o : Option ℕ) → basic_size k ≡ o → HasFineText (basic_of_size k b o)
fine_of_size k b None e = fine_value _ (text_value k b e)
fine_of_size k b (Some n) e = go (length b == n)
  where
    go : (c : Bool) → HasFineText (cond c (number k (bits_of k (number_in b))) (basic_default k))
    go true = tt
    go false = fine_value (basic_default k) (default_value k)

fine_basic : (k : Basic) (b : List ℕ) → HasFineText (basic_value k b)
unfolding basic_value
fine_basic k b = fine_of_size k b (basic_size k) refl

never_zero : (s : List ℕ) → AllByRecursion (λ c. 0 < c) s → has_zero_byte s ≡ true → ⊥
never_zero [] h e = absurd cc
never_zero (c ∷ cs) h e = go (c == 0) refl e (never_zero cs h.1)
  where
    go : (b : Bool) → (c == 0) ≡ b → (b || has_zero_byte cs) ≡ true → (has_zero_byte cs ≡ true → ⊥) → ⊥
    go true p q f = absurd (grind (arith, h.0))
    go false p q f = f q

fine_text : (k : Basic) (s : List ℕ) → IsTextOf k s → (f : TreeFlaw) → IsBasicFault (text k s) f → ⊥
fine_text k s h HasNul r = never_zero s h.no_zero r
fine_text k s h BadObjectPath r = let good : is_object_path s ≡ true = subst (λ (j : Basic). is_text j s ≡ true) r.type h.allowed in let bad = r.bad in absurd cc
fine_text k s h BadSignature r = let good : is_signature s ≡ true = subst (λ (j : Basic). is_text j s ≡ true) r.type h.allowed in let bad = r.bad in absurd cc
fine_text k s h (WrongType i) r = r
fine_text k s h KeyNotBasic r = r
fine_text k s h TooDeep r = r
fine_text k s h TooLarge r = r

fine_tree : (v : Tree) → HasFineText v → (f : TreeFlaw) → IsBasicFault v f → ⊥
fine_tree (number k n) h f r = r
fine_tree (text k s) h f r = fine_text k s h f r
fine_tree (node t vs) h f r = r

pub never_refused : (t : Ty) (k : Basic) (b : List ℕ) (v : Tree) → t ≡ basic k → v ≡ decode t b → (f : Refused TreeFlaw) → OfFaultAlone (IsBasicFault v) f → f ≡ Memory
never_refused t k b v e g f r =
    let same : v ≡ basic_value k b = g ∙ (ap (λ u. decode u b) e ∙ decode_children (basic k) b) in
    absurd (never _ (fine_tree v (subst HasFineText (sym same) (fine_basic k b))) f r)
