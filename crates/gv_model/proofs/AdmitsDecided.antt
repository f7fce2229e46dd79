-- Whether a syntax tree admits a type is decided.
use Rattle.std.proofs.Common.{◌≡◌, ◌⊎◌, ℕ, Bool, true, false, List, [], ◌∷◌, refl, sym, ap, ap₂, ◌∙◌, eqb-true, eq-eqb, ◌==◌, ◌&&◌}
use Rattle.std.proofs.lemmas.Bool.{both_ways}
use mathlib.Core.Logic.{inl, inr}
use Rattle.gv_model.specs.Ty.{Ty, Types, spelling}
use Rattle.gv_model.specs.Ty.Ty.{basic, variant, array, maybe, tuple, entry}
use Rattle.gv_model.specs.Ty.Types.{end, member}
use Rattle.gv_model.specs.Ty.Basic.{boolean, byte, string, path, signature}
use Rattle.gv_model.specs.Characters.{same_text}
use Rattle.gv_model.specs.Syntax.{Syntax, Syntaxes, Pairs}
use Rattle.gv_model.specs.Syntax.Syntax.{truth, integer, quoted, bytes, list, tuple_of, dictionary, lone, boxed, just, nothing, at_type, keyword}
use Rattle.gv_model.specs.Syntax.Syntaxes.{none, first}
use Rattle.gv_model.specs.Syntax.Pairs.{no_pair, pair}
use Rattle.gv_model.specs.Admits.{Admits, AllAdmit, Admit, KeysAdmit, ValuesAdmit, AlsoMaybe, IsNumberType, IsTextType, IsArrayOf, IsMaybeOf, IsTupleOf, IsEntryOf}
use Rattle.gv_model.proofs.TypeTextLaws.{one_spelling}

abbrev Decided : Type 0 → Type 0
Decided P = P ⊎ (P → ⊥)

both : (P Q : Type 0) → Decided P → Decided Q → Decided (P × Q)
both P Q (inl h) (inl g) = inl (h, g)
both P Q (inl h) (inr g) = inr (λ b. g b.1)
both P Q (inr h) _ = inr (λ b. h b.0)

-- Whether two texts, and so two types, are the same

pub equal_where_same : (s t : List ℕ) → same_text s t ≡ true → s ≡ t
unfolding same_text
equal_where_same [] [] e = refl
equal_where_same (c ∷ cs) (d ∷ ds) e = go (c == d) refl e (equal_where_same cs ds)
  where
    go : (b : Bool) → (c == d) ≡ b → (b && same_text cs ds) ≡ true → (same_text cs ds ≡ true → cs ≡ ds) → c ∷ cs ≡ d ∷ ds
    go true q e h = ap₂ ◌∷◌ (eqb-true c d q) (h e)
    go false q e h = cc
equal_where_same [] (d ∷ ds) e = cc
equal_where_same (c ∷ cs) [] e = cc

pub same_as_itself : (s : List ℕ) → same_text s s ≡ true
unfolding same_text
same_as_itself [] = refl
same_as_itself (c ∷ cs) = rw (eq-eqb c c refl) (same_as_itself cs)

type_equal : (t u : Ty) → Decided (t ≡ u)
type_equal t u = go (same_text (spelling t) (spelling u)) refl
  where
    go : (b : Bool) → same_text (spelling t) (spelling u) ≡ b → Decided (t ≡ u)
    go true e = inl (one_spelling t u (equal_where_same (spelling t) (spelling u) e))
    go false e = inr (λ q. both_ways _ e (ap (λ v. same_text (spelling t) (spelling v)) (sym q) ∙ same_as_itself (spelling t)))

-- The kinds of types

also_maybe : (P : Ty → Type 0) → ((t : Ty) → Decided (P t)) → (t : Ty) → Decided (AlsoMaybe P t)
also_maybe P d (maybe t) = also_maybe P d t
also_maybe P d (basic k) = d (basic k)
also_maybe P d variant = d variant
also_maybe P d (array t) = d (array t)
also_maybe P d (tuple ts) = d (tuple ts)
also_maybe P d (entry k t) = d (entry k t)

number_type : (t : Ty) → Decided (IsNumberType t)
number_type (basic boolean) = inr (λ h. h)
number_type (basic string) = inr (λ h. h)
number_type (basic path) = inr (λ h. h)
number_type (basic signature) = inr (λ h. h)
number_type (basic k) = inl tt
number_type _ = inr (λ h. h)

text_type : (t : Ty) → Decided (IsTextType t)
text_type (basic string) = inl tt
text_type (basic path) = inl tt
text_type (basic signature) = inl tt
text_type _ = inr (λ h. h)

array_of : (P : Ty → Type 0) → ((t : Ty) → Decided (P t)) → (t : Ty) → Decided (IsArrayOf P t)
array_of P d (array t) = d t
array_of P d _ = inr (λ h. h)

maybe_of : (P : Ty → Type 0) → ((t : Ty) → Decided (P t)) → (t : Ty) → Decided (IsMaybeOf P t)
maybe_of P d (maybe t) = d t
maybe_of P d _ = inr (λ h. h)

tuple_with : (P : Types → Type 0) → ((ts : Types) → Decided (P ts)) → (t : Ty) → Decided (IsTupleOf P t)
tuple_with P d (tuple ts) = d ts
tuple_with P d _ = inr (λ h. h)

entry_with : (P Q : Ty → Type 0) → ((t : Ty) → Decided (P t)) → ((t : Ty) → Decided (Q t)) → (t : Ty) → Decided (IsEntryOf P Q t)
entry_with P Q d e (entry k t) = both (P (basic k)) (Q t) (d (basic k)) (e t)
entry_with P Q d e _ = inr (λ h. h)

mutual
  pub admits_or_not : (x : Syntax) (t : Ty) → Decided (Admits x t)
  admits_or_not (truth b) t = also_maybe (λ u. u ≡ basic boolean) (λ u. type_equal u (basic boolean)) t
  admits_or_not (integer negative n) t = also_maybe IsNumberType number_type t
  admits_or_not (quoted s) t = also_maybe IsTextType text_type t
  admits_or_not (bytes s) t = also_maybe (λ u. u ≡ array (basic byte)) (λ u. type_equal u (array (basic byte))) t
  admits_or_not (list xs) t = also_maybe (IsArrayOf (AllAdmit xs)) (array_of (AllAdmit xs) (all_admit xs)) t
  admits_or_not (tuple_of xs) t = also_maybe (IsTupleOf (Admit xs)) (tuple_with (Admit xs) (admit xs)) t
  admits_or_not (dictionary ps) t =
      also_maybe (IsArrayOf (IsEntryOf (KeysAdmit ps) (ValuesAdmit ps)))
      (array_of (IsEntryOf (KeysAdmit ps) (ValuesAdmit ps)) (entry_with (KeysAdmit ps) (ValuesAdmit ps) (keys_admit ps) (values_admit ps))) t
  admits_or_not (lone k v) t = also_maybe (IsEntryOf (Admits k) (Admits v)) (entry_with (Admits k) (Admits v) (admits_or_not k) (admits_or_not v)) t
  admits_or_not (boxed x) t = also_maybe (λ u. u ≡ variant) (λ u. type_equal u variant) t
  admits_or_not (just x) t = maybe_of (Admits x) (admits_or_not x) t
  admits_or_not nothing t = maybe_of (λ u. Unit {0}) (λ u. inl tt) t
  admits_or_not (at_type u x) t = both (t ≡ u) (Admits x t) (type_equal t u) (admits_or_not x t)
  admits_or_not (keyword k x) t = both (t ≡ basic k) (Admits x t) (type_equal t (basic k)) (admits_or_not x t)

  all_admit : (xs : Syntaxes) (t : Ty) → Decided (AllAdmit xs t)
  all_admit none t = inl tt
  all_admit (first x xs) t = both (Admits x t) (AllAdmit xs t) (admits_or_not x t) (all_admit xs t)

  admit : (xs : Syntaxes) (ts : Types) → Decided (Admit xs ts)
  admit none end = inl tt
  admit (first x xs) (member t ts) = both (Admits x t) (Admit xs ts) (admits_or_not x t) (admit xs ts)
  admit none (member t ts) = inr (λ h. h)
  admit (first x xs) end = inr (λ h. h)

  keys_admit : (ps : Pairs) (t : Ty) → Decided (KeysAdmit ps t)
  keys_admit no_pair t = inl tt
  keys_admit (pair k v ps) t = both (Admits k t) (KeysAdmit ps t) (admits_or_not k t) (keys_admit ps t)

  values_admit : (ps : Pairs) (t : Ty) → Decided (ValuesAdmit ps t)
  values_admit no_pair t = inl tt
  values_admit (pair k v ps) t = both (Admits v t) (ValuesAdmit ps t) (admits_or_not v t) (values_admit ps t)
