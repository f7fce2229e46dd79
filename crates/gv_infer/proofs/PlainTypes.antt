-- The types of literals that are told at sight.
use Rattle.std.proofs.Common.{◌≡◌, ◌⊎◌, inl, inr, ℕ, suc, ◌+◌, ◌<◌, Bool, true, List, [], ◌∷◌, length, drop, get_or, refl, sym, ap, ◌∙◌, arith}
use Rattle.std.specs.Prelude.{codes}
use Rattle.std.proofs.lemmas.List.{drop_all}
use Rattle.gv_model.specs.Ty.{Ty, Basic, letter, spelling, nesting}
use Rattle.gv_model.specs.Ty.Ty.{basic, array}
use Rattle.gv_model.specs.Ty.Basic.{boolean, int32, string}
use Rattle.gv_model.specs.Syntax.{Syntax, Syntaxes}
use Rattle.gv_model.specs.Syntax.Syntax.{truth, integer, quoted, list, keyword}
use Rattle.gv_model.specs.Syntax.Syntaxes.{first}
use Rattle.gv_model.specs.Patterns.{pattern, common, all_common, is_number, only_if, under}
use Rattle.gv_model.specs.Patterns.Pattern.{anything, loose, strict}
use Rattle.gv_model.specs.Patterns.Bare.{basics, array_of}
use Rattle.gv_model.specs.Patterns.BasicSet.{numbers, texts, only}
use Rattle.gv_model.specs.LeastTypes.{choice, choice_from, least_in}
use Rattle.gv_model.specs.Chosen.Choice.{is}
use Rattle.gv_syntax.specs.SyntaxNodes.{nodes_of}
use Rattle.gv_model.proofs.ListLaws.{drop_item}
use Rattle.gv_model.proofs.TypeTextParts.{IsTextOfType, text_of_type}

pub basic_text : (k : Basic) → IsTextOfType (basic k) (letter k ∷ [])
unfolding spelling nesting
basic_text k = text_of_type (basic k) (letter k ∷ []) refl refl

pub strings_text : IsTextOfType (array (basic string)) (codes "as")
unfolding spelling nesting
strings_text = text_of_type (array (basic string)) (codes "as") refl refl

-- what is chosen for a part of the syntax that is this one
pub chosen_as : (x y : Syntax) (t u : Ty) → x ≡ y → u ≡ t → choice y ≡ is t → choice x ≡ is u
chosen_as x y t u e same c = ap choice e ∙ (c ∙ ap is (sym same))

pub truth_choice : (b : Bool) → choice (truth b) ≡ is (basic boolean)
unfolding choice pattern least_in nesting
truth_choice b = refl

pub integer_choice : (negative : Bool) (n : ℕ) → choice (integer negative n) ≡ is (basic int32)
unfolding choice pattern least_in nesting
integer_choice negative n = refl

pub string_choice : (s : List ℕ) → choice (quoted s) ≡ is (basic string)
unfolding choice pattern least_in nesting
string_choice s = refl

pub word_choice : (k : Basic) (x : Syntax) → is_number k ≡ true → pattern x ≡ loose (basics numbers) → choice (keyword k x) ≡ is (basic k)
unfolding choice pattern least_in nesting common
word_choice k x number e =
    ap (λ p. choice_from (least_in (common (strict (basics (only k))) p))) e ∙ ap (λ b. choice_from (least_in (strict (basics (only_if b k))))) number

pub strings_choice : (xs : Syntaxes) → all_common xs ≡ loose (basics texts) → choice (list xs) ≡ is (array (basic string))
unfolding choice pattern least_in nesting
strings_choice xs e = ap (λ p. choice_from (least_in (loose (array_of p)))) e

-- a string more before strings, or before the end
pub one_more : (x : Syntax) (xs : Syntaxes) → pattern x ≡ loose (basics texts) → (all_common xs ≡ anything) ⊎ (all_common xs ≡ loose (basics texts))
    → all_common (first x xs) ≡ loose (basics texts)
unfolding pattern common under
one_more x xs e (inl none) = ap (λ p. common p (all_common xs)) e ∙ ap (common (loose (basics texts))) none
one_more x xs e (inr more) = ap (λ p. common p (all_common xs)) e ∙ ap (common (loose (basics texts))) more

pub before_all : (ns : List Syntax) (i : ℕ) (x : Syntax) → i < length ns → x ≡ get_or ns i x → pattern x ≡ loose (basics texts) →
    (suc i ≡ length ns) ⊎ (all_common (nodes_of (drop (suc i) ns)) ≡ loose (basics texts)) → all_common (nodes_of (drop i ns)) ≡ loose (basics texts)
unfolding pattern
before_all ns i x l here e more =
    ap (λ l. all_common (nodes_of l)) (drop_item ns i x l here) ∙ one_more x (nodes_of (drop (i + 1) ns)) e (rest more)
  where
    next : i + 1 ≡ suc i
    next = omega arith

    rest : (suc i ≡ length ns) ⊎ (all_common (nodes_of (drop (suc i) ns)) ≡ loose (basics texts)) →
        (all_common (nodes_of (drop (i + 1) ns)) ≡ anything) ⊎ (all_common (nodes_of (drop (i + 1) ns)) ≡ loose (basics texts))
    rest (inl end) = inl (ap (λ l. all_common (nodes_of l)) (drop_all (i + 1) ns (omega (arith, end))))
    rest (inr more) = inr (ap (λ n. all_common (nodes_of (drop n ns))) next ∙ more)
