-- The texts of variants, tuples and entries, and what the text of a container rests on.
use Rattle.std.proofs.Common.{◌≡◌, ◌<◌, ◌++◌, List, Bool, true, false, Result, MatchResult, refl, sym, ap, ◌∙◌, arith, append-nil, append_assoc}
use Rattle.std.specs.Prelude.{ℕ, codes}
use Rattle.std.proofs.lemmas.Result.{MatchResult-weaker}
use Rattle.gv_model.specs.Ty.{Ty}
use Rattle.gv_model.specs.Ty.Ty.{basic, variant, array, maybe, tuple, entry}
use Rattle.gv_model.specs.Tree.{Trees, children}
use Rattle.gv_model.specs.Tree.Tree.{node}
use Rattle.gv_model.specs.Decode.{decode}
use Rattle.gv_model.specs.Quoted.{between}
use Rattle.gv_model.specs.Printed.{Text, comma, holds_double, hold_double, joined_by, text_of, tuple_text, when}
use Rattle.gv_model.specs.Normal.{IsContainer}
use Rattle.gv_types.specs.Classes.{class_of, basic_type}
use Rattle.gv_types.specs.declared.class.BasicType.{BasicType}
use Rattle.gv_types.specs.declared.class.Class.TheVariants as classes
use Rattle.gv_text.specs.Printing.{IsRefused, IsWritten, PrintFault, child_texts}
use Rattle.gv_text.proofs.Containers.{doubles_in, value_node}
use Rattle.gv_text.proofs.Figures.{of_basic}
use Rattle.gv_text.proofs.Levels.{refused_with}

contained : (t : Ty) → ((k : BasicType) → class_of t ≡ classes.Basic k → ⊥) → IsContainer t
contained (basic k) h = h (basic_type k) refl
contained _ h = tt

-- the doubles of a container are those of its children
doubles_by_class : (t : Ty) (b : List ℕ) → ((k : BasicType) → class_of t ≡ classes.Basic k → ⊥) → holds_double (decode t b) ≡ hold_double (children (decode t b))
doubles_by_class t b h = doubles_in t b (contained t h)

pub variant_doubles : (t : Ty) (b : List ℕ) → class_of t ≡ classes.Variant → holds_double (decode t b) ≡ hold_double (children (decode t b))
variant_doubles t b h = doubles_by_class t b (λ k e. absurd cc)

pub array_doubles : (t : Ty) (b : List ℕ) → class_of t ≡ classes.Array → holds_double (decode t b) ≡ hold_double (children (decode t b))
array_doubles t b h = doubles_by_class t b (λ k e. absurd cc)

pub tuple_doubles : (t : Ty) (b : List ℕ) → class_of t ≡ classes.Tuple → holds_double (decode t b) ≡ hold_double (children (decode t b))
tuple_doubles t b h = doubles_by_class t b (λ k e. absurd cc)

pub entry_doubles : (t : Ty) (b : List ℕ) → class_of t ≡ classes.Entry → holds_double (decode t b) ≡ hold_double (children (decode t b))
entry_doubles t b h = doubles_by_class t b (λ k e. absurd cc)

-- ---- variants

variant_node : (vs : Trees) (annotated in_array : Bool) → text_of (node variant vs) annotated in_array ≡ between 60 (joined_by comma (child_texts vs true false)) 62
unfolding text_of
variant_node vs annotated in_array = refl

pub variant_text : (t : Ty) (b : List ℕ) (annotated in_array : Bool) → class_of t ≡ classes.Variant → text_of (decode t b) annotated in_array ≡ between 60 (joined_by comma (child_texts (children (decode t b)) true false)) 62
variant_text variant b annotated in_array h = ap (λ v. text_of v annotated in_array) (value_node variant b tt) ∙ variant_node (children (decode variant b)) annotated in_array
variant_text _ b annotated in_array h = absurd cc

-- ---- tuples

tuple_node : (t : Ty) (vs : Trees) (annotated : Bool) → class_of t ≡ classes.Tuple → text_of (node t vs) annotated false ≡ tuple_text (child_texts vs annotated false)
unfolding text_of
tuple_node (tuple ts) vs annotated h = refl
tuple_node _ vs annotated h = absurd cc

pub tuple_text_of : (t : Ty) (b : List ℕ) (annotated : Bool) → class_of t ≡ classes.Tuple → text_of (decode t b) annotated false ≡ tuple_text (child_texts (children (decode t b)) annotated false)
tuple_text_of t b annotated h =
    ap (λ v. text_of v annotated false) (value_node t b (contained t (λ k e. absurd cc))) ∙ tuple_node t (children (decode t b)) annotated h

-- ---- entries

alone_node : (t : Ty) (vs : Trees) (annotated : Bool) → class_of t ≡ classes.Entry → text_of (node t vs) annotated false ≡ between 123 (joined_by comma (child_texts vs annotated false)) 125
unfolding text_of
alone_node (entry k t) vs annotated h = refl
alone_node _ vs annotated h = absurd cc

element_node : (t : Ty) (vs : Trees) (annotated : Bool) → class_of t ≡ classes.Entry → text_of (node t vs) annotated true ≡ joined_by (codes ": ") (child_texts vs annotated false)
unfolding text_of
element_node (entry k t) vs annotated h = refl
element_node _ vs annotated h = absurd cc

pub entry_alone : (t : Ty) (b : List ℕ) (annotated : Bool) → class_of t ≡ classes.Entry → text_of (decode t b) annotated false ≡ between 123 (joined_by comma (child_texts (children (decode t b)) annotated false)) 125
entry_alone t b annotated h =
    ap (λ v. text_of v annotated false) (value_node t b (contained t (λ k e. absurd cc))) ∙ alone_node t (children (decode t b)) annotated h

pub entry_in_array : (t : Ty) (b : List ℕ) (annotated : Bool) → class_of t ≡ classes.Entry → text_of (decode t b) annotated true ≡ joined_by (codes ": ") (child_texts (children (decode t b)) annotated false)
entry_in_array t b annotated h =
    ap (λ v. text_of v annotated true) (value_node t b (contained t (λ k e. absurd cc))) ∙ element_node t (children (decode t b)) annotated h

-- ---- only an entry is printed otherwise in an array

same_node : (t : Ty) (vs : Trees) (annotated in_array : Bool) → (class_of t ≡ classes.Entry → ⊥) → text_of (node t vs) annotated in_array ≡ text_of (node t vs) annotated false
unfolding text_of
same_node (entry k t) vs annotated in_array h = absurd (h refl)
same_node _ vs annotated in_array h = refl

same_container : (t : Ty) (b : List ℕ) (annotated in_array : Bool) → IsContainer t → (class_of t ≡ classes.Entry → ⊥) → text_of (decode t b) annotated false ≡ text_of (decode t b) annotated in_array
same_container t b annotated in_array c h =
    let is = value_node t b c in
    ap (λ v. text_of v annotated false) is ∙ (sym (same_node t (children (decode t b)) annotated in_array h) ∙ ap (λ v. text_of v annotated in_array) (sym is))

pub same_in_array : (t : Ty) (b : List ℕ) (annotated in_array : Bool) → (class_of t ≡ classes.Entry → ⊥) → text_of (decode t b) annotated false ≡ text_of (decode t b) annotated in_array
same_in_array (basic k) b annotated in_array h = let is = of_basic (basic k) k b refl in is.text annotated false ∙ sym (is.text annotated in_array)
same_in_array variant b annotated in_array h = same_container variant b annotated in_array tt h
same_in_array (array t) b annotated in_array h = same_container (array t) b annotated in_array tt h
same_in_array (maybe t) b annotated in_array h = same_container (maybe t) b annotated in_array tt h
same_in_array (tuple ts) b annotated in_array h = same_container (tuple ts) b annotated in_array tt h
same_in_array (entry k t) b annotated in_array h = absurd (h refl)

-- ---- what the code wrote

-- what the children's doubles and text are to a value
pub written_as : {X : Type 0} (result : Result X PrintFault) (d e : Bool) (deep levels : ℕ) (s r old new : Text) → e ≡ d → r ≡ s
    → MatchResult result (λ _. IsWritten d deep levels s old new) (IsRefused d deep levels) → MatchResult result (λ _. IsWritten e deep levels r old new) (IsRefused e deep levels)
written_as result d e deep levels s r old new doubles same h = rw (doubles, same) h

-- what has one level has no more than others
pub flat_written : {X : Type 0} (result : Result X PrintFault) (d : Bool) (deep levels : ℕ) (s r old new : Text) → deep ≡ 1 → 0 < levels → r ≡ s
    → MatchResult result (λ _. IsWritten d deep 1 s old new) (IsRefused d deep 1) → MatchResult result (λ _. IsWritten d deep levels r old new) (IsRefused d deep levels)
flat_written result d deep levels s r old new flat some same h =
    MatchResult-weaker result h (λ x w. record { plain = w.plain; text = w.text ∙ ap (λ (l : Text). old ++ l) (sym same); fits = omega (arith, flat, some) }) (refused_with d d deep deep 1 levels (λ l. absurd (omega (arith, flat, l))) (λ e. e))

-- a mark that is wanted is written, another left out
pub wanted_mark : (wanted : Bool) (mark old new : Text) → wanted ≡ true → new ≡ old ++ mark → new ≡ old ++ when wanted mark
wanted_mark wanted mark old new h wrote = wrote ∙ ap (λ b. old ++ when b mark) (sym h)

pub unwanted_mark : (wanted : Bool) (mark old : Text) → wanted ≡ false → old ≡ old ++ when wanted mark
unwanted_mark wanted mark old h = sym (append-nil old) ∙ ap (λ b. old ++ when b mark) (sym h)

-- a text after its mark
pub marked_text : (s r mark old mid new : Text) → r ≡ mark ++ s → mid ≡ old ++ mark → new ≡ mid ++ s → new ≡ old ++ r
marked_text s r mark old mid new text marks wrote = wrote ∙ (ap (λ (l : Text). l ++ s) marks ∙ (append_assoc old mark s ∙ ap (λ (l : Text). old ++ l) (sym text)))
