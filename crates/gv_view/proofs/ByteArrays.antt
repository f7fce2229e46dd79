-- An array of bytes.
use Rattle.std.proofs.Common.{◌≡◌, ◌<◌, ◌+◌, ◌-◌, ◌%◌, ℕ, zero, suc, true, ◌==◌, nat_le, List, [], ◌∷◌, length, drop, get_or, Some, refl, sym, ap, ap₂, ◌∙◌, arith, eq-eqb, div-one}
use Rattle.std.specs.Prelude.{slice_range}
use Rattle.std.proofs.Math.Seq.{drop-cons}
use Rattle.std.proofs.lemmas.List.{drop_all}
use Rattle.std.proofs.lemmas.Option.{same_Some}
use Rattle.gv_model.specs.Ty.{Ty}
use Rattle.gv_model.specs.Ty.Ty.{basic, variant, array, maybe, tuple, entry}
use Rattle.gv_model.specs.Ty.Basic.{byte}
use Rattle.gv_model.specs.Layout.{fixed_size}
use Rattle.gv_model.specs.Tree.{byte_trees}
use Rattle.gv_model.specs.Tree.Tree.{number, node}
use Rattle.gv_model.specs.Tree.Trees.{first}
use Rattle.gv_model.specs.BasicValue.{number_in}
use Rattle.gv_model.specs.Children.{child_at, children_at, bounds, ordered}
use Rattle.gv_model.specs.Arrays.{fixed_spans, element_spans}
use Rattle.gv_model.specs.Decode.{decode, cut, spans, each}
use Rattle.gv_model.proofs.DecodeLaws.{decode_children, child_value}
use Rattle.gv_model.proofs.PlacedParts.{ordered-fixed}
use Rattle.gv_types.specs.declared.class.BasicType.{BasicType}
use Rattle.gv_types.specs.declared.class.BasicType.TheVariants as basics
use Rattle.gv_types.specs.declared.class.Class.TheVariants as classes
use Rattle.gv_types.specs.Classes.{class_of}
use Rattle.gv_types.specs.TypeStr.{element_of}
use Rattle.gv_types.proofs.ClassLaws.{basic_class}
use Rattle.gv_view.proofs.Numbers.{whole_number}

-- an array whose element is of the class of bytes
pub bytes_type : (t u : Ty) (k : BasicType) → classes.Array ≡ class_of t → Some u ≡ element_of t → classes.Basic k ≡ class_of u → k ≡ basics.Byte → t ≡ array (basic byte)
bytes_type (array v) u k at e class is = ap array (sym (same_Some u v e) ∙ basic_class u basics.Byte (ap classes.Basic (sym is) ∙ class))
bytes_type (basic k) u j at e class is = absurd cc
bytes_type variant u k at e class is = absurd cc
bytes_type (maybe v) u k at e class is = absurd cc
bytes_type (tuple ts) u k at e class is = absurd cc
bytes_type (entry k v) u j at e class is = absurd cc

one_byte : (b : List ℕ) (p : ℕ) → p < length b → slice_range b p (p + 1) ≡ get_or b p 0 ∷ []
one_byte b p lt = let e : (p + 1) - p ≡ 1 = omega arith in rw (e, drop-cons b p 0) refl

byte_tree : (b : List ℕ) (p : ℕ) → p < length b → child_value b (child_at (length b) (basic byte, Some (p, p + 1))) ≡ number byte (get_or b p 0)
unfolding number_in
byte_tree b p lt =
    let low : nat_le p (p + 1) ≡ true = grind arith in
    let high : nat_le (p + 1) (length b) ≡ true = grind arith in
    let inside : bounds (length b) (Some (p, p + 1)) ≡ (p, p + 1) = rw (low, high) refl in
    ap (λ (s : ℕ × ℕ). decode (basic byte) (slice_range b s.0 s.1)) inside
    ∙ (ap (decode (basic byte)) (one_byte b p lt) ∙ (whole_number byte (get_or b p 0 ∷ []) 1 refl refl ∙ ap (number byte) (omega arith)))

trees_from : (b : List ℕ) (p count : ℕ) → p + count ≡ length b → each (child_value b) (children_at (length b) (fixed_spans (basic byte) 1 p count)) ≡ byte_trees (drop p b)
unfolding fixed_spans byte_trees
trees_from b p zero e = let none : drop p b ≡ [] = drop_all p b (omega arith) in rw none refl
trees_from b p (suc count) e =
    let next : p + 1 ≡ suc p = omega arith in
    let rest = trees_from b (p + 1) count (omega arith) ∙ ap (λ (n : ℕ). byte_trees (drop n b)) next in
    ap₂ first (byte_tree b p (omega arith)) rest ∙ sym (ap byte_trees (drop-cons b p 0 (omega arith)))

byte_elements : (b : List ℕ) → element_spans (basic byte) b (Some 1) ≡ fixed_spans (basic byte) 1 0 (length b)
byte_elements b =
    let even : (length b % 1 == 0) ≡ true = eq-eqb (length b % 1) 0 (omega arith) in
    rw even (ap (fixed_spans (basic byte) 1 0) (div-one (length b)))

elements_stay : (b : List ℕ) → ordered (Some (length b)) (element_spans (basic byte) b (Some 1)) ≡ fixed_spans (basic byte) 1 0 (length b)
elements_stay b = ap (ordered (Some (length b))) (byte_elements b) ∙ ordered-fixed (length b) (basic byte) 1 0 (length b) (omega arith)

array_tree : (b : List ℕ)
    → decode (array (basic byte)) b ≡ node (array (basic byte)) (each (child_value b) (children_at (length b) (ordered (Some (length b)) (element_spans (basic byte) b (Some 1)))))
unfolding cut spans fixed_size
array_tree b = decode_children (array (basic byte)) b

pub bytes_value : (t : Ty) (b : List ℕ) → t ≡ array (basic byte) → decode t b ≡ node (array (basic byte)) (byte_trees b)
bytes_value t b same =
    ap (λ (u : Ty). decode u b) same
    ∙ (array_tree b
    ∙ ap (node (array (basic byte))) (ap (λ xs. each (child_value b) (children_at (length b) xs)) (elements_stay b) ∙ trees_from b 0 (length b) (omega arith)))
