-- The texts of arrays: byte strings, and elements in their brackets.
use Rattle.std.proofs.Common.{◌≡◌, ◌≤◌, ℕ, List, [], ◌∷◌, ◌++◌, Bool, true, false, ◌&&◌, Option, Some, None, IfSome, Bor, refl, sym, ap, ◌∙◌, arith}
use Rattle.std.specs.Prelude.{option_map}
use Rattle.std.proofs.lemmas.Option.{none-some}
use Rattle.gv_model.specs.Ty.{Ty, Basic}
use Rattle.gv_model.specs.Ty.Ty.{basic, variant, array, maybe, tuple, entry}
use Rattle.gv_model.specs.Ty.Basic.{byte}
use Rattle.gv_model.specs.Tree.{Tree, Trees, children, trees_len, byte_trees, depth, greatest_depth}
use Rattle.gv_model.specs.Tree.Tree.{number, text, node}
use Rattle.gv_model.specs.Tree.Trees.{none, first}
use Rattle.gv_model.specs.BasicValue.{text_in}
use Rattle.gv_model.specs.Decode.{decode}
use Rattle.gv_model.specs.Quoted.{between, byte_string}
use Rattle.gv_model.specs.Printed.{Text, comma, holds_double, hold_double, is_empty, joined_by, numbers, text_of, type_mark, when}
use Rattle.gv_types.specs.Classes.{class_of}
use Rattle.gv_types.specs.TypeStr.{element_of}
use Rattle.gv_types.specs.declared.class.Class.TheVariants as classes
use Rattle.gv_text.specs.Printing.{brackets_of, byte_string_of, child_texts}
use Rattle.gv_text.proofs.Containers.{value_node}
use Rattle.gv_text.proofs.Figures.{of_basic}

-- ---- as a byte string

pub numbers-byte_trees : (b : List ℕ) → numbers (byte_trees b) ≡ b
unfolding byte_trees
numbers-byte_trees [] = refl
numbers-byte_trees (x ∷ b) = ap (λ (l : List ℕ). x ∷ l) (numbers-byte_trees b)

other_array : (k : Basic) (vs : Trees) → (k ≡ byte → ⊥) → byte_string_of (node (array (basic k)) vs) ≡ None
other_array byte vs h = absurd (h refl)
other_array _ vs h = refl

other_node : (t : Ty) (vs : Trees) → (t ≡ array (basic byte) → ⊥) → byte_string_of (node t vs) ≡ None
other_node (array (basic k)) vs h = other_array k vs (λ e. h (ap (λ (u : Basic). array (basic u)) e))
other_node (array _) vs h = refl
other_node _ vs h = refl

-- only an array of bytes is a byte string
pub no_byte_string : (t : Ty) (b : List ℕ) → (t ≡ array (basic byte) → ⊥) → byte_string_of (decode t b) ≡ None
no_byte_string (basic k) b h = (of_basic (basic k) k b refl).bytes
no_byte_string variant b h = ap byte_string_of (value_node variant b tt) ∙ other_node variant (children (decode variant b)) h
no_byte_string (array t) b h = ap byte_string_of (value_node (array t) b tt) ∙ other_node (array t) (children (decode (array t) b)) h
no_byte_string (maybe t) b h = ap byte_string_of (value_node (maybe t) b tt) ∙ other_node (maybe t) (children (decode (maybe t) b)) h
no_byte_string (tuple ts) b h = ap byte_string_of (value_node (tuple ts) b tt) ∙ other_node (tuple ts) (children (decode (tuple ts) b)) h
no_byte_string (entry k t) b h = ap byte_string_of (value_node (entry k t) b tt) ∙ other_node (entry k t) (children (decode (entry k t) b)) h

filled_text : (annotated : Bool) (s : Text) → when (annotated && false) s ≡ []
filled_text true s = refl
filled_text false s = refl

bytes_text : (vs : Trees) (body : List ℕ) (annotated in_array : Bool) → text_in (numbers vs) ≡ Some body → text_of (node (array (basic byte)) vs) annotated in_array ≡ byte_string body
unfolding text_of text_in
bytes_text none body annotated in_array e = absurd (none-some body e)
bytes_text (first v vs) body annotated in_array e = rw (filled_text annotated (type_mark (array (basic byte))), e) refl

byte_array : (k : Basic) (vs : Trees) (body : List ℕ) (annotated in_array : Bool) → byte_string_of (node (array (basic k)) vs) ≡ Some body → text_of (node (array (basic k)) vs) annotated in_array ≡ byte_string body
byte_array byte vs body annotated in_array e = bytes_text vs body annotated in_array e
byte_array _ vs body annotated in_array e = absurd (none-some body e)

-- a byte string is printed as one
pub byte_string_text : (v : Tree) (body : List ℕ) (annotated in_array : Bool) → byte_string_of v ≡ Some body → text_of v annotated in_array ≡ byte_string body
byte_string_text (node (array (basic k)) vs) body annotated in_array e = byte_array k vs body annotated in_array e
byte_string_text (node (array _) vs) body annotated in_array e = absurd (none-some body e)
byte_string_text (node _ vs) body annotated in_array e = absurd (none-some body e)
byte_string_text (number k n) body annotated in_array e = absurd (none-some body e)
byte_string_text (text k s) body annotated in_array e = absurd (none-some body e)

bytes_plain : (b : List ℕ) → hold_double (byte_trees b) ≡ false
unfolding byte_trees holds_double
bytes_plain [] = refl
bytes_plain (x ∷ b) = bytes_plain b

pub value_bytes_plain : (v : Tree) (b : List ℕ) → v ≡ node (array (basic byte)) (byte_trees b) → holds_double v ≡ false
unfolding holds_double
value_bytes_plain v b e = ap holds_double e ∙ bytes_plain b

-- ---- how deep bytes lie

bytes_level : (b : List ℕ) → greatest_depth (byte_trees b) ≤ 1
unfolding byte_trees greatest_depth depth
bytes_level [] = omega arith
bytes_level (x ∷ b) = omega (arith, bytes_level b)

some_level : (x : ℕ) (b : List ℕ) → depth (node (array (basic byte)) (byte_trees (x ∷ b))) ≡ 2
unfolding byte_trees greatest_depth depth
some_level x b = omega (arith, bytes_level b)

-- bytes with a zero byte are not empty, so that they lie a level below their array
pub string_levels : (v : Tree) (b : List ℕ) (o : Option (Bor (List ℕ))) → v ≡ node (array (basic byte)) (byte_trees b) → option_map (λ x. x.now) o ≡ text_in b → IfSome o (λ _. depth v ≡ 2)
unfolding text_in
string_levels v b None e h = tt
string_levels v [] (Some x) e h = absurd (none-some x.now (sym h))
string_levels v (x ∷ b) (Some y) e h = ap depth e ∙ some_level x b

-- ---- as a list

-- elements in the brackets of an array of this type
abbrev pub list_text : Ty → Trees → Bool → Text
list_text t vs annotated = between (brackets_of (element_of t)).0 (joined_by comma (child_texts vs annotated true)) (brackets_of (element_of t)).1

abbrev marked : Ty → Trees → Bool → Text
marked t vs annotated = when (annotated && is_empty vs) (type_mark t) ++ list_text t vs annotated

basics_text : (k : Basic) (vs : Trees) (annotated in_array : Bool) → byte_string_of (node (array (basic k)) vs) ≡ None → text_of (node (array (basic k)) vs) annotated in_array ≡ marked (array (basic k)) vs annotated
unfolding text_of
basics_text byte vs annotated in_array e = rw e refl
basics_text _ vs annotated in_array e = refl

array_text : (t : Ty) (vs : Trees) (annotated in_array : Bool) → byte_string_of (node (array t) vs) ≡ None → text_of (node (array t) vs) annotated in_array ≡ marked (array t) vs annotated
unfolding text_of
array_text (basic k) vs annotated in_array e = basics_text k vs annotated in_array e
array_text _ vs annotated in_array e = refl

-- another array is printed as its elements in their brackets, after its type if it has none
pub value_array_text : (t : Ty) (b : List ℕ) (annotated in_array : Bool) → class_of t ≡ classes.Array → byte_string_of (decode t b) ≡ None
    → text_of (decode t b) annotated in_array ≡ when (annotated && is_empty (children (decode t b))) (type_mark t) ++ list_text t (children (decode t b)) annotated
value_array_text (array t) b annotated in_array h e =
    let is = value_node (array t) b tt in
    ap (λ v. text_of v annotated in_array) is ∙ array_text t (children (decode (array t) b)) annotated in_array (sym (ap byte_string_of is) ∙ e)
value_array_text _ b annotated in_array h e = absurd cc

pub no_child : (vs : Trees) (n : ℕ) → n ≡ trees_len vs → n ≡ 0 → is_empty vs ≡ true
unfolding trees_len
no_child none n e z = refl
no_child (first v vs) n e z = absurd (omega (arith, e, z))

pub some_child : (vs : Trees) (n : ℕ) → n ≡ trees_len vs → (n ≡ 0 → ⊥) → is_empty vs ≡ false
unfolding trees_len
some_child none n e h = absurd (h e)
some_child (first v vs) n e h = refl
