-- The value of syntax at a type that it admits has that type.
use Rattle.std.proofs.Common.{◌≡◌, ℕ, Bool, true, false, cond, List, Option, Some, None, Result, Ok, Err, refl}
use Rattle.gv_model.specs.Ty.{Ty, Types, Basic}
use Rattle.gv_model.specs.Ty.Ty.{basic, variant, array, maybe, tuple, entry}
use Rattle.gv_model.specs.Tree.{Tree, Trees, type_of}
use Rattle.gv_model.specs.Ty.Basic.{boolean, byte, int16, uint16, int32, uint32, int64, uint64, handle, double, string, path, signature}
use Rattle.gv_model.specs.Tree.Tree.{text}
use Rattle.gv_model.specs.Tree.Trees.{none as no_tree}
use Rattle.gv_model.specs.Texts.{is_object_path, is_signature}
use Rattle.gv_model.specs.Literals.ValueFault.{bad_object_path, bad_signature}
use Rattle.gv_model.specs.Syntax.{Syntax}
use Rattle.gv_model.specs.Syntax.Syntax.{truth, integer, quoted, bytes, list, tuple_of, dictionary, lone, boxed, just, nothing, at_type, keyword}
use Rattle.gv_model.specs.Chosen.{Choice}
use Rattle.gv_model.specs.Literals.{ValueFault, integer_at, or_out_of_range, text_at, byte_string_trees}
use Rattle.gv_model.specs.TextValues.{literal_value, at_maybes, at_basic, at_array, at_tuple, at_entry, at_maybe, in_node, only_one, at_variant, with_first, elements, members_of, entries}

-- Ok gives a tree of that type
abbrev OfType : Result Tree ValueFault → Ty → Type 0
OfType (Ok v) t = type_of v ≡ t
OfType (Err e) t = Unit {0}

node_type : (t : Ty) (r : Result Trees ValueFault) → OfType (in_node t r) t
node_type t (Ok vs) = refl
node_type t (Err e) = tt

maybes_type : (f : Ty → Result Tree ValueFault) → ((t : Ty) → OfType (f t) t) → (t : Ty) → OfType (at_maybes f t) t
maybes_type f h (maybe t) = node_type (maybe t) (only_one (at_maybes f t))
maybes_type f h (basic k) = h (basic k)
maybes_type f h variant = h variant
maybes_type f h (array t) = h (array t)
maybes_type f h (tuple ts) = h (tuple ts)
maybes_type f h (entry k t) = h (entry k t)

array_type : (f : Ty → Result Trees ValueFault) (t : Ty) → OfType (at_array f t) t
array_type f (array t) = node_type (array t) (f t)
array_type f _ = tt

tuple_type : (f : Types → Result Trees ValueFault) (t : Ty) → OfType (at_tuple f t) t
tuple_type f (tuple ts) = node_type (tuple ts) (f ts)
tuple_type f _ = tt

entry_type : (f g : Ty → Result Tree ValueFault) (t : Ty) → OfType (at_entry f g t) t
entry_type f g (entry k t) = node_type (entry k t) (with_first (f (basic k)) (only_one (g t)))
entry_type f g _ = tt

maybe_type : (f : Ty → Result Trees ValueFault) (t : Ty) → OfType (at_maybe f t) t
maybe_type f (maybe t) = node_type (maybe t) (f t)
maybe_type f _ = tt

variant_type : (r : Result Trees ValueFault) (t : Ty) → OfType (at_variant r t) t
variant_type r variant = node_type variant r
variant_type r _ = tt

basic_type : (f : Basic → Result Tree ValueFault) → ((k : Basic) → OfType (f k) (basic k)) → (t : Ty) → OfType (at_basic f t) t
basic_type f h (basic k) = h k
basic_type f h _ = tt

in_range_type : (k : Basic) (n : Option ℕ) → OfType (or_out_of_range k n) (basic k)
in_range_type k (Some n) = refl
in_range_type k None = tt

integer_type : (b : Bool) (n : ℕ) (k : Basic) → OfType (integer_at k b n) (basic k)
integer_type b n double = tt
integer_type b n boolean = in_range_type boolean _
integer_type b n byte = in_range_type byte _
integer_type b n int16 = in_range_type int16 _
integer_type b n uint16 = in_range_type uint16 _
integer_type b n int32 = in_range_type int32 _
integer_type b n uint32 = in_range_type uint32 _
integer_type b n int64 = in_range_type int64 _
integer_type b n uint64 = in_range_type uint64 _
integer_type b n handle = in_range_type handle _
integer_type b n string = in_range_type string _
integer_type b n path = in_range_type path _
integer_type b n signature = in_range_type signature _

chosen_type : (b : Bool) (v : Tree) (e : ValueFault) (t : Ty) → type_of v ≡ t → OfType (cond b (Ok v) (Err e)) t
chosen_type true v e t h = h
chosen_type false v e t h = tt

text_type : (s : List ℕ) (k : Basic) → OfType (text_at k s) (basic k)
text_type s path = chosen_type (is_object_path s) (text path s) bad_object_path (basic path) refl
text_type s signature = chosen_type (is_signature s) (text signature s) bad_signature (basic signature) refl
text_type s _ = refl

-- what syntax gives at a type is a tree of that type, or a fault
pub value_type : (choose : Syntax → Choice) (x : Syntax) (t : Ty) → OfType (literal_value choose x t) t
unfolding literal_value
value_type choose (truth true) t = maybes_type _ (basic_type _ (λ k. refl)) t
value_type choose (truth false) t = maybes_type _ (basic_type _ (λ k. refl)) t
value_type choose (integer b n) t = maybes_type (at_basic (λ k. integer_at k b n)) (basic_type (λ k. integer_at k b n) (integer_type b n)) t
value_type choose (quoted s) t = maybes_type (at_basic (λ k. text_at k s)) (basic_type (λ k. text_at k s) (text_type s)) t
value_type choose (bytes s) t = maybes_type (at_array (λ u. Ok (byte_string_trees s))) (array_type (λ u. Ok (byte_string_trees s))) t
value_type choose (list xs) t = maybes_type (at_array (elements choose xs)) (array_type (elements choose xs)) t
value_type choose (tuple_of xs) t = maybes_type (at_tuple (members_of choose xs)) (tuple_type (members_of choose xs)) t
value_type choose (dictionary ps) t = maybes_type (at_array (entries choose ps)) (array_type (entries choose ps)) t
value_type choose (lone k v) t = maybes_type (at_entry (literal_value choose k) (literal_value choose v)) (entry_type (literal_value choose k) (literal_value choose v)) t
value_type choose (boxed x) t = maybes_type (at_variant _) (variant_type _) t
value_type choose (just x) t = maybe_type _ t
value_type choose nothing t = maybe_type (λ u. Ok no_tree) t
value_type choose (at_type u x) t = value_type choose x t
value_type choose (keyword k x) t = value_type choose x t
