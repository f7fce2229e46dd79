-- The trees of a byte string.
use Rattle.std.proofs.Common.{◌≡◌, ℕ, List, [], ◌∷◌, ◌++◌, Option, Some, refl, sym, ap, ◌∙◌, subst}
use Rattle.std.specs.Prelude.{map, option_map}
use Rattle.gv_model.specs.Ty.{Ty}
use Rattle.gv_model.specs.Ty.Ty.{basic, array}
use Rattle.gv_model.specs.Ty.Basic.{byte}
use Rattle.gv_model.specs.Tree.{Tree}
use Rattle.gv_model.specs.Tree.Tree.{number}
use Rattle.gv_model.specs.Tree.Trees.{first}
use Rattle.gv_model.specs.Typed.{AllOf}
use Rattle.gv_model.specs.Literals.{byte_string_trees}
use Rattle.gv_model.specs.Admits.{IsArrayOf}
use Rattle.gv_types.specs.TypeStr.{ty, element_of}
use Rattle.gv_types.specs.declared.type_str.TypeStr.{TypeStr}
use Rattle.gv_tree.specs.Nodes.{trees_of}
use Rattle.gv_infer.proofs.BuildLaws.{HoldsAt, array_holds}

-- the element of an array of bytes
pub byte_element : (t : Ty) (o : Option TypeStr) (e : TypeStr) → t ≡ array (basic byte) → option_map ty o ≡ element_of t → o ≡ Some e → HoldsAt array (λ u. u ≡ basic byte) t (ty e)
byte_element t o e h g s = array_holds (λ u. u ≡ basic byte) t o e (subst (IsArrayOf (λ u. u ≡ basic byte)) (sym h) refl) g s

-- a zero byte comes after the bytes
pub with_zero_last : (s : List ℕ) → trees_of (map (number byte) s ++ number byte 0 ∷ []) ≡ byte_string_trees s
with_zero_last [] = refl
with_zero_last (c ∷ cs) = ap (first (number byte c)) (with_zero_last cs)

-- trees of all the bytes, and of a zero byte
pub bytes_whole : (old new : List Tree) (prefix s : List ℕ) → new ≡ old ++ number byte 0 ∷ [] → old ≡ map (number byte) prefix → prefix ≡ s → trees_of new ≡ byte_string_trees s
bytes_whole old new prefix s e h g = ap trees_of (e ∙ ap (λ vs. vs ++ number byte 0 ∷ []) (h ∙ ap (map (number byte)) g)) ∙ with_zero_last s

pub bytes_typed : (t : Ty) (s : List ℕ) → basic byte ≡ t → AllOf t (byte_string_trees s)
bytes_typed t [] h = (h, tt)
bytes_typed t (c ∷ cs) h = (h, bytes_typed t cs h)
