-- What any bytes mean at any type.
-- GVariant Specification, "Serialisation Format" read backwards, with "Handling Non-Normal Serialised Data".
use Rattle.std.specs.Prelude.{ℕ, zero, suc, ◌+◌, List, [], ◌∷◌, length, Option, Some}
use Rattle.gv_model.specs.Ty.{Ty, spelling, members}
use Rattle.gv_model.specs.Ty.Ty.{basic, variant, array, maybe, tuple, entry}
use Rattle.gv_model.specs.Layout.{fixed_size}
use Rattle.gv_model.specs.Tree.{Tree, Trees, default}
use Rattle.gv_model.specs.Tree.Tree.{node}
use Rattle.gv_model.specs.Tree.Trees.{none, first}
use Rattle.gv_model.specs.BasicValue.{basic_value}
use Rattle.gv_model.specs.Children.{Child, Span, children_at, child_bytes, ordered}
use Rattle.gv_model.specs.Arrays.{element_spans, elements_end}
use Rattle.gv_model.specs.Maybes.{just_span}
use Rattle.gv_model.specs.Tuples.{tuple_spans, members_end}
use Rattle.gv_model.specs.Variants.{variant_span, at_last_zero}

-- where the children of a container should lie
unfoldable pub spans : Ty → List ℕ → List (Ty × Span)
spans (basic k) b = []
spans variant b = variant_span (at_last_zero b) ∷ []
spans (array t) b = element_spans t b (fixed_size t)
spans (maybe t) b = just_span t (length b) (fixed_size t)
spans (tuple ts) b = tuple_spans (tuple ts) ts b
spans (entry k t) b = tuple_spans (entry k t) (members (entry k t)) b

-- where the body of a container ends: before its framing offsets, at its end where it has none
abbrev pub body : Ty → List ℕ → Option ℕ
body (array t) b = Some (elements_end b (fixed_size t))
body (tuple ts) b = members_end (fixed_size (tuple ts)) ts b
body (entry k t) b = members_end (fixed_size (entry k t)) (members (entry k t)) b
body _ b = Some (length b)

-- the children of a container, each with its type and its place in the bytes
unfoldable pub cut : Ty → List ℕ → List Child
cut t b = children_at (length b) (ordered (body t b) (spans t b))

abbrev pub each : (Child → Tree) → List Child → Trees
each f [] = none
each f (c ∷ cs) = first (f c) (each f cs)

-- the tree of a value, over the trees of its children
abbrev pub tree_with : (Child → Tree) → Ty → List ℕ → Tree
tree_with f (basic k) b = basic_value k b
tree_with f t b = node t (each f (cut t b))

-- the same, down to a depth
unfoldable pub decode_within : ℕ → Ty → List ℕ → Tree
decode_within zero t b = default t
decode_within (suc n) t b = tree_with (λ c. decode_within n c.type (child_bytes b c)) t b

-- The value of bytes at a type. No tree is deeper than the type's text and the bytes are long; the laws
-- that it is the tree over the values of its children, and the only such function, don't speak of a depth.
unfoldable pub decode : Ty → List ℕ → Tree
decode t b = decode_within (length (spelling t) + length b) t b
