-- How bytes were read before: each child by its own bounds, whatever those before it.
-- GVariant Specification, "Handling Non-Normal Serialised Data", as GLib before 2.74 read. It stands here for one law
-- alone: bytes that are normal have the same value by both.
use Rattle.std.specs.Prelude.{◌≡◌, ◌≤◌, ℕ, zero, suc, ◌+◌, List, length}
use Rattle.gv_model.specs.Ty.{Ty, spelling}
use Rattle.gv_model.specs.Ty.Ty.{basic}
use Rattle.gv_model.specs.Tree.{Tree, default, depth}
use Rattle.gv_model.specs.Tree.Tree.{node}
use Rattle.gv_model.specs.BasicValue.{basic_value}
use Rattle.gv_model.specs.Children.{Child, children_at, child_bytes}
use Rattle.gv_model.specs.Decode.{spans, each}
use Rattle.gv_model.specs.Encode.{encode}

-- the children, each where it should lie if that is within the bytes
unfoldable pub earlier_cut : Ty → List ℕ → List Child
earlier_cut t b = children_at (length b) (spans t b)

abbrev pub earlier_tree_with : (Child → Tree) → Ty → List ℕ → Tree
earlier_tree_with f (basic k) b = basic_value k b
earlier_tree_with f t b = node t (each f (earlier_cut t b))

unfoldable pub earlier_within : ℕ → Ty → List ℕ → Tree
earlier_within zero t b = default t
earlier_within (suc n) t b = earlier_tree_with (λ c. earlier_within n c.type (child_bytes b c)) t b

-- The value of bytes at a type. The law that it is the tree over the values of its children, and
-- the only such function, doesn't speak of a depth.
unfoldable pub earlier_decode : Ty → List ℕ → Tree
earlier_decode t b = earlier_within (length (spelling t) + length b) t b

-- bytes that were normal
pub record WasNormal (t : Ty) (b : List ℕ) : Type 0 where
  pub written : b ≡ encode (earlier_decode t b)
  pub shallow : depth (earlier_decode t b) ≤ 128
