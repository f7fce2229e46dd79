-- A container of sizes within the limits is kept as it is.
use Rattle.std.proofs.Common.{ℕ, ◌≡◌, min, List, refl, sym, ap, ap₂, ◌∙◌, subst, String, Vec, Global}
use Rattle.std.specs.Prelude.{string_bytes}
use Rattle.gv_model.specs.Ty.{Ty, spelling, nesting}
use Rattle.gv_model.specs.Tree.{Tree as Value, Trees, type_of, depth, nodes}
use Rattle.gv_model.specs.Tree.Tree.{node}
use Rattle.gv_model.specs.Tree.Trees.{none, first}
use Rattle.gv_model.specs.Typed.{AreValues, MayHold}
use Rattle.gv_model.proofs.TypeTextParts.{IsTextOfType, text_of_type}
use Rattle.gv_model.proofs.TypeTextLaws.{within_limits}
use Rattle.gv_tree.specs.declared.sums.Sums.{Sums}
use Rattle.gv_tree.specs.declared.tree.Tree.{Tree}
use Rattle.gv_tree.specs.declared.tree.Tree.TheInside.{Inside}
use Rattle.gv_tree.specs.declared.tree.Node.{Node}
use Rattle.gv_tree.specs.declared.tree.Node.TheVariants.{Container}
use Rattle.gv_tree.specs.Nodes.{trees_of, tree_of}
use Rattle.gv_tree.specs.Kept.{IsKept, KeepsType}
use Rattle.gv_tree.specs.Wholes.{IsWhole}
use Rattle.gv_tree.specs.Sums.{top, AreWhole, IsSized}

values_of_whole : (vs : Trees) → AreWhole vs → AreValues vs
values_of_whole none h = tt
values_of_whole (first v vs) h = (h.0.value, values_of_whole vs h.1)

-- a container of whole children, within the limits, is whole
pub whole_container : (t : Ty) (vs : Trees) (s : Sums) → MayHold t vs → AreWhole vs → IsSized s (node t vs) → IsWhole (node t vs)
whole_container t vs s h w z = record {
  value = (h, values_of_whole vs w);
  levels = z.low;
  limits = within_limits t (spelling t) z.type_low z.short;
}

-- the text of its type
pub container_text : (t : Ty) (vs : Trees) (s : Sums) (text : List ℕ) → text ≡ spelling t → IsSized s (node t vs) → IsTextOfType t text
container_text t vs s text e z = subst (IsTextOfType t) (sym e) (text_of_type t (spelling t) refl (within_limits t (spelling t) z.type_low z.short))

-- the tree that a container with this text and these children stands for
pub container_tree : (t : Ty) (vs : Trees) (s : Sums) (text : String Global) (children : Vec Tree Global) → string_bytes text ≡ spelling t → trees_of children.items ≡ vs → IsSized s (node t vs) → tree_of (Container text children) ≡ node t vs
container_tree t vs s text children e f z = ap₂ node (container_text t vs s (string_bytes text) e z).type f

pub kept_container : (t : Ty) (vs : Trees) (s : Sums) (text : String Global) (children : Vec Tree Global) → string_bytes text ≡ spelling t → trees_of children.items ≡ vs → MayHold t vs → AreWhole vs → IsSized s (node t vs)
    → IsKept (record { node = Container text children; levels = s.levels; type_levels = s.type_levels; values = s.values })
kept_container t vs s text children e f h w z =
    let same : tree_of (Container text children) ≡ node t vs = container_tree t vs s text children e f z in
    record {
      whole = subst IsWhole (sym same) (whole_container t vs s h w z);
      text = (container_text t vs s (string_bytes text) e z).checked;
      levels = z.levels ∙ ap depth (sym same);
      type_levels = z.type_levels ∙ ap (λ (v : Value). nesting (type_of v)) (sym same);
      values = z.values ∙ ap (λ (v : Value). min (nodes v) top) (sym same);
    }

-- a node of the same tree is kept with what is kept beside the old one
pub kept_copy : (a : Inside) (copy : Node) → IsKept a → tree_of copy ≡ tree_of a.node → KeepsType copy
    → IsKept (record { node = copy; levels = a.levels; type_levels = a.type_levels; values = a.values })
kept_copy a copy kept same text = record {
  whole = subst IsWhole (sym same) kept.whole;
  text = text;
  levels = kept.levels ∙ ap depth (sym same);
  type_levels = kept.type_levels ∙ ap (λ (v : Value). nesting (type_of v)) (sym same);
  values = kept.values ∙ ap (λ (v : Value). min (nodes v) top) (sym same);
}
