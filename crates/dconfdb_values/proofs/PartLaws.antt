-- The child that a view of it shows.
use Rattle.std.proofs.Common.{◌≡◌, ℕ, List, Option, Some, None, refl, sym, ap, subst, ◌∙◌}
use Rattle.std.specs.Prelude.{slice_get}
use Rattle.gv_model.specs.Ty.{Ty, spelling}
use Rattle.gv_model.specs.Ty.Ty.{tuple}
use Rattle.gv_model.specs.Ty.Types.{end}
use Rattle.gv_model.specs.Tree.{Tree, children, tree_at}
use Rattle.gv_model.specs.Tree.Tree.{node}
use Rattle.gv_model.specs.Tree.Trees.{none}
use Rattle.gv_model.specs.Children.{Child, child_bytes}
use Rattle.gv_model.specs.Decode.{cut}
use Rattle.gv_view.specs.declared.view.View.{View}
use Rattle.gv_view.specs.Views.{Lends, view_bytes, view_ty}

pub nothing_at : (v : Tree) (i : ℕ) → v ≡ node (tuple end) none → None ≡ tree_at (children v) i
unfolding tree_at
nothing_at v i h = sym (ap (λ u. tree_at (children u) i) h)

-- a child's bytes, and the text of its type
abbrev pub IsLent : List ℕ → List ℕ → List ℕ → Option Child → Type 0
IsLent b value type_text o = (c : Child) × ((o ≡ Some c) × ((value ≡ child_bytes b c) × (type_text ≡ spelling c.type)))

lent : (b value type_text : List ℕ) (o : Option Child) (v : View) → Lends b o (Some v) → value ≡ view_bytes v → type_text ≡ spelling (view_ty v)
    → IsLent b value type_text o
lent b value type_text None v lends is spelled = absurd lends
lent b value type_text (Some c) v lends is spelled = (c, (refl, (is ∙ lends.bytes, spelled ∙ ap spelling lends.type)))

-- what is handed out of a view's child is lent from what the view reads
pub lent_child : (t u : Ty) (b c value type_text : List ℕ) (i : ℕ) (v : View) → t ≡ u → b ≡ c → Lends b (slice_get (cut t b) i) (Some v) → value ≡ view_bytes v
    → type_text ≡ spelling (view_ty v) → IsLent c value type_text (slice_get (cut u c) i)
lent_child t u b c value type_text i v typed same lends is spelled =
    subst (λ a. IsLent a value type_text (slice_get (cut u a) i)) same
    (subst (λ s. IsLent b value type_text (slice_get (cut s b) i)) typed (lent b value type_text (slice_get (cut t b) i) v lends is spelled))
