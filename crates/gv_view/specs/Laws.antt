-- Laws of views.
use Rattle.std.specs.Prelude.{◌≡◌, ℕ, List, [], ◌∷◌, Some, slice_get}
use Rattle.gv_model.specs.Decode.{cut}
use Rattle.gv_model.specs.Parts.{Part, part_at, subtree_at}
use Rattle.gv_view.specs.declared.view.View.{View}
use Rattle.gv_view.specs.Views.{view_ty, view_bytes, value, shown, Lends}

-- u is the view of child i of v
abbrev pub IsChildView : View → ℕ → View → Type 0
IsChildView v i u = Lends (view_bytes v) (slice_get (cut (view_ty v) (view_bytes v)) i) (Some u)

-- these indices lead from v to w: the first to a child of v, the second to a child of that, and so on
abbrev pub Follows : List ℕ → View → View → Type 0
Follows [] v w = w ≡ v
Follows (i ∷ is) v w = (u : View) × (IsChildView v i u × Follows is u w)

-- What indices lead to are the parts of a value. `lent`: wherever indices lead, there is that part
-- of the value, and it is read from its own bytes. `reached`: wherever there is a part, its indices
-- lead to a view of it.
pub record PartsAreLent : Type 0 where
  pub lent : (is : List ℕ) (v w : View) → Follows is v w
      → (subtree_at (value v) is ≡ Some (value w)) × (part_at (shown v) is ≡ Some (shown w))
  pub reached : (is : List ℕ) (v : View) (q : Part) → part_at (shown v) is ≡ Some q
      → (w : View) × (Follows is v w × (shown w ≡ q))
