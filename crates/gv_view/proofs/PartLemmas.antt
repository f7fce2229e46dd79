-- The parts of a value, found by following children.
use Rattle.std.proofs.Common.{◌≡◌, ℕ, true, false, List, [], ◌∷◌, Option, Some, None, refl, sym, ap, ap₂, ◌∙◌, subst, arith}
use Rattle.std.specs.Prelude.{slice_get, option_map, option_and_then}
use Rattle.std.proofs.lemmas.Bool.{true≢false}
use Rattle.std.proofs.lemmas.Option.{slice_get-map, none-some, same_Some}
use Rattle.gv_model.specs.Ty.{Ty, spelling}
use Rattle.gv_model.specs.TypeText.{IsWithinLimits, is_within_limits, is_type}
use Rattle.gv_model.specs.Tree.{Tree, children, tree_at}
use Rattle.gv_model.specs.Children.{Child, child_bytes}
use Rattle.gv_model.specs.Decode.{decode, cut}
use Rattle.gv_model.specs.Parts.{Part, part_of, parts, part_at, subtree_at}
use Rattle.gv_model.proofs.ChildLaws.{child_of_value}
use Rattle.gv_model.proofs.LimitedTypes.{child_limited}
use Rattle.gv_model.proofs.TypeTextParts.{spelling-type_at, text_of_type}
use Rattle.gv_view.specs.declared.view.View.{View}
use Rattle.gv_view.specs.Views.{ShowsChild, Lends, value, shown, view_ty, view_bytes}
use Rattle.gv_view.specs.Laws.{Follows, PartsAreLent}

-- a view that shows a child has the child's value and part
shows_value : (b : List ℕ) (c : Child) (u : View) → ShowsChild b c u → decode c.type (child_bytes b c) ≡ value u
shows_value b c u h = sym (ap₂ decode h.type h.bytes)

shows_part : (b : List ℕ) (c : Child) (u : View) → ShowsChild b c u → part_of b c ≡ shown u
shows_part b c u h = sym (ap₂ (λ (t : Ty) (x : List ℕ). (t, x)) h.type h.bytes)

lent_mapped : {X : Type 0} (b : List ℕ) (u : View) (f : Child → X) (x : X) → ((c : Child) → ShowsChild b c u → f c ≡ x) → (o : Option Child) → Lends b o (Some u) → option_map f o ≡ Some x
lent_mapped b u f x h None l = absurd l
lent_mapped b u f x h (Some c) l = ap Some (h c l)

-- the view that is lent has the value and the part of the child
pub lent_tree : (t : Ty) (b : List ℕ) (i : ℕ) (u : View) → Lends b (slice_get (cut t b) i) (Some u) → tree_at (children (decode t b)) i ≡ Some (value u)
lent_tree t b i u l =
    child_of_value t b i ∙ lent_mapped b u (λ c. decode c.type (child_bytes b c)) (value u) (λ c. shows_value b c u) (slice_get (cut t b) i) l

lent_part : (t : Ty) (b : List ℕ) (i : ℕ) (u : View) → Lends b (slice_get (cut t b) i) (Some u) → slice_get (parts t b) i ≡ Some (shown u)
unfolding parts
lent_part t b i u l =
    slice_get-map (part_of b) (cut t b) i ∙ lent_mapped b u (part_of b) (shown u) (λ c. shows_part b c u) (slice_get (cut t b) i) l

subtree_step : (v : Tree) (i : ℕ) (is : List ℕ) (u : Tree) → tree_at (children v) i ≡ Some u → subtree_at v (i ∷ is) ≡ subtree_at u is
unfolding subtree_at
subtree_step v i is u e = rw e refl

part_step : (p : Part) (i : ℕ) (is : List ℕ) (q : Part) → slice_get (parts p.0 p.1) i ≡ Some q → part_at p (i ∷ is) ≡ part_at q is
unfolding part_at
part_step p i is q e = rw e refl

-- wherever indices lead, there is that part
part_lent : (is : List ℕ) (v w : View) → Follows is v w → (subtree_at (value v) is ≡ Some (value w)) × (part_at (shown v) is ≡ Some (shown w))
unfolding subtree_at part_at
part_lent [] v w h = (ap (λ (u : View). Some (value u)) (sym h), ap (λ (u : View). Some (shown u)) (sym h))
part_lent (i ∷ is) v w h =
    let u = h.0 in
    let rest = part_lent is u w h.1.1 in (
      subtree_step (value v) i is (value u) (lent_tree (view_ty v) (view_bytes v) i u h.1.0) ∙ rest.0,
      part_step (shown v) i is (shown u) (lent_part (view_ty v) (view_bytes v) i u h.1.0) ∙ rest.1,
    )

-- ---- and wherever there is a part, a view of it

-- the view of bytes at a type, which is lent from nowhere
abbrev view_at : (t : Ty) (b : List ℕ) → is_type (spelling t) ≡ true → View
view_at t b h = record {
  type_str = record {
    text = record { ref_ptr = (0, 0); now = spelling t };
    singles = 0;
    known_open = false;
    spells_type = h;
    alone = omega arith;
    «open» = λ e. absurd (true≢false (sym e));
  };
  bytes = record { ref_ptr = (0, 0); now = b };
}

type_is_limited : (v : View) → IsWithinLimits (view_ty v)
type_is_limited v =
    let text = spelling-type_at v.type_str.text.now v.type_str.spells_type in
    ap (is_within_limits (view_ty v)) text.0 ∙ text.1

-- indices lead from v to a view of a part
record IsReached (is : List ℕ) (v : View) (q : Part) : Type 0 where
  view : View
  follows : Follows is v view
  shows : shown view ≡ q

-- a view that shows a child of v's bytes
record HasChildView (v : View) (c : Child) : Type 0 where
  view : View
  shows : ShowsChild (view_bytes v) c view

child_view : (v : View) (c : Child) → IsWithinLimits c.type → HasChildView v c
child_view v c l =
    let text = text_of_type c.type (spelling c.type) refl l in
    record { view = view_at c.type (child_bytes (view_bytes v) c) text.checked; shows = record { type = text.type; bytes = refl } }

-- where indices lead from a child of v, they lead from v with the child's own index before them
from_child : (i : ℕ) (is : List ℕ) (v : View) (q : Part) → ((u : View) → part_at (shown u) is ≡ Some q → IsReached is u q)
    → (o : Option Child) → slice_get (cut (view_ty v) (view_bytes v)) i ≡ o → option_and_then (λ p. part_at p is) (option_map (part_of (view_bytes v)) o) ≡ Some q → IsReached (i ∷ is) v q
from_child i is v q rest None at e = absurd (none-some q e)
from_child i is v q rest (Some c) at e =
    let child = child_view v c (child_limited (view_ty v) (view_bytes v) i c (type_is_limited v) at) in
    let u = child.view in
    let below = rest u (ap (λ p. part_at p is) (sym (shows_part (view_bytes v) c u child.shows)) ∙ e) in
    record { view = below.view; follows = (u, (subst (λ o. Lends (view_bytes v) o (Some u)) (sym at) child.shows, below.follows)); shows = below.shows }

reached : (is : List ℕ) (v : View) (q : Part) → part_at (shown v) is ≡ Some q → IsReached is v q
unfolding part_at parts
reached [] v q e = record { view = v; follows = refl; shows = same_Some (shown v) q e }
reached (i ∷ is) v q e =
    from_child i is v q (λ u h. reached is u q h) (slice_get (cut (view_ty v) (view_bytes v)) i) refl
    (ap (option_and_then (λ p. part_at p is)) (sym (slice_get-map (part_of (view_bytes v)) (cut (view_ty v) (view_bytes v)) i)) ∙ e)

pub parts_lent : PartsAreLent
parts_lent = record { lent = part_lent; reached = λ is v q e. let r = reached is v q e in (r.view, (r.follows, r.shows)) }
