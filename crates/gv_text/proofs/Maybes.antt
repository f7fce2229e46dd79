-- The texts of maybes.
use Rattle.std.proofs.Common.{◌≡◌, ◌≤◌, ◌<◌, ◌+◌, ℕ, suc, List, ◌++◌, Bool, true, false, Some, None, Result, refl, sym, ap, ◌∙◌, arith, append_assoc}
use Rattle.std.specs.Prelude.{codes}
use Rattle.std.proofs.lemmas.Result.{MatchResult-weaker}
use Rattle.std.proofs.lemmas.Option.{none-some, same_Some}
use Rattle.std.proofs.lemmas.Bool.{false≢true}
use Rattle.std.proofs.Math.Bool.{or-false}
use Rattle.gv_model.specs.Ty.{Ty}
use Rattle.gv_model.specs.Ty.Ty.{basic, variant, array, maybe, tuple, entry}
use Rattle.gv_model.specs.Tree.{Tree, Trees, children, tree_at, trees_len, depth, greatest_depth}
use Rattle.gv_model.specs.Tree.Tree.{node}
use Rattle.gv_model.specs.Tree.Trees.{none, first}
use Rattle.gv_model.specs.Decode.{decode}
use Rattle.gv_model.specs.Printed.{Text, ends_in_nothing, holds_double, text_of, type_mark, when}
use Rattle.gv_types.specs.Classes.{class_of}
use Rattle.gv_types.specs.declared.class.Class.TheVariants as classes
use Rattle.refused.specs.declared.Refused.TheVariants.{Fault}
use Rattle.gv_text.specs.declared.print_fault.PrintFlaw.TheVariants.{TooLarge}
use Rattle.gv_text.specs.Printing.{IsLevelFault, IsNothing, IsPrintedAs, PrintFault, Prints}
use Rattle.gv_text.proofs.Containers.{one_or_none, value_node}
use Rattle.gv_text.proofs.ContainerTexts.{marked_text}
use Rattle.gv_text.proofs.Figures.{of_basic}
use Rattle.gv_text.proofs.Levels.{refused_with}

no_tree : (vs : Trees) → tree_at vs 0 ≡ None → vs ≡ none
unfolding tree_at
no_tree none e = refl
no_tree (first v vs) e = absurd (none-some v (sym e))

one_tree : (vs : Trees) (u : Tree) → trees_len vs ≤ 1 → tree_at vs 0 ≡ Some u → vs ≡ first u none
unfolding tree_at trees_len
one_tree none u h e = absurd (none-some u e)
one_tree (first v none) u h e = ap (λ (w : Tree). first w none) (same_Some v u e)
one_tree (first v (first w vs)) u h e = absurd (omega arith)

-- ---- Just

-- the value v is Just of u
pub record IsJust (v u : Tree) : Type 0 where
  pub of : Ty
  pub is : v ≡ node (maybe of) (first u none)

pub is_just : (t : Ty) (b : List ℕ) (u : Tree) → class_of t ≡ classes.Maybe → tree_at (children (decode t b)) 0 ≡ Some u → IsJust (decode t b) u
is_just (maybe t) b u h e = record { of = t; is = value_node (maybe t) b tt ∙ ap (node (maybe t)) (one_tree (children (decode (maybe t) b)) u (one_or_none t b) e) }
is_just _ b u h e = absurd cc

just_of : (t : Ty) (u : Tree) → text_of (node (maybe t) (first u none)) false false ≡ when (ends_in_nothing u) (codes "just ") ++ text_of u false false
unfolding text_of
just_of t u = refl

pub just_text_of : (v u : Tree) → IsJust v u → text_of v false false ≡ when (ends_in_nothing u) (codes "just ") ++ text_of u false false
just_text_of v u j = ap (λ w. text_of w false false) j.is ∙ just_of j.of u

pub just_ends : (v u : Tree) → IsJust v u → ends_in_nothing v ≡ ends_in_nothing u
just_ends v u j = ap ends_in_nothing j.is

double_of : (t : Ty) (u : Tree) → holds_double (node (maybe t) (first u none)) ≡ holds_double u
unfolding holds_double
double_of t u = or-false (holds_double u)

pub just_double : (v u : Tree) → IsJust v u → holds_double v ≡ holds_double u
just_double v u j = ap holds_double j.is ∙ double_of j.of u

depth_of : (t : Ty) (u : Tree) → depth u < depth (node (maybe t) (first u none))
unfolding depth
depth_of t u = omega arith

pub just_deeper : (v u : Tree) → IsJust v u → depth u < depth v
just_deeper v u j = omega (arith, ap depth j.is, depth_of j.of u)

depth_is : (t : Ty) (u : Tree) → depth (node (maybe t) (first u none)) ≡ suc (depth u)
unfolding depth greatest_depth
depth_is t u = omega arith

pub just_depth : (v u : Tree) → IsJust v u → depth v ≡ suc (depth u)
just_depth v u j = ap depth j.is ∙ depth_is j.of u

-- ---- Nothing

node_nothing : (t : Ty) → IsNothing (node (maybe t) none)
unfolding holds_double
node_nothing t = record { ends = refl; plain = refl }

pub is_nothing : (t : Ty) (b : List ℕ) → class_of t ≡ classes.Maybe → tree_at (children (decode t b)) 0 ≡ None → IsNothing (decode t b)
is_nothing (maybe t) b h e = rw (value_node (maybe t) b tt, no_tree (children (decode (maybe t) b)) e) (node_nothing t)
is_nothing _ b h e = absurd cc

-- only maybes end in Nothing
pub other_ends : (t : Ty) (b : List ℕ) → (class_of t ≡ classes.Maybe → ⊥) → ends_in_nothing (decode t b) ≡ false
other_ends (maybe t) b h = absurd (h refl)
other_ends (basic k) b h = (of_basic (basic k) k b refl).just
other_ends variant b h = ap ends_in_nothing (value_node variant b tt)
other_ends (array t) b h = ap ends_in_nothing (value_node (array t) b tt)
other_ends (tuple ts) b h = ap ends_in_nothing (value_node (tuple ts) b tt)
other_ends (entry k t) b h = ap ends_in_nothing (value_node (entry k t) b tt)

pub ends_class : (t : Ty) (b : List ℕ) → ends_in_nothing (decode t b) ≡ true → class_of t ≡ classes.Maybe
ends_class (maybe t) b h = refl
ends_class (basic k) b h = absurd (false≢true (sym (other_ends (basic k) b (λ e. absurd cc)) ∙ h))
ends_class variant b h = absurd (false≢true (sym (other_ends variant b (λ e. absurd cc)) ∙ h))
ends_class (array t) b h = absurd (false≢true (sym (other_ends (array t) b (λ e. absurd cc)) ∙ h))
ends_class (tuple ts) b h = absurd (false≢true (sym (other_ends (tuple ts) b (λ e. absurd cc)) ∙ h))
ends_class (entry k t) b h = absurd (false≢true (sym (other_ends (entry k t) b (λ e. absurd cc)) ∙ h))

node_level : (t : Ty) → depth (node (maybe t) none) ≡ 1
unfolding depth greatest_depth
node_level t = refl

-- Nothing has one level
pub nothing_level : (t : Ty) (b : List ℕ) → class_of t ≡ classes.Maybe → tree_at (children (decode t b)) 0 ≡ None → depth (decode t b) ≡ 1
nothing_level (maybe t) b h e = rw (value_node (maybe t) b tt, no_tree (children (decode (maybe t) b)) e) (node_level t)
nothing_level _ b h e = absurd cc

nothing_node : (t : Ty) → text_of (node (maybe t) none) false false ≡ codes "nothing"
unfolding text_of
nothing_node t = refl

pub nothing_text : (t : Ty) (b : List ℕ) → class_of t ≡ classes.Maybe → tree_at (children (decode t b)) 0 ≡ None → text_of (decode t b) false false ≡ codes "nothing"
nothing_text (maybe t) b h e = rw (value_node (maybe t) b tt, no_tree (children (decode (maybe t) b)) e) (nothing_node t)
nothing_text _ b h e = absurd cc

-- ---- the walk inwards

-- the same values end in Nothing and hold doubles, and where it doesn't end in Nothing it is printed alike
pub record IsInside (v u : Tree) : Type 0 where
  pub ends : ends_in_nothing v ≡ ends_in_nothing u
  pub text : ends_in_nothing u ≡ false → text_of v false false ≡ text_of u false false
  pub double : holds_double v ≡ holds_double u

pub inside_just : (v w u : Tree) → IsInside v w → IsJust w u → IsInside v u
inside_just v w u i j = record {
  ends = i.ends ∙ just_ends w u j;
  text = λ e. i.text (just_ends w u j ∙ e) ∙ (just_text_of w u j ∙ ap (λ b. when b (codes "just ") ++ text_of u false false) e);
  double = i.double ∙ just_double w u j;
}

pub nothing_inside : (v u : Tree) → IsInside v u → IsNothing u → IsNothing v
nothing_inside v u i n = record { ends = i.ends ∙ n.ends; plain = i.double ∙ n.plain }

pub within : (v u : Tree) → IsInside v u → ends_in_nothing u ≡ false → depth u < depth v → IsPrintedAs v u
within v u i e deep = record { text = i.text e; double = i.double; deeper = deep }

-- a level around Nothing is written
pub just_written : {whole : Text} (v u : Tree) (old new : Text) → IsJust v u → ends_in_nothing v ≡ true → new ≡ old ++ codes "just " → old ++ text_of v false false ≡ whole → (ends_in_nothing u ≡ true) × (new ++ text_of u false false ≡ whole)
just_written v u old new j e wrote was =
    let ends = sym (just_ends v u j) ∙ e in (
      ends,
      ap (λ (l : Text). l ++ text_of u false false) wrote
          ∙ (append_assoc old (codes "just ") (text_of u false false)
          ∙ (ap (λ (l : Text). old ++ l) (sym (just_text_of v u j ∙ ap (λ b. when b (codes "just ") ++ text_of u false false) ends)) ∙ was)),
    )

-- ---- the type before a maybe

marked : (t : Ty) (vs : Trees) (annotated : Bool) → text_of (node (maybe t) vs) annotated false ≡ when annotated (type_mark (maybe t)) ++ text_of (node (maybe t) vs) false false
unfolding text_of
marked t vs annotated = refl

pub maybe_text : (t : Ty) (b : List ℕ) (annotated : Bool) → class_of t ≡ classes.Maybe → text_of (decode t b) annotated false ≡ when annotated (type_mark t) ++ text_of (decode t b) false false
maybe_text (maybe t) b annotated h = rw (value_node (maybe t) b tt) (marked t (children (decode (maybe t) b)) annotated)
maybe_text _ b annotated h = absurd cc

-- the value inside is written after the type
pub within_written : {X : Type 0} (result : Result X PrintFault) (v u : Tree) (levels left : ℕ) (annotated : Bool) (mark old mid new : Text) → IsPrintedAs v u → left + depth v ≡ levels + depth u
    → text_of v annotated false ≡ mark ++ text_of v false false → mid ≡ old ++ mark → Prints result u left false false mid new → Prints result v levels annotated false old new
within_written result v u levels left annotated mark old mid new w deeper same marks h =
    MatchResult-weaker result h (λ x p. record {
      plain = w.double ∙ p.plain;
      text = marked_text (text_of u false false) (text_of v annotated false) mark old mid new (same ∙ ap (λ (l : Text). mark ++ l) w.text) marks p.text;
      fits = omega (arith, deeper, p.fits);
    }) (refused_with _ _ _ _ left levels (λ l. omega (arith, deeper, l)) (λ d. w.double ∙ d))

-- nothing inside has levels left
pub too_deep : (v : Tree) (levels : ℕ) (f : PrintFault) → f ≡ Fault TooLarge → levels < depth v → IsLevelFault v levels f
too_deep v levels f e h = rw e h
