-- What the constructors of trees give, and how deep it is.
use Rattle.std.proofs.Common.{ℕ, ◌<◌, ◌≤◌, ◌≡◌, ◌++◌, max, List, [], ◌∷◌, Bool, true, false, Option, Some, None, Result, Ok, Err, IfOk, IfErr, refl, sym, ap, ◌∙◌, arith, subst, inl, inr}
use Rattle.gv_model.specs.Ty.{Ty, Basic, spelling, nesting}
use Rattle.gv_model.specs.Ty.Ty.{basic, variant, maybe, tuple, entry}
use Rattle.gv_model.specs.TypeText.{is_type, type_at}
use Rattle.gv_model.specs.Tree.{Tree, Trees, type_of, children, depth, greatest_depth}
use Rattle.gv_model.specs.Tree.Tree.{node}
use Rattle.gv_model.specs.Tree.Trees.{none, first}
use Rattle.gv_model.specs.Typed.{AllOf, types_of}
use Rattle.gv_model.specs.Literals.{ValueFault as TheFault}
use Rattle.gv_model.specs.TextValues.{at_maybes, in_node, only_one}
use Rattle.gv_model.proofs.TypeTextParts.{spelling-type_at}
use Rattle.gv_model.proofs.TypeTextLaws.{limits_of}
use Rattle.gv_tree.specs.Nodes.{trees_of}
use Rattle.gv_tree.specs.Faults.{IsSizeFault, IsContentFault, IsEntryFault}
use Rattle.gv_tree.specs.Wholes.{IsWhole, entry_tree, entry_at_key}
use Rattle.refused.specs.declared.Refused.{Refused}
use Rattle.refused.specs.declared.Refused.TheVariants.{Fault, Memory}
use Rattle.refused.specs.Faults.{OfFault}
use Rattle.refused.proofs.Faults.{OfFault-weaker}
use Rattle.gv_tree.specs.declared.fault.TreeFlaw.{TreeFlaw}
use Rattle.gv_tree.proofs.MadeLaws.{size_at_fault}
use Rattle.gv_tree.specs.declared.fault.TreeFlaw.TheVariants as tree_faults
use Rattle.gv_infer.specs.BareTypes.{bare_type}
use Rattle.gv_infer.specs.ValueFaults.{FaultIs, fault_of}
use Rattle.gv_infer.specs.Building.{BuildsTo, IsBuilt, IsWithinLimits, IsContainerFault, IsConstructed, IsConstructedOf, IsNoneOrOfType, AreEntryParts, entry_node}
use Rattle.gv_infer.specs.Children.{AreKeptIf, with_last, AllBuildTo, AllOfType, IsTupleTypeOf}
use Rattle.std.specs.Global.{Vec}
use Rattle.std.proofs.lemmas.Option.{same_Some}
use Rattle.gv_infer.specs.declared.fault.ValueFlaw.{ValueFlaw}

-- the type of a checked text is within the limits
pub within_type : (w : List ℕ) → is_type w ≡ true → IsWithinLimits (type_at w)
within_type w h = let p = spelling-type_at w h in rw p.0 p.1

pub record IsContainer (w : Tree) (r : Result Tree (Refused TreeFlaw)) : Type 0 where
  pub may : IfErr r IsContainerFault
  pub made : IsConstructed w r
  pub typed : IsConstructedOf (type_of w) r

pub container_of : (w : Tree) (made : Result Tree (Refused TreeFlaw)) → IsWithinLimits (type_of w) → IfOk made (λ t. t ≡ w) → IfOk made IsWhole → IfErr made (OfFault (IsSizeFault w)) → IsContainer w made
container_of w (Ok t) h e g f = record { may = tt; made = (sym e, g.levels); typed = ap type_of e }
container_of w (Err (Fault tree_faults.TooDeep)) h e g (inl f) = record { may = refl; made = f; typed = tt }
container_of w (Err (Fault tree_faults.TooDeep)) h e g (inr f) = absurd (omega (arith, f, (limits_of _ _ h).0))
container_of w (Err Memory) h e g f = record { may = tt; made = tt; typed = tt }
container_of w (Err (Fault tree_faults.TooLarge)) h e g f = absurd (omega (arith, f.long, (limits_of _ _ h).1))
container_of w (Err _) h e g f = absurd f

pub content_of : (t : Ty) (w : Tree) (made : Result Tree (Refused TreeFlaw)) → AllOf t (children w) → IsWithinLimits (type_of w) → IfOk made (λ u. u ≡ w) → IfOk made IsWhole → IfErr made (IsContentFault t w) → IsContainer w made
content_of t w (Ok u) a h e g f = container_of w (Ok u) h e g tt
content_of t w (Err x) a h e g f = container_of w (Err x) h tt tt (size_at_fault t w x a f)

pub shown_some : (o : Option Tree) (t v : Tree) → o ≡ Some t → BuildsTo o v → v ≡ t
shown_some (Some u) t v e h = h.0 ∙ cc
shown_some None t v e h = absurd cc

pub shown_none : (o : Option Tree) (v : Tree) → o ≡ None → BuildsTo o v → 128 < depth v
shown_none (Some u) v e h = absurd cc
shown_none None v e h = h

pub typed_some : (t : Ty) (o : Option Tree) (v : Tree) → o ≡ Some v → IsNoneOrOfType t o → type_of v ≡ t
typed_some t (Some u) v e h = ap type_of (sym (same_Some u v e)) ∙ h
typed_some t None v e h = absurd cc

pub deep_node : (t : Ty) (vs : Trees) → 128 < greatest_depth vs → 128 < depth (node t vs)
unfolding depth
deep_node t vs h = omega (arith, h)

pub deep_one : (t : Ty) (v : Tree) → 128 < depth v → 128 < depth (node t (first v none))
unfolding depth
deep_one t v h = omega (arith, h)

pub deep_key : (t : Ty) (u v : Tree) → 128 < depth u → 128 < depth (entry_node t u v)
unfolding depth
deep_key t u v h = omega (arith, h)

pub deep_value : (t : Ty) (u v : Tree) → 128 < depth v → 128 < depth (entry_node t u v)
unfolding depth
deep_value t u v h = omega (arith, h)

pub fault_as : (P Q : TheFault → Type 0) (e : Refused ValueFlaw) → ((f : TheFault) → P f → Q f) → FaultIs P e → FaultIs Q e
fault_as P Q e h f = OfFault-weaker (λ x. P (fault_of x)) (λ x. Q (fault_of x)) (λ x. h (fault_of x)) e f

pub maybe_built : (f : Ty → Result Tree TheFault) (t u : Ty) (child : Option Tree) (r : Result (Option Tree) (Refused ValueFlaw)) → t ≡ maybe u → IsBuilt (at_maybes f u) (Ok child) → ((v : Tree) → BuildsTo child v → IsBuilt (Ok (node (maybe u) (first v none))) r) → IsBuilt (at_maybes f t) r
maybe_built f t u child r e b j = rw e (subst (λ x. IsBuilt (in_node (maybe u) (only_one x)) r) (sym b.1) (j b.0 b.2))

pub maybe_fault : (f : Ty → Result Tree TheFault) (t u : Ty) (e : Refused ValueFlaw) → t ≡ maybe u → IsBuilt (at_maybes f u) (Err e) → IsBuilt (at_maybes f t) (Err e)
maybe_fault f t u e h b = rw h (fault_as (λ x. at_maybes f u ≡ Err x) (λ x. at_maybes f (maybe u) ≡ Err x) e (λ x g. ap (λ y. in_node (maybe u) (only_one y)) g) b)

lower : (t : Ty) → nesting (bare_type t) ≤ nesting t
unfolding nesting
lower (maybe t) = omega (arith, lower t)
lower _ = omega arith

no_less : (t : Ty) → maybe t ≡ bare_type t → ⊥
unfolding nesting
no_less t e = omega (arith, lower t, ap nesting e)

pub not_maybe_built : (f : Ty → Result Tree TheFault) (t : Ty) (r : Result (Option Tree) (Refused ValueFlaw)) → t ≡ bare_type t → IsBuilt (f (bare_type t)) r → IsBuilt (at_maybes f t) r
not_maybe_built f (maybe t) r e b = absurd (no_less t e)
not_maybe_built f _ r e b = b

pub entry_key : (t : Ty) (key value : Option Tree) (u v : Tree) → key ≡ Some u → value ≡ Some v → AreEntryParts t key value → (k : Basic) × (t ≡ entry k (type_of v)) × (type_of u ≡ basic k)
entry_key (entry k t) key value u v e g h = let typed = typed_some t value v g h.1 in (k, ap (entry k) (sym typed), typed_some (basic k) key u e h.0)
entry_key _ key value u v e g h = absurd h

-- what making an entry gives
pub entry_made : (t : Ty) (k : Basic) (u v : Tree) (made : Result Tree (Refused TreeFlaw)) → t ≡ entry k (type_of v) → type_of u ≡ basic k → IsWithinLimits t → IfOk made (λ w. Some w ≡ entry_tree u v) → IfOk made IsWhole → IfErr made (IsEntryFault (entry_tree u v)) → IsContainer (entry_node t u v) made
entry_made t k u v (Ok w) e g h m whole f = container_of (entry_node t u v) (Ok w) h (same_Some w _ (m ∙ ap (λ x. entry_at_key x u v) g ∙ ap (λ x. Some (entry_node x u v)) (sym e))) whole tt
entry_made t k u v (Err x) e g h m whole f = container_of (entry_node t u v) (Err x) h tt tt (rw e (subst (λ y. IsEntryFault (entry_at_key y u v) x) g f))

after_last : (held : List Tree) (v : Tree) → trees_of (held ++ v ∷ []) ≡ with_last (trees_of held) v
after_last [] v = refl
after_last (u ∷ held) v = ap (first u) (after_last held v)

pub greatest_after : (vs : Trees) (v : Tree) → greatest_depth (with_last vs v) ≡ max (greatest_depth vs) (depth v)
unfolding depth
greatest_after none v = omega arith
greatest_after (first u vs) v = omega (arith, greatest_after vs v)

pub held_more : (shallow : Bool) (held new : List Tree) (t v : Tree) (vs : Trees) → new ≡ held ++ t ∷ [] → AreKeptIf shallow held vs → v ≡ t → AreKeptIf shallow new (with_last vs v)
held_more true held new t v vs e h g = rw (e, g, h) (sym (after_last held t))
held_more false held new t v vs e h g = omega (arith, h, greatest_after vs v)

pub deep_more : (shallow : Bool) (held : List Tree) (v : Tree) (vs : Trees) → 128 < depth v → 128 < greatest_depth (with_last vs v)
deep_more shallow held v vs h = omega (arith, h, greatest_after vs v)

pub variant_within : IsWithinLimits variant
unfolding spelling nesting
variant_within = refl

pub shown_list : (o : Option (Vec Tree)) (trees : Vec Tree) (vs : Trees) → o ≡ Some trees → AllBuildTo o vs → vs ≡ trees_of trees.items
shown_list (Some us) trees vs e h = h ∙ ap (λ (o : Option (Vec Tree)). trees_or_none o) e
  where
    trees_or_none : Option (Vec Tree) → Trees
    trees_or_none (Some ts) = trees_of ts.items
    trees_or_none None = none
shown_list None trees vs e h = absurd cc

pub shown_no_list : (o : Option (Vec Tree)) (vs : Trees) → o ≡ None → AllBuildTo o vs → 128 < greatest_depth vs
shown_no_list (Some us) vs e h = absurd cc
shown_no_list None vs e h = h

pub all_of_some : (t : Ty) (o : Option (Vec Tree)) (trees : Vec Tree) → o ≡ Some trees → AllOfType t o → AllOf t (trees_of trees.items)
all_of_some t o trees e h = subst (AllOfType t) e h

pub members_of_some : (t : Ty) (o : Option (Vec Tree)) (trees : Vec Tree) → o ≡ Some trees → IsTupleTypeOf t o → t ≡ tuple (types_of (trees_of trees.items))
members_of_some t o trees e h = subst (IsTupleTypeOf t) e h
