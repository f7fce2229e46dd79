-- Children that are built one after the other: what is held of them, the first fault, and their types.
use Rattle.std.proofs.Common.{◌≡◌, Option, Some, None, Result, Ok, Err, refl, sym, ap, ◌∙◌, subst}
use Rattle.std.specs.Global.{Vec}
use Rattle.gv_model.specs.Ty.{Ty, Types, members}
use Rattle.gv_model.specs.Ty.Ty.{basic, maybe, tuple, entry}
use Rattle.gv_model.specs.Ty.Types.{end, member}
use Rattle.gv_model.specs.Tree.{Tree, Trees, type_of}
use Rattle.gv_model.specs.Tree.Tree.{node}
use Rattle.gv_model.specs.Tree.Trees.{none, first}
use Rattle.gv_model.specs.Typed.{AllOf, types_of}
use Rattle.gv_model.specs.Syntax.{Syntax, Syntaxes, Pairs}
use Rattle.gv_model.specs.Syntax.Syntaxes.{none as no_node, first as first_node}
use Rattle.gv_model.specs.Syntax.Pairs.{no_pair, pair}
use Rattle.gv_model.specs.Chosen.{Choice}
use Rattle.gv_model.specs.Admits.{Admits, Admit, KeysAdmit, ValuesAdmit, IsTupleOf, IsEntryOf}
use Rattle.gv_model.specs.Literals.{ValueFault as TheFault}
use Rattle.gv_model.specs.TextValues.{literal_value, elements, members_of, entries, with_first, in_node, only_one, at_entry, at_maybe}
use Rattle.gv_model.proofs.TextValueLaws.{value_type}
use Rattle.gv_types.specs.TypeStr.{ty}
use Rattle.gv_types.specs.declared.type_str.TypeStr.{TypeStr}
use Rattle.gv_infer.specs.BareTypes.{AreEntryTypes}
use Rattle.gv_infer.specs.Building.{BuildsTo, IsBuilt, entry_node}
use Rattle.gv_infer.specs.Children.{IsBuiltFrom, AllBuildTo, with_last, all_before, AllOfType, IsTupleTypeOf, AreBuilt, IsBuiltSoFar}
use Rattle.gv_infer.specs.declared.children.BuiltTrees.{BuiltTrees}
use Rattle.refused.specs.declared.Refused.{Refused}
use Rattle.gv_infer.specs.declared.fault.ValueFlaw.{ValueFlaw}
use Rattle.gv_infer.proofs.MadeTrees.{fault_as}

before_after : (vs : Trees) (v : Tree) (rest : Result Trees TheFault) → all_before (with_last vs v) rest ≡ all_before vs (with_first (Ok v) rest)
before_after none v rest = refl
before_after (first u vs) v rest = ap (with_first (Ok u)) (before_after vs v rest)

before_fault : (vs : Trees) (rest : Result Trees TheFault) (f : TheFault) → rest ≡ Err f → all_before vs rest ≡ Err f
before_fault none rest f h = h
before_fault (first u vs) rest f h = ap (with_first (Ok u)) (before_fault vs rest f h)

before_end : (vs : Trees) → all_before vs (Ok none) ≡ Ok vs
before_end none = refl
before_end (first u vs) = ap (with_first (Ok u)) (before_end vs)

-- before the first child
pub held_none : (whole rest : Result Trees TheFault) (c : BuiltTrees) → whole ≡ rest → IsBuiltFrom c none → IsBuiltSoFar whole rest c
held_none whole rest c e h = record { prefix = none; held = h; more = e }

-- a child more
pub held_next : (whole rest left : Result Trees TheFault) (child : Result Tree TheFault) (old new : BuiltTrees) (o : Option Tree) → IsBuiltSoFar whole rest old
    → rest ≡ with_first child left → IsBuilt child (Ok o) → ((vs : Trees) (v : Tree) → IsBuiltFrom old vs → BuildsTo o v → IsBuiltFrom new (with_last vs v))
    → IsBuiltSoFar whole left new
held_next whole rest left child old new o h e b p = record {
  prefix = with_last h.prefix b.0;
  held = p h.prefix b.0 h.held b.2;
  more = h.more ∙ (ap (all_before h.prefix) (e ∙ ap (λ x. with_first x left) b.1) ∙ sym (before_after h.prefix b.0 left));
}

-- a child that has a fault, after others that have none
pub held_fault : (whole rest left : Result Trees TheFault) (child : Result Tree TheFault) (c : BuiltTrees) (e : Refused ValueFlaw) → IsBuiltSoFar whole rest c → rest ≡ with_first child left → IsBuilt child (Err e) → AreBuilt whole (Err e)
held_fault whole rest left child c e h is b = fault_as (λ f. child ≡ Err f) (λ f. whole ≡ Err f) e (λ f g. h.more ∙ before_fault h.prefix rest f (is ∙ ap (λ x. with_first x left) g)) b

-- the last child was there
pub held_all : (whole rest : Result Trees TheFault) (c : BuiltTrees) (o : Option (Vec Tree)) → IsBuiltSoFar whole rest c → rest ≡ Ok none → ((vs : Trees) → IsBuiltFrom c vs → AllBuildTo o vs) → AreBuilt whole (Ok o)
held_all whole rest c o h e p = (h.prefix, h.more ∙ (ap (all_before h.prefix) e ∙ before_end h.prefix), p h.prefix h.held)

ok_trees : (us vs : Trees) → ◌≡◌ {A = Result Trees TheFault} (Ok us) (Ok vs) → us ≡ vs
ok_trees us vs e = cc

ok_tree : (u v : Tree) → ◌≡◌ {A = Result Tree TheFault} (Ok u) (Ok v) → u ≡ v
ok_tree u v e = cc

-- the first of trees, and the others
record IsFirst (r : Result Tree TheFault) (rest : Result Trees TheFault) (us : Trees) : Type 0 where
  v : Tree
  vs : Trees
  head : r ≡ Ok v
  tail : rest ≡ Ok vs
  is : first v vs ≡ us

first_of : (r : Result Tree TheFault) (rest : Result Trees TheFault) (us : Trees) → with_first r rest ≡ Ok us → IsFirst r rest us
first_of (Err e) rest us h = absurd cc
first_of (Ok v) (Err e) us h = absurd cc
first_of (Ok v) (Ok vs) us h = record { v = v; vs = vs; head = refl; tail = refl; is = ok_trees _ us h }

value_has_type : (choose : Syntax → Choice) (x : Syntax) (t : Ty) (v : Tree) → literal_value choose x t ≡ Ok v → type_of v ≡ t
value_has_type choose x t v e = rw e at (value_type choose x t)

node_has_type : (t : Ty) (r : Result Trees TheFault) (v : Tree) → in_node t r ≡ Ok v → type_of v ≡ t
node_has_type t (Ok vs) v e = sym (ap type_of (ok_tree _ v e))
node_has_type t (Err f) v e = absurd cc

entry_has_type : (f g : Ty → Result Tree TheFault) (t : Ty) (v : Tree) → at_entry f g t ≡ Ok v → type_of v ≡ t
entry_has_type f g (entry k t) v e = node_has_type (entry k t) (with_first (f (basic k)) (only_one (g t))) v e
entry_has_type f g _ v e = absurd cc

pub elements_typed : (choose : Syntax → Choice) (xs : Syntaxes) (t : Ty) (us : Trees) → elements choose xs t ≡ Ok us → AllOf t us
unfolding literal_value
elements_typed choose no_node t us e = subst (AllOf t) (ok_trees none us e) tt
elements_typed choose (first_node x xs) t us e =
    let p = first_of (literal_value choose x t) (elements choose xs t) us e in
    subst (AllOf t) p.is (value_has_type choose x t p.v p.head, elements_typed choose xs t p.vs p.tail)

pub entries_typed : (choose : Syntax → Choice) (ps : Pairs) (t : Ty) (us : Trees) → entries choose ps t ≡ Ok us → AllOf t us
unfolding literal_value
entries_typed choose no_pair t us e = subst (AllOf t) (ok_trees none us e) tt
entries_typed choose (pair k v ps) t us e =
    let p = first_of (at_entry (literal_value choose k) (literal_value choose v) t) (entries choose ps t) us e in
    subst (AllOf t) p.is (entry_has_type (literal_value choose k) (literal_value choose v) t p.v p.head, entries_typed choose ps t p.vs p.tail)

members_typed : (choose : Syntax → Choice) (xs : Syntaxes) (ts : Types) (us : Trees) → Admit xs ts → members_of choose xs ts ≡ Ok us → types_of us ≡ ts
unfolding literal_value
members_typed choose no_node end us h e = sym (ap types_of (ok_trees none us e))
members_typed choose no_node (member t ts) us h e = absurd h
members_typed choose (first_node x xs) end us h e = absurd h
members_typed choose (first_node x xs) (member t ts) us h e =
    let p = first_of (literal_value choose x t) (members_of choose xs ts) us e in
    let head = value_has_type choose x t p.v p.head in
    let tail = members_typed choose xs ts p.vs h.1 p.tail in
    sym (ap types_of p.is) ∙ rw (head, tail) refl

-- children that are built have the types that are asked of them
pub all_of_type : (t : Ty) (r : Result Trees TheFault) (o : Option (Vec Tree)) → ((us : Trees) → r ≡ Ok us → AllOf t us) → AreBuilt r (Ok o) → AllOfType t o
all_of_type t r (Some trees) typed b = subst (AllOf t) b.2 (typed b.0 b.1)
all_of_type t r None typed b = tt

pub are_members : (choose : Syntax → Choice) (xs : Syntaxes) (t : Ty) (o : Option (Vec Tree)) → IsTupleOf (Admit xs) t → AreBuilt (members_of choose xs (members t)) (Ok o) → IsTupleTypeOf t o
are_members choose xs (tuple ts) (Some trees) h b = ap tuple (sym (members_typed choose xs ts b.0 h b.1) ∙ ap types_of b.2)
are_members choose xs t None h b = tt
are_members choose xs _ (Some trees) h b = absurd h

-- a value after `just`
pub just_built : (f : Ty → Result Tree TheFault) (t u : Ty) (child : Option Tree) (r : Result (Option Tree) (Refused ValueFlaw)) → t ≡ maybe u → IsBuilt (f u) (Ok child) → ((v : Tree) → BuildsTo child v → IsBuilt (Ok (node (maybe u) (first v none))) r) → IsBuilt (at_maybe (λ x. only_one (f x)) t) r
just_built f t u child r e b j = rw e (subst (λ x. IsBuilt (in_node (maybe u) (only_one x)) r) (sym b.1) (j b.0 b.2))

-- an entry of a key and a value that are built
pub entry_built : (f g : Ty → Result Tree TheFault) (t : Ty) (o : Option (TypeStr × TypeStr)) (p : TypeStr × TypeStr) (key value : Option Tree)
    (r : Result (Option Tree) (Refused ValueFlaw)) → AreEntryTypes t o → o ≡ Some p → IsBuilt (f (ty p.0)) (Ok key) → IsBuilt (g (ty p.1)) (Ok value)
    → ((u v : Tree) → BuildsTo key u → BuildsTo value v → IsBuilt (Ok (entry_node t u v)) r) → IsBuilt (at_entry f g t) r
entry_built f g (entry k t) o p key value r h e b d m =
    let types = subst (AreEntryTypes (entry k t)) e h in
    let is_key = ap f (sym types.0) ∙ b.1 in
    let is_value = ap g (sym types.1) ∙ d.1 in
    rw (is_key, is_value) (m b.0 d.0 b.2 d.2)
entry_built f g t o p key value r h e b d m = absurd (subst (AreEntryTypes t) e h)

-- what is asked of the entries of a dictionary, of the first and of the others
pub pair_fits : (k v : Syntax) (ps : Pairs) (t : Ty) → IsEntryOf (KeysAdmit (pair k v ps)) (ValuesAdmit (pair k v ps)) t → IsEntryOf (Admits k) (Admits v) t × IsEntryOf (KeysAdmit ps) (ValuesAdmit ps) t
pair_fits k v ps (entry a b) h = ((h.0.0, h.1.0), (h.0.1, h.1.1))
pair_fits k v ps _ h = absurd h
