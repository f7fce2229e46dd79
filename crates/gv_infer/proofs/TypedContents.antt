-- Where syntax has a value at a type, what is in each `<..>` has a type: building meets each of them.
use Rattle.std.proofs.Common.{◌≡◌, [], ◌∷◌, ◌++◌, Option, Result, Ok, Err, refl, sym, subst}
use Rattle.gv_model.specs.Ty.{Ty, Types}
use Rattle.gv_model.specs.Ty.Ty.{basic, variant, array, maybe, tuple, entry}
use Rattle.gv_model.specs.Ty.Types.{end, member}
use Rattle.gv_model.specs.Tree.{Tree, Trees}
use Rattle.gv_model.specs.Tree.Trees.{none as no_tree}
use Rattle.gv_model.specs.Syntax.{Syntax, Syntaxes, Pairs}
use Rattle.gv_model.specs.Syntax.Syntax.{list, tuple_of, dictionary, lone, boxed, just, at_type, keyword}
use Rattle.gv_model.specs.Syntax.Syntaxes.{none, first}
use Rattle.gv_model.specs.Syntax.Pairs.{no_pair, pair}
use Rattle.gv_model.specs.Chosen.{Choice}
use Rattle.gv_model.specs.Chosen.Choice.{is}
use Rattle.gv_model.specs.LeastTypes.{choice}
use Rattle.gv_model.specs.Literals.{ValueFault as TheFault}
use Rattle.gv_model.specs.TextValues.{with_first, in_node, only_one, at_maybes, at_array, at_variant, at_tuple, at_entry, at_maybe, chosen_or, literal_value, elements, members_of, entries, contents, all_contents, pairs_contents}
use Rattle.gv_infer.specs.Typings.{AreTyped}
use Rattle.gv_infer.specs.Building.{IsBuilt}
use Rattle.gv_infer.proofs.ContentLaws.{none_typed, typed_append, typed_one}

abbrev Gives : {A : Type 0} → Result A TheFault → Type 0
Gives (Ok a) = Unit {0}
Gives (Err e) = ⊥

-- What gives a whole gives its parts

in_node_gives : (t : Ty) (r : Result Trees TheFault) → Gives (in_node t r) → Gives r
in_node_gives t (Ok vs) h = tt
in_node_gives t (Err e) h = h

both_give : (v : Result Tree TheFault) (vs : Result Trees TheFault) → Gives (with_first v vs) → Gives v × Gives vs
both_give (Err e) vs h = absurd h
both_give (Ok v) (Err e) h = absurd h
both_give (Ok v) (Ok vs) h = (tt, tt)

one_gives : (t : Ty) (v : Result Tree TheFault) → Gives (in_node t (only_one v)) → Gives v
one_gives t v h = (both_give v (Ok no_tree) (in_node_gives t (only_one v) h)).0

abbrev GivesAtOne : {A : Type 0} → (Ty → Result A TheFault) → Type 0
GivesAtOne f = (u : Ty) × Gives (f u)

maybes_give : (f : Ty → Result Tree TheFault) (t : Ty) → Gives (at_maybes f t) → GivesAtOne f
maybes_give f (maybe t) h = maybes_give f t (one_gives (maybe t) (at_maybes f t) h)
maybes_give f t h = (t, h)

array_gives : (f : Ty → Result Trees TheFault) (t : Ty) → Gives (at_array f t) → GivesAtOne f
array_gives f (array t) h = (t, in_node_gives (array t) (f t) h)
array_gives f _ h = absurd h

variant_gives : (r : Result Trees TheFault) (t : Ty) → Gives (at_variant r t) → Gives r
variant_gives r variant h = in_node_gives variant r h
variant_gives r _ h = absurd h

tuple_gives : (f : Types → Result Trees TheFault) (t : Ty) → Gives (at_tuple f t) → (ts : Types) × Gives (f ts)
tuple_gives f (tuple ts) h = (ts, in_node_gives (tuple ts) (f ts) h)
tuple_gives f _ h = absurd h

entry_gives : (f g : Ty → Result Tree TheFault) (t : Ty) → Gives (at_entry f g t) → GivesAtOne f × GivesAtOne g
entry_gives f g (entry k t) h =
    let both = both_give (f (basic k)) (only_one (g t)) (in_node_gives (entry k t) (with_first (f (basic k)) (only_one (g t))) h) in
    ((basic k, both.0), (t, (both_give (g t) (Ok no_tree) both.1).0))
entry_gives f g _ h = absurd h

maybe_gives : (f : Ty → Result Trees TheFault) (t : Ty) → Gives (at_maybe f t) → GivesAtOne f
maybe_gives f (maybe t) h = (t, in_node_gives (maybe t) (f t) h)
maybe_gives f _ h = absurd h

choice_gives : (f : Ty → Result Tree TheFault) (c : Choice) → Gives (chosen_or f c) → (t : Ty) × (c ≡ is t) × Gives (f t)
choice_gives f (is t) h = (t, refl, h)
choice_gives f _ h = absurd h

mutual
  unfolding literal_value contents

  given_typed : (x : Syntax) (t : Ty) → Gives (literal_value choice x t) → AreTyped (contents x)
  given_typed (list xs) t h = (let a = maybes_give (at_array (elements choice xs)) t h in let b = array_gives (elements choice xs) a.0 a.1 in elements_typed xs b.0 b.1)
  given_typed (tuple_of xs) t h = (let a = maybes_give (at_tuple (members_of choice xs)) t h in let b = tuple_gives (members_of choice xs) a.0 a.1 in members_typed xs b.0 b.1)
  given_typed (dictionary ps) t h = (let a = maybes_give (at_array (entries choice ps)) t h in let b = array_gives (entries choice ps) a.0 a.1 in entries_typed ps b.0 b.1)
  given_typed (lone k v) t h =
      let a = maybes_give (at_entry (literal_value choice k) (literal_value choice v)) t h in
      let b = entry_gives (literal_value choice k) (literal_value choice v) a.0 a.1 in
      typed_append (contents k) (contents v) (given_typed k b.0.0 b.0.1) (given_typed v b.1.0 b.1.1)
  given_typed (boxed x) t h =
      let a = maybes_give (at_variant (only_one (chosen_or (literal_value choice x) (choice x)))) t h in
      let b = both_give (chosen_or (literal_value choice x) (choice x)) (Ok no_tree) (variant_gives (only_one (chosen_or (literal_value choice x) (choice x))) a.0 a.1) in
      let d = choice_gives (literal_value choice x) (choice x) b.0 in
      typed_append (contents x) (x ∷ []) (given_typed x d.0 d.2) (typed_one x d.0 d.1)
  given_typed (just x) t h =
      let a = maybe_gives (λ u. only_one (literal_value choice x u)) t h in
      given_typed x a.0 (both_give (literal_value choice x a.0) (Ok no_tree) a.1).0
  given_typed (at_type u x) t h = given_typed x t h
  given_typed (keyword k x) t h = given_typed x t h
  given_typed _ t h = none_typed

  elements_typed : (xs : Syntaxes) (t : Ty) → Gives (elements choice xs t) → AreTyped (all_contents xs)
  elements_typed none t h = none_typed
  elements_typed (first x xs) t h =
      let b = both_give (literal_value choice x t) (elements choice xs t) h in
      typed_append (contents x) (all_contents xs) (given_typed x t b.0) (elements_typed xs t b.1)

  members_typed : (xs : Syntaxes) (ts : Types) → Gives (members_of choice xs ts) → AreTyped (all_contents xs)
  members_typed none ts h = none_typed
  members_typed (first x xs) (member t ts) h =
      let b = both_give (literal_value choice x t) (members_of choice xs ts) h in
      typed_append (contents x) (all_contents xs) (given_typed x t b.0) (members_typed xs ts b.1)
  members_typed (first x xs) end h = absurd h

  entries_typed : (ps : Pairs) (t : Ty) → Gives (entries choice ps t) → AreTyped (pairs_contents ps)
  entries_typed no_pair t h = none_typed
  entries_typed (pair k v ps) t h =
      let b = both_give (at_entry (literal_value choice k) (literal_value choice v) t) (entries choice ps t) h in
      let e = entry_gives (literal_value choice k) (literal_value choice v) t b.0 in
      typed_append (contents k) (contents v ++ pairs_contents ps) (given_typed k e.0.0 e.0.1)
      (typed_append (contents v) (pairs_contents ps) (given_typed v e.1.0 e.1.1) (entries_typed ps t b.1))

pub built_typed : (x : Syntax) (t : Ty) (built : Option Tree) → IsBuilt (literal_value choice x t) (Ok built) → AreTyped (contents x)
built_typed x t built h = given_typed x t (subst Gives (sym h.1) tt)
