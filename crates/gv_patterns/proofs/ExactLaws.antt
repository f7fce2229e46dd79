-- The set that holds one type alone, made of the sets of its parts.
use Rattle.std.proofs.Common.{◌+◌, ◌≡◌, List, [], ◌∷◌, ◌++◌, Option, Some, None, refl, sym, ap, ap₂, ◌∙◌, arith}
use Rattle.std.specs.Prelude.{option_map, MatchOption, IsSome}
use Rattle.std.proofs.lemmas.Option.{same_Some}
use Rattle.gv_model.specs.Ty.{Ty, Types, nesting, greatest_nesting, type_list, members}
use Rattle.gv_model.specs.Ty.Ty.{basic, variant, array, maybe, tuple, entry}
use Rattle.gv_model.specs.Ty.Types.{end, member}
use Rattle.gv_model.specs.Patterns.{Pattern, Patterns, exactly, exactly_each, basics_of}
use Rattle.gv_model.specs.Patterns.Pattern.{maybe_of, strict}
use Rattle.gv_model.specs.Patterns.Bare.{array_of, tuple_with, entry_of}
use Rattle.gv_model.specs.Patterns.Patterns.{stop, next}
use Rattle.gv_model.proofs.ListLaws.{same_head, same_tail}
use Rattle.gv_types.specs.declared.type_str.TypeStr.{TypeStr}
use Rattle.gv_types.specs.declared.class.Class.{Class}
use Rattle.gv_types.specs.declared.class.Class.TheVariants as classes
use Rattle.gv_types.specs.Classes.{class_of}
use Rattle.gv_types.specs.TypeStr.{ty, element_of}
use Rattle.gv_patterns.specs.Forms.{patterns_of}
use Rattle.gv_patterns.proofs.PatternLists.{before}

-- the set of each type
abbrev pub exactly_all : List Ty → Patterns
exactly_all [] = stop
exactly_all (t ∷ ts) = next (exactly t) (exactly_all ts)

pub exactly_listed : (ts : Types) → exactly_all (type_list ts) ≡ exactly_each ts
unfolding exactly type_list
exactly_listed end = refl
exactly_listed (member t ts) = ap (next (exactly t)) (exactly_listed ts)

-- one more after those that there are
pub before_more : (ps : List Pattern) (p : Pattern) (qs : Patterns) → before (ps ++ p ∷ []) qs ≡ before ps (next p qs)
before_more [] p qs = refl
before_more (x ∷ ps) p qs = ap (next x) (before_more ps p qs)

pub before_stop : (ps : List Pattern) → before ps stop ≡ patterns_of ps
before_stop [] = refl
before_stop (p ∷ ps) = ap (next p) (before_stop ps)

element : (u : Ty) (x e : TypeStr) → ◌≡◌ {A = Option Ty} (Some (ty x)) (Some u) → ◌≡◌ {A = Option TypeStr} (Some x) (Some e) → ty e ≡ u
element u x e h g = ap ty (sym (same_Some x e g)) ∙ same_Some (ty x) u h

pub exactly_array : (t : Ty) (c : Class) (o : Option TypeStr) (e : TypeStr) → c ≡ class_of t → c ≡ classes.Array → option_map ty o ≡ element_of t → o ≡ Some e → strict (array_of (exactly (ty e))) ≡ exactly t
unfolding exactly
exactly_array t c None e a b h g = absurd cc
exactly_array (array t) c (Some x) e a b h g = ap (λ u. strict (array_of (exactly u))) (element t x e h g)
exactly_array _ c (Some x) e a b h g = absurd cc

pub exactly_maybe : (t : Ty) (c : Class) (o : Option TypeStr) (e : TypeStr) → c ≡ class_of t → c ≡ classes.Maybe → option_map ty o ≡ element_of t → o ≡ Some e → maybe_of (exactly (ty e)) ≡ exactly t
unfolding exactly
exactly_maybe t c None e a b h g = absurd cc
exactly_maybe (maybe t) c (Some x) e a b h g = ap (λ u. maybe_of (exactly u)) (element t x e h g)
exactly_maybe _ c (Some x) e a b h g = absurd cc

pub exactly_tuple : (t : Ty) (c : Class) → c ≡ class_of t → c ≡ classes.Tuple → strict (tuple_with (exactly_each (members t))) ≡ exactly t
unfolding exactly
exactly_tuple (tuple ts) c a b = refl
exactly_tuple _ c a b = absurd cc

pub tuple_nesting : (t : Ty) (c : Class) → c ≡ class_of t → c ≡ classes.Tuple → nesting t ≡ greatest_nesting (members t) + 1
unfolding nesting
tuple_nesting (tuple ts) c a b = omega arith
tuple_nesting _ c a b = absurd cc

-- an entry's key and value, as its members
pub exactly_entry : (t k v : Ty) (rest : List Ty) (c : Class) → c ≡ class_of t → c ≡ classes.Entry → type_list (members t) ≡ k ∷ v ∷ rest → strict (entry_of (basics_of (exactly k)) (exactly v)) ≡ exactly t
unfolding exactly type_list
exactly_entry (entry j u) k v rest c a b e = sym (ap₂ (λ x y. strict (entry_of (basics_of (exactly x)) (exactly y))) (same_head e) (same_head (same_tail e)))
exactly_entry _ k v rest c a b e = absurd cc

pub entry_nesting : (t k v : Ty) (rest : List Ty) (c : Class) → c ≡ class_of t → c ≡ classes.Entry → type_list (members t) ≡ k ∷ v ∷ rest → nesting t ≡ nesting v + 1
unfolding nesting type_list
entry_nesting (entry j u) k v rest c a b e = omega (arith, ap nesting (same_head (same_tail e)))
entry_nesting _ k v rest c a b e = absurd cc

-- a tuple's members are all read
pub all_exact : (ts : Types) (ps : List Pattern) (left : List Ty) → left ≡ [] → before ps (exactly_all left) ≡ exactly_each ts → patterns_of ps ≡ exactly_each ts
all_exact ts ps left e h = sym (before_stop ps) ∙ ap (λ l. before ps (exactly_all l)) (sym e) ∙ h

-- an entry has two members
pub entry_members : (t : Ty) (c : Class) → c ≡ class_of t → c ≡ classes.Entry → (k : Ty) × ((v : Ty) × (type_list (members t) ≡ k ∷ v ∷ []))
unfolding type_list
entry_members (entry j u) c a b = (basic j, (u, refl))
entry_members _ c a b = absurd cc

pub is_some_next : (o : Option TypeStr) (left rest : List Ty) (P : Type 0) (t : Ty) (ts : List Ty) → MatchOption o ((left ≡ []) × P) (λ x. left ≡ ty x ∷ rest) → left ≡ t ∷ ts → IsSome o
is_some_next None left rest P t ts h e = let none : left ≡ [] = h.0 in absurd cc
is_some_next (Some x) left rest P t ts h e = refl

pub after_next : (o : Option TypeStr) (x : TypeStr) (left rest : List Ty) (P : Type 0) → MatchOption o ((left ≡ []) × P) (λ y. left ≡ ty y ∷ rest) → o ≡ Some x → left ≡ ty x ∷ rest
after_next None x left rest P h e = absurd cc
after_next (Some y) x left rest P h e = h ∙ ap (λ z. ty z ∷ rest) (same_Some y x e)
