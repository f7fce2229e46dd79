-- The types of containers, by the sizes of their children.
use Rattle.std.proofs.Common.{ℕ, ◌+◌, ◌≡◌, min, List, [], ◌∷◌, ◌++◌, length, ap, ◌∙◌, arith, length-append, Option, Some, None}
use Rattle.std.proofs.lemmas.List.{append-nil}
use Rattle.std.specs.Prelude.{Result, Ok, Err, MatchResult, MatchOption}
use Rattle.gv_model.specs.Ty.{Ty, Basic, letter, spelling, spellings, nesting, members}
use Rattle.gv_model.specs.Ty.Ty.{basic, maybe, tuple, entry}
use Rattle.gv_model.specs.Ty.Types.{end, member}
use Rattle.gv_model.specs.Tree.{Tree as Value, Trees, type_of, children}
use Rattle.gv_model.specs.Tree.Tree.{node}
use Rattle.gv_model.specs.Tree.Trees.{none, first}
use Rattle.gv_model.specs.Typed.{MayHold, AllOf, types_of}
use Rattle.gv_model.proofs.Prefixes.{nesting-positive}
use Rattle.refused.specs.declared.Refused.{Refused}
use Rattle.refused.specs.declared.Refused.TheVariants.{Fault, Memory}
use Rattle.refused.specs.Faults.{OfFault}
use Rattle.gv_tree.specs.declared.sums.Sums.{Sums}
use Rattle.gv_tree.specs.declared.fault.TreeFlaw.{TreeFlaw}
use Rattle.gv_tree.specs.declared.fault.TreeFlaw.TheVariants.{HasNul, BadObjectPath, BadSignature, WrongType, KeyNotBasic, TooDeep, TooLarge}
use Rattle.gv_tree.specs.Nodes.{trees_of, trees_of_option}
use Rattle.gv_tree.specs.Faults.{IsSizeFault, IsContentFault}
use Rattle.gv_tree.specs.Sums.{top, AreWhole, SumsAre, IsWith, IsSized, ContentIs}
use Rattle.gv_tree.proofs.ListLaws.{none_other}
use Rattle.gv_tree.proofs.SumLaws.{sums_start, sums_step, sums_end}

-- ---- one tree, and two

pub one_sum : (s r : Sums) (v : Value) → SumsAre s none → IsWith s v r → SumsAre r (first v none)
one_sum s r v h g = sums_end r (first v none) (omega (arith, g.values)) (omega (arith, g.type_bytes)) (sums_step s r v none (first v none) (sums_start s (first v none) h) g)

pub two_sums : (s r q : Sums) (v u : Value) → SumsAre s none → IsWith s v r → IsWith r u q → SumsAre q (first v (first u none))
two_sums s r q v u h g f =
    let all = first v (first u none) in
    sums_end q all (omega (arith, f.values)) (omega (arith, f.type_bytes)) (sums_step r q u none all (sums_step s r v (first u none) all (sums_start s all h) g) f)

-- ---- tuples

pub tuple_levels : (s : Sums) (vs : Trees) → SumsAre s vs → s.type_levels + 1 ≡ nesting (tuple (types_of vs))
unfolding nesting
tuple_levels s vs h = omega (arith, h.type_levels)

pub tuple_bytes : (s : Sums) (vs : Trees) (n : ℕ) → SumsAre s vs → n ≡ min (s.type_bytes + 2) top → n ≡ min (length (spelling (tuple (types_of vs)))) top
unfolding spelling
tuple_bytes s vs n h e = omega (arith, h.type_bytes, e, length-append (spellings (types_of vs)) (41 ∷ []))

-- ---- entries

pub entry_levels : (s : Sums) (k : Basic) (key value : Value) → SumsAre s (first key (first value none)) → type_of key ≡ basic k → s.type_levels + 1 ≡ nesting (entry k (type_of value))
unfolding nesting
entry_levels s k key value h e = omega (arith, h.type_levels, ap nesting e, nesting-positive (type_of value))

pub entry_bytes : (s : Sums) (k : Basic) (key value : Value) (n : ℕ) → SumsAre s (first key (first value none)) → type_of key ≡ basic k → n ≡ min (s.type_bytes + 2) top → n ≡ min (length (spelling (entry k (type_of value)))) top
unfolding spelling
entry_bytes s k key value n h e f =
    omega (arith, h.type_bytes, f, ap (λ (t : Ty). length (spelling t)) e, length-append (spelling (type_of key)) (spelling (type_of value) ++ []), length-append (spelling (type_of value)) [], length-append (spelling (type_of value)) (125 ∷ []))

pub entry_members : (k : Basic) (key value : Value) → type_of key ≡ basic k → types_of (first key (first value none)) ≡ members (entry k (type_of value))
entry_members k key value e = ap (λ (t : Ty). member t (member (type_of value) end)) e

pub entry_text : (k : Basic) (key value : Value) → type_of key ≡ basic k → 123 ∷ (spellings (types_of (first key (first value none))) ++ 125 ∷ []) ≡ spelling (entry k (type_of value))
unfolding spelling
entry_text k key value e =
    ap (λ (t : Ty). 123 ∷ ((spelling t ++ (spelling (type_of value) ++ [])) ++ 125 ∷ [])) e ∙ ap (λ (s : List ℕ). 123 ∷ letter k ∷ (s ++ 125 ∷ [])) (append-nil (spelling (type_of value)))

-- ---- arrays and maybes

-- the sizes of a container of children of one type
pub content_sizes : (t u : Ty) (vs : Trees) (r : Result Sums TreeFlaw) → AllOf t vs → AreWhole vs → MatchResult r (λ s. IsSized s (node u vs)) (IsSizeFault (node u vs)) → ContentIs t (node u vs) r
content_sizes t u vs (Ok s) a w h = record { all = a; whole = w; sized = h }
content_sizes t u vs (Err (WrongType i)) a w h = absurd h
content_sizes t u vs (Err HasNul) a w h = (a, h)
content_sizes t u vs (Err BadObjectPath) a w h = (a, h)
content_sizes t u vs (Err BadSignature) a w h = (a, h)
content_sizes t u vs (Err KeyNotBasic) a w h = (a, h)
content_sizes t u vs (Err TooDeep) a w h = (a, h)
content_sizes t u vs (Err TooLarge) a w h = (a, h)

-- if all are of the type, only the size is at fault
pub size_at_fault : (t : Ty) (v : Value) (e : Refused TreeFlaw) → AllOf t (children v) → IsContentFault t v e → OfFault (IsSizeFault v) e
size_at_fault t v (Fault (WrongType i)) a h = absurd (none_other t (children v) i a h)
size_at_fault t v (Fault HasNul) a h = h.1
size_at_fault t v (Fault BadObjectPath) a h = h.1
size_at_fault t v (Fault BadSignature) a h = h.1
size_at_fault t v (Fault KeyNotBasic) a h = h.1
size_at_fault t v (Fault TooDeep) a h = h.1
size_at_fault t v (Fault TooLarge) a h = h.1
size_at_fault t v Memory a h = tt

pub option_trees : (o : Option Value) (xs : List Value) → MatchOption o (xs ≡ []) (λ x. xs ≡ x ∷ []) → trees_of xs ≡ trees_of_option o
option_trees None xs h = ap trees_of h
option_trees (Some v) xs h = ap trees_of h

pub maybe_holds : (t : Ty) (o : Option Value) → AllOf t (trees_of_option o) → MayHold (maybe t) (trees_of_option o)
maybe_holds t None h = tt
maybe_holds t (Some v) h = h.0
