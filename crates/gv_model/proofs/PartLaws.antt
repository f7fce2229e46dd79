-- Children lie within their container's bytes, and the parts of a value are read.
use Rattle.std.proofs.Common.{ℕ, zero, suc, ◌≡◌, List, [], ◌∷◌, length, Option, Some, None, Bool, true, false, cond, nat_le, ◌&&◌, refl, sym, ap, ◌∙◌, subst, arith}
use Rattle.std.specs.Prelude.{slice_get, option_map, option_and_then}
use Rattle.std.specs.List.{AllByRecursion}
use Rattle.std.proofs.lemmas.Option.{same_Some, none-some, slice_get-map}
use Rattle.gv_model.specs.Ty.{Ty}
use Rattle.gv_model.specs.Tree.{Tree}
use Rattle.gv_model.specs.Children.{Child, Span, child_at, children_at, ordered}
use Rattle.gv_model.specs.Decode.{decode, cut, spans, body}
use Rattle.gv_model.specs.Parts.{Part, part_of, part_at, parts, subtree_at}
use Rattle.gv_model.specs.Laws.{LiesWithin}
use Rattle.gv_model.proofs.ChildLaws.{child_of_value}
use Rattle.gv_model.proofs.DecodeLaws.{child_value}

-- ---- where children lie

span_within : (n : ℕ) (t : Ty) (s : Span) → LiesWithin n (child_at n (t, s))
span_within n t None = record { ordered = omega arith; inside = omega arith }
span_within n t (Some s) = go (nat_le s.0 s.1 && nat_le s.1 n) refl
  where
    go : (test : Bool) → (nat_le s.0 s.1 && nat_le s.1 n) ≡ test → LiesWithin n (record { type = t; from = (cond test s (0, 0)).0; to = (cond test s (0, 0)).1 })
    go true e = record { ordered = grind arith; inside = grind arith }
    go false e = record { ordered = omega arith; inside = omega arith }

spans_within : (n : ℕ) (xs : List (Ty × Span)) → AllByRecursion (LiesWithin n) (children_at n xs)
spans_within n [] = tt
spans_within n (x ∷ xs) = (span_within n x.0 x.1, spans_within n xs)

at_of_all : {X : Type 0} (P : X → Type 0) (xs : List X) (i : ℕ) (x : X) → AllByRecursion P xs → slice_get xs i ≡ Some x → P x
at_of_all P [] i x h e = absurd (none-some x e)
at_of_all P (y ∷ ys) zero x h e = subst P (same_Some y x e) h.0
at_of_all P (y ∷ ys) (suc i) x h e = at_of_all P ys i x h.1 e

-- each child lies within its container's bytes
pub children_within : (t : Ty) (b : List ℕ) → AllByRecursion (LiesWithin (length b)) (cut t b)
unfolding cut
children_within t b = spans_within (length b) (ordered (body t b) (spans t b))

pub child_within : (t : Ty) (b : List ℕ) (i : ℕ) (c : Child) → slice_get (cut t b) i ≡ Some c → LiesWithin (length b) c
child_within t b i c e = at_of_all (LiesWithin (length b)) (cut t b) i c (children_within t b) e

-- ---- parts

value_of : Part → Tree
value_of p = decode p.0 p.1

along : (b is : List ℕ) (o : Option Child) → ((p : Part) → subtree_at (value_of p) is ≡ option_map value_of (part_at p is)) → option_and_then (λ v. subtree_at v is) (option_map (child_value b) o) ≡ option_map value_of (option_and_then (λ p. part_at p is) (option_map (part_of b) o))
unfolding value_of
along b is None f = refl
along b is (Some c) f = f (part_of b c)

part_is_read : (is : List ℕ) (p : Part) → subtree_at (value_of p) is ≡ option_map value_of (part_at p is)
unfolding subtree_at part_at parts value_of
part_is_read [] p = refl
part_is_read (i ∷ is) p =
    ap (option_and_then (λ v. subtree_at v is)) (child_of_value p.0 p.1 i)
    ∙ (along p.1 is (slice_get (cut p.0 p.1) i) (part_is_read is)
    ∙ ap (λ o. option_map value_of (option_and_then (λ q. part_at q is) o)) (sym (slice_get-map (part_of p.1) (cut p.0 p.1) i)))

-- what is found in a value by following children is the value of the part that is found in its bytes
pub every_part : (p : Part) (is : List ℕ) → subtree_at (decode p.0 p.1) is ≡ option_map (λ q. decode q.0 q.1) (part_at p is)
unfolding value_of
every_part p is = part_is_read is p
