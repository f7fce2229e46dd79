-- The types that a type within the limits is made of are within them, too; so are those of a
-- value's children.
use Rattle.std.proofs.Common.{ℕ, zero, suc, ◌≤◌, ◌≡◌, List, [], ◌∷◌, length, Some, arith, subst}
use Rattle.std.specs.Prelude.{slice_get}
use Rattle.std.proofs.lemmas.List.{length-append}
use Rattle.std.proofs.lemmas.Option.{none-some, same_Some}
use Rattle.gv_model.specs.Ty.{Ty, Types, Basic, members, spelling, spellings, nesting, greatest_nesting}
use Rattle.gv_model.specs.Ty.Ty.{basic, variant, array, maybe, tuple, entry}
use Rattle.gv_model.specs.Ty.Types.{end, member}
use Rattle.gv_model.specs.TypeText.{IsWithinLimits}
use Rattle.gv_model.specs.Layout.{fixed_size}
use Rattle.gv_model.specs.Children.{Child, Span, children_at}
use Rattle.gv_model.specs.Variants.{variant_span, at_last_zero}
use Rattle.gv_model.specs.Decode.{cut, spans, body}
use Rattle.gv_model.proofs.TypeTextLaws.{limits_of, within_limits}
use Rattle.gv_model.proofs.DecodeLaws.{Each, OfTypes, OfMembers, of_elements, of_just, of_tuple, each_ordered}
use Rattle.gv_model.proofs.WellTyped.{variant_limits}

-- a type within the limits of depth and length
pub record IsLimited (t : Ty) : Type 0 where
  pub shallow : nesting t ≤ 128
  pub short : length (spelling t) ≤ 67108864

pub limited : (t : Ty) → IsWithinLimits t → IsLimited t
limited t h = let m = limits_of t (spelling t) h in record { shallow = m.0; short = m.1 }

-- ---- the types that a type is made of

-- members in order
pub record AreLimited (ts : Types) : Type 0 where
  pub shallow : greatest_nesting ts ≤ 128
  pub short : length (spellings ts) ≤ 67108864

pub in_array : (t : Ty) → IsLimited (array t) → IsLimited t
unfolding nesting spelling
in_array t l = let a = l.shallow in let b = l.short in record { shallow = omega arith; short = omega arith }

pub in_maybe : (t : Ty) → IsLimited (maybe t) → IsLimited t
unfolding nesting spelling
in_maybe t l = let a = l.shallow in let b = l.short in record { shallow = omega arith; short = omega arith }

pub in_tuple : (ts : Types) → IsLimited (tuple ts) → AreLimited ts
unfolding nesting spelling
in_tuple ts l = let a = l.shallow in let b = l.short in let n = length-append (spellings ts) (41 ∷ []) in record { shallow = omega arith; short = omega arith }

pub in_entry : (k : Basic) (t : Ty) → IsLimited (entry k t) → AreLimited (members (entry k t))
unfolding nesting spelling
in_entry k t l =
    let a = l.shallow in let b = l.short in let n = length-append (spelling t) (125 ∷ []) in let m = length-append (spelling t) [] in
    record { shallow = omega arith; short = omega arith }

each_member : (ts : Types) → AreLimited ts → OfMembers IsLimited ts
unfolding nesting spelling
each_member end l = tt
each_member (member t ts) l =
    let a = l.shallow in let b = l.short in let n = length-append (spelling t) (spellings ts) in
    (record { shallow = omega arith; short = omega arith }, each_member ts (record { shallow = omega arith; short = omega arith }))

-- ---- the types of a value's children

spans_limited : (t : Ty) (b : List ℕ) → IsLimited t → OfTypes IsLimited (spans t b)
unfolding spans
spans_limited (basic k) b l = tt
spans_limited variant b l = (limited (variant_span (at_last_zero b)).0 (variant_limits (at_last_zero b)), tt)
spans_limited (array t) b l = of_elements IsLimited t b (fixed_size t) (in_array t l)
spans_limited (maybe t) b l = of_just IsLimited t (length b) (fixed_size t) (in_maybe t l)
spans_limited (tuple ts) b l = of_tuple IsLimited (tuple ts) ts b (each_member ts (in_tuple ts l))
spans_limited (entry k t) b l = of_tuple IsLimited (entry k t) (members (entry k t)) b (each_member (members (entry k t)) (in_entry k t l))

abbrev OfLimitedType : Child → Type 0
OfLimitedType c = IsLimited c.type

of_spans : (n : ℕ) (xs : List (Ty × Span)) → OfTypes IsLimited xs → Each OfLimitedType (children_at n xs)
of_spans n [] h = tt
of_spans n (x ∷ xs) h = (h.0, of_spans n xs h.1)

each_at : (cs : List Child) (i : ℕ) (c : Child) → Each OfLimitedType cs → slice_get cs i ≡ Some c → OfLimitedType c
each_at [] i c h e = absurd (none-some c e)
each_at (d ∷ ds) zero c h e = subst OfLimitedType (same_Some d c e) h.0
each_at (d ∷ ds) (suc i) c h e = each_at ds i c h.1 e

-- a child's type is within the limits, where its container's is
pub child_limited : (t : Ty) (b : List ℕ) (i : ℕ) (c : Child) → IsWithinLimits t → slice_get (cut t b) i ≡ Some c → IsWithinLimits c.type
unfolding cut
child_limited t b i c h e =
    let all = each_ordered (length b) OfLimitedType (λ x l. l) (body t b) (spans t b) (of_spans (length b) (spans t b) (spans_limited t b (limited t h))) in
    let l = each_at (cut t b) i c all e in
    within_limits c.type (spelling c.type) l.shallow l.short
