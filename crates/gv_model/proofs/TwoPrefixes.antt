-- Two prefixes with which a text begins: they are the same, or one goes on after the other.
use Rattle.std.proofs.Common.{ℕ, suc, max, ◌≡◌, List, [], ◌∷◌, ◌++◌, refl, sym, ap, ap₂, ◌∙◌, subst, append_assoc, arith}
use Rattle.gv_model.specs.Ty.{Ty, Basic, Types, letter, spelling, spellings, nesting, greatest_nesting}
use Rattle.gv_model.specs.Ty.Ty.{variant, array, maybe, tuple, entry}
use Rattle.gv_model.specs.Ty.Types.{end}
use Rattle.gv_model.specs.Ty.Basic.{byte}
use Rattle.gv_model.specs.TypeFault.{Prefix, prefix_text, prefix_nesting}
use Rattle.gv_model.specs.TypeFault.Prefix.{nothing, array_of, maybe_of, tuple_with, entry_start, entry_with, entry_end}
use Rattle.gv_model.proofs.TypeTextLaws.{one_reading}
use Rattle.gv_model.proofs.Prefixes.{same_letter, nesting-positive, IsBegun, IsBegunType, begun, begun_first, begun_array, begun_maybe, begun_tuple, begun_key, begun_value, begun_after, Aligned, IsAfter, aligned}
use Rattle.gv_model.proofs.ListLaws.{same_head, same_tail}

abbrev pub IsBegunPrefix : Prefix → Prefix → Type 0
IsBegunPrefix g f = IsBegun (prefix_text g) (prefix_nesting g) f

-- of two prefixes
pub data Compared (f g : Prefix) : Type 0 where
  same : f ≡ g → Compared f g
  second_goes_on : IsBegunPrefix g f → Compared f g
  first_goes_on : IsBegunPrefix f g → Compared f g

turned : (f g : Prefix) → Compared f g → Compared g f
turned f g (same e) = same (sym e)
turned f g (second_goes_on h) = first_goes_on h
turned f g (first_goes_on h) = second_goes_on h

-- both within a container
within : (wrap : Prefix → Prefix) → ((f g : Prefix) → IsBegunPrefix g f → IsBegunPrefix (wrap g) (wrap f)) → (f g : Prefix) → Compared f g → Compared (wrap f) (wrap g)
within wrap step f g (same e) = same (ap wrap e)
within wrap step f g (second_goes_on h) = second_goes_on (step f g h)
within wrap step f g (first_goes_on h) = first_goes_on (step g f h)

nothing_first : (f : Prefix) → Compared nothing f
unfolding spelling spellings prefix_text prefix_nesting
nothing_first nothing = same refl
nothing_first (array_of f) = second_goes_on (begun_first _ _ 97 (prefix_text f) refl (array variant, (118 ∷ [], refl)) (omega arith))
nothing_first (maybe_of f) = second_goes_on (begun_first _ _ 109 (prefix_text f) refl (maybe variant, (118 ∷ [], refl)) (omega arith))
nothing_first (tuple_with ts f) = second_goes_on (begun_first _ _ 40 (spellings ts ++ prefix_text f) refl (tuple end, (41 ∷ [], refl)) (omega arith))
nothing_first entry_start = second_goes_on (begun_first _ _ 123 [] refl (entry byte variant, (_, refl)) (omega arith))
nothing_first (entry_with k f) = second_goes_on (begun_first _ _ 123 (letter k ∷ prefix_text f) refl (entry byte variant, (_, refl)) (omega arith))
nothing_first (entry_end k t) = second_goes_on (begun_first _ _ 123 (letter k ∷ spelling t) refl (entry byte variant, (_, refl)) (omega arith))

in_array : (f g : Prefix) → IsBegunPrefix g f → IsBegunPrefix (array_of g) (array_of f)
unfolding prefix_text prefix_nesting
in_array f g h = begun_array (prefix_text g) (prefix_nesting g) f h

in_maybe : (f g : Prefix) → IsBegunPrefix g f → IsBegunPrefix (maybe_of g) (maybe_of f)
unfolding prefix_text prefix_nesting
in_maybe f g h = begun_maybe (prefix_text g) (prefix_nesting g) f h

in_members : (ts : Types) (f g : Prefix) → IsBegunPrefix g f → IsBegunPrefix (tuple_with ts g) (tuple_with ts f)
unfolding prefix_text prefix_nesting
in_members ts f g h = begun_tuple ts (prefix_text g) (prefix_nesting g) (max (greatest_nesting ts) (prefix_nesting g)) f (omega arith) h

in_entry : (k : Basic) (f g : Prefix) → IsBegunPrefix g f → IsBegunPrefix (entry_with k g) (entry_with k f)
unfolding prefix_text prefix_nesting
in_entry k f g h = begun_value k (prefix_text g) (prefix_nesting g) (max 1 (prefix_nesting g)) f (omega arith) h

-- a further member has begun in the second
members_after : (us ts : Types) (f g : Prefix) (x y : List ℕ) → IsAfter us ts (prefix_text f ++ x) y → IsBegunPrefix (tuple_with ts g) (tuple_with us f)
unfolding prefix_text prefix_nesting
members_after us ts f g x y h = begun_after us ts (prefix_text f ++ x) y (prefix_text g) (max (greatest_nesting ts) (prefix_nesting g)) f (omega arith) h (begun f h.first _ x (sym h.rest))

tuples : (us ts : Types) (f g : Prefix) (x y : List ℕ) → (prefix_text f ++ x ≡ prefix_text g ++ y → Compared f g) → Aligned us ts (prefix_text f ++ x) (prefix_text g ++ y) → Compared (tuple_with us f) (tuple_with ts g)
tuples us ts f g x y inner (Aligned.same p q) = subst (λ vs. Compared (tuple_with us f) (tuple_with vs g)) p (within (tuple_with us) (in_members us) f g (inner q))
tuples us ts f g x y inner (Aligned.second_goes_on h) = second_goes_on (members_after us ts f g x (prefix_text g ++ y) h)
tuples us ts f g x y inner (Aligned.first_goes_on h) = first_goes_on (members_after ts us g f y (prefix_text f ++ x) h)

value_first : (k : Basic) (f : Prefix) → Compared entry_start (entry_with k f)
unfolding prefix_text prefix_nesting
value_first k f = second_goes_on (begun_key k (prefix_text f) (suc (max 1 (prefix_nesting f))) (omega arith))

end_first : (k : Basic) (t : Ty) → Compared entry_start (entry_end k t)
unfolding prefix_text prefix_nesting
end_first k t = second_goes_on (begun_key k (spelling t) (suc (nesting t)) (omega (arith, nesting-positive t)))

entries : (j k : Basic) (f g : Prefix) → j ≡ k → Compared f g → Compared (entry_with j f) (entry_with k g)
entries j k f g e h = subst (λ i. Compared (entry_with j f) (entry_with i g)) e (within (entry_with j) (in_entry j) f g h)

value_in_whole : (j k : Basic) (f : Prefix) (t : Ty) → j ≡ k → IsBegunType t f → Compared (entry_with j f) (entry_end k t)
unfolding prefix_text prefix_nesting
value_in_whole j k f t e h = subst (λ i. Compared (entry_with j f) (entry_end i t)) e (second_goes_on (begun_value j (spelling t) (nesting t) (nesting t) f (omega arith) h))

-- of two prefixes with which a text begins
pub compared : (f g : Prefix) (x y : List ℕ) → prefix_text f ++ x ≡ prefix_text g ++ y → Compared f g
unfolding prefix_text
compared nothing g x y e = nothing_first g
compared f nothing x y e = turned nothing f (nothing_first f)
compared (array_of f) (array_of g) x y e = within array_of in_array f g (compared f g x y (same_tail e))
compared (maybe_of f) (maybe_of g) x y e = within maybe_of in_maybe f g (compared f g x y (same_tail e))
compared (tuple_with us f) (tuple_with ts g) x y e =
    tuples us ts f g x y (compared f g x y) (aligned us ts (prefix_text f ++ x) (prefix_text g ++ y) (sym (append_assoc (spellings us) (prefix_text f) x) ∙ (same_tail e ∙ append_assoc (spellings ts) (prefix_text g) y)))
compared entry_start entry_start x y e = same refl
compared entry_start (entry_with k g) x y e = value_first k g
compared entry_start (entry_end k t) x y e = end_first k t
compared (entry_with k f) entry_start x y e = turned entry_start (entry_with k f) (value_first k f)
compared (entry_with j f) (entry_with k g) x y e =
    let read = same_letter j k (prefix_text f ++ x) (prefix_text g ++ y) (same_tail e) in
    entries j k f g read.0 (compared f g x y read.1)
compared (entry_with j f) (entry_end k t) x y e =
    let read = same_letter j k (prefix_text f ++ x) (spelling t ++ y) (same_tail e) in
    value_in_whole j k f t read.0 (begun f t y x (sym read.1))
compared (entry_end k t) entry_start x y e = turned entry_start (entry_end k t) (end_first k t)
compared (entry_end j t) (entry_with k g) x y e =
    let read = same_letter j k (spelling t ++ x) (prefix_text g ++ y) (same_tail e) in
    turned (entry_with k g) (entry_end j t) (value_in_whole k j g t (sym read.0) (begun g t x y read.1))
compared (entry_end j t) (entry_end k u) x y e =
    let read = same_letter j k (spelling t ++ x) (spelling u ++ y) (same_tail e) in
    same (ap₂ entry_end read.0 (one_reading t u x y read.1).0)
compared _ _ x y e = absurd (omega (arith, same_head e))
