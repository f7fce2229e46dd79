-- A text has one fault only.
use Rattle.std.proofs.Common.{ℕ, ◌≤◌, ◌<◌, ◌≡◌, ◌⊎◌, List, [], ◌∷◌, ◌++◌, length, refl, sym, ap, ap₂, ◌∙◌, subst, append-nil, arith, inl, inr, length-append}
use Rattle.std.proofs.lemmas.List.{append_cancel_left}
use Rattle.gv_model.specs.Ty.{spelling, nesting}
use Rattle.gv_model.specs.TypeFault.{Prefix, Expected, Fault, IsFault, IsFaultWithinLength, IsBadChar, IsKeyNotBasic, IsTooDeep, FaultAt, EndsInside, GoesOn, BeginsType, IsAllowed, prefix_text, prefix_nesting, open_types, next, in_tuple}
use Rattle.gv_model.specs.TypeFault.Prefix.{nothing, array_of, maybe_of, tuple_with, entry_start, entry_with, entry_end}
use Rattle.gv_model.specs.TypeFault.Expected.{a_type, member_or_close, entry_close}
use Rattle.gv_model.specs.TypeFault.Fault.{too_long, empty, bad_char, key_not_basic, too_deep, unclosed, trailing}
use Rattle.gv_model.proofs.TypeTextLaws.{one_reading}
use Rattle.gv_model.proofs.Prefixes.{FitsAfter, begun_with, prefix_goes_on, prefix_is_shorter, nesting-positive}
use Rattle.gv_model.proofs.TwoPrefixes.{compared, IsBegunPrefix}
use Rattle.gv_model.proofs.TwoPrefixes.Compared.{same, second_goes_on, first_goes_on}
use Rattle.gv_model.proofs.ListLaws.{same_head}

-- ---- of the kinds of a byte at fault one holds

data Kind : Type 0 where
  char key depth : Kind

abbrev fault_of : Kind → ℕ → Fault
fault_of char i = bad_char i
fault_of key i = key_not_basic i
fault_of depth i = too_deep i

abbrev IsAtFault : Kind → Prefix → ℕ → Type 0
IsAtFault char f b = IsBadChar f b
IsAtFault key f b = IsKeyNotBasic f b
IsAtFault depth f b = IsTooDeep f b

type_is_no_close : a_type ≡ entry_close → ⊥
type_is_no_close e = cc

member_is_no_close : member_or_close ≡ entry_close → ⊥
member_is_no_close e = cc

key_is_no_close : Expected.key ≡ entry_close → ⊥
key_is_no_close e = cc

close_in_tuple : (f : Prefix) → in_tuple f (next f) ≡ entry_close → next f ≡ entry_close
unfolding next
close_in_tuple nothing e = absurd (member_is_no_close e)
close_in_tuple _ e = e

-- an entry's value lies deeper than the types that are open after it
deeper_before_close : (f : Prefix) → next f ≡ entry_close → open_types f < prefix_nesting f
unfolding next open_types prefix_nesting
deeper_before_close nothing e = absurd (type_is_no_close e)
deeper_before_close (array_of f) e = let inner = deeper_before_close f e in omega arith
deeper_before_close (maybe_of f) e = let inner = deeper_before_close f e in omega arith
deeper_before_close (tuple_with ts f) e = let inner = deeper_before_close f (close_in_tuple f e) in omega arith
deeper_before_close entry_start e = absurd (key_is_no_close e)
deeper_before_close (entry_with k f) e = let inner = deeper_before_close f e in omega arith
deeper_before_close (entry_end k t) e = omega (arith, nesting-positive t)

-- where types are open as deep as may be, one more may begin but for its depth
may_begin : (f : Prefix) (b : ℕ) → open_types f ≡ 128 → prefix_nesting f ≤ 128 → BeginsType b → IsAllowed (next f) b
may_begin f b e h begins = go (next f) refl
  where
    go : (w : Expected) → next f ≡ w → IsAllowed w b
    go a_type p = begins
    go member_or_close p = inl begins
    go Expected.key p = begins
    go entry_close p = absurd (omega (arith, deeper_before_close f p))

key_is_allowed : (f : Prefix) (b : ℕ) → next f ≡ Expected.key → BeginsType b → IsAllowed (next f) b
key_is_allowed f b e h = subst (λ w. IsAllowed w b) (sym e) h

one_basics : (j k : Kind) (f : Prefix) (b : ℕ) → prefix_nesting f ≤ 128 → IsAtFault j f b → IsAtFault k f b → j ≡ k
one_basics char char f b n h g = refl
one_basics char key f b n h g = absurd (h (key_is_allowed f b g.0 g.1))
one_basics char depth f b n h g = absurd (h (may_begin f b g.0 n g.1))
one_basics key char f b n h g = absurd (g (key_is_allowed f b h.0 h.1))
one_basics key key f b n h g = refl
one_basics key depth f b n h g = absurd (h.2 (g.2 h.0))
one_basics depth char f b n h g = absurd (g (may_begin f b h.0 n h.1))
one_basics depth key f b n h g = absurd (g.2 (h.2 g.0))
one_basics depth depth f b n h g = refl

-- no type goes on with a byte at fault
fits_not : (k : Kind) (n : ℕ) (f : Prefix) (b : ℕ) → n ≤ 128 → FitsAfter n f b → IsAtFault k f b → ⊥
fits_not char n f b l h g = g h.allowed
fits_not key n f b l h g = g.2 (h.key g.0)
fits_not depth n f b l h g = omega (arith, g.0, h.deep g.1)

-- ---- the fault of a text within the length, and why

data Cause (w : List ℕ) (f : Fault) : Type 0 where
  is_empty : f ≡ empty → w ≡ [] → Cause w f
  wrong_fault : (k : Kind) (i : ℕ) → f ≡ fault_of k i → FaultAt (IsAtFault k) w i → Cause w f
  ends_inside : (i : ℕ) → f ≡ unclosed i → EndsInside w i → Cause w f
  goes_on : (i : ℕ) → f ≡ trailing i → GoesOn w i → Cause w f

cause : (w : List ℕ) (f : Fault) → IsFaultWithinLength w f → Cause w f
cause w too_long h = absurd h
cause w empty h = is_empty refl h
cause w (bad_char i) h = wrong_fault char i refl h
cause w (key_not_basic i) h = wrong_fault key i refl h
cause w (too_deep i) h = wrong_fault depth i refl h
cause w (unclosed i) h = ends_inside i refl h
cause w (trailing i) h = goes_on i refl h

-- ---- two causes

not_empty : (w x rest : List ℕ) (b : ℕ) → w ≡ [] → w ≡ x ++ b ∷ rest → ⊥
not_empty w x rest b e p = omega (arith, ap length e, ap length p, length-append x (b ∷ rest))

-- a prefix after which a byte is at fault has no other that goes on with that byte
wrong_before : (k : Kind) (f g : Prefix) (b : ℕ) (x rest : List ℕ) → prefix_nesting g ≤ 128 → IsAtFault k f b → prefix_text g ++ x ≡ prefix_text f ++ b ∷ rest → IsBegunPrefix g f → ⊥
wrong_before k f g b x rest l h e begins = fits_not k (prefix_nesting g) f b l (begun_with (prefix_text g) x rest (prefix_nesting g) b f begins e) h

longer : (x y rest : List ℕ) (b : ℕ) → x ≡ y ++ b ∷ rest → length y < length x
longer x y rest b e = omega (arith, ap length e, length-append y (b ∷ rest))

wrong_and_inside : (k : Kind) (w : List ℕ) (i j : ℕ) → FaultAt (IsAtFault k) w i → EndsInside w j → ⊥
wrong_and_inside k w i j h g =
    let both : prefix_text g.prefix ++ [] ≡ prefix_text h.prefix ++ h.byte ∷ h.rest = append-nil (prefix_text g.prefix) ∙ (sym g.whole ∙ h.whole) in
    let shorter : length (prefix_text h.prefix) < length w = longer w (prefix_text h.prefix) h.rest h.byte h.whole in
    elim (compared h.prefix g.prefix (h.byte ∷ h.rest) [] (sym both)) [
      | same e ↦ omega (arith, ap length g.whole, ap (λ f. length (prefix_text f)) e)
      | second_goes_on b ↦ wrong_before k h.prefix g.prefix h.byte [] h.rest g.within h.fault both b
      | first_goes_on b ↦ omega (arith, ap length g.whole, longer (prefix_text h.prefix) (prefix_text g.prefix) b.more b.byte b.whole)
    ]

wrong_and_on : (k : Kind) (w : List ℕ) (i j : ℕ) → FaultAt (IsAtFault k) w i → GoesOn w j → ⊥
wrong_and_on k w i j h g = fits_not k (nesting g.type) h.prefix h.byte g.within (prefix_goes_on h.prefix g.type (g.byte ∷ g.rest) h.byte h.rest (sym g.whole ∙ h.whole)) h.fault

inside_and_on : (w : List ℕ) (i j : ℕ) → EndsInside w i → GoesOn w j → ⊥
inside_and_on w i j h g =
    let shorter = prefix_is_shorter h.prefix g.type (g.byte ∷ g.rest) [] (sym g.whole ∙ (h.whole ∙ sym (append-nil (prefix_text h.prefix)))) in
    omega (arith, ap length h.whole, longer w (spelling g.type) g.rest g.byte g.whole)

-- after the same prefix
wrong_there : (j k : Kind) (w : List ℕ) (i n : ℕ) (h : FaultAt (IsAtFault j) w i) (g : FaultAt (IsAtFault k) w n) → h.prefix ≡ g.prefix → fault_of j i ≡ fault_of k n
wrong_there j k w i n h g e =
    let rests : h.byte ∷ h.rest ≡ g.byte ∷ g.rest = append_cancel_left (prefix_text h.prefix) _ _ (sym h.whole ∙ (g.whole ∙ ap (λ f. prefix_text f ++ g.byte ∷ g.rest) (sym e))) in
    let fault : IsAtFault k h.prefix h.byte = subst (λ b. IsAtFault k h.prefix b) (sym (same_head rests)) (subst (λ f. IsAtFault k f g.byte) (sym e) g.fault) in
    ap₂ fault_of (one_basics j k h.prefix h.byte h.within h.fault fault) (h.place ∙ (ap (λ f. length (prefix_text f)) e ∙ sym g.place))

two_wrong : (j k : Kind) (w : List ℕ) (i n : ℕ) → FaultAt (IsAtFault j) w i → FaultAt (IsAtFault k) w n → fault_of j i ≡ fault_of k n
two_wrong j k w i n h g =
    let both : prefix_text h.prefix ++ h.byte ∷ h.rest ≡ prefix_text g.prefix ++ g.byte ∷ g.rest = sym h.whole ∙ g.whole in
    elim (compared h.prefix g.prefix (h.byte ∷ h.rest) (g.byte ∷ g.rest) both) [
      | same e ↦ wrong_there j k w i n h g e
      | second_goes_on b ↦ absurd (wrong_before j h.prefix g.prefix h.byte (g.byte ∷ g.rest) h.rest g.within h.fault (sym both) b)
      | first_goes_on b ↦ absurd (wrong_before k g.prefix h.prefix g.byte (h.byte ∷ h.rest) g.rest h.within g.fault both b)
    ]

two_on : (w : List ℕ) (i j : ℕ) → GoesOn w i → GoesOn w j → i ≡ j
two_on w i j h g = h.place ∙ (ap (λ t. length (spelling t)) (one_reading h.type g.type (h.byte ∷ h.rest) (g.byte ∷ g.rest) (sym h.whole ∙ g.whole)).0 ∙ sym g.place)

one_cause : (w : List ℕ) (f g : Fault) → Cause w f → Cause w g → f ≡ g
one_cause w f g (is_empty e h) (is_empty p k) = e ∙ sym p
one_cause w f g (is_empty e h) (wrong_fault k i p at) = absurd (not_empty w _ at.rest at.byte h at.whole)
one_cause w f g (is_empty e h) (ends_inside i p at) = absurd (at.begun h)
one_cause w f g (is_empty e h) (goes_on i p on) = absurd (not_empty w _ on.rest on.byte h on.whole)
one_cause w f g (wrong_fault k i e at) (is_empty p h) = absurd (not_empty w _ at.rest at.byte h at.whole)
one_cause w f g (wrong_fault j i e h) (wrong_fault k n p at) = e ∙ (two_wrong j k w i n h at ∙ sym p)
one_cause w f g (wrong_fault j i e h) (ends_inside n p at) = absurd (wrong_and_inside j w i n h at)
one_cause w f g (wrong_fault j i e h) (goes_on n p on) = absurd (wrong_and_on j w i n h on)
one_cause w f g (ends_inside i e at) (is_empty p h) = absurd (at.begun h)
one_cause w f g (ends_inside n e at) (wrong_fault j i p h) = absurd (wrong_and_inside j w i n h at)
one_cause w f g (ends_inside i e h) (ends_inside n p at) = e ∙ (ap unclosed (h.place ∙ sym at.place) ∙ sym p)
one_cause w f g (ends_inside i e h) (goes_on n p on) = absurd (inside_and_on w i n h on)
one_cause w f g (goes_on i e on) (is_empty p h) = absurd (not_empty w _ on.rest on.byte h on.whole)
one_cause w f g (goes_on n e on) (wrong_fault j i p h) = absurd (wrong_and_on j w i n h on)
one_cause w f g (goes_on n e on) (ends_inside i p h) = absurd (inside_and_on w i n h on)
one_cause w f g (goes_on i e h) (goes_on n p on) = e ∙ (ap trailing (two_on w i n h on) ∙ sym p)

-- too long, or within the length
by_length : (w : List ℕ) (f : Fault) → IsFault w f → ((f ≡ too_long) × (67108864 < length w)) ⊎ ((length w ≤ 67108864) × Cause w f)
by_length w too_long h = inl (refl, h)
by_length w f h = inr (h.0, cause w f h.1)

pub one_fault : (w : List ℕ) (f g : Fault) → IsFault w f → IsFault w g → f ≡ g
one_fault w f g h k = go (by_length w f h) (by_length w g k)
  where
    go : ((f ≡ too_long) × (67108864 < length w)) ⊎ ((length w ≤ 67108864) × Cause w f) → ((g ≡ too_long) × (67108864 < length w)) ⊎ ((length w ≤ 67108864) × Cause w g) → f ≡ g
    go (inl p) (inl q) = p.0 ∙ sym q.0
    go (inl p) (inr q) = absurd (omega (arith, p.1, q.0))
    go (inr p) (inl q) = absurd (omega (arith, p.0, q.1))
    go (inr p) (inr q) = one_cause w f g p.1 q.1
