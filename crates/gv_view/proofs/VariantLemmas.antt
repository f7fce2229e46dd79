-- What a variant holds, and where.
use Rattle.std.proofs.Common.{◌≡◌, ◌≢◌, ◌<◌, ◌+◌, ◌-◌, ℕ, zero, suc, true, false, ◌==◌, nat_le, List, [], ◌∷◌, ◌++◌, length, take, drop, get_or, Option, Some, None, refl, sym, ap, ◌∙◌, subst, arith, eq-eqb, ne_eqb, eqb-true, length-append, length-drop}
use Rattle.std.specs.Prelude.{slice_get, slice_range, option_map, option_and_then}
use Rattle.std.proofs.lemmas.Option.{none-some, same_Some}
use Rattle.std.proofs.lemmas.List.{take_all}
use Rattle.std.proofs.Math.Seq.{take-append_seam}
use Rattle.memchr.specs.Find.{Nowhere, NoneAfter, Passes, is_byte}
use Rattle.gv_model.specs.Ty.{Ty, nesting, greatest_nesting}
use Rattle.gv_model.specs.Ty.Ty.{variant, tuple}
use Rattle.gv_model.specs.Ty.Types.{end}
use Rattle.gv_model.specs.TypeText.{is_type, type_at, type_of_text, seen, mark, tuple_type_before}
use Rattle.gv_model.specs.Children.{Child, bounds, child_at, child_bytes}
use Rattle.gv_model.specs.Variants.{at_last_zero, variant_span, typed_span}
use Rattle.gv_model.specs.Decode.{cut}
use Rattle.gv_model.specs.Parts.{Part}
use Rattle.gv_model.proofs.DecodeLaws.{at_last_zero_parts}
use Rattle.gv_types.specs.TypeStr.{ty}
use Rattle.gv_view.specs.declared.view.View.{View}
use Rattle.gv_view.specs.Views.{ShowsChild, Lends, shown}
use Rattle.gv_view.specs.Variants.{held, at_type_text}
use Rattle.gv_model.proofs.ChildLaws.{variant_cut}

-- ---- the last zero byte

no_last_zero : (b : List ℕ) → ((k : ℕ) → k < length b → get_or b k 0 ≢ 0) → at_last_zero b ≡ None
unfolding at_last_zero
no_last_zero [] h = refl
no_last_zero (c ∷ cs) h =
    let e : (c == 0) ≡ false = ne_eqb c 0 (h 0 (omega arith)) in
    let rest = no_last_zero cs (λ k lt. h (suc k) (omega arith)) in
    rw (rest, e) refl

last_zero : (b : List ℕ) (i : ℕ) → i < length b → get_or b i 0 ≡ 0 → ((k : ℕ) → i < k → k < length b → get_or b k 0 ≢ 0) → at_last_zero b ≡ Some (take i b, drop (suc i) b)
unfolding at_last_zero
last_zero [] i low at after = absurd (omega arith)
last_zero (c ∷ cs) zero low at after =
    let e : (c == 0) ≡ true = eq-eqb c 0 at in
    let rest = no_last_zero cs (λ k lt. after (suc k) (omega arith) (omega arith)) in
    rw (rest, e) refl
last_zero (c ∷ cs) (suc i) low at after =
    let rest = last_zero cs i (omega arith) at (λ k gt lt. after (suc k) (omega arith) (omega arith)) in
    rw rest refl

-- what the search for the last zero byte says
pub nowhere_zero : (b : List ℕ) → Nowhere (Passes (is_byte 0) b) 0 (length b) → None ≡ at_last_zero b
nowhere_zero b nowhere = sym (no_last_zero b (λ k lt e. nowhere k (omega arith) lt (eq-eqb (get_or b k 0) 0 e)))

pub around_zero : (b : List ℕ) (i : ℕ) → NoneAfter (Passes (is_byte 0) b) 0 (length b) i × Passes (is_byte 0) b i
    → Some (take i b, take (length b - (i + 1)) (drop (i + 1) b)) ≡ at_last_zero b
around_zero b i last =
    let next : i + 1 ≡ suc i = omega arith in
    let whole = take_all (length b - (i + 1)) (drop (i + 1) b) (omega (arith, length-drop (i + 1) b)) in
    let found = last_zero b i last.0.high (eqb-true (get_or b i 0) 0 last.1) (λ k gt lt e. last.0.after k (omega arith) lt (eq-eqb (get_or b k 0) 0 e)) in
    ap (λ (x : List ℕ). Some (take i b, x)) (whole ∙ ap (λ (n : ℕ). drop n b) next) ∙ sym found

-- ---- the child

-- bytes up to the last zero byte are bytes of the variant
prefix_bytes : (b x w : List ℕ) (t : Ty) → b ≡ x ++ 0 ∷ w → x ≡ child_bytes b (child_at (length b) (t, Some (0, length x)))
prefix_bytes b x w t e =
    let size : length b ≡ length x + suc (length w) = ap length e ∙ length-append x (0 ∷ w) in
    let low : nat_le 0 (length x) ≡ true = grind arith in
    let high : nat_le (length x) (length b) ≡ true = grind arith in
    let inside : bounds (length b) (Some (0, length x)) ≡ (0, length x) = rw (low, high) refl in
    let whole : length x - 0 ≡ length x = omega arith in
    sym (ap (λ (s : ℕ × ℕ). slice_range b s.0 s.1) inside ∙ (ap (λ (n : ℕ). take n b) whole ∙ (ap (take (length x)) e ∙ take-append_seam x (0 ∷ w))))

shows_typed : (b x w : List ℕ) (o : Option Ty) (v : View) → b ≡ x ++ 0 ∷ w → Some (shown v) ≡ option_map (λ (t : Ty). (t, x)) o → ShowsChild b (child_at (length b) (typed_span (length x) o)) v
shows_typed b x w None v e h = absurd (none-some (shown v) (sym h))
shows_typed b x w (Some t) v e h =
    let same : shown v ≡ (t, x) = same_Some (shown v) (t, x) h in
    record { type = ap (λ (p : Part). p.0) same; bytes = ap (λ (p : Part). p.1) same ∙ prefix_bytes b x w t e }

shows_held : (b : List ℕ) (o : Option (List ℕ × List ℕ)) (v : View) → ((p : List ℕ × List ℕ) → o ≡ Some p → b ≡ p.0 ++ 0 ∷ p.1)
    → Some (shown v) ≡ option_and_then at_type_text o → ShowsChild b (child_at (length b) (variant_span o)) v
shows_held b None v parts h = absurd (none-some (shown v) (sym h))
shows_held b (Some p) v parts h = shows_typed b p.0 p.1 (type_of_text p.1) v (parts p refl) h

shows_unit : (b : List ℕ) (n : ℕ) (o : Option Ty) (x : List ℕ) (v : View) → ty v.type_str ≡ tuple end → v.bytes.now ≡ [] → ◌≡◌ {A = Option Part} None (option_map (λ (t : Ty). (t, x)) o) → ShowsChild b (child_at (length b) (typed_span n o)) v
shows_unit b n None x v t e h = record { type = t; bytes = e }
shows_unit b n (Some u) x v t e h = absurd (none-some (u, x) h)

shows_none : (b : List ℕ) (o : Option (List ℕ × List ℕ)) (v : View) → ty v.type_str ≡ tuple end → v.bytes.now ≡ []
    → None ≡ option_and_then at_type_text o → ShowsChild b (child_at (length b) (variant_span o)) v
shows_none b None v t e h = record { type = t; bytes = e }
shows_none b (Some p) v t e h = shows_unit b (length p.0) (type_of_text p.1) p.0 v t e h

lends_child : (b : List ℕ) (v : View) → ShowsChild b (child_at (length b) (variant_span (at_last_zero b))) v → Lends b (slice_get (cut variant b) 0) (Some v)
lends_child b v h = subst (λ (cs : List Child). Lends b (slice_get cs 0) (Some v)) (sym (variant_cut b)) h

pub held_is_lent : (b : List ℕ) (v : View) → Some (shown v) ≡ held b → Lends b (slice_get (cut variant b) 0) (Some v)
held_is_lent b v h = lends_child b v (shows_held b (at_last_zero b) v (at_last_zero_parts b) h)

pub unit_is_lent : (b : List ℕ) (v : View) → None ≡ held b → ty v.type_str ≡ tuple end → v.bytes.now ≡ [] → Lends b (slice_get (cut variant b) 0) (Some v)
unit_is_lent b v h t e = lends_child b v (shows_none b (at_last_zero b) v t e h)

-- ---- the type `()`

pub unit_is_type : is_type (40 ∷ 41 ∷ []) ≡ true
unfolding type_of_text seen mark tuple_type_before nesting greatest_nesting
unit_is_type = refl

pub unit_is_found : type_at (40 ∷ 41 ∷ []) ≡ tuple end
unfolding type_of_text seen mark tuple_type_before nesting greatest_nesting
unit_is_found = refl
