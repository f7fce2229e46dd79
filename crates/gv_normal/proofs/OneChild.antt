-- Variants and maybes, whose one child's bytes stand first.
use Rattle.std.proofs.Common.{ℕ, suc, ◌+◌, ◌<◌, ◌≤◌, ◌≡◌, ◌↔◌, List, [], ◌∷◌, ◌++◌, length, take, drop, Option, Some, None, true, refl, sym, ap, ◌∙◌, subst, arith, length-append}
use Rattle.std.specs.Prelude.{option_map, option_and_then}
use Rattle.std.proofs.lemmas.List.{take_at, drop_at}
use Rattle.gv_model.proofs.ListLaws.{same_head}
use Rattle.gv_model.specs.Laws.{most_values as bound}
use Rattle.gv_model.proofs.ValueBound.{variant_total}
use Rattle.std.proofs.lemmas.Option.{none-some, same_Some, option_and_then_some}
use Rattle.gv_model.specs.Ty.{Ty, spelling}
use Rattle.gv_model.specs.Ty.Ty.{variant, maybe}
use Rattle.gv_model.specs.TypeText.{type_of_text, is_within_limits}
use Rattle.gv_model.specs.Tree.{nodes}
use Rattle.gv_model.specs.Decode.{decode}
use Rattle.gv_model.specs.Layout.{fixed_size}
use Rattle.gv_model.specs.Variants.{at_last_zero}
use Rattle.gv_model.specs.Parts.{Part, parts}
use Rattle.gv_model.specs.Encode.{packed, just_bytes}
use Rattle.gv_model.proofs.ContainerParts.{at_zero, no_zero-spelling}
use Rattle.gv_model.proofs.DecodeLaws.{at_last_zero_parts}
use Rattle.gv_model.proofs.TypeTextLaws.{type_of_text-spelling}
use Rattle.gv_model.proofs.TypeTextSound.{spelling_of_read}
use Rattle.gv_model.proofs.WellTyped.{IsBytes, type_of-decode}
use Rattle.gv_view.specs.Variants.{held, at_type_text}
use Rattle.gv_normal.specs.InPlace.{IsNormalWithin}
use Rattle.gv_normal.proofs.PackedParts.{PackedOf, packed_values, normal_of_parts, parts_of_normal}
use Rattle.gv_normal.proofs.Pieces.{bytes_prefix}

-- ---- variants

packed_variant : (p : Part) → packed variant (p ∷ []) ≡ p.1 ++ 0 ∷ spelling p.0
unfolding packed
packed_variant p = refl

held_spelled : (t : Ty) (x : List ℕ) → is_within_limits t (spelling t) ≡ true → held (x ++ 0 ∷ spelling t) ≡ Some (t, x)
held_spelled t x h =
    ap (option_and_then at_type_text) (at_zero x (spelling t) (no_zero-spelling t)) ∙ ap (option_map (λ (u : Ty). let p : Part = (u, x) in p)) (type_of_text-spelling t h)

pub variant_held : (d : ℕ) (b : List ℕ) → IsBytes b → IsNormalWithin (suc d) variant b → (p : Part) × (held b ≡ Some p) × IsNormalWithin d p.0 p.1
variant_held d b bytes h = let p = parts_of_normal d variant b bytes tt h in go (parts variant b) p
  where
    go : (xs : List Part) → PackedOf d variant b xs → (p : Part) × (held b ≡ Some p) × IsNormalWithin d p.0 p.1
    go [] p = absurd p.held
    go (x ∷ []) p =
        let limits : is_within_limits x.0 (spelling x.0) ≡ true = subst (λ (t : Ty). is_within_limits t (spelling t) ≡ true) (type_of-decode x.0 x.1) p.held in
        (x, ap held (p.whole ∙ packed_variant x) ∙ held_spelled x.0 x.1 limits, p.normal.0)
    go (x ∷ y ∷ xs) p = absurd p.held

-- what is held, and how the bytes are made of it
pub record IsHeld (b : List ℕ) (p : Part) : Type 0 where
  pub whole : b ≡ p.1 ++ 0 ∷ spelling p.0
  pub limits : is_within_limits p.0 (spelling p.0) ≡ true

pub is_held : (b : List ℕ) (p : Part) → held b ≡ Some p → IsHeld b p
is_held b p e = option_and_then_some at_type_text (at_last_zero b) p e (λ q found typed. go q found (type_of_text q.1) refl typed)
  where
    go : (q : List ℕ × List ℕ) → at_last_zero b ≡ Some q → (o : Option Ty) → type_of_text q.1 ≡ o → option_map (λ t. (t, q.0)) o ≡ Some p → IsHeld b p
    go q found None m typed = absurd (none-some p typed)
    go q found (Some t) m typed =
        let read = spelling_of_read q.1 t m in
        let same : (t, q.0) ≡ p = same_Some (t, q.0) p typed in
        subst (IsHeld b) same
        (record {
          whole = at_last_zero_parts b q found ∙ ap (λ (w : List ℕ). q.0 ++ 0 ∷ w) (sym read.0);
          limits = subst (λ (w : List ℕ). is_within_limits t w ≡ true) (sym read.0) read.1;
        })

held_packed : (d : ℕ) (b : List ℕ) (p : Part) → IsBytes b → held b ≡ Some p → IsNormalWithin d p.0 p.1 → PackedOf d variant b (p ∷ [])
held_packed d b p bytes e h =
    let is = is_held b p e in
    record {
      held = subst (λ (t : Ty). is_within_limits t (spelling t) ≡ true) (sym (type_of-decode p.0 p.1)) is.limits;
      normal = (h, tt);
      bytes = (bytes_prefix p.1 (0 ∷ spelling p.0) (subst IsBytes is.whole bytes), tt);
      whole = is.whole ∙ sym (packed_variant p);
    }

pub held_normal : (d : ℕ) (b : List ℕ) (p : Part) → IsBytes b → held b ≡ Some p → IsNormalWithin d p.0 p.1 → IsNormalWithin (suc d) variant b
held_normal d b p bytes e h = normal_of_parts d variant b (p ∷ []) (held_packed d b p bytes e h)

pub held_values : (d : ℕ) (b : List ℕ) (t : Ty) (x : List ℕ) → IsBytes b → Some (t, x) ≡ held b → IsNormalWithin d t x → nodes (decode variant b) ≡ nodes (decode t x) + 1
held_values d b t x bytes e h = let n = packed_values d variant b ((t, x) ∷ []) (held_packed d b (t, x) bytes (sym e) h) in omega (arith, n)

-- ---- maybes

packed_just : (t : Ty) (p : Part) → packed (maybe t) (p ∷ []) ≡ just_bytes p.1 (fixed_size p.0)
unfolding packed
packed_just t p = refl

packed_nothing : (t : Ty) → packed (maybe t) [] ≡ []
unfolding packed
packed_nothing t = refl

nothing_packed : (d : ℕ) (t : Ty) → PackedOf d (maybe t) [] []
nothing_packed d t = record { held = tt; normal = tt; bytes = tt; whole = sym (packed_nothing t) }

pub nothing_normal : (d : ℕ) (t : Ty) → IsNormalWithin (suc d) (maybe t) []
nothing_normal d t = normal_of_parts d (maybe t) [] [] (nothing_packed d t)

pub nothing_values : (t : Ty) → nodes (decode (maybe t) []) ≡ 1
nothing_values t = packed_values 0 (maybe t) [] [] (nothing_packed 0 t)

just_packed : (d : ℕ) (t : Ty) (x b : List ℕ) → IsBytes x → b ≡ just_bytes x (fixed_size t) → IsNormalWithin d t x → PackedOf d (maybe t) b ((t, x) ∷ [])
just_packed d t x b bytes whole h = record { held = type_of-decode t x; normal = (h, tt); bytes = (bytes, tt); whole = whole ∙ sym (packed_just t (t, x)) }

pub just_normal : (d : ℕ) (t : Ty) (x b : List ℕ) → IsBytes x → b ≡ just_bytes x (fixed_size t) → IsNormalWithin d t x → IsNormalWithin (suc d) (maybe t) b
just_normal d t x b bytes whole h = normal_of_parts d (maybe t) b ((t, x) ∷ []) (just_packed d t x b bytes whole h)

just_values : (d : ℕ) (t : Ty) (x b : List ℕ) → IsBytes x → b ≡ just_bytes x (fixed_size t) → IsNormalWithin d t x → nodes (decode (maybe t) b) ≡ nodes (decode t x) + 1
just_values d t x b bytes whole h = let n = packed_values d (maybe t) b ((t, x) ∷ []) (just_packed d t x b bytes whole h) in omega (arith, n)

-- what Just is made of
pub record IsJustOf (d : ℕ) (t : Ty) (b x : List ℕ) : Type 0 where
  pub whole : b ≡ just_bytes x (fixed_size t)
  pub normal : IsNormalWithin d t x

pub normal_just : (d : ℕ) (t : Ty) (b : List ℕ) → IsBytes b → 0 < length b → IsNormalWithin (suc d) (maybe t) b → (x : List ℕ) × IsJustOf d t b x
normal_just d t b bytes some h = let p = parts_of_normal d (maybe t) b bytes tt h in go (parts (maybe t) b) p
  where
    go : (xs : List Part) → PackedOf d (maybe t) b xs → (x : List ℕ) × IsJustOf d t b x
    go [] p = absurd (omega (arith, some, ap length (p.whole ∙ packed_nothing t)))
    go (y ∷ []) p =
        let same : y.0 ≡ t = sym (type_of-decode y.0 y.1) ∙ p.held in
        (y.1, record { whole = p.whole ∙ (packed_just t y ∙ ap (λ (u : Ty). just_bytes y.1 (fixed_size u)) same); normal = subst (λ (u : Ty). IsNormalWithin d u y.1) same p.normal.0 })
    go (y ∷ z ∷ xs) p = absurd p.held

-- ---- as the code tells them

pub variant_iff : (d : ℕ) (b : List ℕ) (t : Ty) (x : List ℕ) → IsBytes b → Some (t, x) ≡ held b → (IsNormalWithin d t x ↔ IsNormalWithin (suc d) variant b)
variant_iff d b t x bytes e = (λ h. held_normal d b (t, x) bytes (sym e) h, λ n. let r = variant_held d b bytes n in back r.0 (sym (e ∙ r.1)) r.2)
  where
    back : (p : Part) → Some p ≡ Some (t, x) → IsNormalWithin d p.0 p.1 → IsNormalWithin d t x
    back p m h = subst (λ (q : Part). IsNormalWithin d q.0 q.1) (same_Some p (t, x) m) h

pub no_variant : (d : ℕ) (b : List ℕ) → IsBytes b → None ≡ held b → IsNormalWithin (suc d) variant b → ⊥
no_variant d b bytes e n = let r = variant_held d b bytes n in absurd (none-some r.0 (e ∙ r.1))

pub variant_few : (b : List ℕ) (t : Ty) (x : List ℕ) → Some (t, x) ≡ held b → suc (bound (length x) (length (spelling t))) ≤ bound (length b) 1
variant_few b t x e =
    let is = is_held b (t, x) (sym e) in
    let size : length b ≡ length x + suc (length (spelling t)) = ap length is.whole ∙ length-append x (0 ∷ spelling t) in
    variant_total (length b) (length x) (length (spelling t)) (bound (length x) (length (spelling t))) (omega (arith, size)) (omega arith)

pub fixed_just : (d n : ℕ) (t : Ty) (b : List ℕ) → IsBytes b → 0 < length b → fixed_size t ≡ Some n → (IsNormalWithin d t b ↔ IsNormalWithin (suc d) (maybe t) b)
fixed_just d n t b bytes some e = (
  λ h. just_normal d t b b bytes (sym (ap (just_bytes b) e)) h,
  λ h. let r = normal_just d t b bytes some h in subst (IsNormalWithin d t) (sym (r.1.whole ∙ ap (just_bytes r.0) e)) r.1.normal,
)

pub fixed_just_values : (d n : ℕ) (t : Ty) (b : List ℕ) → IsBytes b → fixed_size t ≡ Some n → IsNormalWithin d t b → nodes (decode (maybe t) b) ≡ nodes (decode t b) + 1
fixed_just_values d n t b bytes e h = just_values d t b b bytes (sym (ap (just_bytes b) e)) h

pub open_just_values : (d : ℕ) (t : Ty) (b x : List ℕ) (c : ℕ) → IsBytes b → b ≡ x ++ c ∷ [] → fixed_size t ≡ None → c ≡ 0 → IsNormalWithin d t x → nodes (decode (maybe t) b) ≡ nodes (decode t x) + 1
open_just_values d t b x c bytes whole e zero h =
    let is : b ≡ x ++ 0 ∷ [] = whole ∙ ap (λ (y : ℕ). x ++ y ∷ []) zero in
    just_values d t x b (bytes_prefix x (0 ∷ []) (subst IsBytes is bytes)) (is ∙ sym (ap (just_bytes x) e)) h

pub open_just : (d : ℕ) (t : Ty) (b x : List ℕ) (c : ℕ) → IsBytes b → b ≡ x ++ c ∷ [] → fixed_size t ≡ None → c ≡ 0 → (IsNormalWithin d t x ↔ IsNormalWithin (suc d) (maybe t) b)
open_just d t b x c bytes whole e zero =
    let is : b ≡ x ++ 0 ∷ [] = whole ∙ ap (λ (y : ℕ). x ++ y ∷ []) zero in
    let size : length b ≡ length x + 1 = ap length whole ∙ length-append x (c ∷ []) in (
      λ h. just_normal d t x b (bytes_prefix x (0 ∷ []) (subst IsBytes is bytes)) (is ∙ sym (ap (just_bytes x) e)) h,
      λ h. let r = normal_just d t b bytes (omega (arith, size)) h in
          subst (IsNormalWithin d t) (sym (same_front x r.0 c 0 (sym whole ∙ (r.1.whole ∙ ap (just_bytes r.0) e)))) r.1.normal,
    )
  where
    same_front : (x y : List ℕ) (c e : ℕ) → x ++ c ∷ [] ≡ y ++ e ∷ [] → x ≡ y
    same_front x y c e h = sym (take_at x (c ∷ []) (length x) refl) ∙ (ap (take (length x)) h ∙ take_at y (e ∷ []) (length x) (omega (arith, ap length h, length-append x (c ∷ []), length-append y (e ∷ []))))

pub other_last : (d : ℕ) (t : Ty) (b x : List ℕ) (c : ℕ) → IsBytes b → b ≡ x ++ c ∷ [] → fixed_size t ≡ None → IsNormalWithin (suc d) (maybe t) b → c ≡ 0
other_last d t b x c bytes whole e h =
    let size : length b ≡ length x + 1 = ap length whole ∙ length-append x (c ∷ []) in
    let r = normal_just d t b bytes (omega (arith, size)) h in
    let is : b ≡ r.0 ++ 0 ∷ [] = r.1.whole ∙ ap (just_bytes r.0) e in
    let size' : length b ≡ length r.0 + 1 = ap length is ∙ length-append r.0 (0 ∷ []) in
    let same : c ∷ [] ≡ 0 ∷ [] = sym (drop_at x (c ∷ []) (length x) refl) ∙ (ap (drop (length x)) (sym whole ∙ is) ∙ drop_at r.0 (0 ∷ []) (length x) (omega (arith, size, size'))) in
    same_head same
