-- An array as its framing offsets have it, and the places of its elements.
use Rattle.std.proofs.Common.{◌≡◌, inl, inr, ℕ, ◌<◌, ◌≤◌, false, List, length, Option, Some, None, sym, ap, ap₂, subst, ◌∙◌, arith}
use Rattle.std.specs.Prelude.{IfSome, is_some, option_map, slice_get}
use Rattle.std.proofs.lemmas.Option.{slice_get-map, slice_get_past}
use Rattle.gv_model.specs.Ty.{Ty}
use Rattle.gv_model.specs.Ty.Ty.{array}
use Rattle.gv_model.specs.Layout.{fixed_size}
use Rattle.gv_model.specs.Children.{Child, Span, child_at, child_bytes, nowhere, ordered}
use Rattle.gv_model.specs.Decode.{body, cut, decode, spans}
use Rattle.gv_model.specs.Tree.{children, tree_at}
use Rattle.gv_model.proofs.ChildLaws.{child_of_value}
use Rattle.gv_model.proofs.LayoutLaws.{bounds_within}
use Rattle.gv_model.specs.TypeText.{type_at}
use Rattle.dconfdb_values.specs.OpenArrays.{AreElements, IsFramed, IsPlaced, ends_of, spans_of}
use Rattle.dconfdb_values.specs.declared.open_array.OpenArray.{OpenArray}
use Rattle.dconfdb_values.specs.declared.open_array.Reached.{Reached}
use Rattle.dconfdb_values.proofs.OrderLaws.{array_body, array_spans, as_many, in_order_within, number_at, placed, span_at, unplaced}

pub no_size : (o : Option ℕ) (u : Ty) → o ≡ fixed_size u → false ≡ is_some o → fixed_size u ≡ None
no_size None u is none = sym is
no_size (Some n) u is none = absurd cc

pub framed_one : (t u : Ty) (b : List ℕ) (a : OpenArray) → t ≡ array u → fixed_size u ≡ None → AreElements u b a → IsFramed t b a
framed_one t u b a is sized h = record {
  body_is = array_body t u b is sized ∙ ap Some h.body_is;
  spans_are = array_spans t u b is sized ∙ h.spans_are;
  within = h.within;
}

pub all_framed : (t u : Ty) (b : List ℕ) (o : Option OpenArray) → t ≡ array u → fixed_size u ≡ None → IfSome o (AreElements u b) → IfSome o (IsFramed t b)
all_framed t u b None is sized h = h
all_framed t u b (Some a) is sized h = framed_one t u b a is sized h

-- what its bytes are cut into at an index
cut_at : (t : Ty) (b : List ℕ) (a : OpenArray) (k : ℕ) → IsFramed t b a → slice_get (cut t b) k ≡ option_map (child_at (length b)) (slice_get (ordered (Some a.body) (spans_of a)) k)
unfolding cut
cut_at t b a k h =
    slice_get-map (child_at (length b)) (ordered (body t b) (spans t b)) k
    ∙ ap₂ (λ m cs. option_map (child_at (length b)) (slice_get (ordered m cs) k)) h.body_is h.spans_are

-- the child that lies there
abbrev pub reached_child : OpenArray → Reached → Child
reached_child a r = record { type = type_at a.element.now; from = r.from; to = r.to }

span_of : (a : OpenArray) (k : ℕ) → k < a.count → (s : Span) × (slice_get (spans_of a) k ≡ Some (type_at a.element.now, s))
span_of a k lt = (_, span_at (type_at a.element.now) 0 (ends_of a) k _ (number_at a.width a.count a.offsets.now k lt))

pub child_placed : (t : Ty) (b : List ℕ) (a : OpenArray) (k : ℕ) (r : Reached) → IsFramed t b a → k < a.count → IsPlaced a k r
    → slice_get (cut t b) k ≡ Some (reached_child a r)
child_placed t b a k r h lt (inl p) =
    cut_at t b a k h
    ∙ (ap (option_map (child_at (length b))) (placed (Some a.body) (spans_of a) k (omega (arith, p.passed)) ∙ p.lies)
    ∙ ap (λ (s : ℕ × ℕ). Some (child (type_at a.element.now) s)) (bounds_within (length b) r.from r.to p.begins (omega (arith, p.ends, h.within))))
  where
    child : Ty → ℕ × ℕ → Child
    child u s = record { type = u; from = s.0; to = s.1 }
child_placed t b a k r h lt (inr p) =
    let at = span_of a k lt in
    cut_at t b a k h
    ∙ (ap (option_map (child_at (length b))) (unplaced (Some a.body) (spans_of a) k p.0 ∙ ap (option_map nowhere) at.1)
    ∙ ap₂ (λ x y. Some (record { type = type_at a.element.now; from = x; to = y })) (sym p.1.0) (sym p.1.1))

pub no_child : (t : Ty) (b : List ℕ) (a : OpenArray) (k : ℕ) → IsFramed t b a → a.count ≤ k → slice_get (cut t b) k ≡ None
no_child t b a k h le =
    let all : length (spans_of a) ≤ k = omega (arith, le, as_many (type_at a.element.now) 0 a.width a.count a.offsets.now) in
    let some = in_order_within (Some a.body) (spans_of a) in
    cut_at t b a k h
    ∙ ap (option_map (child_at (length b)))
    (unplaced (Some a.body) (spans_of a) k (omega (arith, all, some)) ∙ ap (option_map nowhere) (slice_get_past (spans_of a) k all))

-- ---- the same of what a text spells and of other bytes that are the same

pub framed_alike : (t u : Ty) (b d : List ℕ) (a : OpenArray) → t ≡ u → b ≡ d → IsFramed t b a → IsFramed u d a
framed_alike t u b d a e same h = subst (λ x. IsFramed u x a) same (subst (λ s. IsFramed s b a) e h)

pub none_at : (t : Ty) (b : List ℕ) (a : OpenArray) (k : ℕ) → IsFramed t b a → a.count ≤ k → None ≡ tree_at (children (decode t b)) k
none_at t b a k h le = sym (child_of_value t b k ∙ ap (option_map (λ c. decode c.type (child_bytes b c))) (no_child t b a k h le))

pub value_at : (t u : Ty) (b d : List ℕ) (a : OpenArray) (k : ℕ) (r : Reached) → IsFramed t b a → k < a.count → IsPlaced a k r → u ≡ type_at a.element.now
    → d ≡ child_bytes b (reached_child a r) → Some (decode u d) ≡ tree_at (children (decode t b)) k
value_at t u b d a k r h lt p typed same =
    ap₂ (λ s c. Some (decode s c)) typed same
    ∙ sym (child_of_value t b k ∙ ap (option_map (λ c. decode c.type (child_bytes b c))) (child_placed t b a k r h lt p))
