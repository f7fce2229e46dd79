-- An array whose elements have no fixed size, as its framing offsets have it.
use Rattle.std.specs.Prelude.{◌≡◌, ◌≤◌, ◌⊎◌, ℕ, zero, suc, List, [], ◌∷◌, length, Some, None, slice_get}
use Rattle.gv_model.specs.Ty.{Ty}
use Rattle.gv_model.specs.Arrays.{elements_end, element_spans, numbers_in, offset_spans}
use Rattle.gv_model.specs.Children.{Span}
use Rattle.gv_model.specs.Decode.{body, spans}
use Rattle.gv_model.specs.TypeText.{type_at}
use Rattle.dconfdb_values.specs.Order.{in_order}
use Rattle.dconfdb_values.specs.declared.open_array.OpenArray.{OpenArray}
use Rattle.dconfdb_values.specs.declared.open_array.Reached.{Reached}

-- its framing offsets
abbrev pub ends_of : OpenArray → List ℕ
ends_of a = numbers_in a.width a.count a.offsets.now

-- where the element before element k of these ends, the first of which begins behind p
unfoldable pub end_before : ℕ → List ℕ → ℕ → ℕ
end_before p ends zero = p
end_before p [] (suc k) = p
end_before p (e ∷ ends) (suc k) = end_before e ends k

-- where its elements should lie
abbrev pub spans_of : OpenArray → List (Ty × Span)
spans_of a = offset_spans (type_at a.element.now) 0 (ends_of a)

-- how many of its elements stand before the first that is out of order
abbrev pub in_order_of : OpenArray → ℕ
in_order_of a = in_order (Some a.body) (spans_of a)

-- it has the elements of this type that an array has of these bytes
pub record AreElements (t : Ty) (b : List ℕ) (a : OpenArray) : Type 0 where
  pub type_is : type_at a.element.now ≡ t
  pub body_is : elements_end b None ≡ a.body
  pub spans_are : element_spans t b None ≡ spans_of a
  pub within : a.body ≤ length b

-- it is the one that these bytes are at the type
pub record IsFramed (t : Ty) (b : List ℕ) (a : OpenArray) : Type 0 where
  pub body_is : body t b ≡ Some a.body
  pub spans_are : spans t b ≡ spans_of a
  pub within : a.body ≤ length b

-- element k is in order, and lies between these places
pub record IsInOrder (a : OpenArray) (k : ℕ) (p : ℕ × ℕ) : Type 0 where
  pub lies : slice_get (spans_of a) k ≡ Some (type_at a.element.now, Some p)
  pub passed : suc k ≤ in_order_of a
  pub begins : p.0 ≤ p.1
  pub ends : p.1 ≤ a.body

-- element k is in order and lies there, or one before it or itself isn't, and it lies nowhere
abbrev pub IsPlaced : OpenArray → ℕ → Reached → Type 0
IsPlaced a k r = IsInOrder a k (r.from, r.to) ⊎ ((in_order_of a ≤ k) × ((r.from ≡ 0) × (r.to ≡ 0)))
