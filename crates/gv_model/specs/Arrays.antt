-- Where the elements of an array lie.
-- GVariant Specification, "Arrays". Of a fixed size: one after the other, none where the bytes aren't a
-- multiple of it. Of no fixed size: the bytes end with the end of each element as a framing offset; the
-- last offset is where the offsets begin, and so tells how many there are. None where it can't be.
use Rattle.std.specs.Prelude.{ℕ, zero, suc, ◌+◌, ◌-◌, ◌/◌, ◌%◌, List, [], ◌∷◌, length, take, drop, Option, Some, None, nat_le, ◌==◌, ◌&&◌, if◌then◌else◌}
use Rattle.gv_model.specs.Ty.{Ty}
use Rattle.gv_model.specs.Layout.{alignment, round_up, offset_width}
use Rattle.gv_model.specs.BasicValue.{number_in}
use Rattle.gv_model.specs.Children.{Span}

-- count elements of one size from p on
unfoldable pub fixed_spans : Ty → ℕ → ℕ → ℕ → List (Ty × Span)
fixed_spans t size p zero = []
fixed_spans t size p (suc count) = (t, Some (p, p + size)) ∷ fixed_spans t size (p + size) count

-- count numbers of w bytes each
unfoldable pub numbers_in : ℕ → ℕ → List ℕ → List ℕ
numbers_in w zero b = []
numbers_in w (suc count) b = number_in (take w b) ∷ numbers_in w count (drop w b)

-- elements with these ends, each from the end of the one before, aligned
unfoldable pub offset_spans : Ty → ℕ → List ℕ → List (Ty × Span)
offset_spans t p [] = []
offset_spans t p (e ∷ ends) = (t, Some (round_up (alignment t) p, e)) ∷ offset_spans t e ends

-- the elements of an array whose offsets, of w bytes each, begin at e
abbrev pub framed_from : Ty → ℕ → ℕ → List ℕ → List (Ty × Span)
framed_from t w e b =
    if nat_le e (length b) && ((length b - e) % w == 0)
    then offset_spans t 0 (numbers_in w ((length b - e) / w) (drop e b))
    else []

-- the elements by their size, if it is fixed
abbrev pub element_spans : Ty → List ℕ → Option ℕ → List (Ty × Span)
element_spans t b (Some size) = if length b % size == 0 then fixed_spans t size 0 (length b / size) else []
element_spans t b None =
    let w = offset_width (length b) in
    if length b == 0 then [] else framed_from t w (number_in (drop (length b - w) b)) b

-- where the elements' body ends: the offsets begin where the last one says
abbrev pub elements_end : List ℕ → Option ℕ → ℕ
elements_end b (Some size) = length b
elements_end b None = number_in (drop (length b - offset_width (length b)) b)
