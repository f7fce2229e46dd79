-- Where a container's children lie in its bytes.
-- GVariant Specification, "Framing Offsets", and of "Handling Non-Normal Serialised Data" the parts on
-- framing offsets; GLib since 2.74 reads no child behind one that is out of order. A child without valid
-- bounds lies at (0, 0), and so has no bytes.
use Rattle.std.specs.Prelude.{ℕ, ◌+◌, ◌-◌, ◌*◌, Bool, true, false, not, List, [], ◌∷◌, map, length, take, drop, slice_range, Option, Some, None, nat_le, nat_lt, ◌&&◌, if◌then◌else◌}
use Rattle.gv_model.specs.Ty.{Ty}
use Rattle.gv_model.specs.BasicValue.{number_in}

-- a child of a container: its type, and where its bytes begin and end
pub record Child : Type 0 where
  pub type : Ty
  pub from : ℕ
  pub to : ℕ

-- where a child should lie by the framing offsets, if these are there
abbrev pub Span : Type 0
Span = Option (ℕ × ℕ)

-- (0, 0) where it doesn't lie so within n bytes
abbrev pub bounds : ℕ → Span → ℕ × ℕ
bounds n None = (0, 0)
bounds n (Some s) = if nat_le s.0 s.1 && nat_le s.1 n then s else (0, 0)

abbrev pub child_at : ℕ → Ty × Span → Child
child_at n c = let s = bounds n c.1 in record { type = c.0; from = s.0; to = s.1 }

abbrev pub children_at : ℕ → List (Ty × Span) → List Child
children_at n cs = map (child_at n) cs

-- A child is out of order if its start is greater than its end, or its end passes the body: what stands before the
-- framing offsets, None where its bytes are fewer than these take.
abbrev pub is_out : Option ℕ → Span → Bool
is_out body None = false
is_out None (Some s) = true
is_out (Some body) (Some s) = not (nat_le s.0 s.1 && nat_le s.1 body)

abbrev pub nowhere : Ty × Span → Ty × Span
nowhere c = (c.0, None)

-- from the first child on that is out of order, none lies anywhere
unfoldable pub ordered : Option ℕ → List (Ty × Span) → List (Ty × Span)
ordered body [] = []
ordered body (c ∷ cs) = if is_out body c.1 then map nowhere (c ∷ cs) else c ∷ ordered body cs

-- framing offset k from the end, each of w bytes, where it lies whole within the bytes
abbrev pub framing_offset : ℕ → List ℕ → ℕ → Option ℕ
framing_offset w b k =
    if nat_lt 0 w && nat_le (w * (k + 1)) (length b)
    then Some (number_in (take w (drop (length b - w * (k + 1)) b)))
    else None

-- the bytes of a child of b
abbrev pub child_bytes : List ℕ → Child → List ℕ
child_bytes b c = slice_range b c.from c.to
