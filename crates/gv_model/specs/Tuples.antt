-- Where the members of a tuple or an entry lie.
-- GVariant Specification, "Structures" and "Dictionary Entries". Each member begins where the one before
-- ends, aligned. A member of fixed size ends by that size, a last one of no fixed size where the framing
-- offsets begin, any other at its framing offset; the offsets occur at the end, the first one last.
use Rattle.std.specs.Prelude.{ℕ, suc, ◌+◌, ◌-◌, ◌*◌, Bool, true, false, List, [], ◌∷◌, length, Option, Some, None, nat_le, ◌==◌, if◌then◌else◌, option_and_then, option_map}
use Rattle.gv_model.specs.Ty.{Ty, Types}
use Rattle.gv_model.specs.Ty.Types.{end, member}
use Rattle.gv_model.specs.Layout.{alignment, fixed_size, round_up, offset_width}
use Rattle.gv_model.specs.Children.{Span, framing_offset}

-- where the framing offsets begin, of which there are k
abbrev pub body_end : ℕ → List ℕ → ℕ → Option ℕ
body_end w b k = if nat_le (w * k) (length b) then Some (length b - w * k) else None

-- the end of a member that begins at p, if k offsets were used before it and ts are the members after it
abbrev pub member_end : ℕ → List ℕ → ℕ → ℕ → Option ℕ → Types → Option ℕ
member_end w b k p (Some size) ts = Some (p + size)
member_end w b k p None end = body_end w b k
member_end w b k p None (member t ts) = framing_offset w b k

abbrev pub next_offset : ℕ → Option ℕ → ℕ
next_offset k (Some size) = k
next_offset k None = suc k

abbrev pub span : Option ℕ → Option ℕ → Span
span (Some from) (Some to) = Some (from, to)
span _ _ = None

-- where a member begins, and where it ends, if the one before ends at p and k offsets were used
abbrev pub start_of : Ty → Option ℕ → Option ℕ
start_of t p = option_map (round_up (alignment t)) p

abbrev pub end_of : ℕ → List ℕ → ℕ → Option ℕ → Ty → Types → Option ℕ
end_of w b k p t ts = option_and_then (λ s. member_end w b k s (fixed_size t) ts) (start_of t p)

-- members after k offsets were used, the one before them ending at p
unfoldable pub member_spans : ℕ → List ℕ → ℕ → Option ℕ → Types → List (Ty × Span)
member_spans w b k p end = []
member_spans w b k p (member t ts) =
    (t, span (start_of t p) (end_of w b k p t ts))
    ∷ member_spans w b (next_offset k (fixed_size t)) (end_of w b k p t ts) ts

-- each at (0, 0)
unfoldable pub empty_spans : Types → List (Ty × Span)
empty_spans end = []
empty_spans (member t ts) = (t, None) ∷ empty_spans ts

abbrev pub is_other_size : Option ℕ → ℕ → Bool
is_other_size None n = false
is_other_size (Some size) n = if n == size then false else true

-- t is the tuple or the entry, ts its members
abbrev pub tuple_spans : Ty → Types → List ℕ → List (Ty × Span)
tuple_spans t ts b =
    if is_other_size (fixed_size t) (length b) then empty_spans ts
    else member_spans (offset_width (length b)) b 0 (Some 0) ts

-- each member of no fixed size but the last one has an offset
unfoldable pub offset_count : Types → ℕ
offset_count end = 0
offset_count (member t end) = 0
offset_count (member t (member u ts)) = next_offset (offset_count (member u ts)) (fixed_size t)

-- where the members' body ends; one of fixed size has no offsets
abbrev pub members_end : Option ℕ → Types → List ℕ → Option ℕ
members_end (Some size) ts b = Some (length b)
members_end None ts b = body_end (offset_width (length b)) b (offset_count ts)
