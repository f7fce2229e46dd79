-- The children of a container that a walk has still to give.
use Rattle.std.specs.Prelude.{ℕ, ◌+◌, min, Bool, true, false, List, map, length, Option, Some, None}
use Rattle.gv_model.specs.Ty.{Ty, types_from}
use Rattle.gv_model.specs.Children.{Child, Span, children_at, framing_offset, ordered, nowhere}
use Rattle.gv_model.specs.Arrays.{fixed_spans, offset_spans, numbers_in}
use Rattle.gv_model.specs.Tuples.{member_spans, empty_spans, body_end}
use Rattle.gv_types.specs.TypeStr.{ty}
use Rattle.gv_types.specs.Members.{members_left}
use Rattle.gv_layout.specs.declared.array.FixedSize.{FixedSize}
use Rattle.gv_layout.specs.declared.array.ByOffsets.{ByOffsets}
use Rattle.gv_layout.specs.declared.tuple.ByMembers.{ByMembers}
use Rattle.gv_layout.specs.declared.walk.Walk.{Walk}
use Rattle.gv_layout.specs.declared.walk.Walk.TheVariants as walks
use Rattle.gv_layout.specs.declared.place.Place.{Place}
use Rattle.gv_layout.specs.declared.place.Places.{Places}

-- a child with its type and its place in the bytes
abbrev pub child_of : Place → Child
child_of p = record { type = ty p.type_str; from = p.from; to = p.to }

-- places past the end of n bytes are all alike
abbrev pub clamp : ℕ → ℕ → ℕ
clamp n p = min p (n + 1)

-- the end of a member that begins at p, after which there is no other if it is the last one
abbrev pub end_by : ℕ → List ℕ → ℕ → ℕ → Option ℕ → Bool → Option ℕ
end_by w b k p (Some size) last = Some (p + size)
end_by w b k p None true = body_end w b k
end_by w b k p None false = framing_offset w b k

-- children of one size
abbrev pub fixed_left : FixedSize → List Child
fixed_left e = children_at e.len (fixed_spans (ty e.element) e.size e.at e.left)

-- elements with these ends in a body that ends there, if those before are in order and the last of them ends at p
abbrev pub elements_after : Ty → ℕ → Option ℕ → List ℕ → List (Ty × Span)
elements_after t body None ends = map nowhere (offset_spans t 0 ends)
elements_after t body (Some p) ends = ordered (Some body) (offset_spans t p ends)

-- elements by framing offsets
abbrev pub by_offsets_left : ByOffsets → List Child
by_offsets_left f = children_at f.len (elements_after (ty f.element) f.body f.previous (numbers_in f.width f.left f.offsets.now))

-- members
abbrev pub by_members_left : ByMembers → List Child
by_members_left m = children_at (length m.bytes.now) (ordered (Some m.body) (member_spans m.width m.bytes.now m.used m.previous (types_from (members_left m.members))))

abbrev pub walk_left : Walk → List Child
walk_left (walks.FixedSize e) = fixed_left e
walk_left (walks.ByOffsets f) = by_offsets_left f
walk_left (walks.ByMembers m) = by_members_left m

abbrev pub places_left : Places → List Child
places_left p = walk_left p.walk

-- ---- members of which none lies anywhere, since one before them was out of order

abbrev pub unplaced_after : Option ℕ → List Ty → Option (List Ty)
unplaced_after None ts = Some ts
unplaced_after (Some p) ts = None

abbrev pub unplaced_in : Walk → Option (List Ty)
unplaced_in (walks.ByMembers m) = unplaced_after m.previous (members_left m.members)
unplaced_in _ = None

abbrev pub unplaced_left : Places → Option (List Ty)
unplaced_left p = unplaced_in p.walk

-- they have no bytes
abbrev pub lie_nowhere : List Ty → List Child
lie_nowhere ts = children_at 0 (empty_spans (types_from ts))
