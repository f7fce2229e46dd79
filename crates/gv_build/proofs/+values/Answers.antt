use Rattle.std.proofs.Common.{rules, ◌≡◌, ◌+◌, ◌≤◌, ◌++◌, length, ◌-◌, [], ◌∷◌, drop, ap, ap₂, sym, ◌∙◌, subst, arith, append-nil, length-append, reverse}
use Rattle.gv_model.specs.Ty.{spelling}
use Rattle.gv_model.specs.Layout.{fixed_size}
use Rattle.gv_model.specs.Tree.{nodes, nodes_of, type_of}
use Rattle.gv_model.specs.Encode.{encode, body_from, ends_from}
use Rattle.gv_model.proofs.LayoutLaws.{alignment_pos}
use Rattle.gv_model.proofs.ValueBound.{node_nodes}
use Rattle.gv_types.specs.TypeStr.{ty}
use Rattle.gv_tree.specs.Nodes.{trees_of}
use Rattle.gv_build.specs.Writing.{parts_of, own_part, open_end, just_end, tuple_end, placed_bytes}
use Rattle.gv_build.proofs.Outcomes.{stops_over, wrote_same, over_same, over_in_whole, wrote_as, lengths_of}
use Rattle.gv_build.proofs.Items.{parts_here, parts_here_before, none_left, last_left, some_left, item_le, nodes_one, nodes_last}
use Rattle.gv_build.proofs.Steps.{MembersSoFar}
use Rattle.gv_build.proofs.Places.{AtMost, at_most_more, placed_part, framed_next, members_next}
use Rattle.gv_build.proofs.Wholes.{joined_next, joined_part, joined_end, framed_end, framed_long, tuple_long, members_end, at_most-reverse, two_parts, refill_turned}
use Rattle.gv_build.proofs.Encodings.{encode_nothing, encode_just, encode_variant, encode_array, encode_tuple, encode_entry, empty_tuple}
use Rattle.gv_build.proofs.+values.Goals as goal

pub array::write_framed-place-requires : goal.array::write_framed-place-requires
array::write_framed-place-requires t c =
    let less = item_le c.args.elements.now c.loop-element.element-index c.element-item.result c.loop-element-test.true c.element-item.is in
    let placed = c.loop-element.invariant.placed in
    search rules

pub array::write_framed-returns-in_err-place-clause-fault : goal.array::write_framed-returns-in_err-place-clause-fault
array::write_framed-returns-in_err-place-clause-fault t c =
    let l = c.loop-element in
    let here = parts_here c.args.elements.now l.element-index c.element-item.result c.loop-element-test.true c.element-item.is in
    let parts = parts_of c.args.elements.now in
    let part = placed_part _ c.args.out.now.items l.out.items parts _ _ _ here l.invariant.placed in
    stops_over c.from_residual.result _ _ _ (omega (arith, framed_long (body_from 0 parts) (ends_from 0 parts))) c.in_err-place.ensures.fault c.from_residual.ensures.1

pub array::write_framed-loop-element-preserved : goal.array::write_framed-loop-element-preserved
array::write_framed-loop-element-preserved t c =
    let l = c.loop-element in
    let here = parts_here c.args.elements.now l.element-index c.element-item.result c.loop-element-test.true c.element-item.is in
    let size : c.len.result ≡ length c.place.new.out.items = omega (arith, c.len.ensures) in
    let pushed = c.in_ok-push.ensures.ok ∙ ap (λ n. l.ends.items ++ (n - c.len-start.result) ∷ []) size in
    framed_next _ _ _ _ _ _ _ _ _ _ here l.invariant c.in_ok-place.ensures.bytes c.in_ok-place.ensures.fits pushed

pub array::write_framed-write_offsets-requires-clause-within : goal.array::write_framed-write_offsets-requires-clause-within
array::write_framed-write_offsets-requires-clause-within t c =
    let size : c.len-2.result ≡ length c.loop-element.out.items = omega (arith, c.len-2.ensures) in
    rw (c.as_slice.ensures, size) c.loop-element.invariant.within

pub array::write_framed-returns-clause-bytes : goal.array::write_framed-returns-clause-bytes
array::write_framed-returns-clause-bytes t c =
    let l = c.loop-element in
    let here = none_left c.args.elements.now l.element-index (omega arith) in
    let from : c.len-start.result ≡ length c.args.out.now.items = omega (arith, c.len-start.ensures) in
    let size : c.len-2.result ≡ length l.out.items = omega (arith, c.len-2.ensures) in
    let whole = framed_end _ _ _ _ _ _ _ _ here l.invariant from size c.as_slice.ensures in
    wrote_as c.write_offsets.result _ _ _ whole c.write_offsets.ensures.bytes

pub array::write_framed-returns-clause-fault : goal.array::write_framed-returns-clause-fault
array::write_framed-returns-clause-fault t c =
    let l = c.loop-element in
    let here = none_left c.args.elements.now l.element-index (omega arith) in
    let from : c.len-start.result ≡ length c.args.out.now.items = omega (arith, c.len-start.ensures) in
    let size : c.len-2.result ≡ length l.out.items = omega (arith, c.len-2.ensures) in
    let whole = framed_end _ _ _ _ _ _ _ _ here l.invariant from size c.as_slice.ensures in
    over_in_whole c.write_offsets.result _ _ (lengths_of _ _ _ _ whole) c.write_offsets.ensures.fault

pub array::write_joined-write_tree-requires : goal.array::write_joined-write_tree-requires
array::write_joined-write_tree-requires t c =
    let less = item_le c.args.elements.now c.loop-element.element-index c.element-item.result c.loop-element-test.true c.element-item.is in
    search rules

pub array::write_joined-returns-in_err-write_tree-clause-fault : goal.array::write_joined-returns-in_err-write_tree-clause-fault
array::write_joined-returns-in_err-write_tree-clause-fault t c =
    let l = c.loop-element in
    let here = parts_here c.args.elements.now l.element-index c.element-item.result c.loop-element-test.true c.element-item.is in
    stops_over c.from_residual.result _ _ _ (joined_part _ _ _ _ _ _ here l.invariant) c.in_err-write_tree.ensures.fault c.from_residual.ensures.1

pub array::write_joined-loop-element-preserved : goal.array::write_joined-loop-element-preserved
array::write_joined-loop-element-preserved t c =
    let l = c.loop-element in
    let here = parts_here c.args.elements.now l.element-index c.element-item.result c.loop-element-test.true c.element-item.is in
    joined_next _ _ _ _ _ _ _ here l.invariant c.in_ok-write_tree.ensures.bytes c.in_ok-write_tree.ensures.fits

pub array::write_joined-returns-clause-bytes : goal.array::write_joined-returns-clause-bytes
array::write_joined-returns-clause-bytes t c =
    joined_end _ _ _ _ (none_left c.args.elements.now c.loop-element.element-index (omega arith)) c.loop-element.invariant

pub place::place-round_up-requires-clause-aligned : goal.place::place-round_up-requires-clause-aligned
place::place-round_up-requires-clause-aligned t c = rw c.alignment.ensures (alignment_pos (ty c.type_text.result))

pub tree::write_tree-write_tree-requires : goal.tree::write_tree-write_tree-requires
tree::write_tree-write_tree-requires t c =
    let child = c.in-Maybe-Some.child.now in
    let shape = rw c.in-Maybe-Some.field-0-is at c.in-Maybe-Some.ensures.shape in
    let size = ap nodes shape ∙ node_nodes _ _ in
    let one = nodes_one child in
    search rules

pub tree::write_tree-returns-in_err-write_tree-in-Maybe-Some-clause-fault : goal.tree::write_tree-returns-in_err-write_tree-in-Maybe-Some-clause-fault
tree::write_tree-returns-in_err-write_tree-in-Maybe-Some-clause-fault t c =
    let child = c.in-Maybe-Some.child.now in
    let shape = rw c.in-Maybe-Some.field-0-is at c.in-Maybe-Some.ensures.shape in
    let size = ap length (encode_just c.args.tree.now child shape) in
    stops_over c.from_residual.result _ _ _ (omega (arith, size, length-append (encode child) (just_end (fixed_size (type_of child))))) c.in_err-write_tree-in-Maybe-Some.ensures.fault c.from_residual.ensures.1

pub tree::write_tree-write_array-requires : goal.tree::write_tree-write_array-requires
tree::write_tree-write_array-requires t c =
    let size = ap nodes c.in-Array.ensures.shape.1 ∙ node_nodes _ _ in
    search rules

pub tree::write_tree-write_tuple-requires : goal.tree::write_tree-write_tuple-requires
tree::write_tree-write_tuple-requires t c =
    let size = ap nodes c.in-Tuple.ensures.shape ∙ node_nodes _ _ in
    search rules

pub tree::write_tree-write_members-requires : goal.tree::write_tree-write_members-requires
tree::write_tree-write_members-requires t c =
    let size = ap nodes c.in-Entry.ensures.shape.1 ∙ node_nodes _ _ in
    let parts = ap (λ us. nodes_of (trees_of (us ++ c.in-Entry.value.now ∷ []))) c.from_ref.ensures.value in
    search rules

pub tree::write_tree-write_tree-requires-in-Variant : goal.tree::write_tree-write_tree-requires-in-Variant
tree::write_tree-write_tree-requires-in-Variant t c =
    let child = c.in-Variant.child.now in
    let size = ap nodes c.in-Variant.ensures.shape ∙ node_nodes _ _ in
    let one = nodes_one child in
    search rules

pub tree::write_tree-returns-in_err-write_tree-in-Variant-clause-fault : goal.tree::write_tree-returns-in_err-write_tree-in-Variant-clause-fault
tree::write_tree-returns-in_err-write_tree-in-Variant-clause-fault t c =
    let child = c.in-Variant.child.now in
    let size = ap length (encode_variant c.args.tree.now child c.in-Variant.ensures.shape) in
    stops_over c.from_residual-in_err-write_tree-in-Variant.result _ _ _ (omega (arith, size, length-append (encode child) (0 ∷ spelling (type_of child)))) c.in_err-write_tree-in-Variant.ensures.fault c.from_residual-in_err-write_tree-in-Variant.ensures.1

pub tree::write_tree-returns-in-Maybe-None-clause-bytes : goal.tree::write_tree-returns-in-Maybe-None-clause-bytes
tree::write_tree-returns-in-Maybe-None-clause-bytes t c =
    let shape = rw c.in-Maybe-None.field-0-is at c.in-Maybe-None.ensures.shape in
    let same = ap (λ b. c.args.out.now.items ++ b) (encode_nothing c.args.tree.now _ shape.1) in
    sym (same ∙ append-nil c.args.out.now.items)

pub tree::write_tree-returns-in_ok-write_tree-in-Maybe-Some-clause-bytes : goal.tree::write_tree-returns-in_ok-write_tree-in-Maybe-Some-clause-bytes
tree::write_tree-returns-in_ok-write_tree-in-Maybe-Some-clause-bytes t c =
    let child = c.in-Maybe-Some.child.now in
    let shape = rw c.in-Maybe-Some.field-0-is at c.in-Maybe-Some.ensures.shape in
    let end = ap (λ u. just_end (fixed_size u)) c.type_text.ensures.text in
    let whole = two_parts c.write_tree.new.out.items c.args.out.now.items (encode child) _ _ _ c.in_ok-write_tree-in-Maybe-Some.ensures.bytes end (encode_just c.args.tree.now child shape) in
    wrote_as c.end_just.result _ _ _ whole c.end_just.ensures.bytes

pub tree::write_tree-returns-in_ok-write_tree-in-Maybe-Some-clause-fault : goal.tree::write_tree-returns-in_ok-write_tree-in-Maybe-Some-clause-fault
tree::write_tree-returns-in_ok-write_tree-in-Maybe-Some-clause-fault t c =
    let child = c.in-Maybe-Some.child.now in
    let shape = rw c.in-Maybe-Some.field-0-is at c.in-Maybe-Some.ensures.shape in
    let end = ap (λ u. just_end (fixed_size u)) c.type_text.ensures.text in
    let whole = two_parts c.write_tree.new.out.items c.args.out.now.items (encode child) _ _ _ c.in_ok-write_tree-in-Maybe-Some.ensures.bytes end (encode_just c.args.tree.now child shape) in
    over_in_whole c.end_just.result _ _ (lengths_of _ _ _ _ whole) c.end_just.ensures.fault

pub tree::write_tree-returns-in-Array-clause-bytes : goal.tree::write_tree-returns-in-Array-clause-bytes
tree::write_tree-returns-in-Array-clause-bytes t c =
    wrote_same c.write_array.result _ _ _ _ (encode_array c.args.tree.now (ty c.type_text-in-Array.result) _ c.in-Array.elements.now c.type_text-in-Array.ensures.text c.in-Array.ensures.shape.1) c.write_array.ensures.bytes

pub tree::write_tree-returns-in-Array-clause-fault : goal.tree::write_tree-returns-in-Array-clause-fault
tree::write_tree-returns-in-Array-clause-fault t c =
    over_same c.write_array.result _ _ _ (encode_array c.args.tree.now (ty c.type_text-in-Array.result) _ c.in-Array.elements.now c.type_text-in-Array.ensures.text c.in-Array.ensures.shape.1) c.write_array.ensures.fault

pub tree::write_tree-returns-in-Tuple-clause-bytes : goal.tree::write_tree-returns-in-Tuple-clause-bytes
tree::write_tree-returns-in-Tuple-clause-bytes t c =
    wrote_same c.write_tuple.result _ _ _ _ (encode_tuple c.args.tree.now (ty c.type_text-in-Tuple.result) _ c.in-Tuple.members.now c.type_text-in-Tuple.ensures.text c.in-Tuple.ensures.shape) c.write_tuple.ensures.bytes

pub tree::write_tree-returns-in-Tuple-clause-fault : goal.tree::write_tree-returns-in-Tuple-clause-fault
tree::write_tree-returns-in-Tuple-clause-fault t c =
    over_same c.write_tuple.result _ _ _ (encode_tuple c.args.tree.now (ty c.type_text-in-Tuple.result) _ c.in-Tuple.members.now c.type_text-in-Tuple.ensures.text c.in-Tuple.ensures.shape) c.write_tuple.ensures.fault

pub tree::write_tree-returns-in-Entry-clause-bytes : goal.tree::write_tree-returns-in-Entry-clause-bytes
tree::write_tree-returns-in-Entry-clause-bytes t c =
    wrote_same c.write_members.result _ _ _ _ (encode_entry c.args.tree.now (ty c.type_text-in-Entry.result) _ _ c.from_ref.result.now c.in-Entry.key.now c.in-Entry.value.now c.from_ref.ensures.value c.type_text-in-Entry.ensures.text c.in-Entry.ensures.shape.1) c.write_members.ensures.bytes

pub tree::write_tree-returns-in-Entry-clause-fault : goal.tree::write_tree-returns-in-Entry-clause-fault
tree::write_tree-returns-in-Entry-clause-fault t c =
    over_same c.write_members.result _ _ _ (encode_entry c.args.tree.now (ty c.type_text-in-Entry.result) _ _ c.from_ref.result.now c.in-Entry.key.now c.in-Entry.value.now c.from_ref.ensures.value c.type_text-in-Entry.ensures.text c.in-Entry.ensures.shape.1) c.write_members.ensures.fault

pub tree::write_tree-returns-in_ok-write_tree-in-Variant-clause-bytes : goal.tree::write_tree-returns-in_ok-write_tree-in-Variant-clause-bytes
tree::write_tree-returns-in_ok-write_tree-in-Variant-clause-bytes t c =
    let child = c.in-Variant.child.now in
    let end = ap (λ u. 0 ∷ spelling u) c.type_text-in-Variant.ensures.text in
    let whole = two_parts c.write_tree-in-Variant.new.out.items c.args.out.now.items (encode child) _ _ _ c.in_ok-write_tree-in-Variant.ensures.bytes end (encode_variant c.args.tree.now child c.in-Variant.ensures.shape) in
    wrote_as c.end_variant.result _ _ _ whole c.end_variant.ensures.bytes

pub tree::write_tree-returns-in_ok-write_tree-in-Variant-clause-fault : goal.tree::write_tree-returns-in_ok-write_tree-in-Variant-clause-fault
tree::write_tree-returns-in_ok-write_tree-in-Variant-clause-fault t c =
    let child = c.in-Variant.child.now in
    let end = ap (λ u. 0 ∷ spelling u) c.type_text-in-Variant.ensures.text in
    let whole = two_parts c.write_tree-in-Variant.new.out.items c.args.out.now.items (encode child) _ _ _ c.in_ok-write_tree-in-Variant.ensures.bytes end (encode_variant c.args.tree.now child c.in-Variant.ensures.shape) in
    over_in_whole c.end_variant.result _ _ (lengths_of _ _ _ _ whole) c.end_variant.ensures.fault

pub tuple::write_members-place-requires : goal.tuple::write_members-place-requires
tuple::write_members-place-requires t c =
    let less = item_le c.args.before.now c.loop-member.member-index c.member-item.result c.loop-member-test.true c.member-item.is in
    let sum = nodes_last c.args.before.now c.args.last.now in
    let placed = c.loop-member.invariant.placed in
    search rules

pub tuple::write_members-returns-in_err-place-clause-fault : goal.tuple::write_members-returns-in_err-place-clause-fault
tuple::write_members-returns-in_err-place-clause-fault t c =
    let l = c.loop-member in
    let here = parts_here_before c.args.before.now c.args.last.now l.member-index c.member-item.result c.loop-member-test.true c.member-item.is in
    let parts = parts_of (c.args.before.now ++ c.args.last.now ∷ []) in
    let part = placed_part _ c.args.out.now.items l.out.items parts _ _ _ here l.invariant.placed in
    stops_over c.from_residual.result _ _ _ (omega (arith, tuple_long parts (fixed_size (ty c.args.of)))) c.in_err-place.ensures.fault c.from_residual.ensures.1

pub tuple::write_members-loop-member-preserved : goal.tuple::write_members-loop-member-preserved
tuple::write_members-loop-member-preserved t c =
    let l = c.loop-member in
    let x = c.member-item.result in
    let start = c.len-start.result in
    let more = some_left (drop (l.member-index + 1) c.args.before.now) c.args.last.now in
    let here = parts_here_before c.args.before.now c.args.last.now l.member-index x c.loop-member-test.true c.member-item.is ∙ ap (λ ps. own_part x ∷ ps) more.2 in
    let size : c.len.result ≡ length c.place.new.out.items = omega (arith, c.len.ensures) in
    let pushed = c.in_ok-push_end.ensures ∙ ap₂ (λ u n. l.ends.items ++ open_end (fixed_size u) (n - start)) c.type_text.ensures.text size in
    subst (MembersSoFar start c.args.out.now.items c.place.new.out.items c.push_end.new.ends.items (parts_of (c.args.before.now ++ c.args.last.now ∷ []))) (sym more.2)
    (members_next _ _ _ _ _ _ _ _ _ _ _ here l.invariant c.in_ok-place.ensures.bytes c.in_ok-place.ensures.fits pushed)

pub tuple::write_members-place-requires-2 : goal.tuple::write_members-place-requires-2
tuple::write_members-place-requires-2 t c =
    let sum = nodes_last c.args.before.now c.args.last.now in
    let placed = c.loop-member.invariant.placed in
    search rules

pub tuple::write_members-returns-in_err-place-2-clause-fault : goal.tuple::write_members-returns-in_err-place-2-clause-fault
tuple::write_members-returns-in_err-place-2-clause-fault t c =
    let l = c.loop-member in
    let here = last_left c.args.before.now c.args.last.now l.member-index (omega arith) in
    let parts = parts_of (c.args.before.now ++ c.args.last.now ∷ []) in
    let part = placed_part _ c.args.out.now.items l.out.items parts _ _ _ here l.invariant.placed in
    stops_over c.from_residual-in_err-place-2.result _ _ _ (omega (arith, tuple_long parts (fixed_size (ty c.args.of)))) c.in_err-place-2.ensures.fault c.from_residual-in_err-place-2.ensures.1

pub tuple::write_members-end_tuple-requires-clause-within : goal.tuple::write_members-end_tuple-requires-clause-within
tuple::write_members-end_tuple-requires-clause-within t c =
    let l = c.loop-member in
    let turned = c.as_slice.ensures ∙ refill_turned _ _ (c.reverse.ensures.after ∙ ap reverse c.deref_mut.ensures.value) in
    let start = c.len-start.result in
    let more : length l.out.items - start ≤ c.len-2.result - start = omega (arith, c.len-2.ensures, ap length c.in_ok-place-2.ensures.bytes, length-append l.out.items (placed_bytes (length l.out.items - start) (own_part c.args.last.now))) in
    subst (AtMost (c.len-2.result - start)) (sym turned) (at_most-reverse (c.len-2.result - start) l.ends.items (at_most_more _ _ l.ends.items more l.invariant.within))

pub tuple::write_members-returns-clause-bytes : goal.tuple::write_members-returns-clause-bytes
tuple::write_members-returns-clause-bytes t c =
    let l = c.loop-member in
    let here = last_left c.args.before.now c.args.last.now l.member-index (omega arith) in
    let from : c.len-start.result ≡ length c.args.out.now.items = omega (arith, c.len-start.ensures) in
    let size : c.len-2.result ≡ length c.place-2.new.out.items = omega (arith, c.len-2.ensures) in
    let turned = c.as_slice.ensures ∙ refill_turned _ _ (c.reverse.ensures.after ∙ ap reverse c.deref_mut.ensures.value) in
    let whole = members_end _ _ _ _ _ _ _ _ _ _ (fixed_size (ty c.args.of)) _ here l.invariant c.in_ok-place-2.ensures.bytes c.in_ok-place-2.ensures.fits from size turned c.fixed_size.ensures in
    wrote_as c.end_tuple.result _ _ _ whole c.end_tuple.ensures.bytes

pub tuple::write_members-returns-clause-fault : goal.tuple::write_members-returns-clause-fault
tuple::write_members-returns-clause-fault t c =
    let l = c.loop-member in
    let here = last_left c.args.before.now c.args.last.now l.member-index (omega arith) in
    let from : c.len-start.result ≡ length c.args.out.now.items = omega (arith, c.len-start.ensures) in
    let size : c.len-2.result ≡ length c.place-2.new.out.items = omega (arith, c.len-2.ensures) in
    let turned = c.as_slice.ensures ∙ refill_turned _ _ (c.reverse.ensures.after ∙ ap reverse c.deref_mut.ensures.value) in
    let whole = members_end _ _ _ _ _ _ _ _ _ _ (fixed_size (ty c.args.of)) _ here l.invariant c.in_ok-place-2.ensures.bytes c.in_ok-place-2.ensures.fits from size turned c.fixed_size.ensures in
    over_in_whole c.end_tuple.result _ _ (lengths_of _ _ _ _ whole) c.end_tuple.ensures.fault

pub tuple::write_tuple-returns-in-None-clause-bytes : goal.tuple::write_tuple-returns-in-None-clause-bytes
tuple::write_tuple-returns-in-None-clause-bytes t c =
    let end = ap (λ f. tuple_end f 0 []) c.fixed_size.ensures ∙ empty_tuple c.args.members.now (fixed_size (ty c.args.of)) c.in-None.ensures.cases in
    wrote_same c.end_tuple.result _ _ _ _ end c.end_tuple.ensures.bytes
