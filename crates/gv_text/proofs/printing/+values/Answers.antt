use Rattle.std.proofs.Common.{◌≡◌, ◌++◌, ◌∷◌, [], true, false, ◌&&◌, ◌-◌, ◌<◌, ◌≤◌, ◌+◌, ℕ, Option, MatchOption, IfSome, length, string_len, rules, refl, sym, ap, ◌∙◌, subst, arith, string_bytes}
use Rattle.std.proofs.lemmas.Result.{err_from_is_err_and}
use Rattle.std.proofs.lemmas.Bool.{and_from, and_left, and_right, false≢true}
use Rattle.gv_model.specs.Tree.{Tree, children, depth}
use Rattle.gv_model.specs.Printed.{comma, holds_double, is_empty, joined_by, text_of, tuple_text, type_mark, when}
use Rattle.gv_model.specs.Quoted.{between}
use Rattle.gv_model.specs.Parts.{part_trees}
use Rattle.gv_model.proofs.ChildLaws.{children_are_parts}
use Rattle.gv_types.specs.Classes.{class_of, basic_of}
use Rattle.gv_types.specs.declared.class.Class.TheVariants as classes
use Rattle.gv_types.proofs.ClassLaws.{basic_class}
use Rattle.gv_types.specs.TypeStr.{element_of, ty}
use Rattle.gv_view.specs.Views.{value, shown, view_ty, view_bytes}
use Rattle.gv_view.specs.Children.{children_left}
use Rattle.gv_view.proofs.Depths.{depth_children}
use Rattle.gv_view.specs.declared.view.View.{View}
use Rattle.gv_text.specs.Printing.{IsNoted, IsNothing, IsPrintedAs, Prints, brackets_of, child_texts}
use Rattle.gv_text.proofs.ContainerTexts.{
  array_doubles,
  entry_alone,
  entry_doubles,
  entry_in_array,
  flat_written,
  marked_text,
  same_in_array,
  tuple_doubles,
  tuple_text_of,
  unwanted_mark,
  variant_doubles,
  variant_text,
  wanted_mark,
  written_as,
}
use Rattle.gv_text.proofs.ChildTexts.{between_written, childless_text, left_first, left_next, left_none, one_member, other_members}
use Rattle.gv_text.proofs.ChildCounts.{alone_first, alone_last, alone_next, alone_none}
use Rattle.gv_text.specs.Defaults.{defaults_left}
use Rattle.gv_text.proofs.RestLaws.{not_alone, rest_refused, rest_written}
use Rattle.gv_text.proofs.ArrayTexts.{byte_string_text, list_text, no_child, some_child, value_array_text}
use Rattle.gv_text.proofs.DefaultTexts.{empty_value, low_brackets}
use Rattle.gv_text.proofs.Figures.{of_basic}
use Rattle.gv_text.proofs.Levels.{childless_fits, first_refused, begin_levels, next_levels, then_refused, all_fit}
use Rattle.gv_text.proofs.Copies.{copied_text, next_noted, none_noted, noted_here, noted_type}
use Rattle.gv_text.proofs.Maybes.{maybe_text, too_deep, within_written}
use Rattle.gv_text.proofs.printing.+values.Goals as goal
use Rattle.gv_text.proofs.printing.+values.Goals.{
  tuple::push_tuple-then-alone,
  tuple::push_tuple-else-alone,
  maybe::push_maybe-then-annotated+in_ok-push_type_mark,
  maybe::push_maybe-else-annotated,
  array::push_array-then-annotated+then-n_children-eq0+in_ok-push_type_mark,
  array::push_array-else-annotated,
  array::push_array-else-annotated-via-then-annotated+else-n_children-eq0,
  array::push_array-else-annotated-via-else-annotated,
}

-- ---- push_value

pub push_value-returns-then-levels-eq0 : goal.push_value-returns-then-levels-eq0
push_value-returns-then-levels-eq0 t c = omega (arith, c.if-levels-eq0.true, depth_children (value c.args.view))

pub push_value-returns-then-is_empty : goal.push_value-returns-then-is_empty
push_value-returns-then-is_empty t c =
    let none = empty_value (view_ty c.args.view) (view_bytes c.args.view) (rw c.bytes.ensures at (sym c.is_empty.ensures ∙ c.if-is_empty.true)) in
    subst (λ (v : Tree). Prints c.push_default.result v c.args.levels c.args.annotated c.args.in_array (string_bytes c.args.to.now) (string_bytes c.push_default.new.to)) (sym none) (rw c.type_str.ensures at c.push_default.ensures)

pub push_value-returns-in-Basic : goal.push_value-returns-in-Basic
push_value-returns-in-Basic t c =
    let of = view_ty c.args.view in
    let kind = c.in-Basic.ensures ∙ ap (λ s. class_of (ty s)) c.type_str-2.ensures in
    let flat = (of_basic of (basic_of c.in-Basic.basic) (view_bytes c.args.view) (basic_class of c.in-Basic.basic kind)).flat in
    flat_written c.push_basic.result _ _ c.args.levels _ _ (string_bytes c.args.to.now) (string_bytes c.push_basic.new.to) flat (omega (arith, c.if-levels-eq0.false))
    (sym (same_in_array of (view_bytes c.args.view) c.args.annotated c.args.in_array (λ e. let no : classes.Basic c.in-Basic.basic ≡ classes.Entry = kind ∙ e in cc))) c.push_basic.ensures

pub push_value-returns-in-Variant : goal.push_value-returns-in-Variant
push_value-returns-in-Variant t c =
    let of = view_ty c.args.view in
    let b = view_bytes c.args.view in
    let kind = sym (c.in-Variant.ensures ∙ ap (λ s. class_of (ty s)) c.type_str-2.ensures) in
    written_as c.push_between.result _ _ _ c.args.levels _ _ (string_bytes c.args.to.now) (string_bytes c.push_between.new.to) (variant_doubles of b kind) (variant_text of b c.args.annotated c.args.in_array kind) c.push_between.ensures

pub push_value-returns-in-Array : goal.push_value-returns-in-Array
push_value-returns-in-Array t c =
    let kind = c.in-Array.ensures ∙ ap (λ s. class_of (ty s)) c.type_str-2.ensures in
    written_as c.push_array.result _ _ _ c.args.levels _ _ (string_bytes c.args.to.now) (string_bytes c.push_array.new.to) refl (sym (same_in_array (view_ty c.args.view) (view_bytes c.args.view) c.args.annotated c.args.in_array (λ e. let no : classes.Array ≡ classes.Entry = kind ∙ e in cc))) c.push_array.ensures

pub push_value-returns-in-Maybe : goal.push_value-returns-in-Maybe
push_value-returns-in-Maybe t c =
    let kind = c.in-Maybe.ensures ∙ ap (λ s. class_of (ty s)) c.type_str-2.ensures in
    written_as c.push_maybe.result _ _ _ c.args.levels _ _ (string_bytes c.args.to.now) (string_bytes c.push_maybe.new.to) refl (sym (same_in_array (view_ty c.args.view) (view_bytes c.args.view) c.args.annotated c.args.in_array (λ e. let no : classes.Maybe ≡ classes.Entry = kind ∙ e in cc))) c.push_maybe.ensures

pub push_value-returns-in-Tuple : goal.push_value-returns-in-Tuple
push_value-returns-in-Tuple t c =
    let kind = c.in-Tuple.ensures ∙ ap (λ s. class_of (ty s)) c.type_str-2.ensures in
    written_as c.push_tuple.result _ _ _ c.args.levels _ _ (string_bytes c.args.to.now) (string_bytes c.push_tuple.new.to) refl (sym (same_in_array (view_ty c.args.view) (view_bytes c.args.view) c.args.annotated c.args.in_array (λ e. let no : classes.Tuple ≡ classes.Entry = kind ∙ e in cc))) c.push_tuple.ensures

-- ---- tuples and entries

pub tuple::push_entry-returns-then-not-in_array : goal.tuple::push_entry-returns-then-not-in_array
tuple::push_entry-returns-then-not-in_array t c =
    let of = view_ty c.args.view in
    let b = view_bytes c.args.view in
    written_as c.push_between.result _ _ _ c.args.levels _ _ (string_bytes c.args.to.now) (string_bytes c.push_between.new.to) (entry_doubles of b c.requires.kind)
    (ap (text_of (value c.args.view) c.args.annotated) c.if-not-in_array.true ∙ entry_alone of b c.args.annotated c.requires.kind) c.push_between.ensures

pub tuple::push_entry-returns : goal.tuple::push_entry-returns
tuple::push_entry-returns t c =
    let of = view_ty c.args.view in
    let b = view_bytes c.args.view in
    let w = c.in_ok-push_children.ensures.text in
    record {
      plain = entry_doubles of b c.requires.kind ∙ w.plain;
      text = w.text ∙ ap (λ l. string_bytes c.args.to.now ++ l) (sym (entry_in_array of b c.args.annotated c.requires.kind) ∙ ap (text_of (value c.args.view) c.args.annotated) (sym c.if-not-in_array.false));
      fits = w.fits;
    }

pub tuple::push_entry-returns-in_err-push_children : goal.tuple::push_entry-returns-in_err-push_children
tuple::push_entry-returns-in_err-push_children t c =
    let p = err_from_is_err_and c.from_residual.result c.from_residual.ensures.1 in
    rw (p.1, p.2, entry_doubles (view_ty c.args.view) (view_bytes c.args.view) c.requires.kind) c.in_err-push_children.ensures.text

pub tuple::push_tuple-returns : goal.tuple::push_tuple-returns
tuple::push_tuple-returns t c =
    let of = view_ty c.args.view in
    let b = view_bytes c.args.view in
    let vs = children (value c.args.view) in
    let old = string_bytes c.args.to.now in
    let opened = string_bytes c.push.new.self in
    let opens : opened ≡ old ++ 40 ∷ [] = c.in_ok-push.ensures.bytes ∙ ap (λ l. old ++ l) (c.in_ok-push.ensures.ascii (omega arith)) in
    let written = string_bytes c.push_children.new.to in
    let closed = string_bytes c.push_str.new.self in
    let w = c.in_ok-alone.ensures.text in
    let whole : closed ≡ old ++ tuple_text (child_texts vs c.args.annotated false) = elim c.if-alone.branch [
      | tuple::push_tuple-then-alone u ↦ one_member vs c.args.annotated old opened written closed (c.in_ok-alone.ensures.alone.0 u.if-alone.true) opens w.text (c.in_ok-push_str.ensures.bytes ∙ ap (λ s. written ++ s.now) u.push_str-is)
      | tuple::push_tuple-else-alone u ↦ other_members vs c.args.annotated old opened written closed (λ e. false≢true (sym u.if-alone.false ∙ c.in_ok-alone.ensures.alone.1 e)) opens w.text (c.in_ok-push_str.ensures.bytes ∙ ap (λ s. written ++ s.now) u.push_str-is)
    ] in
    record { plain = tuple_doubles of b c.requires.kind ∙ w.plain; text = whole ∙ ap (λ l. old ++ l) (sym (tuple_text_of of b c.args.annotated c.requires.kind)); fits = w.fits }

pub tuple::push_tuple-returns-in_err-alone : goal.tuple::push_tuple-returns-in_err-alone
tuple::push_tuple-returns-in_err-alone t c =
    let p = err_from_is_err_and c.from_residual-in_err-alone.result c.from_residual-in_err-alone.ensures.1 in
    rw (p.1, p.2, tuple_doubles (view_ty c.args.view) (view_bytes c.args.view) c.requires.kind) c.in_err-alone.ensures.text

-- ---- children

pub children::push_children-returns-in_default-clause-text : goal.children::push_children-returns-in_default-clause-text
children::push_children-returns-in_default-clause-text t c =
    let none = children_are_parts (view_ty c.args.view) (view_bytes c.args.view) ∙ (ap part_trees (sym c.children-children.ensures) ∙ ap part_trees c.in_default.ensures.steps.0) in
    let e = childless_text c.args.mark.now c.args.annotated false (string_bytes c.args.to.now) in
    record { plain = rw none e.0; text = rw none e.1; fits = childless_fits (value c.args.view) c.args.levels none c.requires.1.1 }

pub children::push_children-returns-in_default-clause-alone : goal.children::push_children-returns-in_default-clause-alone
children::push_children-returns-in_default-clause-alone t c =
    let none = children_are_parts (view_ty c.args.view) (view_bytes c.args.view) ∙ (ap part_trees (sym c.children-children.ensures) ∙ ap part_trees c.in_default.ensures.steps.0) in
    alone_none (children (value c.args.view)) none

pub children::push_children-returns-in_err-push_value-clause-text : goal.children::push_children-returns-in_err-push_value-clause-text
children::push_children-returns-in_err-push_value-clause-text t c =
    let some = children_are_parts (view_ty c.args.view) (view_bytes c.args.view) ∙ (ap part_trees (sym c.children-children.ensures) ∙ ap part_trees c.in-Some.ensures.steps) in
    let p = err_from_is_err_and c.from_residual.result c.from_residual.ensures.1 in
    rw (p.1, p.2) (first_refused (value c.args.view) (value c.in-Some.first) _ c.args.levels c.in_err-push_value.field-0.0 some c.in_err-push_value.ensures)

pub children::push_children-loop-child-init : goal.children::push_children-loop-child-init
children::push_children-loop-child-init t c =
    let some = children_are_parts (view_ty c.args.view) (view_bytes c.args.view) ∙ (ap part_trees (sym c.children-children.ensures) ∙ ap part_trees c.in-Some.ensures.steps) in
    let left = part_trees (children_left c.next.new.self) in
    let w = c.in_ok-push_value.ensures in (
      rw some (left_first c.args.mark.now (value c.in-Some.first) left c.args.annotated false (string_bytes c.args.to.now) (string_bytes c.push_value.new.to) w.plain w.text),
      alone_first (children (value c.args.view)) left (value c.in-Some.first) some,
      begin_levels (value c.args.view) (value c.in-Some.first) left c.args.levels some c.requires.1.1 w.fits,
    )

-- the children behind the first are annotated where the first is
pub children::push_children-loop-child-preserved : goal.children::push_children-loop-child-preserved
children::push_children-loop-child-preserved t c =
    let one = ap part_trees c.in-Some-next.ensures.steps in
    let v = value c.args.view in
    let u = value c.in-Some-next.child in
    let left = part_trees (children_left c.next-in-loop-child.new.self) in
    let w = c.in_ok-push_value-2.ensures in (
      left_next c.args.mark.now (children v) u left c.args.annotated false (string_bytes c.args.to.now) (string_bytes c.loop-child.to)
          (string_bytes c.push_str.new.self) (string_bytes c.push_value-in-Some-next.new.to) (rw one at c.loop-child.invariant.0) c.in_ok-push_str.ensures.bytes w.plain w.text,
      alone_next c.loop-child.alone (children v) (part_trees (children_left c.loop-child.children)) left u one c.loop-child.invariant.1,
      next_levels v u left (part_trees (children_left c.loop-child.children)) c.args.levels one c.requires.1.1 w.fits c.loop-child.invariant.2,
    )

pub children::push_children-returns-in_err-push_value-2-clause-text : goal.children::push_children-returns-in_err-push_value-2-clause-text
children::push_children-returns-in_err-push_value-2-clause-text t c =
    let p = err_from_is_err_and c.from_residual-in_err-push_value-2.result c.from_residual-in_err-push_value-2.ensures.1 in
    rw (p.1, p.2) (then_refused (value c.args.view) (value c.in-Some-next.child) _ _ c.args.levels c.in_err-push_value-2.field-0.0 (ap part_trees c.in-Some-next.ensures.steps) c.loop-child.invariant.0.doubles c.loop-child.invariant.2 c.in_err-push_value-2.ensures)

pub children::push_children-returns-clause-text : goal.children::push_children-returns-clause-text
children::push_children-returns-clause-text t c =
    let none = ap part_trees c.in_default-next.ensures.steps.0 in
    let e = left_none c.args.mark.now (children (value c.args.view)) c.args.annotated false (string_bytes c.args.to.now) (string_bytes c.loop-child.to) (rw none at c.loop-child.invariant.0) in
    record { plain = e.0; text = e.1; fits = all_fit (value c.args.view) (part_trees (children_left c.loop-child.children)) c.args.levels none c.requires.1.1 c.loop-child.invariant.2 }

pub children::push_children-returns-clause-alone : goal.children::push_children-returns-clause-alone
children::push_children-returns-clause-alone t c =
    alone_last c.loop-child.alone (children (value c.args.view)) (part_trees (children_left c.loop-child.children)) (ap part_trees c.in_default-next.ensures.steps.0) c.loop-child.invariant.1

-- ---- members that lie nowhere

pub children::push_children-returns-in-Some-unplaced-clause-text : goal.children::push_children-returns-in-Some-unplaced-clause-text
children::push_children-returns-in-Some-unplaced-clause-text t c =
    let one = ap part_trees c.in-Some-next.ensures.steps in
    let v = value c.args.view in
    let u = value c.in-Some-next.child in
    let left = part_trees (children_left c.next-in-loop-child.new.self) in
    let w = c.in_ok-push_value-2.ensures in
    let now = string_bytes c.push_value-in-Some-next.new.to in
    let was = left_next c.args.mark.now (children v) u left c.args.annotated false (string_bytes c.args.to.now) (string_bytes c.loop-child.to) (string_bytes c.push_str.new.self) now (rw one at c.loop-child.invariant.0) c.in_ok-push_str.ensures.bytes w.plain w.text in
    let are = next_levels v u left (part_trees (children_left c.loop-child.children)) c.args.levels one c.requires.1.1 w.fits c.loop-child.invariant.2 in
    rest_written c.args.mark.now v left (defaults_left c.in-Some-unplaced.unplaced) c.args.levels c.args.annotated c.args.annotated (string_bytes c.args.to.now) now (string_bytes c.push_rest.new.to) was are c.in-Some-unplaced.ensures.defaults c.requires.1.1 refl c.in_ok-push_rest.ensures

pub children::push_children-returns-in_err-push_rest-clause-text : goal.children::push_children-returns-in_err-push_rest-clause-text
children::push_children-returns-in_err-push_rest-clause-text t c =
    let p = err_from_is_err_and c.from_residual-in_err-push_rest.result c.from_residual-in_err-push_rest.ensures.1 in
    let one = ap part_trees c.in-Some-next.ensures.steps in
    let v = value c.args.view in
    let u = value c.in-Some-next.child in
    let left = part_trees (children_left c.next-in-loop-child.new.self) in
    let w = c.in_ok-push_value-2.ensures in
    let now = string_bytes c.push_value-in-Some-next.new.to in
    let was = left_next c.args.mark.now (children v) u left c.args.annotated false (string_bytes c.args.to.now) (string_bytes c.loop-child.to) (string_bytes c.push_str.new.self) now (rw one at c.loop-child.invariant.0) c.in_ok-push_str.ensures.bytes w.plain w.text in
    let are = next_levels v u left (part_trees (children_left c.loop-child.children)) c.args.levels one c.requires.1.1 w.fits c.loop-child.invariant.2 in
    rw (p.1, p.2) (rest_refused c.args.mark.now v left (defaults_left c.in-Some-unplaced.unplaced) c.args.levels c.args.annotated (string_bytes c.args.to.now) now c.in_err-push_rest.field-0.0 was are c.in-Some-unplaced.ensures.defaults c.in_err-push_rest.ensures)

pub children::push_children-returns-in-Some-unplaced-clause-alone : goal.children::push_children-returns-in-Some-unplaced-clause-alone
children::push_children-returns-in-Some-unplaced-clause-alone t c =
    let left = part_trees (children_left c.next-in-loop-child.new.self) in
    not_alone (children (value c.args.view)) left (alone_next c.loop-child.alone (children (value c.args.view)) (part_trees (children_left c.loop-child.children)) left (value c.in-Some-next.child) (ap part_trees c.in-Some-next.ensures.steps) c.loop-child.invariant.1)

-- ---- maybes

pub maybe::push_maybe-returns-in_err-inner : goal.maybe::push_maybe-returns-in_err-inner
maybe::push_maybe-returns-in_err-inner t c =
    let p = err_from_is_err_and c.from_residual-in_err-inner.result c.from_residual-in_err-inner.ensures.1 in
    rw (p.1, p.2) (too_deep (value c.args.view) c.args.levels c.in_err-inner.field-0.0 c.in_err-inner.ensures.deep.0 c.in_err-inner.ensures.deep.1)

pub maybe::push_maybe-returns-in-Some : goal.maybe::push_maybe-returns-in-Some
maybe::push_maybe-returns-in-Some t c =
    let of = view_ty c.args.view in
    let v = value c.args.view in
    let old = string_bytes c.args.to.now in
    let mid : string_bytes c.if-annotated.to ≡ old ++ when c.args.annotated (type_mark of) = elim c.if-annotated.branch [
      | maybe::push_maybe-then-annotated+in_ok-push_type_mark w ↦ ap string_bytes w.to-is ∙ wanted_mark c.args.annotated (type_mark of) old _ w.if-annotated.true (w.in_ok-push_type_mark.ensures ∙ ap (λ s. old ++ type_mark (ty s)) w.type_str.ensures)
      | maybe::push_maybe-else-annotated w ↦ ap string_bytes w.to-is ∙ unwanted_mark c.args.annotated (type_mark of) old w.if-annotated.false
    ] in
    let inside = subst (λ (o : Option (View × ℕ)). MatchOption o (IsNothing v) (λ r. IsPrintedAs v (value r.0))) c.in-Some.is c.in_ok-inner.ensures.inner in
    let left = subst (λ (o : Option (View × ℕ)). MatchOption o (depth v ≤ c.args.levels) (λ r. (r.1 < c.args.levels) × (r.1 + depth v ≡ c.args.levels + depth (value r.0)))) c.in-Some.is c.in_ok-inner.ensures.left in
    within_written c.push_value.result v (value c.in-Some.inner) c.args.levels c.in-Some.left c.args.annotated _ old (string_bytes c.if-annotated.to) (string_bytes c.push_value.new.to) inside left.1 (maybe_text of (view_bytes c.args.view) c.args.annotated c.requires.kind) mid c.push_value.ensures

pub maybe::push_maybe-returns-in_ok-push_nothing-in-None : goal.maybe::push_maybe-returns-in_ok-push_nothing-in-None
maybe::push_maybe-returns-in_ok-push_nothing-in-None t c =
    let of = view_ty c.args.view in
    let v = value c.args.view in
    let old = string_bytes c.args.to.now in
    let mid : string_bytes c.if-annotated.to ≡ old ++ when c.args.annotated (type_mark of) = elim c.if-annotated.branch [
      | maybe::push_maybe-then-annotated+in_ok-push_type_mark w ↦ ap string_bytes w.to-is ∙ wanted_mark c.args.annotated (type_mark of) old _ w.if-annotated.true (w.in_ok-push_type_mark.ensures ∙ ap (λ s. old ++ type_mark (ty s)) w.type_str.ensures)
      | maybe::push_maybe-else-annotated w ↦ ap string_bytes w.to-is ∙ unwanted_mark c.args.annotated (type_mark of) old w.if-annotated.false
    ] in
    let nothing = subst (λ (o : Option (View × ℕ)). MatchOption o (IsNothing v) (λ r. IsPrintedAs v (value r.0))) c.in-None.is c.in_ok-inner.ensures.inner in
    let left = subst (λ (o : Option (View × ℕ)). MatchOption o (depth v ≤ c.args.levels) (λ r. (r.1 < c.args.levels) × (r.1 + depth v ≡ c.args.levels + depth (value r.0)))) c.in-None.is c.in_ok-inner.ensures.left in
    record {
      plain = nothing.plain;
      text = marked_text _ _ _ old (string_bytes c.if-annotated.to) (string_bytes c.push_nothing.new.to) (maybe_text of (view_bytes c.args.view) c.args.annotated c.requires.kind) mid c.in_ok-push_nothing-in-None.ensures;
      fits = left;
    }

-- ---- arrays

pub array::push_array-returns-then-levels-lt2 : goal.array::push_array-returns-then-levels-lt2
array::push_array-returns-then-levels-lt2 t c = omega (arith, c.if-levels-lt2.true, c.in-Some.ensures.levels)

pub array::push_array-returns-in-Some : goal.array::push_array-returns-in-Some
array::push_array-returns-in-Some t c = record {
  plain = c.in-Some.ensures.plain;
  text = c.in_ok-push_byte_string.ensures ∙ ap (λ l. string_bytes c.args.to.now ++ l) (sym (byte_string_text (value c.args.view) c.in-Some.body.now c.args.annotated false (sym c.in-Some.ensures.text)));
  fits = omega (arith, c.if-levels-lt2.false, c.in-Some.ensures.levels);
}

pub array::push_array-returns-in_err-push_elements : goal.array::push_array-returns-in_err-push_elements
array::push_array-returns-in_err-push_elements t c =
    let p = err_from_is_err_and c.from_residual-in_err-push_elements.result c.from_residual-in_err-push_elements.ensures.1 in
    rw (p.1, p.2, array_doubles (view_ty c.args.view) (view_bytes c.args.view) c.requires.kind) c.in_err-push_elements.ensures

pub array::push_array-returns : goal.array::push_array-returns
array::push_array-returns t c =
    let of = view_ty c.args.view in
    let b = view_bytes c.args.view in
    let vs = children (value c.args.view) in
    let old = string_bytes c.args.to.now in
    let wanted = c.args.annotated && is_empty vs in
    let mid : string_bytes c.if-annotated.to ≡ old ++ when wanted (type_mark of) = elim c.if-annotated.branch [
      | array::push_array-then-annotated+then-n_children-eq0+in_ok-push_type_mark w ↦ ap string_bytes w.to-is
          ∙ wanted_mark wanted (type_mark of) old _ (and_from c.args.annotated (is_empty vs) w.if-annotated.true (no_child vs _ w.n_children.ensures w.if-n_children-eq0.true))
          (w.in_ok-push_type_mark.ensures ∙ ap (λ s. old ++ type_mark (ty s)) w.type_str.ensures)
      | array::push_array-else-annotated w ↦ ap string_bytes w.to-is ∙ unwanted_mark wanted (type_mark of) old (elim w.else-annotated.branch [
        | array::push_array-else-annotated-via-then-annotated+else-n_children-eq0 u ↦ and_right c.args.annotated (is_empty vs) (some_child vs _ u.n_children.ensures u.if-n_children-eq0.false)
        | array::push_array-else-annotated-via-else-annotated u ↦ and_left c.args.annotated (is_empty vs) u.if-annotated.false
      ])
    ] in
    let w = c.in_ok-push_elements.ensures in
    let q = c.brackets-left.result in
    let is = c.brackets-left.ensures ∙ ap (λ s. brackets_of (element_of (ty s))) c.type_str-2.ensures in
    let low = low_brackets q (element_of of) is in
    let listed = between_written q.0 q.1 (joined_by comma (child_texts vs c.args.annotated true)) (string_bytes c.if-annotated.to) (string_bytes c.push.new.self) (string_bytes c.push_elements.new.to) (string_bytes c.push-2.new.self)
    (c.in_ok-push.ensures.bytes ∙ ap (λ l. string_bytes c.if-annotated.to ++ l) (c.in_ok-push.ensures.ascii low.0)) w.text (c.in_ok-push-2.ensures.bytes ∙ ap (λ l. string_bytes c.push_elements.new.to ++ l) (c.in_ok-push-2.ensures.ascii low.1)) in
    record {
      plain = array_doubles of b c.requires.kind ∙ w.plain;
      text = marked_text (list_text of vs c.args.annotated) _ (when wanted (type_mark of)) old (string_bytes c.if-annotated.to) (string_bytes c.push-2.new.self) (value_array_text of b c.args.annotated false c.requires.kind (sym c.in_default.ensures.text)) mid
          (listed ∙ ap (λ p. string_bytes c.if-annotated.to ++ between p.0 (joined_by comma (child_texts vs c.args.annotated true)) p.1) is);
      fits = w.fits;
    }

-- ---- elements of an array

pub array::push_elements-returns-in_default : goal.array::push_elements-returns-in_default
array::push_elements-returns-in_default t c =
    let none = children_are_parts (view_ty c.args.view) (view_bytes c.args.view) ∙ (ap part_trees (sym c.children-children.ensures) ∙ ap part_trees c.in_default.ensures.steps.0) in
    let e = childless_text comma c.args.annotated true (string_bytes c.args.to.now) in
    record { plain = rw none e.0; text = rw none e.1; fits = childless_fits (value c.args.view) c.args.levels none c.requires.some }

pub array::push_elements-returns-in_err-push_value : goal.array::push_elements-returns-in_err-push_value
array::push_elements-returns-in_err-push_value t c =
    let some = children_are_parts (view_ty c.args.view) (view_bytes c.args.view) ∙ (ap part_trees (sym c.children-children.ensures) ∙ ap part_trees c.in-Some.ensures.steps) in
    let p = err_from_is_err_and c.from_residual.result c.from_residual.ensures.1 in
    rw (p.1, p.2) (first_refused (value c.args.view) (value c.in-Some.first) _ c.args.levels c.in_err-push_value.field-0.0 some c.in_err-push_value.ensures)

pub array::push_elements-loop-child-init : goal.array::push_elements-loop-child-init
array::push_elements-loop-child-init t c =
    let some = children_are_parts (view_ty c.args.view) (view_bytes c.args.view) ∙ (ap part_trees (sym c.children-children.ensures) ∙ ap part_trees c.in-Some.ensures.steps) in
    let left = children_left c.next.new.self in
    let w = c.in_ok-push_value.ensures in (
      rw some (left_first comma (value c.in-Some.first) (part_trees left) c.args.annotated true (string_bytes c.args.to.now) (string_bytes c.push_value.new.to) w.plain w.text),
      begin_levels (value c.args.view) (value c.in-Some.first) (part_trees left) c.args.levels some c.requires.some w.fits,
      none_noted (view_ty c.args.view) (view_bytes c.args.view) (shown c.in-Some.first) left _ (c.args.levels - 1) (string_bytes c.push_value.new.to) c.requires.kind c.children-children.ensures c.in-Some.ensures.steps,
    )

pub array::push_elements-push_element-requires : goal.array::push_elements-push_element-requires
array::push_elements-push_element-requires t c = (
  omega (arith, c.requires.some),
  noted_type (shown c.in-Some-next.child) (children_left c.next-in-loop-child.new.self) (children_left c.loop-child.children) c.loop-child.noted (c.args.levels - 1) (string_bytes c.loop-child.to) c.in-Some-next.ensures.steps c.loop-child.invariant.2,
)

pub array::push_elements-loop-child-preserved : goal.array::push_elements-loop-child-preserved
array::push_elements-loop-child-preserved t c =
    let one = ap part_trees c.in-Some-next.ensures.steps in
    let u = value c.in-Some-next.child in
    let left = children_left c.next-in-loop-child.new.self in
    let now = string_bytes c.loop-child.to in
    let new = string_bytes c.push_element.new.to in
    let w = c.in_ok-noted.ensures.text in (
      left_next comma (children (value c.args.view)) u (part_trees left) c.args.annotated true (string_bytes c.args.to.now) now (now ++ comma) new (rw one at c.loop-child.invariant.0) refl w.plain w.text,
      next_levels (value c.args.view) u (part_trees left) (part_trees (children_left c.loop-child.children)) c.args.levels one c.requires.some w.fits c.loop-child.invariant.1,
      next_noted (shown c.in-Some-next.child) left (children_left c.loop-child.children) c.loop-child.noted c.in_ok-noted.noted (c.args.levels - 1) now new c.in-Some-next.ensures.steps c.loop-child.invariant.2 c.in_ok-noted.ensures.noted,
    )

pub array::push_elements-returns-in_err-noted : goal.array::push_elements-returns-in_err-noted
array::push_elements-returns-in_err-noted t c =
    let p = err_from_is_err_and c.from_residual-in_err-noted.result c.from_residual-in_err-noted.ensures.1 in
    rw (p.1, p.2) (then_refused (value c.args.view) (value c.in-Some-next.child) _ _ c.args.levels c.in_err-noted.field-0.0 (ap part_trees c.in-Some-next.ensures.steps) c.loop-child.invariant.0.doubles c.loop-child.invariant.1 c.in_err-noted.ensures.text)

pub array::push_elements-returns : goal.array::push_elements-returns
array::push_elements-returns t c =
    let none = ap part_trees c.in_default-next.ensures.steps.0 in
    let e = left_none comma (children (value c.args.view)) c.args.annotated true (string_bytes c.args.to.now) (string_bytes c.loop-child.to) (rw none at c.loop-child.invariant.0) in
    record { plain = e.0; text = e.1; fits = all_fit (value c.args.view) (part_trees (children_left c.loop-child.children)) c.args.levels none c.requires.some c.loop-child.invariant.1 }

-- ---- an element behind a comma

pub array::push_element-returns-in-Some-clause-text : goal.array::push_element-returns-in-Some-clause-text
array::push_element-returns-in-Some-clause-text t c =
    let of = view_ty c.args.child in
    let none = empty_value of (view_bytes c.args.child) (rw c.bytes.ensures at (sym c.is_empty-is_empty.ensures ∙ c.if-is_empty.true)) in
    let is = subst (λ o. IfSome o (λ r. IsNoted of c.args.levels r.0 r.1 (string_bytes c.args.to.now))) c.in-Some.is c.requires in
    let old = string_bytes c.args.to.now in
    record {
      plain = ap holds_double none ∙ is.plain;
      text = copied_text of c.args.levels _ _ old (string_bytes c.extend_from_within.new.self) is c.in_ok-extend_from_within.ensures.bytes ∙ ap (λ u. (old ++ comma) ++ text_of u false true) (sym none);
      fits = omega (arith, ap depth none, is.fits);
    }

pub array::push_element-returns-then-is_empty-2-clause-noted : goal.array::push_element-returns-then-is_empty-2-clause-noted
array::push_element-returns-then-is_empty-2-clause-noted t c =
    let of = view_ty c.args.child in
    let none = empty_value of (view_bytes c.args.child) (rw c.bytes.ensures at (sym c.is_empty-is_empty.ensures ∙ c.if-is_empty-2.true)) in
    let old = string_bytes c.args.to.now in
    let w = c.in_ok-push_value.ensures in
    let text : string_bytes c.push_value.new.to ≡ (old ++ comma) ++ text_of (value c.args.child) false true = w.text ∙ ap (λ l. l ++ text_of (value c.args.child) false true) c.in_ok-push_str.ensures.bytes in
    let first : length (string_bytes c.args.to.now) ≡ string_len c.args.to.now = search rules in
    let last : length (string_bytes c.push_value.new.to) ≡ string_len c.push_value.new.to = search rules in
    noted_here of c.args.levels c.len-start.result c.len.result old (string_bytes c.push_value.new.to) (ap holds_double (sym none) ∙ w.plain) (omega (arith, ap depth none, w.fits)) (c.len-start.ensures ∙ sym first) (c.len.ensures ∙ sym last)
    (text ∙ ap (λ u. (old ++ comma) ++ text_of u false true) none)
