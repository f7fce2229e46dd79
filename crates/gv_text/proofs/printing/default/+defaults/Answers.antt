use Rattle.std.proofs.Common.{◌++◌, ◌∷◌, [], drop, sym, ap, ◌∙◌, arith, rules, refl, string_bytes, false, ◌+◌, ◌*◌, ◌-◌, ◌<◌}
use Rattle.std.proofs.lemmas.Option.{same_Some}
use Rattle.std.proofs.lemmas.Result.{MatchResult-weaker, err_from_is_err_and}
use Rattle.gv_model.specs.TypeText.{seen}
use Rattle.gv_model.specs.Printed.{comma}
use Rattle.gv_types.specs.Classes.{basic_of}
use Rattle.gv_types.specs.FirstTypes.{first_type}
use Rattle.gv_types.proofs.FirstTypes.{first_type_some, first_type_class, basic_first_type, variant_first_type, tuple_first_type, entry_first_type, inside_some, inside_first_type, inside_next, key_first_type, value_first_type, entry_closed}
use Rattle.gv_text.specs.Defaults.{default_in}
use Rattle.gv_text.proofs.DefaultTexts.{
  basic_fault,
  basic_writes,
  braced_written,
  element_written,
  emptied_writes,
  first_member_fault,
  first_part,
  is_emptied,
  key_fault_alone,
  next_member_fault,
  next_part,
  no_level,
  one_written,
  pair_of,
  pair_written,
  several,
  tuple_alike,
  tuple_written,
  unit_written,
  value_fault,
  variant_alike,
  variant_fault,
}
use Rattle.gv_text.proofs.printing.default.+defaults.Goals as goal

-- ---- push_first

pub push_first-returns-then-levels-eq0 : goal.push_first-returns-then-levels-eq0
push_first-returns-then-levels-eq0 t c = omega (arith, c.if-levels-eq0.true, no_level (default_in c.args.text.now))

pub push_first-bounds-text-0 : goal.push_first-bounds-text-0
push_first-bounds-text-0 t c = first_type_some c.args.text.now c.requires

pub push_first-unwrap-requires : goal.push_first-unwrap-requires
push_first-unwrap-requires t c = rw (c.of_letter.ensures ∙ first_type_class c.args.text.now c.requires) refl

pub push_first-returns-in_err-push_basic_default-in-Basic : goal.push_first-returns-in_err-push_basic_default-in-Basic
push_first-returns-in_err-push_basic_default-in-Basic t c =
    let w = c.args.text.now in
    let class = same_Some _ _ (sym (first_type_class w c.requires) ∙ (sym c.of_letter.ensures ∙ c.unwrap.ensures)) ∙ c.in-Basic.is in
    let one = basic_first_type w c.in-Basic.of c.requires class in
    let p = err_from_is_err_and c.from_residual.result c.from_residual.ensures.1 in
    rw (p.1, p.2) (basic_fault (first_type (seen w)) (basic_of c.in-Basic.of) c.args.levels c.in_err-push_basic_default-in-Basic.field-0.0 one.type c.in_err-push_basic_default-in-Basic.ensures)

pub push_first-returns-in_ok-push_basic_default-in-Basic : goal.push_first-returns-in_ok-push_basic_default-in-Basic
push_first-returns-in_ok-push_basic_default-in-Basic t c =
    let w = c.args.text.now in
    let class = same_Some _ _ (sym (first_type_class w c.requires) ∙ (sym c.of_letter.ensures ∙ c.unwrap.ensures)) ∙ c.in-Basic.is in
    let one = basic_first_type w c.in-Basic.of c.requires class in
    (rw c.after_letter.ensures one.after, basic_writes (first_type (seen w)) (basic_of c.in-Basic.of) c.args.levels c.args.annotated c.args.in_array (string_bytes c.args.to.now) (string_bytes c.push_basic_default.new.to) one.type (omega (arith, c.if-levels-eq0.false)) c.in_ok-push_basic_default-in-Basic.ensures)

pub push_first-returns-in_err-push_variant_default-in-Variant : goal.push_first-returns-in_err-push_variant_default-in-Variant
push_first-returns-in_err-push_variant_default-in-Variant t c =
    let w = c.args.text.now in
    let class = same_Some _ _ (sym (first_type_class w c.requires) ∙ (sym c.of_letter.ensures ∙ c.unwrap.ensures)) ∙ c.in-Variant.is in
    let one = variant_first_type w c.requires class in
    let p = err_from_is_err_and c.from_residual-in_err-push_variant_default-in-Variant.result c.from_residual-in_err-push_variant_default-in-Variant.ensures.1 in
    rw (p.1, p.2) (variant_fault (first_type (seen w)) c.args.levels c.in_err-push_variant_default-in-Variant.field-0.0 one.type c.in_err-push_variant_default-in-Variant.ensures)

pub push_first-returns-in_ok-push_variant_default-in-Variant : goal.push_first-returns-in_ok-push_variant_default-in-Variant
push_first-returns-in_ok-push_variant_default-in-Variant t c =
    let w = c.args.text.now in
    let class = same_Some _ _ (sym (first_type_class w c.requires) ∙ (sym c.of_letter.ensures ∙ c.unwrap.ensures)) ∙ c.in-Variant.is in
    let one = variant_first_type w c.requires class in
    (rw c.after_letter-in-Variant.ensures one.after, variant_alike (first_type (seen w)) c.args.levels c.args.annotated c.args.in_array (string_bytes c.args.to.now) (string_bytes c.push_variant_default.new.to) one.type c.in_ok-push_variant_default-in-Variant.ensures)

-- ---- entries

pub push_entry_default-returns-then-in_array : goal.push_entry_default-returns-then-in_array
push_entry_default-returns-then-in_array t c =
    let w = c.args.text.now in
    let p = entry_first_type w c.requires.first_type c.requires.kind in
    MatchResult-weaker c.push_pair.result c.push_pair.ensures (λ rest h. (h.0, rw c.if-in_array.true (element_written w p c.args.levels c.args.annotated (string_bytes c.args.to.now) (string_bytes c.push_pair.new.to) h.1))) (λ f h. h)

pub push_entry_default-returns : goal.push_entry_default-returns
push_entry_default-returns t c =
    let w = c.args.text.now in
    let p = entry_first_type w c.requires.first_type c.requires.kind in
    let old = string_bytes c.args.to.now in
    let opened = string_bytes c.push.new.self in
    let now = string_bytes c.push_pair-2.new.to in (
      c.in_ok-rest.ensures.0,
      rw c.if-in_array.false (braced_written w p c.args.levels c.args.annotated old opened now (string_bytes c.push-2.new.self)
          (c.in_ok-push.ensures.bytes ∙ ap (λ l. old ++ l) (c.in_ok-push.ensures.ascii (omega arith))) c.in_ok-rest.ensures.1 (c.in_ok-push-2.ensures.bytes ∙ ap (λ l. now ++ l) (c.in_ok-push-2.ensures.ascii (omega arith)))),
    )

pub push_first-after_letter-requires : goal.push_first-after_letter-requires
push_first-after_letter-requires t c = first_type_some c.args.text.now c.requires

pub push_first-after_letter-requires-in-Variant : goal.push_first-after_letter-requires-in-Variant
push_first-after_letter-requires-in-Variant t c = first_type_some c.args.text.now c.requires

pub push_first-push_emptied_first-requires-clause-kind : goal.push_first-push_emptied_first-requires-clause-kind
push_first-push_emptied_first-requires-clause-kind t c =
    let w = c.args.text.now in
    is_emptied (first_type (seen w)) c.unwrap.result (same_Some _ _ (sym c.unwrap.ensures ∙ (c.of_letter.ensures ∙ first_type_class w c.requires))) c.in-Array.is

pub push_first-push_tuple_default-requires : goal.push_first-push_tuple_default-requires
push_first-push_tuple_default-requires t c =
    let w = c.args.text.now in
    let class = same_Some _ _ (sym (first_type_class w c.requires) ∙ (sym c.of_letter.ensures ∙ c.unwrap.ensures)) ∙ c.in-Tuple.is in
    (search rules, (c.requires, (class, omega (arith, c.if-levels-eq0.false))))

pub push_first-push_entry_default-requires : goal.push_first-push_entry_default-requires
push_first-push_entry_default-requires t c =
    let w = c.args.text.now in
    let class = same_Some _ _ (sym (first_type_class w c.requires) ∙ (sym c.of_letter.ensures ∙ c.unwrap.ensures)) ∙ c.in-Entry.is in
    (search rules, (c.requires, (class, omega (arith, c.if-levels-eq0.false))))

pub push_first-returns-in_ok-push_emptied_first-in-Array : goal.push_first-returns-in_ok-push_emptied_first-in-Array
push_first-returns-in_ok-push_emptied_first-in-Array t c =
    let w = c.args.text.now in
    let kind = is_emptied (first_type (seen w)) c.unwrap.result (same_Some _ _ (sym c.unwrap.ensures ∙ (c.of_letter.ensures ∙ first_type_class w c.requires))) c.in-Array.is in
    let h = c.in_ok-push_emptied_first-in-Array.ensures in
    (h.0, emptied_writes (first_type (seen w)) c.args.levels c.args.annotated c.args.in_array (string_bytes c.args.to.now) (string_bytes c.push_emptied_first.new.to) kind (omega (arith, c.if-levels-eq0.false)) h.1)

pub push_first-returns-in-Tuple : goal.push_first-returns-in-Tuple
push_first-returns-in-Tuple t c =
    let w = c.args.text.now in
    let class = same_Some _ _ (sym (first_type_class w c.requires) ∙ (sym c.of_letter.ensures ∙ c.unwrap.ensures)) ∙ c.in-Tuple.is in
    MatchResult-weaker c.push_tuple_default.result c.push_tuple_default.ensures
    (λ rest h. (h.0, tuple_alike (first_type (seen w)) c.args.levels c.args.annotated c.args.in_array (string_bytes c.args.to.now) (string_bytes c.push_tuple_default.new.to) class h.1)) (λ f h. h)

-- ---- pairs

pub push_pair-after_letter-requires : goal.push_pair-after_letter-requires
push_pair-after_letter-requires t c = first_type_some c.args.text.now c.requires.1.1.0

pub push_pair-push_first-requires : goal.push_pair-push_first-requires
push_pair-push_first-requires t c =
    let w = c.args.text.now in
    let some : 0 < c.args.levels = c.requires.1.1.1.1 in
    let falls : 3 * (c.args.levels - 1) + 2 < 3 * c.args.levels = omega (arith, some) in
    let p = entry_first_type w c.requires.1.1.0 c.requires.1.1.1.0 in
    (search (rules, falls), rw c.after_letter.ensures (key_first_type w p))

pub push_pair-returns-in_err-value : goal.push_pair-returns-in_err-value
push_pair-returns-in_err-value t c =
    let w = c.args.text.now in
    let p = entry_first_type w c.requires.1.1.0 c.requires.1.1.1.0 in
    let e = err_from_is_err_and c.from_residual.result c.from_residual.ensures.1 in
    rw (e.1, e.2) (key_fault_alone w p c.args.levels c.in_err-value.field-0.0 c.requires.1.1.1.1 (rw c.after_letter.ensures at c.in_err-value.ensures))

pub push_pair-push_first-requires-2 : goal.push_pair-push_first-requires-2
push_pair-push_first-requires-2 t c =
    let w = c.args.text.now in
    let some : 0 < c.args.levels = c.requires.1.1.1.1 in
    let falls : 3 * (c.args.levels - 1) + 2 < 3 * c.args.levels = omega (arith, some) in
    let p = entry_first_type w c.requires.1.1.0 c.requires.1.1.1.0 in
    let key = rw c.after_letter.ensures at c.in_ok-value.ensures in
    (search (rules, falls), value_first_type w c.in_ok-value.value.now p key.0)

pub push_pair-returns-in_err-rest : goal.push_pair-returns-in_err-rest
push_pair-returns-in_err-rest t c =
    let w = c.args.text.now in
    let p = entry_first_type w c.requires.1.1.0 c.requires.1.1.1.0 in
    let key = rw c.after_letter.ensures at c.in_ok-value.ensures in
    let e = err_from_is_err_and c.from_residual-in_err-rest.result c.from_residual-in_err-rest.ensures.1 in
    rw (e.1, e.2) (value_fault w c.in_ok-value.value.now c.args.levels c.in_err-rest.field-0.0 c.requires.1.1.1.1 (pair_of w c.in_ok-value.value.now p key.0) c.in_err-rest.ensures)

pub push_pair-after_letter-requires-2 : goal.push_pair-after_letter-requires-2
push_pair-after_letter-requires-2 t c =
    let w = c.args.text.now in
    let p = entry_first_type w c.requires.1.1.0 c.requires.1.1.1.0 in
    let key = rw c.after_letter.ensures at c.in_ok-value.ensures in
    (entry_closed w c.in_ok-value.value.now c.in_ok-rest.rest.now p key.0 c.in_ok-rest.ensures.0).some

pub push_pair-returns : goal.push_pair-returns
push_pair-returns t c =
    let w = c.args.text.now in
    let value = c.in_ok-value.value.now in
    let p = entry_first_type w c.requires.1.1.0 c.requires.1.1.1.0 in
    let key = rw c.after_letter.ensures at c.in_ok-value.ensures in
    let closed = entry_closed w value c.in_ok-rest.rest.now p key.0 c.in_ok-rest.ensures.0 in (
      rw c.after_letter-2.ensures closed.after,
      pair_written w value c.args.levels c.args.mark.now c.args.annotated (string_bytes c.args.to.now) (string_bytes c.push_first.new.to) (string_bytes c.push_str.new.self) (string_bytes c.push_first-2.new.to)
          c.requires.1.1.1.1 (pair_of w value p key.0) key.1 c.in_ok-push_str.ensures.bytes c.in_ok-rest.ensures.1,
    )

-- ---- tuples

pub push_tuple_default-after_letter-inside-requires : goal.push_tuple_default-after_letter-inside-requires
push_tuple_default-after_letter-inside-requires t c = first_type_some c.args.text.now c.requires.first_type

pub push_tuple_default-bounds-inside-0 : goal.push_tuple_default-bounds-inside-0
push_tuple_default-bounds-inside-0 t c =
    let h = tuple_first_type c.args.text.now c.requires.first_type c.requires.kind in
    rw c.after_letter-inside.ensures (inside_some (drop 1 c.args.text.now) h.begins)

pub push_tuple_default-returns-then-inside-eq41 : goal.push_tuple_default-returns-then-inside-eq41
push_tuple_default-returns-then-inside-eq41 t c =
    let w = c.args.text.now in
    let h = tuple_first_type w c.requires.first_type c.requires.kind in
    let old = string_bytes c.args.to.now in
    let opened = string_bytes c.push.new.self in
    let close = rw c.after_letter-inside.ensures at c.if-inside-eq41.true in
    rw (c.after_letter.ensures, c.after_letter-inside.ensures) (unit_written w h c.args.levels c.args.annotated old opened (string_bytes c.push-then-inside-eq41.new.self) c.requires.some close
    (c.in_ok-push.ensures.bytes ∙ ap (λ l. old ++ l) (c.in_ok-push.ensures.ascii (omega arith))) (c.in_ok-push-2.ensures.bytes ∙ ap (λ l. opened ++ l) (c.in_ok-push-2.ensures.ascii (omega arith))))

pub push_tuple_default-push_first-requires : goal.push_tuple_default-push_first-requires
push_tuple_default-push_first-requires t c =
    let w = c.args.text.now in
    let h = tuple_first_type w c.requires.first_type c.requires.kind in
    let falls : 3 * (c.args.levels - 1) + 2 < 3 * c.args.levels + 1 = omega (arith, c.requires.some) in
    (search (rules, falls), rw c.after_letter-inside.ensures (inside_first_type (drop 1 w) h.begins (rw c.after_letter-inside.ensures at c.if-inside-eq41.false)))

pub push_tuple_default-returns-in_err-rest : goal.push_tuple_default-returns-in_err-rest
push_tuple_default-returns-in_err-rest t c =
    let w = c.args.text.now in
    let h = tuple_first_type w c.requires.first_type c.requires.kind in
    let e = err_from_is_err_and c.from_residual-in_err-rest.result c.from_residual-in_err-rest.ensures.1 in
    rw (e.1, e.2) (first_member_fault w h c.args.levels c.in_err-rest.field-0.0 c.requires.some (rw c.after_letter-inside.ensures at c.if-inside-eq41.false) (rw c.after_letter-inside.ensures at c.in_err-rest.ensures))

pub push_tuple_default-loop-rest-init : goal.push_tuple_default-loop-rest-init
push_tuple_default-loop-rest-init t c =
    let w = c.args.text.now in
    let h = tuple_first_type w c.requires.first_type c.requires.kind in
    let old = string_bytes c.args.to.now in
    let opens = c.in_ok-push.ensures.bytes ∙ ap (λ l. old ++ l) (c.in_ok-push.ensures.ascii (omega arith)) in
    let read = rw (c.after_letter-inside.ensures, opens) at c.in_ok-rest.ensures in
    first_part w c.in_ok-rest.rest.now h c.args.levels c.args.annotated (old ++ 40 ∷ []) (string_bytes c.push_first.new.to) c.requires.some (rw c.after_letter-inside.ensures at c.if-inside-eq41.false) read.0 read.1

pub push_tuple_default-bounds-rest-0 : goal.push_tuple_default-bounds-rest-0
push_tuple_default-bounds-rest-0 t c =
    let w = c.args.text.now in
    let h = tuple_first_type w c.requires.first_type c.requires.kind in
    let read = rw c.after_letter-inside.ensures at c.in_ok-rest.ensures in
    inside_some c.in_ok-rest.rest.now (inside_next (drop 1 w) c.in_ok-rest.rest.now h.begins (inside_first_type (drop 1 w) h.begins (rw c.after_letter-inside.ensures at c.if-inside-eq41.false)) read.0).begins

pub push_tuple_default-returns-then-rest-eq41 : goal.push_tuple_default-returns-then-rest-eq41
push_tuple_default-returns-then-rest-eq41 t c =
    let w = c.args.text.now in
    let h = tuple_first_type w c.requires.first_type c.requires.kind in
    let old = string_bytes c.args.to.now in
    let opened = string_bytes c.push.new.self in
    let read = rw c.after_letter-inside.ensures at c.in_ok-rest.ensures in
    rw c.after_letter-then-rest-eq41.ensures (one_written w c.in_ok-rest.rest.now h c.args.levels c.args.annotated old opened (string_bytes c.push_first.new.to) (string_bytes c.push_str.new.self) c.requires.some
    (rw c.after_letter-inside.ensures at c.if-inside-eq41.false) read.0 read.1 c.if-rest-eq41.true (c.in_ok-push.ensures.bytes ∙ ap (λ l. old ++ l) (c.in_ok-push.ensures.ascii (omega arith))) c.in_ok-push_str.ensures.bytes)

pub push_tuple_default-bounds-rest-0-in-loop-rest : goal.push_tuple_default-bounds-rest-0-in-loop-rest
push_tuple_default-bounds-rest-0-in-loop-rest t c = inside_some c.loop-rest.rest.now c.loop-rest.invariant.begins

pub push_tuple_default-push_next-requires : goal.push_tuple_default-push_next-requires
push_tuple_default-push_next-requires t c =
    let falls : 3 * (c.args.levels - 1) + 3 < 3 * c.args.levels + 1 = omega (arith, c.requires.some) in
    (search (rules, falls), inside_first_type c.loop-rest.rest.now c.loop-rest.invariant.begins c.loop-rest-test.true)

pub push_tuple_default-returns-in_err-rest-2 : goal.push_tuple_default-returns-in_err-rest-2
push_tuple_default-returns-in_err-rest-2 t c =
    let w = c.args.text.now in
    let h = tuple_first_type w c.requires.first_type c.requires.kind in
    let e = err_from_is_err_and c.from_residual-in_err-rest-2.result c.from_residual-in_err-rest-2.ensures.1 in
    rw (e.1, e.2) (next_member_fault w c.loop-rest.rest.now h c.args.levels c.args.annotated _ (string_bytes c.loop-rest.to) c.in_err-rest-2.field-0.0 c.requires.some c.loop-rest.invariant c.loop-rest-test.true c.in_err-rest-2.ensures)

pub push_tuple_default-loop-rest-preserved : goal.push_tuple_default-loop-rest-preserved
push_tuple_default-loop-rest-preserved t c =
    let now = string_bytes c.loop-rest.to in
    next_part c.args.text.now c.loop-rest.rest.now c.in_ok-rest-2.rest.now c.args.levels c.args.annotated (string_bytes c.args.to.now ++ 40 ∷ []) now (now ++ comma)
    (string_bytes c.push_next.new.to) c.requires.some c.loop-rest.invariant c.loop-rest-test.true c.in_ok-rest-2.ensures.0 refl c.in_ok-rest-2.ensures.1

pub push_tuple_default-returns : goal.push_tuple_default-returns
push_tuple_default-returns t c =
    let w = c.args.text.now in
    let h = tuple_first_type w c.requires.first_type c.requires.kind in
    let old = string_bytes c.args.to.now in
    let now = string_bytes c.loop-rest.to in
    let begun = rw c.after_letter-inside.ensures at c.if-inside-eq41.false in
    let read = rw c.after_letter-inside.ensures at c.in_ok-rest.ensures in
    let more = (inside_next (drop 1 w) c.in_ok-rest.rest.now h.begins (inside_first_type (drop 1 w) h.begins begun) read.0).begins in
    rw c.after_letter-2.ensures (tuple_written w c.loop-rest.rest.now h c.args.levels c.args.annotated old (old ++ 40 ∷ []) now (string_bytes c.push-2.new.self) c.requires.some
    (several w c.in_ok-rest.rest.now h c.args.levels c.args.annotated old now begun read.0 c.if-rest-eq41.false more) c.loop-rest.invariant c.loop-rest-test.false refl
    (c.in_ok-push-3.ensures.bytes ∙ ap (λ l. now ++ l) (c.in_ok-push-3.ensures.ascii (omega arith))))

-- ---- what comes behind a comma

pub push_next-bounds-text-0 : goal.push_next-bounds-text-0
push_next-bounds-text-0 t c = first_type_some c.args.text.now c.requires

pub push_next-unwrap-requires : goal.push_next-unwrap-requires
push_next-unwrap-requires t c = rw (c.of_letter.ensures ∙ first_type_class c.args.text.now c.requires) refl

pub push_next-after_letter-requires : goal.push_next-after_letter-requires
push_next-after_letter-requires t c = first_type_some c.args.text.now c.requires

pub push_next-returns-in_err-push_basic_after-in-Basic : goal.push_next-returns-in_err-push_basic_after-in-Basic
push_next-returns-in_err-push_basic_after-in-Basic t c =
    let w = c.args.text.now in
    let class = same_Some _ _ (sym (first_type_class w c.requires) ∙ (sym c.of_letter.ensures ∙ c.unwrap.ensures)) ∙ c.in-Basic.is in
    let one = basic_first_type w c.in-Basic.of c.requires class in
    let p = err_from_is_err_and c.from_residual.result c.from_residual.ensures.1 in
    rw (p.1, p.2) (basic_fault (first_type (seen w)) (basic_of c.in-Basic.of) c.args.levels c.in_err-push_basic_after-in-Basic.field-0.0 one.type c.in_err-push_basic_after-in-Basic.ensures)

pub push_next-returns-in_ok-push_basic_after-in-Basic : goal.push_next-returns-in_ok-push_basic_after-in-Basic
push_next-returns-in_ok-push_basic_after-in-Basic t c =
    let w = c.args.text.now in
    let class = same_Some _ _ (sym (first_type_class w c.requires) ∙ (sym c.of_letter.ensures ∙ c.unwrap.ensures)) ∙ c.in-Basic.is in
    let one = basic_first_type w c.in-Basic.of c.requires class in
    (rw c.after_letter.ensures one.after, rw c.if-not-annotated.true (basic_writes (first_type (seen w)) (basic_of c.in-Basic.of) c.args.levels false false (string_bytes c.args.to.now ++ comma) (string_bytes c.push_basic_after.new.to) one.type (omega (arith, c.if-levels-gt0.true)) c.in_ok-push_basic_after-in-Basic.ensures))
