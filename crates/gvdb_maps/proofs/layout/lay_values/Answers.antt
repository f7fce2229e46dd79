use Rattle.std.proofs.Common.{rules, ℕ, ◌≡◌, ◌+◌, List, [], length, get_or, sym, ap, ◌∙◌, arith, Bor}
use Rattle.std.proofs.Math.ListN.{get_or-map}
use Rattle.std.proofs.lemmas.List.{length-map}
use Rattle.std.proofs.lemmas.Result.{IfErr-weaker}
use Rattle.gv_model.specs.Layout.{round_up}
use Rattle.dconf_model.specs.Plans.{values_end}
use Rattle.gvdb_maps.specs.Limits.{IsPast, IsOver}
use Rattle.gvdb_values.specs.WrittenValues.{bytes_of_each}
use Rattle.gvdb_maps.proofs.LaidValues.{none_laid, one_laid, all_laid, whole_end, past_at_align, past_at_lay}
use Rattle.gvdb_values.proofs.WithValues.{no_bytes}
use Rattle.gvdb_maps.proofs.layout.lay_values.Goals as goal

counted : (values : List (Bor (List ℕ))) → length (bytes_of_each values) ≡ length values
counted values = length-map values (λ (v : Bor (List ℕ)). v.now)

size : (values : List (Bor (List ℕ))) (i : ℕ) → length (get_or values i no_bytes).now ≡ length (get_or (bytes_of_each values) i [])
size values i = ap length (sym (get_or-map (λ (v : Bor (List ℕ)). v.now) values i no_bytes))

pub loop-value-init : goal.loop-value-init
loop-value-init c = record { so_far = none_laid c.args.cursor.now.at (bytes_of_each c.args.values.now) c.in_ok-pointers.pointers.items c.in_ok-pointers.ensures.items }

pub loop-value-preserved : goal.loop-value-preserved
loop-value-preserved c =
    let values = bytes_of_each c.args.values.now in
    let i = c.loop-value.value-index in
    let n = counted c.args.values.now in
    let test = c.loop-value-test.true in
    let aligned = c.in_ok-align.ensures.at in
    record {
      so_far = one_laid c.args.cursor.now.at values i c.loop-value.cursor.at c.lay.new.self.at c.loop-value.pointers.items c.push.new.self.items c.in_ok-lay.field-0
          c.loop-value.invariant.so_far (omega (arith, n, test)) (c.in_ok-lay.ensures.start ∙ aligned)
          (c.in_ok-lay.ensures.end ∙ (ap (λ (m : ℕ). m + length (get_or c.args.values.now i no_bytes).now) aligned ∙ ap (λ (m : ℕ). round_up 8 c.loop-value.cursor.at + m) (size c.args.values.now i)))
          (c.in_ok-lay.ensures.at ∙ sym c.in_ok-lay.ensures.end) c.in_ok-push.ensures.items;
    }

pub returns-in_err-align-clause-fault : goal.returns-in_err-align-clause-fault
returns-in_err-align-clause-fault c =
    let values = bytes_of_each c.args.values.now in
    let n = counted c.args.values.now in
    let test = c.loop-value-test.true in
    IfErr-weaker c.from_residual-in_err-align.result (IsPast (round_up 8 c.loop-value.cursor.at)) (IsOver (values_end c.args.cursor.now.at values))
    (past_at_align c.args.cursor.now.at values c.loop-value.value-index c.loop-value.cursor.at c.loop-value.pointers.items c.loop-value.invariant.so_far (omega (arith, n, test)))
    (search rules)

pub returns-in_err-lay-clause-fault : goal.returns-in_err-lay-clause-fault
returns-in_err-lay-clause-fault c =
    let values = bytes_of_each c.args.values.now in
    let i = c.loop-value.value-index in
    let n = counted c.args.values.now in
    let test = c.loop-value-test.true in
    IfErr-weaker c.from_residual-in_err-lay.result (IsPast (c.align.new.self.at + length (get_or c.args.values.now i no_bytes).now)) (IsOver (values_end c.args.cursor.now.at values))
    (past_at_lay c.args.cursor.now.at values i c.loop-value.cursor.at c.align.new.self.at _ c.loop-value.pointers.items c.loop-value.invariant.so_far (omega (arith, n, test))
    c.in_ok-align.ensures.at (size c.args.values.now i))
    (search rules)

pub returns-clause-at : goal.returns-clause-at
returns-clause-at c =
    let n = counted c.args.values.now in
    let test = c.loop-value-test.false in
    whole_end c.args.cursor.now.at (bytes_of_each c.args.values.now) c.loop-value.value-index c.loop-value.cursor.at c.loop-value.pointers.items c.loop-value.invariant.so_far
    (omega (arith, n, test))

pub returns-clause-pointers : goal.returns-clause-pointers
returns-clause-pointers c =
    let n = counted c.args.values.now in
    let test = c.loop-value-test.false in
    let end = c.loop-value.auto.value-index-end in
    all_laid c.args.cursor.now.at (bytes_of_each c.args.values.now) c.loop-value.value-index c.loop-value.cursor.at c.loop-value.pointers.items c.loop-value.invariant.so_far
    (omega (arith, n, test, end))
