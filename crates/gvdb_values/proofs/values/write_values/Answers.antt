use Rattle.std.proofs.Common.{◌≡◌, ◌<◌, List, ℕ, ◌++◌, [], length, get_or, sym, refl, ap, ◌∙◌, arith, Bor}
use Rattle.std.proofs.Math.ListN.{get_or-map}
use Rattle.std.proofs.lemmas.List.{length-map}
use Rattle.gvdb_values.specs.WrittenValues.{with_values, bytes_of_each}
use Rattle.gvdb_values.proofs.WithValues.{all_taken, no_bytes, next_8, padded_is, value_appended}
use Rattle.gvdb_values.proofs.values.write_values.Goals as goal

pub loop-value-init : goal.loop-value-init
loop-value-init c = refl

pub loop-value-preserved : goal.loop-value-preserved
loop-value-preserved c =
    let values = bytes_of_each c.args.values.now in
    let i = c.loop-value.value-index in
    let count = length-map c.args.values.now (λ (v : Bor (List ℕ)). v.now) in
    let test = c.loop-value-test.true in
    let here : i < length values = omega (arith, count, test) in
    let next = c.next_multiple_of.ensures in
    let len : c.len.result ≡ length c.loop-value.out.items = omega arith in
    let pad = padded_is 8 c.loop-value.out.items c.pad.new.out.items c.len.result c.next_multiple_of.result len (next_8 _ _ next.lower_bound next.upper_bound next.multiple) c.in_ok-pad.ensures.bytes in
    let is : get_or values i [] ≡ (get_or c.args.values.now i no_bytes).now = get_or-map (λ (v : Bor (List ℕ)). v.now) c.args.values.now i no_bytes in
    value_appended values i c.args.out.now.items c.loop-value.out.items c.pad.new.out.items c.extend_from_slice.new.self.items here c.loop-value.invariant pad
    (c.in_ok-extend_from_slice.ensures.items ∙ ap (λ (b : List ℕ). c.pad.new.out.items ++ b) (sym is))

pub returns : goal.returns
returns c =
    let values = bytes_of_each c.args.values.now in
    let n = length-map c.args.values.now (λ (v : Bor (List ℕ)). v.now) in
    let end = c.loop-value-test.false in
    record { bytes = all_taken (λ (vs : List (List ℕ)). with_values c.args.out.now.items vs) values c.loop-value.value-index c.loop-value.out.items (omega (arith, n, end)) c.loop-value.invariant }
