use Rattle.std.proofs.Common.{◌++◌, ◌∙◌, List, ap, arith}
use Rattle.gvdb_maps.specs.Maps.{lent_entries, value_entries, values_after}
use Rattle.gvdb_maps.proofs.LentRows.{all_lent, row_lent}
use Rattle.gvdb_maps.proofs.HeldEntries.{LentEntry}
use Rattle.gvdb_maps.proofs.entries.lent.Goals as goal

pub loop-path-init : goal.loop-path-init
loop-path-init c =
    let rows = value_entries c.args.rows.now in
    ap (λ (l : List LentEntry). values_after ((lent_entries l ++ lent_entries c.new-stretch.result.items) ++ rows)) c.in_ok-entries.ensures.items
    ∙ ap (λ (l : List LentEntry). values_after (lent_entries l ++ rows)) c.new-stretch.ensures.items

pub loop-path-preserved : goal.loop-path-preserved
loop-path-preserved c =
    row_lent (lent_entries c.begin_stretch.new.entries.items) (lent_entries c.loop-path.entries.items) c.loop-path.stretch.items c.begin_stretch.new.stretch.items c.push.new.self.items _ c.args.rows.now
    c.loop-path.path-index c.loop-path-item.result _ c.in_ok-push.ensures.items c.loop-path-item.is (λ i. (c.as_str-in-loop-path.ensures.value i, c.as_slice.ensures.value i)) c.loop-path-test.true c.in_ok-begin_stretch.ensures c.loop-path.invariant

pub returns : goal.returns
returns c =
    let test = c.loop-path-test.false in
    all_lent c.move_sorted.new.entries.items c.move_sorted.new.stretch.items c.loop-path.entries.items c.loop-path.stretch.items c.args.rows.now c.loop-path.path-index
    c.in_ok-move_sorted.ensures.empty c.in_ok-move_sorted.ensures.same (omega (arith, test)) c.loop-path.invariant
