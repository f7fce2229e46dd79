use Rattle.std.proofs.Common.{◌++◌, ◌∙◌, List, ap, subst, sym}
use Rattle.std.proofs.lemmas.List.{append-nil}
use Rattle.gvdb_maps.specs.Maps.{AreSorted, lent_entries, value_entries}
use Rattle.gvdb_maps.proofs.LentRows.{row_listed}
use Rattle.gvdb_maps.proofs.Order.{sorted_values}
use Rattle.gvdb_maps.proofs.HeldEntries.{LentEntry}
use Rattle.gvdb_maps.proofs.entries.listed.Goals as goal

pub loop-path-init : goal.loop-path-init
loop-path-init c =
    ap (λ (l : List LentEntry). lent_entries l ++ value_entries c.into_iter-path-iterator.result) c.in_ok-entries.ensures.items
    ∙ ap value_entries (c.into_iter-path-iterator.ensures.into_iter_gives ∙ c.iter-rest.ensures.rest)

pub loop-path-preserved : goal.loop-path-preserved
loop-path-preserved c =
    row_listed c.loop-path.entries.items c.push.new.self.items _ _ _ _ (value_entries c.args.values.now.entries) c.in_ok-push.ensures.items c.in-Some.ensures.steps
    (λ i. (c.as_str.ensures.value i, c.as_slice.ensures.value i)) c.loop-path.invariant

pub returns-clause-same : goal.returns-clause-same
returns-clause-same c =
    sym (append-nil (lent_entries c.loop-path.entries.items)) ∙ (ap (λ l. lent_entries c.loop-path.entries.items ++ value_entries l) (sym c.in-None.ensures.steps.0) ∙ c.loop-path.invariant)

pub returns-clause-sorted : goal.returns-clause-sorted
returns-clause-sorted c =
    subst AreSorted
    (sym (sym (append-nil (lent_entries c.loop-path.entries.items)) ∙ (ap (λ l. lent_entries c.loop-path.entries.items ++ value_entries l) (sym c.in-None.ensures.steps.0) ∙ c.loop-path.invariant)))
    (sorted_values c.args.values.now.entries c.iter-rest.ensures.ordered)
