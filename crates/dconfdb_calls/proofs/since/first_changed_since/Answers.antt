use Rattle.std.proofs.Common.{◌≡◌, ◌++◌, List, false, true, arith, map, subst, sym}
use Rattle.std.specs.String.{string_bytes}
use Rattle.std.specs.declared.alloc.Global.{Global}
use Rattle.std.specs.declared.string.String.{String}
use Rattle.dconf_model.specs.Layers.{all_paths}
use Rattle.dconf_differences.specs.Differing.{AreDiffering}
use Rattle.dconfdb_calls.specs.Seen.{layers_of}
use Rattle.std.proofs.lemmas.List.Folds.{list_any_at}
use Rattle.dconf_model.specs.Paths.{ends_with_slash}
use Rattle.dconfdb_calls.specs.declared.changes.DconfdbChange.{DconfdbChange}
use Rattle.dconfdb_calls.proofs.SinceLaws.{none_at_all, one_more}
use Rattle.dconfdb_calls.proofs.since.first_changed_since.Goals as goal

pub loop-at-preserved : goal.loop-at-preserved
loop-at-preserved c =
    one_more _ _ c.args.changes.now c.loop-at.at _ c.loop-at.invariant (λ h.
    let yes : c.in-Ok-false.field-0 ≡ true = c.in-Ok-false.ensures.1 h in
    let other : c.in-Ok-false.field-0 ≡ false = c.in-Ok-false.field-0-test in
    cc)

pub returns-clause-first : goal.returns-clause-first
returns-clause-first c = none_at_all _ _ c.args.changes.now c.loop-at.at (omega (arith, c.loop-at-test.false)) c.loop-at.invariant

pub is_changed_since-requires : goal.is_changed_since-requires
is_changed_since-requires c slash =
    let l = layers_of c.args.expected.now true in
    let m = layers_of c.args.layers.now true in
    let asked = list_any_at (λ (change : DconfdbChange). ends_with_slash change.path.now) c.args.changes.now c.loop-at.at _ c.loop-at-test.true slash in
    subst (λ (texts : List (String Global)). AreDiffering l m (all_paths l.layers ++ all_paths m.layers) (map string_bytes texts)) (sym c.as_slice.ensures.value) (c.in-Ok.ensures asked)
