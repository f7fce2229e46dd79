use Rattle.std.proofs.Common.{◌≡◌, ℕ, List, ◌∷◌, refl, sym, ◌∙◌, subst}
use Rattle.dconf_path.specs.Paths.{lock_text}
use Rattle.gvdb_maps.specs.declared.names.Named.{Named}
use Rattle.gvdb_maps.specs.PlanWords.{IsLockNamed}
use Rattle.gvdb_maps.specs.PathsLeft.{locks_left}
use Rattle.gvdb_maps.proofs.LockNames.{AreLocksSoFar, is_lock_named, one_lock_more, all_locks}
use Rattle.gvdb_maps.proofs.SortedEntries.{settings_in}
use Rattle.gvdb_maps.proofs.names.lock_names.Goals as goal

pub of-path-items-requires : goal.of-path-items-requires
of-path-items-requires c = c.args.sorted.now.settings.locked

pub loop-path-preserved : goal.loop-path-preserved
loop-path-preserved c =
    let path : List ℕ = lock_text c.in-Some.path in
    let bytes : c.as_bytes.result.now ≡ path = c.as_bytes.ensures.value ∙ c.as_str.ensures in
    let so : AreLocksSoFar (settings_in c.args.sorted.now) c.loop-path.names.items (path ∷ locks_left c.next.new.self) =
    subst (λ (left : List (List ℕ)). AreLocksSoFar (settings_in c.args.sorted.now) c.loop-path.names.items left) c.in-Some.ensures.steps c.loop-path.invariant.so_far in
    let new : IsLockNamed path c.top.result = subst (λ (x : List ℕ). IsLockNamed x c.top.result) bytes
    (is_lock_named c.as_bytes.result.now c.top.result _ c.as_bytes.ensures.utf8 c.top.ensures.hash c.top.ensures.entry c.top.ensures.content refl refl) in
    record {
      so_far = subst (λ (names : List Named). AreLocksSoFar (settings_in c.args.sorted.now) names (locks_left c.next.new.self)) (sym c.in_ok-push.ensures.items)
          (one_lock_more (settings_in c.args.sorted.now) c.loop-path.names.items path (locks_left c.next.new.self) c.top.result so new);
    }

pub returns-clause-names : goal.returns-clause-names
returns-clause-names c = all_locks (settings_in c.args.sorted.now) c.loop-path.names.items (locks_left c.loop-path.path-iterator) c.in-None.ensures.steps.0 c.loop-path.invariant.so_far
