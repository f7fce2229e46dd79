use Rattle.std.proofs.lemmas.List.{drop_all}
use Rattle.std.proofs.Common.{arith, drop, ◌+◌, rules, ◌≡◌, ◌∙◌, ℕ, List, ◌∷◌, length, codes, sym, ap, subst}
use Rattle.std.specs.FinMap.{keys}
use Rattle.dconf_model.specs.Settings.{Settings}
use Rattle.dconf_model.specs.Table.{list_kind, table_kind}
use Rattle.gvdb_maps.specs.declared.names.Named.{Named}
use Rattle.gvdb_maps.specs.PlanWords.{ArePlaced, IsDirectoryAt}
use Rattle.gvdb_maps.specs.Maps.{AreKeyPaths, lent_entries}
use Rattle.gvdb_maps.proofs.HeldEntries.{first_is_path, first_path, first_value, rest_are_paths, rest_held, AreHeld, paths_of, LentEntry}
use Rattle.gvdb_maps.proofs.PathTexts.{text_of_key}
use Rattle.gvdb_maps.proofs.RootNames.{AreNamesSoFar, IsMost, next_beyond, names_more, all_names, is_top, AreBeforeSlash, none_before, locks_before, start, some_lock, no_lock}
use Rattle.gvdb_maps.proofs.SortedEntries.{are_paths, held, listed, settings_in}
use Rattle.gvdb_maps.proofs.names.root_names.Goals as goal
use Rattle.gvdb_maps.proofs.names.root_names.Goals.{then-is_some+in_ok-push, else-is_some}

pub of-requires : goal.of-requires
of-requires c = c.args.sorted.now.settings.locked

pub loop-path-init : goal.loop-path-init
loop-path-init c =
    let sorted = c.args.sorted.now in
    let s : Settings = settings_in sorted in
    let slash : Named = c.top-2.result in
    let is : c.deref-path-items.result.now ≡ sorted.entries.items = c.deref-path-items.ensures.value in
    let paths : AreKeyPaths (keys s.values) = subst (λ (l : List (List ℕ)). AreKeyPaths l) (listed sorted) (are_paths sorted) in
    let left : paths_of (lent_entries c.deref-path-items.result.now) ≡ keys s.values = ap (λ (l : List LentEntry). paths_of (lent_entries l)) is ∙ listed sorted in
    let before : AreBeforeSlash s c.if-is_some.names.items = elim c.if-is_some.branch [
      | then-is_some+in_ok-push w ↦
          let named : w.as_bytes.result.now ≡ codes ".locks" = w.as_bytes.ensures.value in
          rw (w.names-is, w.in_ok-push.ensures.items, c.new-names.ensures.items)
          (locks_before s w.top.result (is_top w.top.result (codes ".locks") table_kind (rw named at w.top.ensures.hash) w.top.ensures.from (rw named at w.top.ensures.entry))
          (some_lock s _ _ c.next.result c.of.ensures c.next.ensures.steps (sym w.if-is_some.ensures)))
      | else-is_some w ↦ rw (w.names-is, c.new-names.ensures.items) (none_before s (no_lock s _ _ c.next.result c.of.ensures c.next.ensures.steps (sym w.if-is_some.ensures)))
    ] in
    let counted : c.len-directory.result ≡ length c.if-is_some.names.items = search rules in
    record {
      last = codes "/";
      so_far =
          rw (c.in_ok-push-2.ensures.items, counted, left)
          (start s c.if-is_some.names.items slash before (is_top slash (codes "/") list_kind c.top-2.ensures.hash c.top-2.ensures.from c.top-2.ensures.entry) paths);
      held = subst (λ (l : List LentEntry). AreHeld s.values (lent_entries l)) (sym is) (held sorted);
      paths = subst (λ (l : List LentEntry). AreKeyPaths (paths_of (lent_entries l))) (sym is) (are_paths sorted);
    }

pub innermost-directory-requires-clause-placed : goal.innermost-directory-requires-clause-placed
innermost-directory-requires-clause-placed c = subst (λ (l : List Named). ArePlaced l) (sym c.deref.ensures.value) c.loop-path.invariant.so_far.of_done.good.placed

pub innermost-directory-requires-clause-first : goal.innermost-directory-requires-clause-first
innermost-directory-requires-clause-first c =
    (text_of_key c.as_bytes-text.result.now
    (first_is_path c.deref-path-items.result.now c.loop-path.path-index _ c.loop-path-test.true c.as_bytes-text.result.now c.as_bytes-text.ensures.value c.loop-path.invariant.paths)).first

pub add-requires-clause-lies : goal.add-requires-clause-lies
add-requires-clause-lies c = subst (λ (l : List Named). IsDirectoryAt l c.as_bytes-text.result.now c.innermost-directory.result) c.deref.ensures.value c.innermost-directory.ensures.lies

pub add-requires-clause-beyond : goal.add-requires-clause-beyond
add-requires-clause-beyond c =
    next_beyond (settings_in c.args.sorted.now) c.loop-path.names.items c.loop-path.directory c.loop-path.invariant.last c.as_bytes-text.result.now _ _ c.innermost-directory.result c.loop-path.invariant.so_far
    (first_path c.deref-path-items.result.now c.loop-path.path-index _ c.loop-path-test.true c.as_bytes-text.result.now c.as_bytes-text.ensures.value)
    (subst (λ (l : List Named). IsMost l c.loop-path.directory c.as_bytes-text.result.now c.innermost-directory.result) c.deref.ensures.value c.innermost-directory.ensures.most)

pub add-requires-clause-path : goal.add-requires-clause-path
add-requires-clause-path c =
    first_is_path c.deref-path-items.result.now c.loop-path.path-index _ c.loop-path-test.true c.as_bytes-text.result.now c.as_bytes-text.ensures.value c.loop-path.invariant.paths

pub loop-path-preserved : goal.loop-path-preserved
loop-path-preserved c =
    let s : Settings = settings_in c.args.sorted.now in
    let text : List ℕ = c.as_bytes-text.result.now in
    let items = c.deref-path-items.result.now in
    let at = c.loop-path.path-index in
    let here = c.loop-path-test.true in
    let is = c.as_bytes-text.ensures.value in
    let rest = paths_of (lent_entries (drop (at + 1) items)) in
    let so : AreNamesSoFar s c.loop-path.names.items c.loop-path.directory c.loop-path.invariant.last (text ∷ rest) =
    subst (λ (l : List (List ℕ)). AreNamesSoFar s c.loop-path.names.items c.loop-path.directory c.loop-path.invariant.last l) (first_path items at _ here text is) c.loop-path.invariant.so_far in
    record {
      last = text;
      so_far =
          names_more s c.loop-path.names.items c.add.new.names.items c.loop-path.invariant.last text _ rest
          c.loop-path.directory c.in_ok-directory.directory so c.in_ok-directory.ensures.added
          (λ _. first_value items at _ here text is s.values c.loop-path.invariant.held)
          (text_of_key text (first_is_path items at _ here text is c.loop-path.invariant.paths));
      held = rest_held items at _ here text is s.values c.loop-path.invariant.held;
      paths = rest_are_paths items at _ here text is c.loop-path.invariant.paths;
    }

pub returns-clause-names : goal.returns-clause-names
returns-clause-names c =
    let test = c.loop-path-test.false in
    all_names (settings_in c.args.sorted.now) c.loop-path.names.items c.loop-path.directory c.loop-path.invariant.last _
    (ap (λ l. paths_of (lent_entries l)) (drop_all c.loop-path.path-index c.deref-path-items.result.now (omega (arith, test)))) c.loop-path.invariant.so_far
