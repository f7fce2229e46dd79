use Rattle.std.proofs.Common.{◌≡◌, ◌-◌, ◌∙◌, ℕ, List, Option, Some, None, ap, arith, option_map, rules, subst, sym, take}
use Rattle.std.specs.Prelude.{IsTrue}
use Rattle.dconf_model.specs.Explains.{lock_of}
use Rattle.dconf_model.specs.Paths.{is_key_path}
use Rattle.dconf_path.specs.Paths.{key_text}
use Rattle.gvdb_read.specs.declared.table.Table.{Table}
use Rattle.dconf_layers.specs.LayerSettings.{locks_of, settings_of}
use Rattle.dconf_layers.specs.SoundTables.{AreOfSoundDatabase}
use Rattle.dconf_layers.proofs.NearestLocks.{cut_start, nearest_is_lock, no_locks_at_all}
use Rattle.dconf_layers.proofs.layer.Layer.lock_of.Goals as goal

pub returns-in_err-locks : goal.returns-in_err-locks
returns-in_err-locks c =
    let l = c.args.self in
    let none : locks_of l ≡ None = search rules in
    search rules ∙ no_locks_at_all l.values (key_text c.args.path) (subst (λ (o : Option Table). ∥ AreOfSoundDatabase l.values o ∥₁) none l.sound)

pub returns-in_err-n : goal.returns-in_err-n
returns-in_err-n c =
    let l = c.args.self in
    let path = c.as_str-path.result.now in
    let key = subst (λ (p : List ℕ). IsTrue (is_key_path p)) (sym c.as_str-path.ensures) c.args.path.is_of_key in
    let there : locks_of l ≡ Some c.in_ok-locks.field-0 = search rules in
    let none : c.nearest_cover.result ≡ None = search rules in
    let law = nearest_is_lock l.values c.in_ok-locks.field-0 path c.nearest_cover.result (subst (λ (o : Option Table). ∥ AreOfSoundDatabase l.values o ∥₁) there l.sound) key
    c.nearest_cover.ensures.found c.nearest_cover.ensures.nearest in
    search rules ∙ (sym (law ∙ ap (option_map (λ n. take n path)) none) ∙ ap (λ p. lock_of p (settings_of l)) c.as_str-path.ensures)

pub range-requires-clause-end_boundary : goal.range-requires-clause-end_boundary
range-requires-clause-end_boundary c =
    let is = c.in_ok-n.ensures.found in
    cut_start c.as_str-path.result.now c.in_ok-n.n c.as_str-path.utf8 is.some is.within is.covering

pub returns : goal.returns
returns c =
    let l = c.args.self in
    let path = c.as_str-path.result.now in
    let n = c.in_ok-n.n in
    let key = subst (λ (p : List ℕ). IsTrue (is_key_path p)) (sym c.as_str-path.ensures) c.args.path.is_of_key in
    let there : locks_of l ≡ Some c.in_ok-locks.field-0 = search rules in
    let some : c.nearest_cover.result ≡ Some n = search rules in
    let law = nearest_is_lock l.values c.in_ok-locks.field-0 path c.nearest_cover.result (subst (λ (o : Option Table). ∥ AreOfSoundDatabase l.values o ∥₁) there l.sound) key
    c.nearest_cover.ensures.found c.nearest_cover.ensures.nearest in
    let whole : n - 0 ≡ n = omega arith in
    ap (λ t. Some t) (c.range.ensures.value ∙ ap (λ m. take m path) whole)
    ∙ (sym (law ∙ ap (option_map (λ n. take n path)) some) ∙ ap (λ p. lock_of p (settings_of l)) c.as_str-path.ensures)
