use Rattle.std.proofs.Common.{◌≡◌, ◌∙◌, ap, option_map, rules, sym, List, ℕ, Some, None}
use Rattle.std.specs.Borrow.{Bor}
use Rattle.std.specs.FinMap.{get}
use Rattle.std.specs.Option.{unwrap_or}
use Rattle.dconf_path.specs.Paths.{key_text}
use Rattle.dconf_layers.specs.LayerSettings.{settings_of}
use Rattle.dconf_engine.proofs.UnsavedLaws.{get_changed}
use Rattle.dconf_engine.proofs.explained.changed_bytes.Goals as goal

pub returns-in-Some : goal.returns-in-Some
returns-in-Some c =
    let base = (settings_of c.args.layer).values in
    let path = key_text c.args.path in
    let found : get c.args.changes.now path ≡ Some (option_map (λ (b : Bor (List ℕ)). b.now) c.bytes.result) = search rules in
    sym (get_changed c.args.changes.now base path ∙ ap (λ o. unwrap_or o (get base path)) found)

pub returns-in-None : goal.returns-in-None
returns-in-None c =
    let base = (settings_of c.args.layer).values in
    let path = key_text c.args.path in
    let missed : get c.args.changes.now path ≡ None = search rules in
    c.get-in-None.ensures ∙ (ap (λ p. get base p) c.as_str-in-None.ensures
    ∙ sym (get_changed c.args.changes.now base path ∙ ap (λ o. unwrap_or o (get base path)) missed))
