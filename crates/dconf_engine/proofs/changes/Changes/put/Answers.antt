use Rattle.std.proofs.Common.{◌≡◌, ◌∙◌, ap, sym, subst, rules}
use Rattle.std.specs.FinMap.{insert}
use Rattle.std.specs.String.{string_bytes}
use Rattle.dconf_path.specs.Paths.{key_text}
use Rattle.dconf_engine.specs.Unsaved.{edit_bytes, Unsaved}
use Rattle.dconf_engine.specs.TextMaps.{IsAtKeys}
use Rattle.dconf_engine.proofs.TextMapLaws.{taken_at, taken_at_key}
use Rattle.dconf_engine.proofs.changes.Changes.put.Goals as goal

pub invariant_of-self-2 : goal.invariant_of-self-2
invariant_of-self-2 c =
    let path = key_text c.args.path in
    let named : string_bytes c.in_ok-path.path ≡ path = search rules in
    let e = taken_at edit_bytes c.self.inside.edits c.insert.new.self c.in_ok-path.path c.args.edit path c.in_ok-insert.ensures.updates named in
    subst (λ (u : Unsaved). IsAtKeys u) (sym e) (taken_at_key _ path (edit_bytes c.args.edit) c.self.invariant c.args.path.is_of_key)

pub returns-clause-ok : goal.returns-clause-ok
returns-clause-ok c =
    let path = key_text c.args.path in
    let named : string_bytes c.in_ok-path.path ≡ path = search rules in
    taken_at edit_bytes c.self.inside.edits c.insert.new.self c.in_ok-path.path c.args.edit path c.in_ok-insert.ensures.updates named
    ∙ ap (λ (u : Unsaved). insert u path (edit_bytes c.args.edit)) c.self.view_is
