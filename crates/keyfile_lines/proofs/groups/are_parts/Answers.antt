use Rattle.std.proofs.Common.{rules, ◌≡◌, false, [], ◌∷◌, sym, ◌∙◌}
use Rattle.std.proofs.lemmas.Str.Pattern.{starts_text, ends_text, contains_text}
use Rattle.dconf_model.specs.Keyfiles.{has_slash_end}
use Rattle.dconf_path.proofs.Slashes.{has_two_slashes_where}
use Rattle.keyfile_core.proofs.GroupParts.{no_slash_end}
use Rattle.keyfile_lines.proofs.groups.are_parts.Goals as goal
use Rattle.keyfile_lines.proofs.groups.are_parts.Goals.{then-starts_with, else-starts_with}

pub returns-then-not-ends_with : goal.returns-then-not-ends_with
returns-then-not-ends_with c =
    let says = has_two_slashes_where c.contains.result c.args.text.now (contains_text c.contains.result (47 ∷ 47 ∷ []) c.args.text.now c.contains.ensures.cases) in
    let value = c.if-not-ends_with.true in
    let ends : has_slash_end c.args.text.now ≡ false = elim c.if-starts_with.branch [
      | then-starts_with w ↦ cc (w.value-is, value)
      | else-starts_with w ↦
          no_slash_end c.args.text.now
          (sym (starts_text c.starts_with.result (47 ∷ []) c.args.text.now c.starts_with.ensures.cases) ∙ w.if-starts_with.false)
          (sym (ends_text w.ends_with.result (47 ∷ []) c.args.text.now w.ends_with.ensures.cases) ∙ (sym w.value-is ∙ value))
    ] in
    rw (ends, says) search rules
