use Rattle.std.proofs.Common.{◌≡◌, rules, false, refl, sym, ap, ◌∙◌}
use Rattle.dconf_model.specs.Paths.{has_zero_byte}
use Rattle.dconf_model.specs.Lines.{is_space, without_end, without_start}
use Rattle.dconf_model.specs.Keyfiles.{is_equals}
use Rattle.keyfile_core.proofs.LineParts.{has, lacks}
use Rattle.keyfile_lines.proofs.lines.Line.entry.Goals as goal

pub returns-in-None : goal.returns-in-None
returns-in-None c =
    let none = lacks is_equals c.args.line.now (c.in-None.ensures.byte (search rules) (λ w o found. found)) in
    (c.requires, rw none refl)

pub returns-in-Some : goal.returns-in-Some
returns-in-Some c =
    let parts = c.in-Some.ensures.byte (search rules) (λ w o found. found) in
    let equals = has is_equals c.args.line.now parts.2 in
    let zero : has_zero_byte c.args.line.now ≡ false = ap has_zero_byte (sym c.as_bytes.ensures.value) ∙ (sym c.contains.ensures.value ∙ c.if-contains.false) in
    (c.requires, rw (equals, zero) refl, c.trim_end.ensures ∙ ap (without_end is_space) parts.0, c.trim_start.ensures ∙ ap (without_start is_space) parts.1)
