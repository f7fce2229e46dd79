use Rattle.std.proofs.Common.{◌≡◌, true, false, [], ◌∷◌, ◌++◌, refl, ap, sym, ◌∙◌}
use Rattle.std.specs.Prelude.{option_map}
use Rattle.dconf_model.specs.Keyfiles.{is_group}
use Rattle.keyfile_core.proofs.GroupParts.{no_bracket, in_brackets}
use Rattle.keyfile_lines.proofs.groups.group_in.Goals as goal

pub returns-in_err-group : goal.returns-in_err-group
returns-in_err-group c = ap (option_map (λ group. group.now)) c.from_residual.ensures ∙ sym (no_bracket c.args.rest.now c.in_err-group.ensures.cases)

pub returns-then-is_group : goal.returns-then-is_group
returns-then-is_group c =
    let cut = c.in_ok-group.ensures.cases in
    let whole = cut.1.1 ∙ ap (λ g. g ++ 93 ∷ []) (sym cut.2) in
    let is : is_group c.in_ok-group.group.now ≡ true = sym c.is_group.ensures ∙ c.if-is_group.true in
    sym (in_brackets c.in_ok-group.group.now c.args.rest.now whole ∙ rw is refl)

pub returns-else-is_group : goal.returns-else-is_group
returns-else-is_group c =
    let cut = c.in_ok-group.ensures.cases in
    let whole = cut.1.1 ∙ ap (λ g. g ++ 93 ∷ []) (sym cut.2) in
    let is : is_group c.in_ok-group.group.now ≡ false = sym c.is_group.ensures ∙ c.if-is_group.false in
    sym (in_brackets c.in_ok-group.group.now c.args.rest.now whole ∙ rw is refl)
