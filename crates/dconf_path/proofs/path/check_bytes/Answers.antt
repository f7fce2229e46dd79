use Rattle.std.proofs.Common.{true, false, [], ◌∷◌, sym, ◌∙◌, ap}
use Rattle.std.proofs.lemmas.Str.Pattern.{starts_text, contains_text}
use Rattle.dconf_path.proofs.Faults.{is_not_absolute, is_with_nul, bytes_decided}
use Rattle.dconf_path.proofs.Slashes.{has_two_slashes_where}
use Rattle.dconf_path.proofs.path.check_bytes.Goals as goal
use Rattle.dconf_model.specs.Paths.{has_zero_byte}

pub returns-then-not-starts_with-clause-fault : goal.returns-then-not-starts_with-clause-fault
returns-then-not-starts_with-clause-fault c =
    is_not_absolute c.args.text.now (sym (starts_text c.starts_with.result (47 ∷ []) c.args.text.now c.starts_with.ensures.cases) ∙ c.if-not-starts_with.true)

pub returns-then-contains-clause-fault : goal.returns-then-contains-clause-fault
returns-then-contains-clause-fault c =
    let starts = sym (starts_text c.starts_with.result (47 ∷ []) c.args.text.now c.starts_with.ensures.cases) ∙ c.if-not-starts_with.false in
    is_with_nul c.args.text.now starts (ap has_zero_byte (sym c.as_bytes.ensures.value) ∙ (sym c.contains.ensures.value ∙ c.if-contains.true))

pub returns-then-contains-2-clause-fault : goal.returns-then-contains-2-clause-fault
returns-then-contains-2-clause-fault c =
    let starts = sym (starts_text c.starts_with.result (47 ∷ []) c.args.text.now c.starts_with.ensures.cases) ∙ c.if-not-starts_with.false in
    let zero = ap has_zero_byte (sym c.as_bytes.ensures.value) ∙ (sym c.contains.ensures.value ∙ c.if-contains.false) in
    let says = contains_text c.contains-2.result (47 ∷ 47 ∷ []) c.args.text.now c.contains-2.ensures.cases in
    bytes_decided true c.args.text.now starts zero (has_two_slashes_where c.contains-2.result c.args.text.now says ∙ c.if-contains-2.true)

pub returns-clause-passes : goal.returns-clause-passes
returns-clause-passes c =
    let starts = sym (starts_text c.starts_with.result (47 ∷ []) c.args.text.now c.starts_with.ensures.cases) ∙ c.if-not-starts_with.false in
    let zero = ap has_zero_byte (sym c.as_bytes.ensures.value) ∙ (sym c.contains.ensures.value ∙ c.if-contains.false) in
    let says = contains_text c.contains-2.result (47 ∷ 47 ∷ []) c.args.text.now c.contains-2.ensures.cases in
    bytes_decided false c.args.text.now starts zero (has_two_slashes_where c.contains-2.result c.args.text.now says ∙ c.if-contains-2.false)
