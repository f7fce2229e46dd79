use Rattle.std.proofs.Common.{◌≡◌, false, option_map, ◌++◌, string_bytes, sym, ap, ◌∙◌, subst}
use Rattle.std.proofs.lemmas.Option.{same_Some}
use Rattle.gv_model.specs.TypeText.{seen}
use Rattle.gv_model.specs.Tree.{default}
use Rattle.gv_model.specs.Printed.{text_of}
use Rattle.gv_types.specs.FirstTypes.{first_type}
use Rattle.gv_types.specs.TypeStr.{ty}
use Rattle.gv_types.proofs.FirstTypes.{first_type_prefix, cut_after}
use Rattle.gv_types.proofs.Splits.{some_from_map}
use Rattle.gv_text.specs.Defaults.{IsEmptied}
use Rattle.gv_text.proofs.printing.default.push_emptied_first.Goals as goal

pub unwrap-requires : goal.unwrap-requires
unwrap-requires c = some_from_map (λ r. ty r.0) c.split_prefix.result (first_type (seen c.args.text.now)) (c.split_prefix.ensures.found ∙ first_type_prefix c.args.text.now c.requires.first_type)

pub push_emptied-requires : goal.push_emptied-requires
push_emptied-requires c =
    let is : ty c.unwrap.result.0 ≡ first_type (seen c.args.text.now) = same_Some _ _ (ap (option_map (λ r. ty r.0)) (sym c.unwrap.ensures) ∙ (c.split_prefix.ensures.found ∙ first_type_prefix c.args.text.now c.requires.first_type)) in
    subst IsEmptied (sym is) c.requires.kind

pub returns : goal.returns
returns c =
    let is : ty c.unwrap.result.0 ≡ first_type (seen c.args.text.now) = same_Some _ _ (ap (option_map (λ r. ty r.0)) (sym c.unwrap.ensures) ∙ (c.split_prefix.ensures.found ∙ first_type_prefix c.args.text.now c.requires.first_type)) in
    let whole = rw c.unwrap.ensures at c.split_prefix.ensures.whole in
    (cut_after c.args.text.now c.unwrap.result.1.now (ty c.unwrap.result.0) whole, c.in_ok-push_emptied.ensures ∙ ap (λ t. string_bytes c.args.to.now ++ text_of (default t) c.args.annotated false) is)
