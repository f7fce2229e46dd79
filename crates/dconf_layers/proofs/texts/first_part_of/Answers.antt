use Rattle.std.proofs.Common.{◌∙◌, ap, arith, List, ℕ, ◌++◌, [], ◌∷◌, Some, None}
use Rattle.std.proofs.lemmas.Str.Pattern.{split_once_first}
use Rattle.std.specs.String.{string_bytes}
use Rattle.std.proofs.lemmas.Result.{IfOk-weaker}
use Rattle.dconf_layers.proofs.ChildNames.{through_slash, all_through}
use Rattle.dconf_layers.proofs.texts.first_part_of.Goals as goal

pub returns-in_ok-push-in-Some : goal.returns-in_ok-push-in-Some
returns-in_ok-push-in-Some c =
    let cut = split_once_first 47 c.args.rest.now (Some (c.in-Some.first, c.in-Some.field-0-1)) c.in-Some.ensures.cases (omega arith) in
    c.in_ok-push-in-Some.ensures.bytes ∙ ap (λ (l : List ℕ). string_bytes c.in_ok-part-in-Some.part ++ l) (c.push.ensures.ascii (omega arith))
    ∙ ap (λ (l : List ℕ). l ++ 47 ∷ []) (c.in_ok-part-in-Some.ensures.ok ∙ cut.1) ∙ through_slash c.args.rest.now cut.0

pub returns-in-None : goal.returns-in-None
returns-in-None c =
    let cut = split_once_first 47 c.args.rest.now None c.in-None.ensures.cases (omega arith) in
    IfOk-weaker c.from_str-in-None.result _ _ (λ s h. h ∙ all_through c.args.rest.now cut) c.from_str-in-None.ensures.ok
