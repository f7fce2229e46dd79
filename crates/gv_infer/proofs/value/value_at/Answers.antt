use Rattle.std.proofs.Common.{Ok, Err, IfOk, IfErr, sym, subst}
use Rattle.std.proofs.lemmas.Bool.{both_ways}
use Rattle.gv_model.specs.Admits.{Admits}
use Rattle.gv_model.specs.LeastTypes.{choice}
use Rattle.gv_model.specs.TextValues.{HasValue, literal_value, contents}
use Rattle.gv_types.specs.TypeStr.{ty}
use Rattle.gv_infer.specs.Typings.{AreTyped, IsFirstChoiceFault}
use Rattle.gv_infer.specs.Building.{IsBuilt}
use Rattle.gv_infer.specs.Values.{IsValueFault}
use Rattle.gv_infer.proofs.TypedContents.{built_typed}
use Rattle.gv_infer.proofs.ValueLaws.{not_admitted, contents_fault, literal_fault, value_or_deep}
use Rattle.gv_infer.proofs.value.value_at.Goals as goal

pub returns-then-not-admits-clause-fault : goal.returns-then-not-admits-clause-fault
returns-then-not-admits-clause-fault c =
    not_admitted c.args.syntax.now (ty c.args.of) (λ a. both_ways c.admits.result c.if-not-admits.true (c.admits.ensures.1 (subst (λ x. Admits x (ty c.args.of)) (sym c.root-root.ensures.root) a)))

pub returns-in-Err-check_contents-clause-fault : goal.returns-in-Err-check_contents-clause-fault
returns-in-Err-check_contents-clause-fault c =
    let root = c.root-root.ensures.root in
    let fits = subst (λ x. Admits x (ty c.args.of)) root (c.admits.ensures.0 c.if-not-admits.false) in
    let fault = subst (λ x. IsFirstChoiceFault (contents x) c.in-Err-check_contents.fault) root c.in-Err-check_contents.ensures.fault in
    contents_fault c.args.syntax.now (ty c.args.of) c.in-Err-check_contents.fault c.into_fault.result fits fault c.into_fault.ensures

pub returns-in-Ok-check_contents-clause-fault : goal.returns-in-Ok-check_contents-clause-fault
returns-in-Ok-check_contents-clause-fault c =
    let root = c.root-root.ensures.root in
    let fits = subst (λ x. Admits x (ty c.args.of)) root (c.admits.ensures.0 c.if-not-admits.false) in
    let typed = subst (λ x. AreTyped (contents x)) root c.in-Ok-check_contents.ensures.typed in
    let built = subst (λ x. IsBuilt (literal_value choice x (ty c.args.of)) (Err c.in-Err.fault)) root c.in-Err.ensures.built in
    literal_fault c.args.syntax.now (ty c.args.of) c.in-Err.fault fits typed built

pub returns-in-Ok-clause-value : goal.returns-in-Ok-clause-value
returns-in-Ok-clause-value c =
    let root = c.root-root.ensures.root in
    let fits = subst (λ x. Admits x (ty c.args.of)) root (c.admits.ensures.0 c.if-not-admits.false) in
    let built = subst (λ x. IsBuilt (literal_value choice x (ty c.args.of)) (Ok c.in-Ok.built)) root c.in-Ok.ensures.built in
    subst (λ r. IfOk r (λ v. HasValue c.args.syntax.now (ty c.args.of) (Ok v))) (sym c.ok_or.ensures.value)
    (value_or_deep c.args.syntax.now (ty c.args.of) c.in-Ok.built fits (built_typed c.args.syntax.now (ty c.args.of) c.in-Ok.built built) built).value

pub returns-in-Ok-clause-fault : goal.returns-in-Ok-clause-fault
returns-in-Ok-clause-fault c =
    let root = c.root-root.ensures.root in
    let fits = subst (λ x. Admits x (ty c.args.of)) root (c.admits.ensures.0 c.if-not-admits.false) in
    let built = subst (λ x. IsBuilt (literal_value choice x (ty c.args.of)) (Ok c.in-Ok.built)) root c.in-Ok.ensures.built in
    subst (λ r. IfErr r (IsValueFault c.args.syntax.now (ty c.args.of))) (sym c.ok_or.ensures.value)
    (value_or_deep c.args.syntax.now (ty c.args.of) c.in-Ok.built fits (built_typed c.args.syntax.now (ty c.args.of) c.in-Ok.built built) built).fault
