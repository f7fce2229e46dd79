use Rattle.std.proofs.Common.{◌≡◌, sym, subst}
use Rattle.gv_model.specs.Parsing.{HasFault, IsTree}
use Rattle.refused.proofs.Faults.{OfFault-carried}
use Rattle.gv_syntax.specs.ModelTokens.{fault_at_span}
use Rattle.gv_infer.specs.Reads.{IsReadFlaw}
use Rattle.gv_infer.specs.declared.fault.ReadFlaw.TheVariants.{Text}
use Rattle.gv_infer.proofs.read.read_value.Goals as goal

pub returns-in-Err-clause-fault : goal.returns-in-Err-clause-fault
returns-in-Err-clause-fault c =
    OfFault-carried (λ f g. g ≡ Text f) (λ f. HasFault c.args.text.now (fault_at_span f.cause f.span)) (IsReadFlaw c.args.text.now) (λ f g same h. rw same h) c.in-Err.fault c.into_fault.result
    c.into_fault.ensures c.in-Err.ensures.fault

pub returns-in-Ok-clause-value : goal.returns-in-Ok-clause-value
returns-in-Ok-clause-value c = c.value_of.ensures.value c.args.text.now (subst (IsTree c.args.text.now) (sym c.root.ensures.root) c.in-Ok.ensures.tree)

pub returns-in-Ok-clause-fault : goal.returns-in-Ok-clause-fault
returns-in-Ok-clause-fault c = c.value_of.ensures.fault c.args.text.now (subst (IsTree c.args.text.now) (sym c.root.ensures.root) c.in-Ok.ensures.tree)
