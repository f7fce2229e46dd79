use Rattle.std.proofs.Common.{Ok, IfOk, IfErr, sym, subst}
use Rattle.gv_types.specs.TypeStr.{ty}
use Rattle.gv_infer.specs.Reads.{Reads, IsReadFault}
use Rattle.gv_model.proofs.PatternLaws.{admits_chosen}
use Rattle.gv_infer.proofs.ContentLaws.{fault_inside}
use Rattle.gv_infer.proofs.ReadLaws.{read_or_deep, read_literal_fault, read_typing_fault}
use Rattle.gv_infer.proofs.read.value_at_own.Goals as goal

pub build-requires-clause-fits : goal.build-requires-clause-fits
build-requires-clause-fits c = admits_chosen c.args.root.now (ty c.args.of) c.requires.own

pub returns-in-Ok-clause-value : goal.returns-in-Ok-clause-value
returns-in-Ok-clause-value c = λ text tree.
    subst (λ r. IfOk r (λ v. Reads text (Ok v))) (sym c.ok_or.ensures.value) (read_or_deep text c.args.root.now (ty c.args.of) c.in-Ok.built tree c.requires.own c.in-Ok.ensures.built).value

pub returns-in-Ok-clause-fault : goal.returns-in-Ok-clause-fault
returns-in-Ok-clause-fault c = λ text tree.
    subst (λ r. IfErr r (IsReadFault text)) (sym c.ok_or.ensures.value) (read_or_deep text c.args.root.now (ty c.args.of) c.in-Ok.built tree c.requires.own c.in-Ok.ensures.built).fault

pub returns-in-Ok-check_contents-clause-fault : goal.returns-in-Ok-check_contents-clause-fault
returns-in-Ok-check_contents-clause-fault c = λ text tree.
    read_literal_fault text c.args.root.now (ty c.args.of) c.in-Err.fault c.into_fault.result tree c.requires.own c.in-Ok-check_contents.ensures.typed c.in-Err.ensures.built c.into_fault.ensures

pub returns-in-Err-check_contents-clause-fault : goal.returns-in-Err-check_contents-clause-fault
returns-in-Err-check_contents-clause-fault c = λ text tree.
    read_typing_fault text c.args.root.now c.in-Err-check_contents.fault c.into_fault-in-Err-check_contents.result tree
    (fault_inside c.args.root.now c.in-Err-check_contents.fault c.in-Err-check_contents.ensures.fault) c.into_fault-in-Err-check_contents.ensures
