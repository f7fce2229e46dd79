use Rattle.std.proofs.Common.{refl}
use Rattle.gv_infer.proofs.ChoiceTexts.{tells, refused_text, taken_text}
use Rattle.gv_infer.proofs.typing.type_of_node.Goals as goal

pub returns-then-is_err-clause-fault : goal.returns-then-is_err-clause-fault
returns-then-is_err-clause-fault c =
    let told = tells c.args.node.now _ _ _ _ c.requires refl c.new-text.ensures.bytes c.in_ok-found.ensures in
    told.no_type (refused_text c.parse.result _ _ c.as_str.ensures.value c.parse.ensures.accepts c.if-is_err.ensures.value)

pub returns-in-Nowhere-clause-fault : goal.returns-in-Nowhere-clause-fault
returns-in-Nowhere-clause-fault c =
    let told = tells c.args.node.now _ _ _ _ c.requires refl c.new-text.ensures.bytes c.in_ok-found.ensures in
    told.none_found c.in-Nowhere.is

pub returns-in-Many-clause-fault : goal.returns-in-Many-clause-fault
returns-in-Many-clause-fault c =
    let told = tells c.args.node.now _ _ _ _ c.requires refl c.new-text.ensures.bytes c.in_ok-found.ensures in
    told.one_of_many (taken_text c.parse.result _ _ c.as_str.ensures.value c.parse.ensures.accepts c.if-is_err.ensures.value) c.in-Many.is

pub returns-in-Least-clause-chosen : goal.returns-in-Least-clause-chosen
returns-in-Least-clause-chosen c =
    let told = tells c.args.node.now _ _ _ _ c.requires refl c.new-text.ensures.bytes c.in_ok-found.ensures in
    rw c.of_checked.ensures (told.alone (taken_text c.parse.result _ _ c.as_str.ensures.value c.parse.ensures.accepts c.if-is_err.ensures.value) c.in-Least.is)
