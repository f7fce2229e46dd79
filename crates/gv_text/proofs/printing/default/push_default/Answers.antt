use Rattle.std.proofs.Common.{sym, ap, string_bytes, subst}
use Rattle.std.proofs.lemmas.Result.{err_from_is_err_and}
use Rattle.gv_model.specs.Tree.{default}
use Rattle.gv_types.specs.Classes.{basic_of}
use Rattle.gv_types.specs.TypeStr.{ty}
use Rattle.gv_types.proofs.ClassLaws.{basic_class}
use Rattle.gv_types.proofs.FirstTypes.{whole_first_type, whole_type}
use Rattle.gv_text.specs.Printing.{IsPrinted}
use Rattle.gv_text.proofs.DefaultTexts.{basic_fault, basic_writes, emptied_writes, is_emptied, same_fault}
use Rattle.gv_text.proofs.printing.default.push_default.Goals as goal

pub returns-in_err-push_basic_default-in-Basic : goal.returns-in_err-push_basic_default-in-Basic
returns-in_err-push_basic_default-in-Basic c =
    let type = basic_class (ty c.args.of) c.in-Basic.basic c.in-Basic.ensures in
    let e = err_from_is_err_and c.from_residual.result c.from_residual.ensures.1 in
    rw (e.1, e.2) (basic_fault (ty c.args.of) (basic_of c.in-Basic.basic) c.args.levels c.in_err-push_basic_default-in-Basic.field-0.0 type c.in_err-push_basic_default-in-Basic.ensures)

pub returns-in_ok-push_basic_default-in-Basic : goal.returns-in_ok-push_basic_default-in-Basic
returns-in_ok-push_basic_default-in-Basic c =
    basic_writes (ty c.args.of) (basic_of c.in-Basic.basic) c.args.levels c.args.annotated c.args.in_array (string_bytes c.args.to.now) (string_bytes c.push_basic_default.new.to) (basic_class (ty c.args.of) c.in-Basic.basic c.in-Basic.ensures) c.requires c.in_ok-push_basic_default-in-Basic.ensures

pub push_first-requires : goal.push_first-requires
push_first-requires c = rw (c.as_bytes.ensures.value, c.as_str.ensures.text) (whole_first_type c.args.of.text.now c.args.of.spells_type)

pub returns-in_err-push_first-in_default : goal.returns-in_err-push_first-in_default
returns-in_err-push_first-in_default c =
    let w = c.args.of.text.now in
    let e = err_from_is_err_and c.from_residual-in_err-push_first-in_default.result c.from_residual-in_err-push_first-in_default.ensures.1 in
    rw (e.1, e.2) (same_fault _ _ c.args.levels c.in_err-push_first-in_default.field-0.0 (ap default (sym (whole_type w c.args.of.spells_type))) (rw (c.as_bytes.ensures.value, c.as_str.ensures.text) at c.in_err-push_first-in_default.ensures))

pub returns-in_ok-push_emptied-in-Array : goal.returns-in_ok-push_emptied-in-Array
returns-in_ok-push_emptied-in-Array c =
    emptied_writes (ty c.args.of) c.args.levels c.args.annotated c.args.in_array (string_bytes c.args.to.now) (string_bytes c.push_emptied.new.to) (is_emptied (ty c.args.of) c.class.result c.class.ensures c.in-Array.is) c.requires c.in_ok-push_emptied-in-Array.ensures

pub returns-in_ok-push_first-in_default : goal.returns-in_ok-push_first-in_default
returns-in_ok-push_first-in_default c =
    let read = rw (c.as_bytes.ensures.value, c.as_str.ensures.text) at c.in_ok-push_first-in_default.ensures in
    subst (λ t. IsPrinted (default t) c.args.levels c.args.annotated c.args.in_array (string_bytes c.args.to.now) (string_bytes c.push_first.new.to)) (whole_type c.args.of.text.now c.args.of.spells_type) read.1
