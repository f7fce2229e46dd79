use Rattle.std.proofs.Common.{sym, ap, ◌∙◌}
use Rattle.std.proofs.lemmas.Result.{MatchResult-weaker}
use Rattle.gv_types.specs.Classes.{class_of, basic_of}
use Rattle.gv_types.specs.TypeStr.{ty}
use Rattle.gv_types.proofs.ClassLaws.{basic_class}
use Rattle.gv_tree.specs.Basics.{basic_tree}
use Rattle.gv_view.specs.Views.{view_ty, view_bytes}
use Rattle.gv_view.proofs.BasicCopies.{never_refused}
use Rattle.gv_view.proofs.copy.assembled.Goals as goal

pub returns-in_ok-basic-in-Basic-clause-fault : goal.returns-in_ok-basic-in-Basic-clause-fault
returns-in_ok-basic-in-Basic-clause-fault c =
    let class = sym c.in-Basic.is ∙ (c.class.ensures ∙ ap (λ s. class_of (ty s)) c.type_str.ensures) in
    MatchResult-weaker c.basic-in-Basic.result c.basic-in-Basic.ensures.fault (λ t h. tt)
    (never_refused (view_ty c.args.view) (basic_of c.in-Basic.of) (view_bytes c.args.view) (basic_tree c.in_ok-basic-in-Basic.field-0) (basic_class (view_ty c.args.view) c.in-Basic.of class) c.in_ok-basic-in-Basic.ensures)
