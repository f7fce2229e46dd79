use Rattle.std.proofs.Common.{◌≡◌, rules, ap, ◌∙◌}
use Rattle.gv_model.specs.Decode.{decode}
use Rattle.gv_types.specs.declared.class.Class.TheVariants as classes
use Rattle.gv_types.specs.Classes.{class_of, basic_of}
use Rattle.gv_types.proofs.ClassLaws.{basic_class}
use Rattle.gv_view.specs.Views.{view_ty, view_bytes}
use Rattle.gv_view.proofs.Numbers.{whole_number, other_number}
use Rattle.gv_view.proofs.view.View.number_bytes.Goals as goal

pub returns-then-self-size-clause-value : goal.returns-then-self-size-clause-value
returns-then-self-size-clause-value c =
    let class : classes.Basic c.args.of ≡ class_of (view_ty c.args.self) = search rules in
    ap (λ t. decode t (view_bytes c.args.self)) (basic_class (view_ty c.args.self) c.args.of class) ∙ whole_number (basic_of c.args.of) (view_bytes c.args.self) c.args.size c.requires c.if-self-size.true

pub returns-else-self-size-clause-value : goal.returns-else-self-size-clause-value
returns-else-self-size-clause-value c =
    let class : classes.Basic c.args.of ≡ class_of (view_ty c.args.self) = search rules in
    ap (λ t. decode t (view_bytes c.args.self)) (basic_class (view_ty c.args.self) c.args.of class) ∙ other_number (basic_of c.args.of) (view_bytes c.args.self) c.args.size c.requires c.if-self-size.false
