use Rattle.std.proofs.Common.{ap, sym, subst, ◌∙◌}
use Rattle.std.specs.Prelude.{IfSome}
use Rattle.gv_model.specs.Layout.{fixed_size}
use Rattle.gv_model.specs.Ty.Ty.{array}
use Rattle.gv_model.specs.TypeText.{type_at}
use Rattle.gv_types.specs.TypeStr.{element_of, ty}
use Rattle.gv_types.specs.Classes.{class_of}
use Rattle.gv_view.specs.Views.{view_bytes, view_ty}
use Rattle.gv_layout.proofs.Cuts.{array_class}
use Rattle.dconfdb_values.specs.OpenArrays.{AreElements}
use Rattle.dconfdb_values.proofs.OpenArrayLaws.{all_framed, no_size}
use Rattle.dconfdb_values.proofs.open_array.OpenArray.of.Goals as goal

pub returns : goal.returns
returns c =
    let u = type_at c.as_bytes.result.now in
    let same = ap type_at (c.as_bytes.ensures.value ∙ c.as_str.ensures.text) in
    all_framed (view_ty c.args.view) u (view_bytes c.args.view) c.framed.result
    (array_class ty (view_ty c.args.view) c.class.result c.element.result c.in_ok-element-in-Array.element (c.class.ensures ∙ ap (λ s. class_of (ty s)) c.type_str-of.ensures) c.in-Array.is
    (c.element.ensures ∙ ap (λ s. element_of (ty s)) c.type_str-of.ensures) c.in_ok-element-in-Array.was ∙ ap array (sym same))
    (ap fixed_size same ∙ no_size c.fixed_size.result (ty c.in_ok-element-in-Array.element) c.fixed_size.ensures c.if-is_some.ensures)
    (subst (λ b. IfSome c.framed.result (AreElements u b)) c.bytes-bytes.ensures c.framed.ensures)
