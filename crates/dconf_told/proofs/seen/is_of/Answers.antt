use Rattle.std.proofs.Common.{rules, ◌≡◌, ◌∙◌, ◌||◌, ◌==◌, ap, sym, false, length}
use Rattle.std.specs.Str.{bytes_eq}
use Rattle.gv_model.specs.Tree.{type_of}
use Rattle.gv_model.specs.Ty.{spelling}
use Rattle.gv_model.proofs.WellTyped.{type_of-decode}
use Rattle.gv_types.specs.TypeStr.{ty}
use Rattle.gv_view.specs.Views.{value, view_bytes, view_ty}
use Rattle.dconf_told.proofs.seen.is_of.Goals as goal

pub returns-else-is_empty : goal.returns-else-is_empty
returns-else-is_empty c =
    let text = c.args.type_text.now in
    let view = c.args.view in
    let typed : type_of (value view) ≡ view_ty view = type_of-decode (view_ty view) (view_bytes view) in
    let same : c.as_bytes.result.now ≡ spelling (type_of (value view)) =
    c.as_bytes.ensures.value ∙ (c.as_str.ensures.spelled ∙ ap spelling (ap ty c.type_str.ensures ∙ sym typed)) in
    let some : (length text == 0) ≡ false = search rules in
    let told : c.eq.result ≡ bytes_eq text c.as_bytes.result.now = search rules in
    told ∙ (ap (bytes_eq text) same ∙ sym (ap (λ b. b || bytes_eq text (spelling (type_of (value view)))) some))
