use Rattle.std.proofs.Common.{◌≤◌, ◌+◌, ◌*◌, length, arith, mul-le-mul}
use Rattle.gv_model.specs.Ty.{spelling}
use Rattle.gv_view.specs.Views.{view_ty, view_bytes}
use Rattle.gv_layout.proofs.Sizes.{text_most}
use Rattle.gv_normal.proofs.in_place.is_normal.Goals as goal

pub is_normal_counted-requires : goal.is_normal_counted-requires
is_normal_counted-requires c =
    let v = c.args.view in
    let text = text_most v.type_str.text.now v.type_str.spells_type in
    let one : length (view_bytes v) + 1 ≤ 9223372036854775808 = omega arith in
    let two : length (view_bytes v) + 2 * length (spelling (view_ty v)) ≤ 18446744073709551616 = omega (arith, text) in
    omega (arith, mul-le-mul one two, c.new.ensures)

pub returns : goal.returns
returns c = c.is_normal_counted.ensures.normal
