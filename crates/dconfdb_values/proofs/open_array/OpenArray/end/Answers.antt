use Rattle.std.proofs.Common.{◌≡◌, ◌+◌, ◌-◌, ◌*◌, Some, take, drop, sym, ap, ◌∙◌, arith}
use Rattle.gv_model.specs.BasicValue.{number_in}
use Rattle.dconfdb_values.proofs.OrderLaws.{number_at}
use Rattle.dconfdb_values.proofs.open_array.OpenArray.end.Goals as goal

pub returns : goal.returns
returns c =
    let a = c.args.self in
    let at = a.width * c.args.k in
    let wide : a.width ≡ (at + a.width) - at = omega arith in
    number_at a.width a.count a.offsets.now c.args.k c.requires
    ∙ ap Some (ap (λ n. number_in (take n (drop at a.offsets.now))) wide ∙ sym c.number.ensures)
