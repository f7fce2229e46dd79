use Rattle.std.proofs.Common.{rules, ◌≡◌, ◌∙◌, ◌&&◌, ap, cond, sym, true, Some, None}
use Rattle.std.specs.Str.{is_utf8}
use Rattle.gv_model.specs.Decode.{decode}
use Rattle.gv_model.specs.TypeText.{is_type, type_at}
use Rattle.dconf_told.proofs.SeeingLaws.{value_of_text}
use Rattle.dconf_told.proofs.seen.DconfdbWaits.view.Goals as goal

pub returns : goal.returns
returns c =
    let self = c.args.self in
    let of = self.type_text.now in
    let is : self.sets ≡ true = search rules in
    value_of_text of self.value.now c.view_of.result c.view_of.ensures.some c.view_of.ensures.at_type c.view_of.ensures.bytes
    ∙ sym (ap (λ b. cond (b && (is_utf8 of && is_type of)) (Some (decode (type_at of) self.value.now)) None) is)
