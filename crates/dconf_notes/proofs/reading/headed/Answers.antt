use Rattle.std.proofs.Common.{◌≡◌, map, sym, subst, ◌∙◌, true, false}
use Rattle.dconf_notes.specs.Records.{noted_of, IsHeaded, IsOf}
use Rattle.dconf_notes.proofs.RecordLaws.{of_moment}
use Rattle.dconf_notes.proofs.reading.headed.Goals as goal

pub returns-clause-none : goal.returns-clause-none
returns-clause-none c = λ none same headed.
    (let is : c.as_slice.result.now ≡ c.args.notes.items = c.as_slice.ensures.value in
    let moment = of_moment (map noted_of c.args.notes.items) c.args.end.now c.number.result c.number.ensures same headed in
    let yes : c.is_headed.result ≡ true = c.is_headed.ensures.1 (subst (λ x. IsHeaded (map noted_of x) × IsOf c.number.result (map noted_of x)) (sym is) (headed, moment)) in
    let no : c.is_headed.result ≡ false = c.if-is_headed.false in
    let bad : true ≡ false = sym yes ∙ no in cc)
