use Rattle.std.proofs.Common.{◌≡◌, inr}
use Rattle.dconf_model.specs.Outcomes.{Writes, changing, kept_text}
use Rattle.dconf_streams.proofs.Decisions.{answers_also}
use Rattle.dconf_commands.proofs.commands.repair.rewritten.Goals as goal

pub returns-in-Ok : goal.returns-in-Ok
returns-in-Ok c =
    let s = c.args.map.now in
    let bytes = c.in-Ok.bytes.items in
    let e = c.in-Ok.ensures in
    answers_also c.changed.result (λ o. o ≡ changing c.args.out.now bytes (kept_text s)) (Writes c.args.out.now (kept_text s) s)
    (λ o is. inr (bytes, record { opens = e.opens; sound = e.sound; values = e.values; locks = e.locks; size = e.length; fits = e.fits }, is)) c.changed.ensures
