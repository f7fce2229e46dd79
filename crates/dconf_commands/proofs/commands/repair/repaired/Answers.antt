use Rattle.std.proofs.Common.{inr, subst}
use Rattle.dconf_model.specs.Outcomes.{Repairs, Writes, kept_text}
use Rattle.dconf_streams.specs.Answers.{GivesOutcome}
use Rattle.dconf_streams.proofs.Decisions.{answers_also}
use Rattle.dconf_commands.proofs.commands.repair.repaired.Goals as goal

pub returns-in-Ok : goal.returns-in-Ok
returns-in-Ok c =
    let s = c.in-Ok.map in
    subst (λ b. GivesOutcome c.rewritten.result (Repairs c.args.out.now b)) c.deref.ensures.value
    (answers_also c.rewritten.result (Writes c.args.out.now (kept_text s) s) (Repairs c.args.out.now c.deref.result.now)
    (λ o w. inr (c.in-Ok.ensures.opens, (s, c.in-Ok.ensures.salvaged, w))) c.rewritten.ensures)
