use Rattle.std.proofs.Common.{inl, inr, refl}
use Rattle.dconf_cli.proofs.outcome.print.Goals as goal

pub returns-in-Err : goal.returns-in-Err
returns-in-Err g c = record {
  ends = inr (refl, c.in-Err.ensures.part, c.in-Err.ensures.err);
  nothing = λ e. absurd ((c.in-Err.ensures.nothing e).1);
}

pub returns-in-Ok : goal.returns-in-Ok
returns-in-Ok g c = record {
  ends = inl (refl, c.in-Ok.ensures.written, c.in-Ok.ensures.ok);
  nothing = λ e. (refl, (c.in-Ok.ensures.nothing e).0);
}
