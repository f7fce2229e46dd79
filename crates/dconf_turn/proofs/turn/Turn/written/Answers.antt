use Rattle.std.proofs.Common.{◌≡◌, ◌-◌, ◌∙◌, arith, sym, inl, inr}
use Rattle.dconf_turn.proofs.TurnLaws.{by_equal, all_written, some_written, badly_written}
use Rattle.dconf_turn.specs.declared.step.Answer.TheVariants.{Yes}
use Rattle.dconf_turn.proofs.turn.Turn.written.Goals as goal
use Rattle.dconf_turn.proofs.turn.Turn.written.Goals.{then-n-eq0-via-then-n-eq0, then-n-eq0-via-else-n-eq0+then-n-rest-2}

pub returns-then-n-rest : goal.returns-then-n-rest
returns-then-n-rest c = all_written c.args.self c.args.n c.requires (let is : c.args.n ≡ c.args.self.len - c.args.self.at = omega (arith, c.saturating_sub-rest.ensures) in is)

pub returns : goal.returns
returns c = some_written c.args.self c.args.n c.requires (omega (arith, c.saturating_sub-rest.ensures)) (omega arith)

pub returns-then-n-eq0 : goal.returns-then-n-eq0
returns-then-n-eq0 c =
    by_equal c.args.self _ _ (Yes c.args.n) c.says.ensures
    (badly_written c.args.self c.args.n c.requires
    (elim c.then-n-eq0.branch [
      | then-n-eq0-via-then-n-eq0 w ↦ inl w.if-n-eq0.true
      | then-n-eq0-via-else-n-eq0+then-n-rest-2 w ↦ inr (omega (arith, c.saturating_sub-rest.ensures, w.if-n-rest-2.true))
    ])
    (λ h. c.if-n-rest.false (h ∙ sym (omega (arith, c.saturating_sub-rest.ensures)))))
