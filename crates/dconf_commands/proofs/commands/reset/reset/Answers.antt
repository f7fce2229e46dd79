use Rattle.std.proofs.Common.{Bool, subst, sym}
use Rattle.dconf_model.specs.Outcomes.{IsOutcome}
use Rattle.command_words.specs.Commands.{resetting}
use Rattle.dconf_streams.specs.Readings.{Decides}
use Rattle.dconf_commands.proofs.commands.reset.reset.Goals as goal

pub returns-then-force : goal.returns-then-force
returns-then-force g c = λ input.
    subst (λ (b : Bool). Decides g.F.Folder c.args.folder.now c.reset_below.new.folder 0
    (λ reads. IsOutcome (resetting b c.args.path.now c.args.profile.now) reads input) c.reset_below.result) (sym c.if-force.true) (c.reset_below.ensures input)

pub returns-else-force : goal.returns-else-force
returns-else-force g c = λ input.
    subst (λ (b : Bool). Decides g.F.Folder c.args.folder.now c.reset_key.new.folder 0
    (λ reads. IsOutcome (resetting b c.args.path.now c.args.profile.now) reads input) c.reset_key.result) (sym c.if-force.false) (c.reset_key.ensures input)
