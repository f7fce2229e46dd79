use Rattle.dconf_model.proofs.RunLaws.{calm_runs, runs_are_crash_safe}
use Rattle.dconf_model.proofs.runs_are_whole.Goals as goal

pub returns : goal.returns
returns c = record { calm = calm_runs; crash = runs_are_crash_safe }
