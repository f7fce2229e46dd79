use Rattle.dconf_model.proofs.PlanRows.{plan_is_sound, plan_holds_values, plan_holds_locks}
use Rattle.dconf_model.proofs.a_planned_table_holds_its_settings.Goals as goal

pub returns-clause-sound : goal.returns-clause-sound
returns-clause-sound c = plan_is_sound

pub returns-clause-values : goal.returns-clause-values
returns-clause-values c = plan_holds_values

pub returns-clause-locks : goal.returns-clause-locks
returns-clause-locks c = plan_holds_locks
