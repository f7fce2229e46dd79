use Rattle.std.proofs.Common.{◌≡◌, Option, Some, None, Err, false}
use Rattle.std.specs.Prelude.{codes, is_none, option_map, unwrap_or}
use Rattle.std.proofs.lemmas.Bool.{true≢false}
use Rattle.dconf_model.specs.Causes.{SettingsCause}
use Rattle.dconf_model.specs.FaultTexts.{cause_text}
use Rattle.dconf_compile.specs.CompileFaults.{cause_of}
use Rattle.dconf_compile.proofs.Causes.{is_of_files}
use Rattle.dconf_streams.specs.Answers.{Answered, GivesOutcome, RefusesFor}
use Rattle.dconf_commands.specs.Refusals.{RefusedCause}
use Rattle.dconf_commands.proofs.arguments.refused_for.Goals as goal

cause_says : (answer : Answered) (o : Option SettingsCause) → is_none o ≡ false → RefusesFor answer (unwrap_or (option_map cause_text o) (codes "Memory"))
    → GivesOutcome answer (RefusedCause o)
cause_says answer None e h = absurd (true≢false e)
cause_says answer (Some c) e h = h

pub returns-in_default : goal.returns-in_default
returns-in_default c = cause_says (Err c.refused.result) (cause_of c.args.cause) (is_of_files c.args.cause c.in_default.not-Memory) c.refused.ensures
