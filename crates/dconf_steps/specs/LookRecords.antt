-- A look at files and its step as numbers.
use Rattle.std.specs.Prelude.{ℕ, ◌≡◌, if◌then◌else◌, ◌==◌}
use Rattle.dconf_steps.specs.declared.refresh.Refresh.{Refresh}
use Rattle.dconf_steps.specs.declared.refresh.LookStage.{LookStage}
use Rattle.dconf_steps.specs.declared.refresh.LookStage.TheVariants.{Asking, Reading, Comparing, Keeping, Opening, Over}
use Rattle.dconf_steps.specs.declared.refresh.LookEnd.TheVariants.{Failed, Same, Newer}
use Rattle.dconf_steps.specs.declared.refresh.LookStep.{LookStep}
use Rattle.dconf_steps.specs.declared.refresh.LookStep.TheVariants.{Stat, Read, Compare, Keep, Open, Done}
use Rattle.dconf_steps.specs.declared.refresh_record.RefreshRecord.{RefreshRecord}
use Rattle.dconf_steps.specs.declared.next_step.NextStep.{NextStep}

abbrev pub look_stage_of : ℕ → LookStage
look_stage_of n =
    if n == 0 then Asking else if n == 1 then Reading else if n == 2 then Comparing else if n == 3 then Keeping else if n == 4 then Opening else
    if n == 6 then Over Same else if n == 7 then Over Newer else Over Failed

abbrev pub look_of : RefreshRecord → Refresh
look_of r = record { stage = look_stage_of r.stage; at = r.at; count = r.count; has_old = r.has_old; in_turn = r.in_turn; is_lenient = r.is_lenient; is_newer = r.is_newer }

abbrev pub IsLookTold : LookStep → NextStep → Type 0
IsLookTold (Stat at) told = (told.kind ≡ 0) × (told.number ≡ at)
IsLookTold (Read at) told = (told.kind ≡ 1) × (told.number ≡ at)
IsLookTold (Compare at) told = (told.kind ≡ 2) × (told.number ≡ at)
IsLookTold (Keep at) told = (told.kind ≡ 3) × (told.number ≡ at)
IsLookTold (Open at) told = (told.kind ≡ 4) × (told.number ≡ at)
IsLookTold (Done Failed) told = told.kind ≡ 5
IsLookTold (Done Same) told = told.kind ≡ 6
IsLookTold (Done Newer) told = told.kind ≡ 7
