use Rattle.dconf_model.proofs.CompiledFolders.{repair_gives, repair_steps}
use Rattle.dconf_model.proofs.a_repaired_folder_holds.Goals as goal

pub returns : goal.returns
returns c = record { repairs = repair_gives; steps = repair_steps }
