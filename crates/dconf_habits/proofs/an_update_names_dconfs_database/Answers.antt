use Rattle.std.proofs.Common.{refl}
use Rattle.dconf_habits.proofs.an_update_names_dconfs_database.Goals as goal

pub returns : goal.returns
returns c = λ folder. refl
