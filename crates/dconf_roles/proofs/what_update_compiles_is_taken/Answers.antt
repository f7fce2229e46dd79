use Rattle.std.proofs.Common.{arith}
use Rattle.std.proofs.lemmas.Grind.{common_steps}
use Rattle.dconf_roles.proofs.SiteLaws.{of_database, of_sources}
use Rattle.dconf_roles.proofs.what_update_compiles_is_taken.Goals as goal

pub returns : goal.returns
returns c k folder = record {
  sources = grind (arith, common_steps);
  compiled = grind (arith, common_steps);
  keyfile = grind (arith, common_steps);
  lock_file = grind (arith, common_steps);
  hidden = grind (arith, common_steps);
  stem = of_database folder.name;
  made = of_sources folder.name;
}
