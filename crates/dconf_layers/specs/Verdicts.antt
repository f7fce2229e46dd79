-- The bytes of files that may not be there, and what a refusal says of them.
use Rattle.dconf_model.specs.Databases.{Verdict}
use Rattle.dconf_model.specs.Databases.Verdict.{no_database, unsound}
use Rattle.gvdb_format.specs.Faults.{open_fault_of}
use Rattle.gvdb_check.specs.Unsounds.{rule_of}
use Rattle.dconf_layers.specs.declared.fault.DatabaseFault.{DatabaseFault}
use Rattle.dconf_layers.specs.declared.fault.DatabaseFault.TheVariants.{NoDatabase, Unsound}
use Rattle.std.specs.Prelude.{ℕ, List, Option, map, option_map}
use Rattle.std.specs.Borrow.{Bor}

abbrev pub verdict_of : DatabaseFault → Verdict
verdict_of (NoDatabase fault) = no_database (open_fault_of fault)
verdict_of (Unsound broken) = unsound (rule_of broken.rule) broken.item

abbrev pub bytes_of_file : Option (Bor (List ℕ)) → Option (List ℕ)
bytes_of_file file = option_map (λ bytes. bytes.now) file

abbrev pub bytes_of_files : List (Option (Bor (List ℕ))) → List (Option (List ℕ))
bytes_of_files files = map bytes_of_file files
