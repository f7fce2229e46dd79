-- What a refusal to open says: its fault among the model's.
use Rattle.dconf_model.specs.Opening.{OpenFault as Fault}
use Rattle.dconf_model.specs.Opening.OpenFault.{short, bad_signature, bad_version, bad_root, bad_table}
use Rattle.gvdb_format.specs.declared.fault.OpenFault.{OpenFault}
use Rattle.gvdb_format.specs.declared.fault.OpenFault.TheVariants.{Short, BadSignature, BadVersion, BadRoot, BadTable}

abbrev pub open_fault_of : OpenFault → Fault
open_fault_of Short = short
open_fault_of BadSignature = bad_signature
open_fault_of BadVersion = bad_version
open_fault_of BadRoot = bad_root
open_fault_of BadTable = bad_table
