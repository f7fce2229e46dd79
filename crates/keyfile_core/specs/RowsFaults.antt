-- What a fault of rows that are to be written says.
use Rattle.dconf_model.specs.Causes.{SettingsCause}
use Rattle.dconf_model.specs.Causes.SettingsCause.{bad_group, bad_key_name}
use Rattle.dconf_model.specs.Keyfiles.{RowFault}
use Rattle.keyfile_core.specs.declared.rows_fault.RowsCause.{RowsCause}
use Rattle.keyfile_core.specs.declared.rows_fault.RowsCause.TheVariants.{BadGroup, BadKeyName}
use Rattle.keyfile_core.specs.declared.rows_fault.RowsFlaw.{RowsFlaw}

abbrev pub rows_cause_of : RowsCause → SettingsCause
rows_cause_of BadGroup = bad_group
rows_cause_of BadKeyName = bad_key_name

abbrev pub rows_fault_of : RowsFlaw → RowFault
rows_fault_of flaw = record { row = flaw.row; cause = rows_cause_of flaw.cause }
