-- What a fault of a keyfile says.
use Rattle.dconf_model.specs.Causes.{SettingsCause}
use Rattle.dconf_model.specs.Causes.SettingsCause.{too_big, not_utf8, bad_line, no_group, bad_group, bad_key_name}
use Rattle.dconf_model.specs.Lines.{LineFault}
use Rattle.keyfile_core.specs.declared.fault.KeyfileCause.{KeyfileCause}
use Rattle.keyfile_core.specs.declared.fault.KeyfileCause.TheVariants.{TooBig, NotUtf8, BadLine, NoGroup, BadGroup, BadKeyName}
use Rattle.keyfile_core.specs.declared.fault.KeyfileFlaw.{KeyfileFlaw}

abbrev pub cause_of : KeyfileCause → SettingsCause
cause_of TooBig = too_big
cause_of NotUtf8 = not_utf8
cause_of BadLine = bad_line
cause_of NoGroup = no_group
cause_of BadGroup = bad_group
cause_of BadKeyName = bad_key_name

abbrev pub fault_of : KeyfileFlaw → LineFault
fault_of flaw = record { line = flaw.line; cause = cause_of flaw.cause }
