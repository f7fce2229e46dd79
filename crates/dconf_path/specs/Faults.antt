-- Which fault of the model each fault is: of a path, of a text of settings, of a line of a lock file or of a profile.
use Rattle.dconf_model.specs.Causes.SettingsCause.{lock_not_key, bad_line, service_db, user_not_first, too_many, too_big, not_utf8}
use Rattle.dconf_model.specs.Lines.{LineFault}
use Rattle.dconf_path.specs.declared.line_fault.LockNotKey.{LockNotKey}
use Rattle.dconf_path.specs.declared.line_fault.ProfileFlaw.{ProfileFlaw}
use Rattle.dconf_path.specs.declared.line_fault.ProfileFlaw.TheVariants.{BadLine, ServiceDb, UserNotFirst, TooMany}
use Rattle.dconf_model.specs.Paths.{PathFault as Fault}
use Rattle.dconf_model.specs.Paths.PathFault.{not_absolute, has_nul, double_slash, ends_in_slash, no_end_slash, too_long}
use Rattle.dconf_path.specs.declared.fault.PathFault.{PathFault}
use Rattle.dconf_path.specs.declared.fault.PathFault.TheVariants.{NotAbsolute, HasNul, DoubleSlash, EndsInSlash, NoEndSlash, TooLong}
use Rattle.dconf_path.specs.declared.texts.TextFault.{TextFault}
use Rattle.dconf_path.specs.declared.texts.TextFault.TheVariants.{TooBig, NotUtf8}

abbrev pub locks_fault_of : LockNotKey → LineFault
locks_fault_of fault = record { line = fault.0; cause = lock_not_key }

abbrev pub profile_fault_of : ProfileFlaw → LineFault
profile_fault_of (BadLine n) = record { line = n; cause = bad_line }
profile_fault_of (ServiceDb n) = record { line = n; cause = service_db }
profile_fault_of (UserNotFirst n) = record { line = n; cause = user_not_first }
profile_fault_of (TooMany n) = record { line = n; cause = too_many }

abbrev pub path_fault_of : PathFault → Fault
path_fault_of NotAbsolute = not_absolute
path_fault_of HasNul = has_nul
path_fault_of DoubleSlash = double_slash
path_fault_of EndsInSlash = ends_in_slash
path_fault_of NoEndSlash = no_end_slash
path_fault_of TooLong = too_long

abbrev pub text_fault_of : TextFault → LineFault
text_fault_of TooBig = record { line = 0; cause = too_big }
text_fault_of (NotUtf8 n) = record { line = n; cause = not_utf8 }
