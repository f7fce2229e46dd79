-- Why a text of settings, or a value in it, is refused.
use Rattle.gv_model.specs.TextFault.{Fault}
use Rattle.gv_model.specs.Literals.{ValueFault}
use Rattle.dconf_model.specs.Paths.{PathFault}

pub data SettingsCause : Type 0 where
  -- of a file of lines
  too_big : SettingsCause
  not_utf8 : SettingsCause
  -- of a lock file
  lock_not_key : SettingsCause
  -- of a profile; a keyfile too may have a bad line
  bad_line : SettingsCause
  service_db : SettingsCause
  user_not_first : SettingsCause
  too_many : SettingsCause
  -- of a keyfile
  no_group : SettingsCause
  bad_group : SettingsCause
  bad_key_name : SettingsCause
  -- of a path, of a value's text, of its value, and of a value that can't be stored
  path_fault : PathFault → SettingsCause
  text_fault : Fault → SettingsCause
  value_fault : ValueFault → SettingsCause
  too_large : SettingsCause
