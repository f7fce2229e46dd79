-- The file that a command replaces.
use Rattle.std.specs.Prelude.{ℕ, List, Option, Some, None, Result, Ok, Err, if◌then◌else◌}
use Rattle.dconf_model.specs.Commands.{Command}
use Rattle.dconf_model.specs.Commands.Command.{write, reset, reset_below, load, compile, repair}
use Rattle.dconf_model.specs.Lines.{LineFault}
use Rattle.dconf_model.specs.Profiles.{Database, has_writable, profile_of, user_file}
use Rattle.command_words.specs.declared.replaced.Replaced.{Replaced}
use Rattle.command_words.specs.declared.replaced.Replaced.TheVariants.{File, UserOf}

-- the file of a name, or the user's of the profile in the file of a name
pub data Target : Type 0 where
  file : List ℕ → Target
  user_of : List ℕ → Target

abbrev pub target_of : Replaced → Target
target_of (File name) = file name.now
target_of (UserOf profile) = user_of profile.now

-- what the command replaces, if it is one that changes a file
abbrev pub replaced_by : Command → Option Target
replaced_by (write key value profile) = Some (user_of profile)
replaced_by (reset key profile) = Some (user_of profile)
replaced_by (reset_below directory profile) = Some (user_of profile)
replaced_by (load force skip_doubles directory profile) = Some (user_of profile)
replaced_by (compile out locks keyfiles) = Some (file out)
replaced_by (repair damaged out) = Some (file out)
replaced_by other = None

-- The user's file where the first database is the user's, else the profile's own.
abbrev pub file_of_first : List ℕ → List Database → List ℕ
file_of_first profile databases = if has_writable databases then user_file databases else profile

abbrev pub file_if_read : List ℕ → Result (List Database) LineFault → List ℕ
file_if_read profile (Ok databases) = file_of_first profile databases
file_if_read profile (Err fault) = profile

-- and by the bytes of the profile's file
abbrev pub user_file_by : List ℕ → List ℕ → List ℕ
user_file_by profile bytes = file_if_read profile (profile_of bytes)
