-- The text that a path holds, and what a lock of a lock file is.
use Rattle.std.specs.Prelude.{ℕ, List}
use Rattle.dconf_path.specs.declared.path.KeyPath.{KeyPath}
use Rattle.dconf_path.specs.declared.path.DirPath.{DirPath}
use Rattle.dconf_path.specs.declared.lock_path.LockPath.{LockPath}
use Rattle.dconf_path.specs.declared.lock_path.LockPath.TheVariants.{Key, Directory}
use Rattle.dconf_model.specs.Locks.{LockLine}
use Rattle.dconf_path.specs.declared.locks.Lock.{Lock}

abbrev pub key_text : KeyPath → List ℕ
key_text path = path.text.now

abbrev pub directory_text : DirPath → List ℕ
directory_text path = path.text.now

abbrev pub lock_text : LockPath → List ℕ
lock_text (Key path) = key_text path
lock_text (Directory path) = directory_text path

abbrev pub lock_line_of : Lock → LockLine
lock_line_of lock = record { path = lock_text lock.path; line = lock.line }
