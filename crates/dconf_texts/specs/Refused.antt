-- Why a text is neither a key's path nor a directory's, as a number.
use Rattle.std.specs.Prelude.{◌≡◌, ℕ, List, Option, Some, None, if◌then◌else◌}
use Rattle.dconf_model.specs.Locks.{lock_fault}
use Rattle.dconf_model.specs.Paths.{PathFault, is_short}
use Rattle.dconf_model.specs.Paths.PathFault.{not_absolute, has_nul, double_slash, ends_in_slash, no_end_slash, too_long}
use Rattle.dconf_texts.specs.Kinds.{kind_of}
use Rattle.dconf_texts.specs.declared.kinds.PathKind.{PathKind}
use Rattle.dconf_texts.specs.declared.kinds.PathKind.TheVariants.{Key, Directory, NotAbsolute, HasNul, DoubleSlash, Absolute, NoKey, NoDirectory}

abbrev pub refused_by_length : List ℕ → ℕ
refused_by_length text = if is_short text then 0 else 4

abbrev pub refused_kind : PathKind → ℕ → ℕ
refused_kind Key by_length = by_length
refused_kind Directory by_length = by_length
refused_kind NotAbsolute by_length = 1
refused_kind HasNul by_length = 2
refused_kind DoubleSlash by_length = 3
refused_kind Absolute by_length = by_length
refused_kind NoKey by_length = by_length
refused_kind NoDirectory by_length = by_length

abbrev pub refused_as : List ℕ → ℕ
refused_as text = refused_kind (kind_of text) (refused_by_length text)

-- ---- the law

abbrev pub fault_number : Option PathFault → ℕ
fault_number None = 0
fault_number (Some not_absolute) = 1
fault_number (Some has_nul) = 2
fault_number (Some double_slash) = 3
fault_number (Some too_long) = 4
fault_number (Some ends_in_slash) = 5
fault_number (Some no_end_slash) = 5

-- it is the first fault of a text that is to be the path of either, as a lock's is
abbrev pub TheFirstFaultIsTold : Type 0
TheFirstFaultIsTold = (text : List ℕ) → refused_as text ≡ fault_number (lock_fault text)
