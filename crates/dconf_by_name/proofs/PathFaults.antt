-- A path without a fault.
use Rattle.std.proofs.Common.{◌≡◌, ◌∙◌, ℕ, List, true, Option, Some, None, refl, sym}
use Rattle.std.specs.Prelude.{is_none}
use Rattle.dconf_model.specs.Paths.{PathFault, directory_fault, is_directory_path, is_key_path, key_fault}
use Rattle.dconf_model.proofs.PathLaws.{directories_are_faultless, keys_are_faultless}

none_of : (fault : Option PathFault) → is_none fault ≡ true → fault ≡ None
none_of None e = refl
none_of (Some f) e = cc

pub key_faultless : (text : List ℕ) → is_key_path text ≡ true → key_fault text ≡ None
key_faultless text good = none_of (key_fault text) (sym (keys_are_faultless text) ∙ good)

pub directory_faultless : (text : List ℕ) → is_directory_path text ≡ true → directory_fault text ≡ None
directory_faultless text good = none_of (directory_fault text) (sym (directories_are_faultless text) ∙ good)
