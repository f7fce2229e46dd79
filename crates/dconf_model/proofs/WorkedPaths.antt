-- Worked paths and their faults.
use Rattle.std.proofs.Common.{◌≡◌, ℕ, [], ◌∷◌, true, refl}
use Rattle.std.specs.Prelude.{codes, Some, ◌++◌}
use Rattle.dconf_model.specs.Paths.{has_two_slashes, first_path_fault, is_key_path, is_directory_path, key_fault, directory_fault}
use Rattle.dconf_model.specs.Paths.PathFault.{not_absolute, has_nul, double_slash, ends_in_slash, no_end_slash}

unfoldable computing : ℕ
unfolding has_two_slashes first_path_fault
computing = 0

a_key : is_key_path (codes "/a/k") ≡ true
unfolding computing
a_key = refl

a_directory : is_directory_path (codes "/a/") ≡ true
unfolding computing
a_directory = refl

pub root_is_a_directory : is_directory_path (codes "/") ≡ true
unfolding computing
root_is_a_directory = refl

root_is_no_key : key_fault (codes "/") ≡ Some ends_in_slash
unfolding computing
root_is_no_key = refl

relative : key_fault (codes "a/k") ≡ Some not_absolute
unfolding computing
relative = refl

empty_is_relative : directory_fault [] ≡ Some not_absolute
unfolding computing
empty_is_relative = refl

two_slashes : key_fault (codes "/a//k") ≡ Some double_slash
unfolding computing
two_slashes = refl

key_ends_in_slash : key_fault (codes "/a/") ≡ Some ends_in_slash
unfolding computing
key_ends_in_slash = refl

directory_without_end : directory_fault (codes "/a") ≡ Some no_end_slash
unfolding computing
directory_without_end = refl

-- a zero byte is named before two slashes, wherever it is
zero_after_slashes : key_fault (codes "//a" ++ 0 ∷ []) ≡ Some has_nul
unfolding computing
zero_after_slashes = refl

two_slashes_at_the_end : key_fault (codes "/a//") ≡ Some double_slash
unfolding computing
two_slashes_at_the_end = refl
