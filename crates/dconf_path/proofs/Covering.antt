-- Which keys a lock covers.
use Rattle.std.proofs.Common.{◌≡◌, ℕ, Bool, true, false, List, refl, sym, ap, ◌∙◌}
use Rattle.std.specs.Prelude.{◌&&◌, not, eqb}
use Rattle.std.specs.List.{starts_with}
use Rattle.std.specs.Str.{bytes_eq}
use Rattle.dconf_model.proofs.PathMaps.{no_truth}
use Rattle.dconf_model.proofs.SameBytes.{same_path}
use Rattle.dconf_model.specs.Locks.{covers}
use Rattle.dconf_model.specs.Paths.{ends_with_slash, is_path, is_key_path, is_directory_path}

directory_ends : (text : List ℕ) → is_directory_path text ≡ true → ends_with_slash text ≡ true
directory_ends text is = go (is_path text) is
  where
    go : (b : Bool) → (b && ends_with_slash text) ≡ true → ends_with_slash text ≡ true
    go true e = e
    go false e = absurd (no_truth e)

key_is_no_directory : (text : List ℕ) → is_key_path text ≡ true → ends_with_slash text ≡ true → ⊥
key_is_no_directory text is ends = go (is_path text) (ends_with_slash text) is ends
  where
    go : (b d : Bool) → (b && not d) ≡ true → d ≡ true → ⊥
    go true true e h = no_truth e
    go true false e h = no_truth h
    go false d e h = no_truth e

-- a directory's lock covers the keys below it: none of them is the directory
pub directory_covers : (lock key : List ℕ) → is_directory_path lock ≡ true → is_key_path key ≡ true → covers lock key ≡ starts_with eqb key lock
directory_covers lock key is_directory is_key = go (bytes_eq lock key) refl
  where
    go : (b : Bool) → bytes_eq lock key ≡ b → covers lock key ≡ starts_with eqb key lock
    go true e = absurd (key_is_no_directory key is_key (ap ends_with_slash (sym (same_path lock key e)) ∙ directory_ends lock is_directory))
    go false e = rw (e, directory_ends lock is_directory) refl
