-- What covers a path is one: the path itself, or a directory above it.
use Rattle.std.specs.Prelude.{IsTrue}
use Rattle.std.proofs.Common.{◌≡◌, ℕ, true, List, ◌++◌, ◌||◌, ◌&&◌, not, length, drop, refl, sym, ap, ◌∙◌}
use Rattle.std.specs.Str.{bytes_eq}
use Rattle.std.proofs.lemmas.Bool.{and_parts}
use Rattle.std.proofs.lemmas.Bool.Decides.{Decides-eqb}
use Rattle.std.proofs.lemmas.Slice.Eq.{starts_is}
use Rattle.dconf_model.specs.Locks.{covers, is_below}
use Rattle.dconf_model.specs.Paths.{ends_with_slash, is_path, is_key_path}
use Rattle.dconf_model.proofs.ParentLaws.{by_bool}
use Rattle.dconf_model.proofs.PathPrefixes.{prefix_is_path}
use Rattle.dconf_model.proofs.SameBytes.{same_path}

pub covering_is_path : (lock path : List ℕ) → covers lock path ≡ true → IsTrue (is_key_path path) → IsTrue (is_path lock)
covering_is_path lock path e key =
    let is : is_path path ≡ true = (and_parts (is_path path) (not (ends_with_slash path)) key).0 in
    by_bool (bytes_eq lock path) (is_path lock ≡ true)
    (λ same. ap is_path (same_path lock path same) ∙ is)
    (λ other. let both : (ends_with_slash lock && is_below path lock) ≡ true = sym (ap (λ b. b || (ends_with_slash lock && is_below path lock)) other) ∙ e in
    let p = and_parts (ends_with_slash lock) (is_below path lock) both in
    let cut : path ≡ lock ++ drop (length lock) path = (starts_is Decides-eqb path lock (is_below path lock) refl).0 p.1 in
    prefix_is_path lock (drop (length lock) path) p.0 (sym (ap is_path cut) ∙ is))
