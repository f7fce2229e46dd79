-- What the rules on full names say of the one name that an item has.
use Rattle.std.proofs.Common.{ℕ, ◌≡◌, ◌≤◌, ◌<◌, ◌↔◌, refl, sym, ◌∙◌, ap, subst, arith}
use Rattle.dconf_model.specs.Bytes.{hash_of}
use Rattle.dconf_model.specs.Table.{Table, item, item_count}
use Rattle.dconf_model.specs.Names.{HasName, full_name}
use Rattle.dconf_model.specs.Search.{span_start}
use Rattle.dconf_model.specs.Searchable.{HasHash, IsOnlyNamed}
use Rattle.dconf_model.specs.Sound.{KeepsAll}
use Rattle.dconf_model.specs.Sound.Rule.{keys, chain, hash, span}
use Rattle.dconf_model.proofs.FullNames.{full_name_is, has_full_name}
use Rattle.gvdb_check.specs.OnePass.{HasOwnHash}

pub hash_is_of_name : (t : Table) (i : ℕ) → KeepsAll t keys → KeepsAll t chain → i < item_count t → ((item t i).hash ≡ hash_of (full_name t i)) ↔ HasHash t i
hash_is_of_name t i good ends counted = (
  λ e name h. e ∙ ap hash_of (full_name_is t i name h),
  λ has. has (full_name t i) (has_full_name t i good ends counted),
)

-- items of one name have one hash
pub same_hash : (t : Table) (i j : ℕ) → KeepsAll t keys → KeepsAll t chain → KeepsAll t hash → i < item_count t → j < item_count t → full_name t i ≡ full_name t j → (item t i).hash ≡ (item t j).hash
same_hash t i j good ends hashed one other e =
    hashed i one (full_name t i) (has_full_name t i good ends one) ∙ (ap hash_of e ∙ sym (hashed j other (full_name t j) (has_full_name t j good ends other)))

-- an item is not the only one of its name where a lower one has the same
pub has_namesake : (t : Table) (i j : ℕ) → KeepsAll t keys → KeepsAll t chain → i < item_count t → j < i → full_name t i ≡ full_name t j → IsOnlyNamed t i → ⊥
has_namesake t i j good ends counted lower e only =
    let other : j < item_count t = omega arith in
    only (full_name t i) j (has_full_name t i good ends counted) (subst (HasName t j) (sym e) (has_full_name t j good ends other)) lower

-- it is where none of its span has
pub has_no_namesake : (t : Table) (i first : ℕ) → KeepsAll t keys → KeepsAll t chain → KeepsAll t hash → KeepsAll t span → i < item_count t → first ≡ span_start t (item t i).hash → ((k : ℕ) → k < i → first ≤ k → full_name t i ≡ full_name t k → ⊥) → IsOnlyNamed t i
has_no_namesake t i first good ends hashed spans counted is none name k h g lower =
    let other : k < item_count t = omega arith in
    let e : full_name t i ≡ full_name t k = full_name_is t i name h ∙ sym (full_name_is t k name g) in
    let hashes = same_hash t i k good ends hashed counted other e in
    let within : span_start t (item t i).hash ≤ k = subst (λ x. span_start t x ≤ k) (sym hashes) (spans k other).first in
    none k lower (subst (λ x. x ≤ k) (sym is) within) e

-- nor where no lower item of its bucket has its hash
pub only_of_hash : (t : Table) (i : ℕ) → KeepsAll t keys → KeepsAll t chain → KeepsAll t hash → KeepsAll t span → i < item_count t → HasOwnHash t i → IsOnlyNamed t i
only_of_hash t i good ends hashed spans counted own =
    has_no_namesake t i (span_start t (item t i).hash) good ends hashed spans counted refl
    (λ k lower first same. own k lower first (sym (same_hash t i k good ends hashed counted (omega (arith, lower, counted)) same)))
