-- One number of a list.
use Rattle.std.proofs.Common.{ℕ, suc, ◌+◌, ◌-◌, ◌<◌, ◌≡◌, cond, List, [], ◌∷◌, ◌++◌, sym, ◌∙◌, ap, arith}
use Rattle.std.proofs.lemmas.Bool.{false_from_ne_true}
use Rattle.dconf_model.specs.Bytes.{u32_at}
use Rattle.dconf_model.specs.Table.{Table, key}
use Rattle.dconf_model.specs.Names.{IsItem}
use Rattle.dconf_model.specs.Listed.{listed_keys, key_if_any}
use Rattle.dconf_model.proofs.ComputedNames.{tested, is_tested, was_tested}

step : (t : Table) (at left : ℕ) → 0 < left → listed_keys t at left ≡ key_if_any t (u32_at t.file at) ++ listed_keys t (at + 4) (left - 1)
step t at left lt = let e : left ≡ suc (left - 1) = omega arith in ap (λ n. listed_keys t at n) e

pub listed_item : (t : Table) (at left i : ℕ) (k : List ℕ) → 0 < left → i ≡ u32_at t.file at → IsItem t i → k ≡ key t i → listed_keys t at left ≡ k ∷ listed_keys t (at + 4) (left - 1)
listed_item t at left i k lt e here is =
    step t at left lt ∙ ap (λ n. key_if_any t n ++ listed_keys t (at + 4) (left - 1)) (sym e)
    ∙ ap (λ b. cond b (key t i ∷ []) [] ++ listed_keys t (at + 4) (left - 1)) (is_tested t i here) ∙ ap (λ (x : List ℕ). x ∷ listed_keys t (at + 4) (left - 1)) (sym is)

pub listed_none : (t : Table) (at left i : ℕ) → 0 < left → i ≡ u32_at t.file at → (IsItem t i → ⊥) → listed_keys t at left ≡ listed_keys t (at + 4) (left - 1)
listed_none t at left i lt e none =
    step t at left lt ∙ ap (λ n. key_if_any t n ++ listed_keys t (at + 4) (left - 1)) (sym e)
    ∙ ap (λ b. cond b (key t i ∷ []) [] ++ listed_keys t (at + 4) (left - 1)) (false_from_ne_true (tested t i) (λ h. none (was_tested t i h)))
