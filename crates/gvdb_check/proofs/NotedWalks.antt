-- Items that are noted, and walks up the parents that note them.
use Rattle.std.proofs.Common.{◌≡◌, ℕ, zero, suc, List, [], ◌∷◌, Option, Some, None, true, false, sym, subst, arith}
use Rattle.std.specs.Prelude.{◌%◌, All, IfSome, IsSome, get_or}
use Rattle.std.proofs.lemmas.List.Elements.{All-set, All-replicate}
use Rattle.gvdb_check.specs.declared.parents.Noted.{Noted}
use Rattle.gvdb_check.specs.declared.parents.NotedItems.{NotedItems}
use Rattle.gvdb_check.specs.NotedItems.{AreNoted, Has, Holds, none_noted, with_noted}

pub none_are : (P : ℕ → ℕ → Type 0) (noted : NotedItems) → noted ≡ none_noted → AreNoted P noted
none_are P noted e = subst (AreNoted P) (sym e) (All-replicate (Holds P) 256 None tt)

pub one_more : (P : ℕ → ℕ → Type 0) (old noted : NotedItems) (i len : ℕ) → noted ≡ with_noted old i len → P i len → AreNoted P old → AreNoted P noted
one_more P old noted i len e here are = subst (AreNoted P) (sym e) (All-set (Holds P) old.places (i % 256) (Some record { item = i; len = len }) here are)

held : (P : ℕ → ℕ → Type 0) (places : List (Option Noted)) (k : ℕ) → All (Holds P) places → Holds P (get_or places k None)
held P [] k are = tt
held P (x ∷ xs) zero are = are 0 None (omega arith)
held P (x ∷ xs) (suc k) are = held P xs k (λ j d lt. are (suc j) d (omega (arith, lt)))

-- what is noted of an item holds
pub known_of : (P : ℕ → ℕ → Type 0) (noted : NotedItems) (i len : ℕ) → AreNoted P noted → Has noted i len → P i len
known_of P noted i len are has = subst (Holds P) has (held P noted.places (i % 256) are)

pub some_known : (P : ℕ → ℕ → Type 0) (noted : NotedItems) (i : ℕ) (o : Option ℕ) → AreNoted P noted → IfSome o (Has noted i) → IsSome o → (len : ℕ) × P i len
some_known P noted i None are has some = let bad : false ≡ true = some in cc
some_known P noted i (Some len) are has some = (len, known_of P noted i len are has)
