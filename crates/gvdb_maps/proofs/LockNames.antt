-- The names of a table of locks, path by path.
use Rattle.std.proofs.lemmas.Grind.{common_steps}
use Rattle.std.proofs.Common.{◌≡◌, ◌<◌, ℕ, List, [], ◌∷◌, ◌++◌, length, get_or, None, refl, sym, ap, ◌∙◌, subst, arith}
use Rattle.std.specs.Prelude.{IsUtf8}
use Rattle.std.specs.FinMap.{keys}
use Rattle.std.proofs.lemmas.List.{append-nil, append_assoc, get_or_append_left, get_or_push, length_push}
use Rattle.dconf_model.specs.Bytes.{hash_of}
use Rattle.dconf_model.specs.Plans.{nothing_bytes}
use Rattle.dconf_model.specs.Settings.{Settings}
use Rattle.dconf_model.specs.Table.{value_kind}
use Rattle.gvdb_maps.specs.declared.names.Content.{Content}
use Rattle.gvdb_maps.specs.declared.names.Named.{Named}
use Rattle.gvdb_maps.specs.PlanWords.{kind_of, content_bytes, no_name, entry_of, named, IsLockNamed, AreLockNames}
use Rattle.gvdb_maps.proofs.ItemOrders.{each_more}

-- a name without a directory, with the value at a lock
pub is_lock_named : (path : List ℕ) (n : Named) (content : Content) → IsUtf8 path → n.hash ≡ hash_of path
    → entry_of n ≡ record { name = path; key = path; parent = None; kind = kind_of content } → n.content ≡ content → kind_of content ≡ value_kind
    → content_bytes content ≡ nothing_bytes → IsLockNamed path n
is_lock_named path n content utf8 hash entry is kind value = grind (arith, common_steps)

-- with these paths left
pub record AreLocksSoFar (s : Settings) (names : List Named) (left : List (List ℕ)) : Type 0 where
  pub done : List (List ℕ)
  pub listed : keys s.locks ≡ done ++ left
  pub counted : length names ≡ length done
  pub each : (i : ℕ) → i < length names → IsLockNamed (get_or done i []) (named names i)

pub one_lock_more : (s : Settings) (names : List Named) (path : List ℕ) (rest : List (List ℕ)) (n : Named) → AreLocksSoFar s names (path ∷ rest) → IsLockNamed path n → AreLocksSoFar s (names ++ n ∷ []) rest
one_lock_more s names path rest n so new =
    let c = so.counted in
    record {
      done = so.done ++ path ∷ [];
      listed = so.listed ∙ sym (append_assoc so.done (path ∷ []) rest);
      counted = omega (arith, length_push names n, length_push so.done path, c);
      each = each_more no_name names n (length names) (λ q i. IsLockNamed (get_or (so.done ++ path ∷ []) i []) q) refl
          (λ i l. rw (get_or_append_left so.done (path ∷ []) [] i (omega (arith, l, c))) (so.each i l))
          (rw (get_or_push so.done path [] (length names) (sym c)) new);
    }

pub all_locks : (s : Settings) (names : List Named) (left : List (List ℕ)) → left ≡ [] → AreLocksSoFar s names left → AreLockNames s names
all_locks s names left none so =
    let all : so.done ≡ keys s.locks = sym (so.listed ∙ (ap (λ (l : List (List ℕ)). so.done ++ l) none ∙ append-nil so.done)) in
    record {
      counted = so.counted ∙ ap (λ (l : List (List ℕ)). length l) all;
      each = λ i here. subst (λ (l : List (List ℕ)). IsLockNamed (get_or l i []) (named names i)) all (so.each i here);
    }
