-- A walk along a full name from its end, and the hash on the way.
use Rattle.std.proofs.Common.{ℕ, List, [], ◌∷◌, ◌++◌, Option, Some, None, ◌≡◌, ◌<◌, ◌+◌, ◌*◌, ◌%◌, ◌^◌, length, refl, sym, ◌∙◌, ap, arith, append_assoc}
use Rattle.std.specs.Prelude.{reverse}
use Rattle.std.proofs.lemmas.List.{reverse-append, reverse-reverse, append-nil, nil_from_length}
use Rattle.std.proofs.Math.Nat.{mod-add-mod}
use Rattle.dconf_model.specs.Bytes.{hash_of, hash_step}
use Rattle.dconf_model.specs.Table.{Table, item, item_count, key}
use Rattle.dconf_model.specs.Names.{full_name}
use Rattle.dconf_model.specs.Sound.{KeepsAll}
use Rattle.dconf_model.specs.Sound.Rule.{keys, chain}
use Rattle.dconf_model.proofs.FullNames.{full_name_at_root, full_name_below, parent_counted}
use Rattle.dconf_model.proofs.HashSteps.{byte_is_gone, none_is_gone, hash_of_last}
use Rattle.gvdb_check.specs.Joined.{above, HasNames}

-- the name above and the key are the full name
whole_name : (t : Table) (i : ℕ) (o : Option ℕ) → KeepsAll t keys → KeepsAll t chain → i < item_count t → (item t i).parent ≡ o → above t o ++ key t i ≡ full_name t i
whole_name t i None good ends counted e = sym (full_name_at_root t i good counted e)
whole_name t i (Some p) good ends counted e = sym (full_name_below t i p good ends counted e)

pub all_joined : (t : Table) → KeepsAll t keys → KeepsAll t chain → HasNames t
all_joined t good ends i counted = record {
  inside = (good i counted).inside;
  some = (ends i counted).key;
  parent = λ p e. parent_counted t i p good counted e;
  name = sym (whole_name t i (item t i).parent good ends counted refl);
}

-- at an item all of its name is left
pub begins : (t : Table) (i : ℕ) (parent : Option ℕ) (own : List ℕ) → HasNames t → i < item_count t → parent ≡ (item t i).parent → own ≡ key t i → reverse (above t parent ++ own) ≡ reverse (full_name t i)
begins t i parent own named counted up is =
    ap (λ (l : List ℕ). reverse l) (ap (λ (o : Option ℕ). above t o ++ own) up ∙ (ap (λ (k : List ℕ). above t (item t i).parent ++ k) is ∙ sym (named i counted).name))

-- where a key is used up, the name above is left
pub above_is_left : (t : Table) (parent : Option ℕ) (p : ℕ) (own : List ℕ) → parent ≡ Some p → length own ≡ 0 → reverse (full_name t p) ≡ reverse (above t parent ++ own)
above_is_left t parent p own up none =
    ap (λ (l : List ℕ). reverse l) (sym (append-nil (full_name t p)) ∙ (ap (λ (k : List ℕ). full_name t p ++ k) (sym (nil_from_length own none)) ∙ ap (λ (o : Option ℕ). above t o ++ own) (sym up)))

pub none_is_left : (t : Table) (parent : Option ℕ) (own : List ℕ) → parent ≡ None → length own ≡ 0 → reverse (above t parent ++ own) ≡ []
none_is_left t parent own up none =
    ap (λ (l : List ℕ). reverse l) (ap (λ (o : Option ℕ). above t o ++ own) up ∙ nil_from_length own none)

-- a key's last byte is the first that is left
pub last_is_first : (name prefix key : List ℕ) (last : ℕ) → key ≡ prefix ++ last ∷ [] → reverse (name ++ key) ≡ last ∷ reverse (name ++ prefix)
last_is_first name prefix key last e =
    ap (λ (k : List ℕ). reverse (name ++ k)) e ∙ (ap (λ (l : List ℕ). reverse l) (sym (append_assoc name prefix (last ∷ []))) ∙ reverse-append (name ++ prefix) (last ∷ []))

-- ---- the hash

pub hash_begins : (name left : List ℕ) → left ≡ reverse name → (hash_of (reverse left) * 1 + 0) % 2 ^ 32 ≡ hash_of name
hash_begins name left e =
    let whole : reverse left ≡ name = ap (λ (l : List ℕ). reverse l) e ∙ reverse-reverse name in
    ap (λ (l : List ℕ). (hash_of l * 1 + 0) % 2 ^ 32) whole ∙ none_is_gone name

pub hash_goes_on : (left rest : List ℕ) (b s factor sum product new_factor new_sum whole : ℕ) → left ≡ b ∷ rest → ((h : ℕ) → hash_step h b ≡ (h * 33 + s) % 2 ^ 32)
    → product ≡ factor * s % 2 ^ 32 → new_sum ≡ (sum + product) % 2 ^ 32 → new_factor ≡ factor * 33 % 2 ^ 32 → (hash_of (reverse left) * factor + sum) % 2 ^ 32 ≡ whole
    → (hash_of (reverse rest) * new_factor + new_sum) % 2 ^ 32 ≡ whole
hash_goes_on left rest b s factor sum product new_factor new_sum whole e step times more bigger before =
    let split : reverse left ≡ reverse rest ++ b ∷ [] = ap (λ (l : List ℕ). reverse l) e ∙ reverse-append (b ∷ []) rest in
    let hash : hash_of (reverse left) ≡ (hash_of (reverse rest) * 33 + s) % 2 ^ 32 = ap hash_of split ∙ (hash_of_last (reverse rest) b ∙ step (hash_of (reverse rest))) in
    ap (λ f. (hash_of (reverse rest) * f + new_sum) % 2 ^ 32) bigger
    ∙ (ap (λ x. (hash_of (reverse rest) * (factor * 33 % 2 ^ 32) + x) % 2 ^ 32) (more ∙ ap (λ p. (sum + p) % 2 ^ 32) times)
    ∙ (sym (byte_is_gone (2 ^ 32) (hash_of (reverse rest)) s factor sum) ∙ (ap (λ h. (h * factor + sum) % 2 ^ 32) (sym hash) ∙ before)))

pub hash_ends : (left : List ℕ) (factor sum start result whole : ℕ) → left ≡ [] → start ≡ factor * hash_of [] % 2 ^ 32 → result ≡ (start + sum) % 2 ^ 32 → (hash_of (reverse left) * factor + sum) % 2 ^ 32 ≡ whole → result ≡ whole
hash_ends left factor sum start result whole e begin is before =
    let same : hash_of [] * factor ≡ factor * hash_of [] = omega arith in
    is ∙ (ap (λ x. (x + sum) % 2 ^ 32) begin ∙ (mod-add-mod (factor * hash_of []) (2 ^ 32) sum
    ∙ (ap (λ x. (x + sum) % 2 ^ 32) (sym same) ∙ (ap (λ (l : List ℕ). (hash_of (reverse l) * factor + sum) % 2 ^ 32) (sym e) ∙ before))))
