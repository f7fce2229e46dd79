-- The keys in a directory's list of a sound table are its children's keys, in the list's order.
use Rattle.std.proofs.Common.{◌≡◌, ◌<◌, ◌+◌, ◌*◌, Bool, cond, ℕ, zero, suc, List, [], ◌∷◌, ◌++◌, length, refl, sym, ap, ◌∙◌, subst, arith}
use Rattle.std.specs.Prelude.{slice_index_or, IsUtf8}
use Rattle.dconf_model.specs.Bytes.{u32_at}
use Rattle.dconf_model.specs.Table.{Table, item, key, list_kind}
use Rattle.dconf_model.specs.Names.{HasName, IsItem, IsRow}
use Rattle.dconf_model.specs.Listed.{key_if_any, listed_keys, keys_in_list}
use Rattle.dconf_model.specs.Sound.{IsSound, IsChild, ListsChildren, list_length, listed}
use Rattle.dconf_model.specs.Sound.Rule.{keys, lists}
use Rattle.dconf_model.specs.SoundLaws.{IsPartBelow, ListsFirstParts, ListsTexts, ListsPartsOnce}
use Rattle.dconf_model.proofs.RowLaws.{counted, one_item}
use Rattle.dconf_model.proofs.FullNames.{here}
use Rattle.dconf_model.proofs.ComputedNames.{is_tested}
use Rattle.dconf_model.proofs.SoundLaws.{sound_is_searchable}
use Rattle.dconf_model.proofs.DirectoryNames.{child_name}
use Rattle.dconf_model.proofs.PartsBelow.{child_is_part, part_is_child}

-- ---- the keys of a list of items

abbrev pub AreItems : Table → ℕ → ℕ → Type 0
AreItems t at n = (k : ℕ) → k < n → IsItem t (u32_at t.file (at + 4 * k))

key_of_item : (t : Table) (i : ℕ) → IsItem t i → key_if_any t i ≡ key t i ∷ []
key_of_item t i is = ap (λ (b : Bool). cond b (key t i ∷ []) []) (is_tested t i is)

at_first : (at : ℕ) → at + 4 * 0 ≡ at
at_first at = omega arith

at_next : (at k : ℕ) → at + 4 * suc k ≡ at + 4 + 4 * k
at_next at k = omega arith

first_is_item : (t : Table) (at n : ℕ) → AreItems t at (suc n) → IsItem t (u32_at t.file at)
first_is_item t at n are = subst (λ (x : ℕ). IsItem t (u32_at t.file x)) (at_first at) (are 0 (omega arith))

next_are_items : (t : Table) (at n : ℕ) → AreItems t at (suc n) → AreItems t (at + 4) n
next_are_items t at n are k l =
    subst (λ (x : ℕ). IsItem t (u32_at t.file x)) (at_next at k) (are (suc k) (omega (arith, l)))

one_more_key : (t : Table) (at n : ℕ) → AreItems t at (suc n) → listed_keys t at (suc n) ≡ key t (u32_at t.file at) ∷ listed_keys t (at + 4) n
one_more_key t at n are = ap (λ (l : List (List ℕ)). l ++ listed_keys t (at + 4) n) (key_of_item t (u32_at t.file at) (first_is_item t at n are))

all_listed : (n : ℕ) (t : Table) (at : ℕ) → AreItems t at n → length (listed_keys t at n) ≡ n
all_listed zero t at are = refl
all_listed (suc n) t at are =
    ap length (one_more_key t at n are) ∙ ap suc (all_listed n t (at + 4) (next_are_items t at n are))

key_at : (k : ℕ) (t : Table) (at n : ℕ) (d : List ℕ) → AreItems t at n → k < n → slice_index_or (listed_keys t at n) k d ≡ key t (u32_at t.file (at + 4 * k))
key_at k t at zero d are l = absurd (omega (arith, l))
key_at zero t at (suc n) d are l =
    ap (λ (x : List (List ℕ)). slice_index_or x 0 d) (one_more_key t at n are)
    ∙ ap (λ (x : ℕ). key t (u32_at t.file x)) (sym (at_first at))
key_at (suc k) t at (suc n) d are l =
    ap (λ (x : List (List ℕ)). slice_index_or x (suc k) d) (one_more_key t at n are)
    ∙ (key_at k t (at + 4) n d (next_are_items t at n are) (omega (arith, l))
    ∙ ap (λ (x : ℕ). key t (u32_at t.file x)) (sym (at_next at k)))

-- ---- a directory's list

list_of : (t : Table) (directory : List ℕ) (i : ℕ) → IsSound t → IsRow t directory list_kind i → ListsChildren t i
list_of t directory i sound row = sound lists i (counted t i directory row.named) row.of_kind

are_items : (t : Table) (i : ℕ) → IsSound t → ListsChildren t i → AreItems t (item t i).start (list_length t i)
are_items t i sound l k some = here t (listed t i k) (sound keys) (l.children_alone k some).0

-- it gives as many keys as it has numbers
as_many : (t : Table) (i : ℕ) → IsSound t → ListsChildren t i → length (keys_in_list t i) ≡ list_length t i
as_many t i sound l = all_listed (list_length t i) t (item t i).start (are_items t i sound l)

-- each that of the numbered item
listed_key : (t : Table) (i k : ℕ) (d : List ℕ) → IsSound t → ListsChildren t i → k < list_length t i → slice_index_or (keys_in_list t i) k d ≡ key t (listed t i k)
listed_key t i k d sound l some = key_at k t (item t i).start (list_length t i) d (are_items t i sound l) some

pub lists_first_parts : ListsFirstParts
lists_first_parts t directory i part sound row = (
  λ has.
      let l = list_of t directory i sound row in
      let some : has.0 < list_length t i = subst (λ (n : ℕ). has.0 < n) (as_many t i sound l) has.1 in
      subst (IsPartBelow t directory) (sym (listed_key t i has.0 part sound l some) ∙ has.2)
      (child_is_part t directory i (listed t i has.0) sound row.named (l.children_alone has.0 some)),
  λ below.
      let l = list_of t directory i sound row in
      let c = part_is_child t directory i part sound row below in
      let k = l.each_child c.0 c.1 in (
        k.0,
        subst (λ (n : ℕ). k.0 < n) (sym (as_many t i sound l)) k.1,
        listed_key t i k.0 part sound l k.1 ∙ (ap (key t) k.2 ∙ c.2),
      ),
)

pub lists_texts : ListsTexts
lists_texts t directory i part sound row has =
    let c = part_is_child t directory i part sound row ((lists_first_parts t directory i part sound row).0 has) in
    subst IsUtf8 c.2 (sound keys c.0 c.1.0).utf8

-- ---- once each

-- two children by one key are one
same_child : (t : Table) (directory : List ℕ) (i a b : ℕ) → IsSound t → HasName t i directory → IsChild t i a → IsChild t i b → key t a ≡ key t b → a ≡ b
same_child t directory i a b sound h c d same =
    one_item t (directory ++ key t b) a b (sound_is_searchable t sound)
    (subst (λ (part : List ℕ). HasName t a (directory ++ part)) same (child_name t i a directory sound h c))
    (child_name t i b directory sound h d)

pub lists_parts_once : ListsPartsOnce
lists_parts_once t directory i sound row k m d less inside same =
    let l = list_of t directory i sound row in
    let last : m < list_length t i = subst (λ (n : ℕ). m < n) (as_many t i sound l) inside in
    let first : k < list_length t i = omega (arith, less, last) in
    let one = same_child t directory i (listed t i k) (listed t i m) sound row.named (l.children_alone k first) (l.children_alone m last)
    (sym (listed_key t i k d sound l first) ∙ (same ∙ listed_key t i m d sound l last)) in
    let e : k ≡ m = l.once k m first last one in
    omega (arith, e, less)
