-- What is below a directory of a sound table: a value somewhere below each, and above each value that starts with
-- the directory's name the directory's child by the first part of the rest.
use Rattle.std.proofs.Common.{◌≡◌, ◌≢◌, ◌<◌, ◌≤◌, ◌+◌, ℕ, zero, suc, List, [], ◌∷◌, ◌++◌, length, Option, None, refl, sym, ap, ◌∙◌, subst, arith, inl, inr, ⊎_elim, append_assoc, append-nil, length-append, codes}
use Rattle.std.proofs.lemmas.Bool.{cases_lt}
use Rattle.dconf_model.specs.Table.{Table, item, key, bytes_of, value_kind, list_kind, table_kind}
use Rattle.dconf_model.specs.Names.{HasName, HasParents, IsRow, joined}
use Rattle.dconf_model.specs.Sound.{IsSound, IsPart, HasParent, IsChild, list_length, listed}
use Rattle.dconf_model.specs.Sound.Rule.{chain, place, lists}
use Rattle.dconf_model.specs.SoundLaws.{IsPartBelow}
use Rattle.dconf_model.specs.Paths.{first_part}
use Rattle.dconf_model.proofs.NameSteps.{parents_item}
use Rattle.dconf_model.proofs.RowLaws.{counted, one_item}
use Rattle.dconf_model.proofs.LaidNames.{one_name, shorter}
use Rattle.dconf_model.proofs.SoundLaws.{sound_is_searchable}
use Rattle.dconf_model.proofs.FirstParts.{cuts, EndsInSlash, rest_ends, some_of_end, no_slash, last_slash, plain_first, directory_first, first_of_prefix}
use Rattle.dconf_model.proofs.FirstParts.Cuts.{there, after, before}
use Rattle.dconf_model.proofs.DirectoryNames.{row_of, list_is_no_table, list_is_no_value, directory_ends, part_below, child_name}

-- ---- below each directory with a longer name than `/` is a value

abbrev pub HasValueBelow : Table → List ℕ → Type 0
HasValueBelow t name = (v : ℕ) × (more : List ℕ) × HasName t v (name ++ more) × ((item t v).kind ≡ value_kind)

further_below : (t : Table) (name part : List ℕ) → HasValueBelow t (name ++ part) → HasValueBelow t name
further_below t name part b =
    (b.0, part ++ b.1, subst (HasName t b.0) (append_assoc name part b.1) b.2, b.3)

-- it has a child
some_child : (t : Table) (j : ℕ) (name : List ℕ) → IsSound t → HasName t j name → (item t j).kind ≡ list_kind → 1 < length name → (c : ℕ) × IsChild t j c
some_child t j name sound h list long =
    let l = sound lists j (counted t j name h) list in
    ⊎_elim (λ (some : 0 < list_length t j). (listed t j 0, l.children_alone 0 some))
    (λ (none : list_length t j ≤ 0).
    let same : length name ≡ 1 = ap length (one_name t j name (codes "/") h (l.empty_at_root (omega (arith, none)))) in
    absurd (omega (arith, same, long)))
    (cases_lt 0 (list_length t j))

value_within : (n : ℕ) (t : Table) (j : ℕ) (name : List ℕ) → IsSound t → HasName t j name → (item t j).kind ≡ list_kind → 1 < length name → 65535 < length name + n → HasValueBelow t name
value_within zero t j name sound h list long few =
    let short = (sound place j (counted t j name h)).short name h in absurd (omega (arith, short, few))
value_within (suc n) t j name sound h list long few =
    let c = some_child t j name sound h list long in
    let k = child_name t j c.0 name sound h c.1 in
    let l = shorter (name ++ key t c.0) name (key t c.0) refl (sound chain c.0 c.1.0).key in
    ⊎_elim (λ a. (c.0, key t c.0, k, a.0))
    (λ b. further_below t name (key t c.0)
    (value_within n t c.0 (name ++ key t c.0) sound k b.0 (omega (arith, l, long)) (omega (arith, l, few))))
    (part_below t j c.0 sound c.1).1

pub value_below : (t : Table) (j : ℕ) (name : List ℕ) → IsSound t → HasName t j name → (item t j).kind ≡ list_kind → 1 < length name → HasValueBelow t name
value_below t j name sound h list long = value_within 65535 t j name sound h list long (omega (arith, long))

-- so the key of each child is a first part
pub child_is_part : (t : Table) (directory : List ℕ) (i j : ℕ) → IsSound t → HasName t i directory → IsChild t i j → IsPartBelow t directory (key t j)
child_is_part t directory i j sound h child =
    let below = part_below t i j sound child in
    let name = child_name t i j directory sound h child in
    ⊎_elim (λ a. (key t j, bytes_of t j, (j, row_of t j (directory ++ key t j) value_kind sound name a.0, refl), sym (plain_first (key t j) a.1)))
    (λ b.
    let some = some_of_end directory (directory_ends t i directory sound h below.0) in
    let l = shorter (directory ++ key t j) directory (key t j) refl (sound chain j child.0).key in
    let v = value_below t j (directory ++ key t j) sound name b.0 (omega (arith, some, l)) in
    let rest = key t j ++ v.1 in
    let whole : HasName t v.0 (directory ++ rest) = subst (HasName t v.0) (append_assoc directory (key t j) v.1) v.2 in
    (rest, bytes_of t v.0, (v.0, row_of t v.0 (directory ++ rest) value_kind sound whole v.3, refl), sym (directory_first (key t j) v.1 b.1)))
    below.1

-- ---- above each item whose name starts with a directory's is a child of the directory

abbrev pub HasChildBy : Table → ℕ → List ℕ → Type 0
HasChildBy t i part = (c : ℕ) × IsChild t i c × (key t c ≡ part)

-- the key of a key or directory is its own first part
first_of_part : (t : Table) (j : ℕ) → IsPart t j → first_part (key t j) ≡ key t j
first_of_part t j (inl a) = plain_first (key t j) a.1
first_of_part t j (inr b) = ap first_part (sym (append-nil (key t j))) ∙ directory_first (key t j) [] b.1

-- it doesn't go on after a slash
pub no_more : (t : Table) (j : ℕ) (prefix rest : List ℕ) → IsPart t j → EndsInSlash prefix → key t j ≡ prefix ++ rest → 0 < length rest → ⊥
no_more t j prefix rest part ends e some =
    let whole : key t j ≡ ends.0 ++ 47 ∷ rest =
    e ∙ (ap (λ (l : List ℕ). l ++ rest) ends.1 ∙ append_assoc ends.0 (47 ∷ []) rest) in
    ⊎_elim (λ a. no_slash (key t j) ends.0 rest a.1 whole)
    (λ b. let none = last_slash (key t j) ends.0 rest b.1 whole in omega (arith, none, some)) part

-- a top item's name is no longer than a directory's
pub no_top : (t : Table) (j : ℕ) (directory rest : List ℕ) → HasParent t j None → (item t j).kind ≢ table_kind → EndsInSlash directory → 0 < length rest → key t j ≡ directory ++ rest → ⊥
no_top t j directory rest (inl a) other ends some e =
    let n : 1 ≡ length directory + length rest = ap length (sym a.1 ∙ e) ∙ length-append directory rest in
    let m = some_of_end directory ends in
    omega (arith, n, m, some)
no_top t j directory rest (inr b) other ends some e = other b.0

-- a directory, and what its name and kind say
record IsDirectory (t : Table) (i : ℕ) (directory : List ℕ) : Type 0 where
  sound : IsSound t
  named : HasName t i directory
  ends : EndsInSlash directory

child_above : (ps : List ℕ) (t : Table) (i : ℕ) (directory : List ℕ) → IsDirectory t i directory → (j : ℕ) (rest : List ℕ) → HasParents t j ps → joined t j ps ≡ directory ++ rest → (item t j).kind ≢ table_kind → 0 < length rest → HasChildBy t i (first_part rest)
child_above [] t i directory d j rest h e other some =
    absurd (no_top t j directory rest (subst (λ (o : Option ℕ). HasParent t j o) h.1 (d.sound place j (parents_item t j [] h).counted).has_parent) other d.ends some e)
child_above (p ∷ ps) t i directory d j rest h e other some =
    let child : IsChild t p j = (h.0.counted, h.1) in
    let below = part_below t p j d.sound child in
    let name : HasName t p (joined t p ps) = record { parents = ps; chain = h.3; spelled = refl } in
    elim (cuts (joined t p ps) (key t j) directory rest e) [
      | there a b ↦
          let same : p ≡ i = one_item t directory p i (sound_is_searchable t d.sound) (subst (HasName t p) a name) d.named in
          (j, subst (λ (x : ℕ). IsChild t x j) same child, sym (first_of_part t j below.1) ∙ ap first_part b)
      | after c m a b ↦
          let ends = rest_ends (joined t p ps) directory c m (directory_ends t p (joined t p ps) d.sound name below.0) a in
          let above = child_above ps t i directory d p (c ∷ m) h.3 a (λ table. list_is_no_table (sym below.0 ∙ table)) (omega arith) in
          (above.0, above.1, above.2 ∙ (sym (first_of_prefix (c ∷ m) (key t j) ends) ∙ ap first_part (sym b)))
      | before c m a b ↦ absurd (no_more t j (c ∷ m) rest below.1 (rest_ends directory (joined t p ps) c m d.ends a) b some)
    ]

pub value_is_no_table : value_kind ≢ table_kind
value_is_no_table e = omega (arith, e)

-- a value is not the directory itself
some_rest : (t : Table) (i v : ℕ) (directory rest : List ℕ) → IsSound t → IsRow t directory list_kind i → IsRow t (directory ++ rest) value_kind v → 0 < length rest
some_rest t i v directory [] sound row value =
    let same : v ≡ i = one_item t directory v i (sound_is_searchable t sound) (subst (HasName t v) (append-nil directory) value.named) row.named in
    absurd (list_is_no_value (sym row.of_kind ∙ (ap (λ (x : ℕ). (item t x).kind) (sym same) ∙ value.of_kind)))
some_rest t i v directory (c ∷ m) sound row value = omega arith

-- so the first part of what follows a directory's name in a value's is the key of a child
pub part_is_child : (t : Table) (directory : List ℕ) (i : ℕ) (part : List ℕ) → IsSound t → IsRow t directory list_kind i → IsPartBelow t directory part → HasChildBy t i part
part_is_child t directory i part sound row b =
    let rest = b.0 in
    let value = b.2.1 in
    let d : IsDirectory t i directory = record { sound = sound; named = row.named; ends = directory_ends t i directory sound row.named row.of_kind } in
    let c = child_above value.named.parents t i directory d b.2.0 rest value.named.chain value.named.spelled (λ table. value_is_no_table (sym value.of_kind ∙ table)) (some_rest t i b.2.0 directory rest sound row value) in
    (c.0, c.1, c.2 ∙ sym b.3)
