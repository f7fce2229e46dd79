-- The names of a sound table: those of directories end in a slash, and a child has its directory's name and its key.
use Rattle.std.proofs.Common.{◌≡◌, ◌≢◌, Bool, true, false, ◌||◌, eqb, ℕ, List, [], ◌∷◌, ◌++◌, Option, Some, None, refl, sym, ap, ◌∙◌, subst, arith, inl, inr, append_assoc, codes}
use Rattle.std.specs.List.{list_any}
use Rattle.std.proofs.lemmas.Bool.{or_right}
use Rattle.dconf_model.specs.Table.{Table, item, key, value_kind, list_kind, table_kind}
use Rattle.dconf_model.specs.Names.{HasName, IsRow, full_name}
use Rattle.dconf_model.specs.Sound.{IsSound, IsPart, HasParent, IsChild}
use Rattle.dconf_model.specs.Sound.Rule.{keys, chain, content, place}
use Rattle.dconf_model.proofs.NameSteps.{is_item, ends_in_key, at_root, moves_up}
use Rattle.dconf_model.proofs.RowLaws.{counted}
use Rattle.dconf_model.proofs.FullNames.{here, has_full_name, parent_counted}
use Rattle.dconf_model.proofs.LaidNames.{one_name}
use Rattle.dconf_model.proofs.FirstParts.{EndsInSlash, still_ends}

-- what an item of a sound table is named, it is a row of
pub row_of : (t : Table) (i : ℕ) (name : List ℕ) (kind : ℕ) → IsSound t → HasName t i name → (item t i).kind ≡ kind → IsRow t name kind i
row_of t i name kind sound h is =
    record { named = h; of_kind = is; valid = (sound content i (counted t i name h)).valid }

-- ---- directories

two_kinds : (P : Type 0) (k a b : ℕ) → a ≢ b → k ≡ a → k ≡ b → P
two_kinds P k a b other e f = absurd (other (sym e ∙ f))

pub list_is_no_table : list_kind ≢ table_kind
list_is_no_table e = omega (arith, e)

pub list_is_no_value : list_kind ≢ value_kind
list_is_no_value e = omega (arith, e)

key_ends : (t : Table) (i : ℕ) (o : Option ℕ) → HasParent t i o → (item t i).kind ≡ list_kind → EndsInSlash (key t i)
key_ends t i None (inl a) list = ([], a.1)
key_ends t i None (inr b) list = two_kinds (EndsInSlash (key t i)) (item t i).kind list_kind table_kind list_is_no_table list b.0
key_ends t i (Some p) has_parent list = part_ends has_parent.1
  where
    part_ends : IsPart t i → EndsInSlash (key t i)
    part_ends (inl a) = two_kinds (EndsInSlash (key t i)) (item t i).kind list_kind value_kind list_is_no_value list a.0
    part_ends (inr b) = (b.1.name, b.1.whole)

pub directory_ends : (t : Table) (i : ℕ) (name : List ℕ) → IsSound t → HasName t i name → (item t i).kind ≡ list_kind → EndsInSlash name
directory_ends t i name sound h list =
    let e = ends_in_key t i h.parents in
    subst EndsInSlash (sym e.1 ∙ h.spelled)
    (still_ends e.0 (key t i) (key_ends t i (item t i).parent (sound place i (counted t i name h)).has_parent list))

-- ---- children

-- a child's directory is a directory, and the child a key or a directory
pub part_below : (t : Table) (i j : ℕ) → IsSound t → IsChild t i j → ((item t i).kind ≡ list_kind) × IsPart t j
part_below t i j sound child = subst (λ (o : Option ℕ). HasParent t j o) child.1 (sound place j child.0).has_parent

pub child_name : (t : Table) (i j : ℕ) (name : List ℕ) → IsSound t → HasName t i name → IsChild t i j → HasName t j (name ++ key t j)
child_name t i j name sound h child =
    (moves_up t j i name (name ++ key t j) (here t j (sound keys) child.0) child.1 (sound chain j child.0).key refl).0 h

-- ---- `.locks`

has_slash : (prefix rest : List ℕ) → list_any (eqb 47) (prefix ++ 47 ∷ rest) ≡ true
has_slash [] rest = refl
has_slash (x ∷ prefix) rest = ap (λ (b : Bool). eqb 47 x || b) (has_slash prefix rest) ∙ or_right (eqb 47 x) true refl

no_slash_in_locks : (prefix rest : List ℕ) → codes ".locks" ≡ prefix ++ 47 ∷ rest → ⊥
no_slash_in_locks prefix rest e =
    let bad : false ≡ true = ap (list_any (eqb 47)) e ∙ has_slash prefix rest in cc

locks_no_root : codes ".locks" ≡ codes "/" → ⊥
locks_no_root e = cc

top_locks : (t : Table) (i : ℕ) (o : Option ℕ) → IsSound t → HasName t i (codes ".locks") → (item t i).parent ≡ o → HasParent t i o → (item t i).kind ≡ table_kind
top_locks t i None sound h is (inl a) =
    let own = (at_root t i [] (key t i) (is_item t i (codes ".locks") h) is refl).0 refl in
    absurd (locks_no_root (one_name t i (codes ".locks") (key t i) h own ∙ a.1))
top_locks t i None sound h is (inr b) = b.0
top_locks t i (Some p) sound h is has_parent =
    let counted_i = counted t i (codes ".locks") h in
    let above = has_full_name t p (sound keys) (sound chain) (parent_counted t i p (sound keys) counted_i is) in
    let ends = directory_ends t p (full_name t p) sound above has_parent.0 in
    let e : codes ".locks" ≡ full_name t p ++ key t i =
    one_name t i (codes ".locks") (full_name t p ++ key t i) h (child_name t p i (full_name t p) sound above (counted_i, is)) in
    absurd (no_slash_in_locks ends.0 (key t i)
    (e ∙ (ap (λ (l : List ℕ). l ++ key t i) ends.1 ∙ append_assoc ends.0 (47 ∷ []) (key t i))))

pub locks_are_a_table : (t : Table) (i : ℕ) → IsSound t → HasName t i (codes ".locks") → (item t i).kind ≡ table_kind
locks_are_a_table t i sound h = top_locks t i (item t i).parent sound h refl (sound place i (counted t i (codes ".locks") h)).has_parent
