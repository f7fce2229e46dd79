-- The name of a root table's entry says where its key begins, what it is of, and which directory it has.
use Rattle.std.proofs.Common.{◌≡◌, ◌≢◌, ◌<◌, ◌≤◌, ◌+◌, ◌-◌, ℕ, zero, suc, List, [], ◌∷◌, ◌++◌, length, get_or, take, drop, Option, Some, None, refl, sym, ap, ◌∙◌, subst, arith, inl, inr, ⊎_elim, codes, length-append}
use Rattle.std.specs.Prelude.{Contains}
use Rattle.std.proofs.lemmas.Bool.{cases_eq, cases_lt}
use Rattle.std.proofs.lemmas.List.{get_or-append-add, get_or_append_left, get_or_default, get_or_at, drop_at, take_at}
use Rattle.dconf_model.specs.Table.{value_kind, list_kind, table_kind}
use Rattle.dconf_model.specs.Sound.{IsDirectoryPart}
use Rattle.dconf_model.specs.Entries.{Entry, Entries, EachEntry, IsSpelled, AreEntries, IsTopEntry, IsPartEntry, EntryHasParent, IsRootEntry}

abbrev last : List ℕ → ℕ
last name = get_or name (length name - 1) 0

-- the key of a name begins after a slash, and has none but at its end; this, and whether it is the whole, says the kind
pub record IsCut (name key : List ℕ) (kind from : ℕ) : Type 0 where
  pub key_is : key ≡ drop from name
  pub inside : from < length name
  pub plain : (k : ℕ) → from ≤ k → k + 1 < length name → get_or name k 0 ≢ 47
  pub after : (k : ℕ) → k + 1 ≡ from → get_or name k 0 ≡ 47
  pub list : last name ≡ 47 → kind ≡ list_kind
  pub table : last name ≢ 47 → from ≡ 0 → kind ≡ table_kind
  pub value : last name ≢ 47 → from ≢ 0 → kind ≡ value_kind

-- ---- one name has one key and one kind

no_earlier : (name key other : List ℕ) (kind of a b : ℕ) → IsCut name key kind a → IsCut name other of b → a < b → ⊥
no_earlier name key other kind of a b c d less =
    let inside = d.inside in
    let slash : get_or name (b - 1) 0 ≡ 47 = d.after (b - 1) (omega (arith, less)) in
    c.plain (b - 1) (omega (arith, less)) (omega (arith, less, inside)) slash

pub one_cut : (name key other : List ℕ) (kind of a b : ℕ) → IsCut name key kind a → IsCut name other of b → a ≡ b
one_cut name key other kind of a b c d =
    ⊎_elim (λ (l : a < b). absurd (no_earlier name key other kind of a b c d l))
    (λ (ge : b ≤ a). ⊎_elim (λ (l : b < a). absurd (no_earlier name other key of kind b a d c l)) (λ (le : a ≤ b). let e : a ≡ b = omega (arith, ge, le) in e) (cases_lt b a))
    (cases_lt a b)

pub one_key : (name key other : List ℕ) (kind of a b : ℕ) → IsCut name key kind a → IsCut name other of b → key ≡ other
one_key name key other kind of a b c d = c.key_is ∙ (ap (λ (k : ℕ). drop k name) (one_cut name key other kind of a b c d) ∙ sym d.key_is)

pub one_kind : (name key other : List ℕ) (kind of a b : ℕ) → IsCut name key kind a → IsCut name other of b → kind ≡ of
one_kind name key other kind of a b c d =
    let same = one_cut name key other kind of a b c d in
    ⊎_elim (λ (slash : last name ≡ 47). c.list slash ∙ sym (d.list slash))
    (λ (plain : last name ≡ 47 → ⊥).
    ⊎_elim (λ (whole : a ≡ 0). c.table plain whole ∙ sym (d.table plain (sym same ∙ whole)))
    (λ (part : a ≡ 0 → ⊥). c.value plain part ∙ sym (d.value plain (λ z. part (same ∙ z)))) (cases_eq a 0))
    (cases_eq (last name) 47)

-- ---- the entries of a root table

-- where the key of an entry begins that has this directory
abbrev pub cut : Entries → Option ℕ → ℕ
cut e None = 0
cut e (Some p) = length (e.entry p).name

at_end : (prefix : List ℕ) (c : ℕ) → last (prefix ++ c ∷ []) ≡ c
at_end prefix c =
    let n = length-append prefix (c ∷ []) in
    let place : length (prefix ++ c ∷ []) - 1 ≡ length prefix = omega (arith, n) in
    ap (λ (k : ℕ). get_or (prefix ++ c ∷ []) k 0) place ∙ get_or_at prefix c [] 0 (length prefix) refl

end_of_part : (prefix key : List ℕ) → 0 < length key → last (prefix ++ key) ≡ last key
end_of_part prefix key some =
    let n = length-append prefix key in
    let place : length (prefix ++ key) - 1 ≡ length prefix + (length key - 1) = omega (arith, n, some) in
    ap (λ (k : ℕ). get_or (prefix ++ key) k 0) place ∙ get_or-append-add prefix key (length key - 1) 0

in_part : (prefix key : List ℕ) (k : ℕ) → length prefix ≤ k → get_or (prefix ++ key) k 0 ≡ get_or key (k - length prefix) 0
in_part prefix key k ge =
    let place : k ≡ length prefix + (k - length prefix) = omega (arith, ge) in
    ap (λ (j : ℕ). get_or (prefix ++ key) j 0) place ∙ get_or-append-add prefix key (k - length prefix) 0

none_at : (xs : List ℕ) → ¬ Contains xs 47 → (k : ℕ) → k < length xs → get_or xs k 0 ≢ 47
none_at xs without k here is = without (k, here, get_or_default xs k 47 0 here ∙ is)

directory_part_ends : (key : List ℕ) → IsDirectoryPart key → last key ≡ 47
directory_part_ends key d = ap (λ (x : List ℕ). last x) d.whole ∙ at_end d.name 47

plain_but_end : (key : List ℕ) → IsDirectoryPart key → (k : ℕ) → k + 1 < length key → get_or key k 0 ≢ 47
plain_but_end key d k here is =
    let len : length key ≡ length d.name + 1 = ap (λ (x : List ℕ). length x) d.whole ∙ length-append d.name (47 ∷ []) in
    let less : k < length d.name = omega (arith, here, len) in
    none_at d.name d.plain k less (sym (get_or_append_left d.name (47 ∷ []) 0 k less) ∙ (sym (ap (λ (x : List ℕ). get_or x k 0) d.whole) ∙ is))

slash_cut : (kind : ℕ) → kind ≡ list_kind → IsCut (codes "/") (codes "/") kind 0
slash_cut kind is = record {
  key_is = refl;
  inside = omega arith;
  plain = λ k from more. absurd (omega (arith, more));
  after = λ k none. absurd (omega (arith, none));
  list = λ slash. is;
  table = λ plain. absurd (plain refl);
  value = λ plain. absurd (plain refl);
}

no_slash_in_locks : (k : ℕ) → k < 6 → get_or (codes ".locks") k 0 ≢ 47
no_slash_in_locks zero here is = omega (arith, is)
no_slash_in_locks (suc zero) here is = omega (arith, is)
no_slash_in_locks (suc (suc zero)) here is = omega (arith, is)
no_slash_in_locks (suc (suc (suc zero))) here is = omega (arith, is)
no_slash_in_locks (suc (suc (suc (suc zero)))) here is = omega (arith, is)
no_slash_in_locks (suc (suc (suc (suc (suc zero))))) here is = omega (arith, is)
no_slash_in_locks (suc (suc (suc (suc (suc (suc k)))))) here is = omega (arith, here)

locks_cut : (kind : ℕ) → kind ≡ table_kind → IsCut (codes ".locks") (codes ".locks") kind 0
locks_cut kind is = record {
  key_is = refl;
  inside = omega arith;
  plain = λ k from more. no_slash_in_locks k (omega (arith, more));
  after = λ k none. absurd (omega (arith, none));
  list = λ slash. absurd (no_slash_in_locks 5 (omega arith) slash);
  table = λ plain whole. is;
  value = λ plain part. absurd (part refl);
}

top_cut : (x : Entry) → IsTopEntry x → IsCut x.key x.key x.kind 0
top_cut x (inl a) = subst (λ (k : List ℕ). IsCut k k x.kind 0) (sym a.1) (slash_cut x.kind a.0)
top_cut x (inr b) = subst (λ (k : List ℕ). IsCut k k x.kind 0) (sym b.1) (locks_cut x.kind b.0)

module _ (prefix key : List ℕ) (some : 0 < length key) (directory : 0 < length prefix) (slash : last prefix ≡ 47) where
  after_prefix : (k : ℕ) → k + 1 ≡ length prefix → get_or (prefix ++ key) k 0 ≡ 47
  after_prefix k is =
      let place : k ≡ length prefix - 1 = omega (arith, is) in
      get_or_append_left prefix key 0 k (omega (arith, is)) ∙ (ap (λ (j : ℕ). get_or prefix j 0) place ∙ slash)

  within : length prefix < length (prefix ++ key)
  within = let n = length-append prefix key in omega (arith, n, some)

  key_at : key ≡ drop (length prefix) (prefix ++ key)
  key_at = sym (drop_at prefix key (length prefix) refl)

  value_cut : (kind : ℕ) → kind ≡ value_kind → ¬ Contains key 47 → IsCut (prefix ++ key) key kind (length prefix)
  value_cut kind is without = record {
    key_is = key_at;
    inside = within;
    plain = λ k from more at.
        let n = length-append prefix key in
        none_at key without (k - length prefix) (omega (arith, from, more, n)) (sym (in_part prefix key k from) ∙ at);
    after = after_prefix;
    list = λ ends. absurd (none_at key without (length key - 1) (omega (arith, some)) (sym (end_of_part prefix key some) ∙ ends));
    table = λ plain whole. absurd (omega (arith, whole, directory));
    value = λ plain part. is;
  }

  directory_cut : (kind : ℕ) → kind ≡ list_kind → IsDirectoryPart key → IsCut (prefix ++ key) key kind (length prefix)
  directory_cut kind is part = record {
    key_is = key_at;
    inside = within;
    plain = λ k from more at.
        let n = length-append prefix key in
        plain_but_end key part (k - length prefix) (omega (arith, from, more, n)) (sym (in_part prefix key k from) ∙ at);
    after = after_prefix;
    list = λ ends. is;
    table = λ plain. absurd (plain (end_of_part prefix key some ∙ directory_part_ends key part));
    value = λ plain. absurd (plain (end_of_part prefix key some ∙ directory_part_ends key part));
  }

  part_cut : (x : Entry) → x.key ≡ key → IsPartEntry x → IsCut (prefix ++ key) key x.kind (length prefix)
  part_cut x is (inl a) = value_cut x.kind a.0 (subst (λ (k : List ℕ). ¬ Contains k 47) is a.1)
  part_cut x is (inr b) = directory_cut x.kind b.0 (subst (λ (k : List ℕ). IsDirectoryPart k) is b.1)

two_kinds : (kind a b : ℕ) → kind ≡ a → kind ≡ b → a ≢ b → ⊥
two_kinds kind a b is also other = other (sym is ∙ also)

-- the name of a directory ends in a slash
module _ (e : Entries) (are : AreEntries e) (root : EachEntry e (IsRootEntry e)) where
  pub some_name : (i : ℕ) → i < e.count → 0 < length (e.entry i).name
  some_name i here = by_parent (e.entry i).parent (are.each i here).spelled
    where
      by_parent : (o : Option ℕ) → IsSpelled e i o → 0 < length (e.entry i).name
      by_parent None is =
          let some = (are.each i here).some in
          let n : length (e.entry i).name ≡ length (e.entry i).key = ap (λ (x : List ℕ). length x) is in
          omega (arith, some, n)
      by_parent (Some p) is =
          let some = (are.each i here).some in
          let n : length (e.entry i).name ≡ length (e.entry p).name + length (e.entry i).key = ap (λ (x : List ℕ). length x) is.1 ∙ length-append (e.entry p).name (e.entry i).key in
          omega (arith, some, n)

  ends_in_slash : (i : ℕ) → i < e.count → (e.entry i).kind ≡ list_kind → last (e.entry i).name ≡ 47
  ends_in_slash i here list = by_parent (e.entry i).parent (are.each i here).spelled (root i here).has_parent
    where
      by_parent : (o : Option ℕ) → IsSpelled e i o → EntryHasParent e i o → last (e.entry i).name ≡ 47
      by_parent None is (inl a) = ap (λ (x : List ℕ). last x) (is ∙ a.1)
      by_parent None is (inr b) = absurd (two_kinds (e.entry i).kind list_kind table_kind list b.0 (λ bad. omega (arith, bad)))
      by_parent (Some p) is has_parent = by_part has_parent.1
        where
          by_part : IsPartEntry (e.entry i) → last (e.entry i).name ≡ 47
          by_part (inl a) = absurd (two_kinds (e.entry i).kind list_kind value_kind list a.0 (λ bad. omega (arith, bad)))
          by_part (inr b) =
              ap (λ (x : List ℕ). last x) is.1
              ∙ (end_of_part (e.entry p).name (e.entry i).key (are.each i here).some ∙ directory_part_ends (e.entry i).key b.1)

  pub is_cut : (i : ℕ) → i < e.count → IsCut (e.entry i).name (e.entry i).key (e.entry i).kind (cut e (e.entry i).parent)
  is_cut i here = by_parent (e.entry i).parent (are.each i here).spelled (root i here).has_parent
    where
      by_parent : (o : Option ℕ) → IsSpelled e i o → EntryHasParent e i o → IsCut (e.entry i).name (e.entry i).key (e.entry i).kind (cut e o)
      by_parent None is has_parent = subst (λ (x : List ℕ). IsCut x (e.entry i).key (e.entry i).kind 0) (sym is) (top_cut (e.entry i) has_parent)
      by_parent (Some p) is has_parent =
          subst (λ (x : List ℕ). IsCut x (e.entry i).key (e.entry i).kind (length (e.entry p).name)) (sym is.1)
          (part_cut (e.entry p).name (e.entry i).key (are.each i here).some (some_name p is.0) (ends_in_slash p is.0 has_parent.0) (e.entry i) refl has_parent.1)

-- ---- two tables with the same names

-- as many entries, which are the same
pub record AreSame (e f : Entries) : Type 0 where
  pub counted : e.count ≡ f.count
  pub key : EachEntry e (λ i. (e.entry i).key ≡ (f.entry i).key)
  pub kind : EachEntry e (λ i. (e.entry i).kind ≡ (f.entry i).kind)
  pub parent : EachEntry e (λ i. (e.entry i).parent ≡ (f.entry i).parent)

module _ (e f : Entries) (ea : AreEntries e) (fa : AreEntries f) (er : EachEntry e (IsRootEntry e)) (fr : EachEntry f (IsRootEntry f)) (c : e.count ≡ f.count) (names : EachEntry e (λ i. (e.entry i).name ≡ (f.entry i).name)) where
  there : (i : ℕ) → i < e.count → i < f.count
  there i here = omega (arith, here, c)

  other_cut : (i : ℕ) → i < e.count → IsCut (e.entry i).name (f.entry i).key (f.entry i).kind (cut f (f.entry i).parent)
  other_cut i here = subst (λ (x : List ℕ). IsCut x (f.entry i).key (f.entry i).kind (cut f (f.entry i).parent)) (sym (names i here)) (is_cut f fa fr i (there i here))

  prefix_is : (g : Entries) (i p : ℕ) → (g.entry i).name ≡ (g.entry p).name ++ (g.entry i).key → take (length (g.entry p).name) (g.entry i).name ≡ (g.entry p).name
  prefix_is g i p is = ap (λ (x : List ℕ). take (length (g.entry p).name) x) is ∙ take_at (g.entry p).name (g.entry i).key (length (g.entry p).name) refl

  same_parent : (i : ℕ) → i < e.count → (o q : Option ℕ) → IsSpelled e i o → IsSpelled f i q → cut e o ≡ cut f q → o ≡ q
  same_parent i here None None is also same = refl
  same_parent i here None (Some b) is also same = let some = some_name f fa fr b also.0 in absurd (omega (arith, some, same))
  same_parent i here (Some a) None is also same = let some = some_name e ea er a is.0 in absurd (omega (arith, some, same))
  same_parent i here (Some a) (Some b) is also same =
      let directory : (e.entry a).name ≡ (f.entry b).name =
      sym (prefix_is e i a is.1)
      ∙ (ap (λ (k : ℕ). take k (e.entry i).name) same ∙ (ap (λ (x : List ℕ). take (length (f.entry b).name) x) (names i here) ∙ prefix_is f i b also.1)) in
      ap (λ (p : ℕ). Some p) (fa.once a b (there a is.0) also.0 (sym (names a is.0) ∙ directory))

  pub are_same : AreSame e f
  are_same = record {
    counted = c;
    key = λ i here. one_key (e.entry i).name (e.entry i).key (f.entry i).key (e.entry i).kind (f.entry i).kind (cut e (e.entry i).parent) (cut f (f.entry i).parent) (is_cut e ea er i here) (other_cut i here);
    kind = λ i here. one_kind (e.entry i).name (e.entry i).key (f.entry i).key (e.entry i).kind (f.entry i).kind (cut e (e.entry i).parent) (cut f (f.entry i).parent) (is_cut e ea er i here) (other_cut i here);
    parent = λ i here.
        same_parent i here (e.entry i).parent (f.entry i).parent (ea.each i here).spelled (fa.each i (there i here)).spelled
        (one_cut (e.entry i).name (e.entry i).key (f.entry i).key (e.entry i).kind (f.entry i).kind (cut e (e.entry i).parent) (cut f (f.entry i).parent) (is_cut e ea er i here) (other_cut i here));
  }
