-- A table whose items are like those of a sound one is sound.
use Rattle.std.proofs.Common.{ℕ, ◌<◌, ◌≡◌, ◌%◌, ◌⊎◌, ◌∙◌, ◌++◌, List, [], ◌∷◌, length, Option, Some, None, ap, sym, refl, subst, inl, inr, arith}
use Rattle.std.specs.Prelude.{Contains, IfSome, IsUtf8, codes}
use Rattle.dconf_model.specs.Names.{HasName, HasParents, IsItem, joined}
use Rattle.dconf_model.specs.Searchable.{EachItem, HasBuckets, HasContent, HasEnd, HasGoodKey, HasHash, IsKind, IsOnlyNamed, LeadsUp}
use Rattle.dconf_model.specs.Sound.{HasListIfAny, HasLocksIfAny, HasParent, HasPlace, IsChild, IsDirectoryPart, IsPart, IsSound, IsTop, list_length, listed}
use Rattle.dconf_model.specs.Sound.Rule.{buckets, keys, chain, hash, span, bloom, once, content, place, lists, locks}
use Rattle.dconf_model.specs.Table.{Table, bytes_of, item, item_count, key, list_kind, table_kind, value_kind}
use Rattle.dconf_model.proofs.ParentLaws.{parent_counted}
use Rattle.dconf_model.proofs.DirectoryNames.{list_is_no_table, locks_are_a_table}
use Rattle.dconf_model.proofs.PartsBelow.{value_is_no_table}
use Rattle.gvdb_alike.specs.ItemsAlike.{HasLikeBytes, IsItemAlike}
use Rattle.gvdb_alike.proofs.ListLaws.{same_length, same_number}

kind_of : (kind : ℕ) (bytes same : List ℕ) → HasLikeBytes kind bytes same → IsKind kind
kind_of kind bytes same (inl value) = inl value
kind_of kind bytes same (inr list) = inr (inl list.0)

list_bytes : (kind : ℕ) (bytes same : List ℕ) → HasLikeBytes kind bytes same → kind ≡ list_kind → bytes ≡ same
list_bytes kind bytes same (inl value) list = let bad : value_kind ≡ list_kind = sym value ∙ list in absurd (omega (arith, bad))
list_bytes kind bytes same (inr list) is = list.1

no_table : (kind : ℕ) (bytes same : List ℕ) → HasLikeBytes kind bytes same → kind ≡ table_kind → ⊥
no_table kind bytes same (inl value) table = value_is_no_table (sym value ∙ table)
no_table kind bytes same (inr list) table = list_is_no_table (sym list.0 ∙ table)

module _ (t u : Table) (counted : item_count t ≡ item_count u) (each : EachItem t (IsItemAlike t u)) (sound : IsSound u) where
  there : (i : ℕ) → i < item_count t → i < item_count u
  there i here = subst (λ n. i < n) counted here

  back : (i : ℕ) → i < item_count u → i < item_count t
  back i here = subst (λ n. i < n) (sym counted) here

  -- ---- S2 and S3

  keys_kept : EachItem t (HasGoodKey t)
  keys_kept i here =
      let step = (each i here).step in
      let good = sound keys i (there i here) in
      record {
        inside = step.inside;
        utf8 = subst IsUtf8 (sym step.key) good.utf8;
        no_nul = subst (λ (k : List ℕ). ¬ Contains k 0) (sym step.key) good.no_nul;
        parent =
            subst (λ (o : Option ℕ). IfSome o (λ p. p < item_count t)) (sym step.parent)
            (subst (λ (n : ℕ). IfSome (item u i).parent (λ p. p < n)) (sym counted) good.parent);
      }

  leads : (ps : List ℕ) (i : ℕ) → i < item_count t → LeadsUp u i ps → LeadsUp t i ps
  leads [] i here up = (each i here).step.parent ∙ up
  leads (p ∷ ps) i here up =
      let parent = (each i here).step.parent ∙ up.0 in
      (parent, leads ps p (parent_counted t i p keys_kept here parent) up.1)

  chain_kept : EachItem t (HasEnd t)
  chain_kept i here =
      let end = sound chain i (there i here) in
      record { parents = end.parents; ends = leads end.parents i here end.ends; key = subst (λ (k : List ℕ). 0 < length k) (sym (each i here).step.key) end.key }

  -- ---- names are the same

  item_there : (i : ℕ) → IsItem t i → IsItem u i
  item_there i is = record { counted = there i is.counted; key_inside = (sound keys i (there i is.counted)).inside }

  parents_there : (ps : List ℕ) (i : ℕ) → HasParents t i ps → HasParents u i ps
  parents_there [] i h = (item_there i h.0, sym (each i h.0.counted).step.parent ∙ h.1)
  parents_there (p ∷ ps) i h = (
    item_there i h.0,
    sym (each i h.0.counted).step.parent ∙ h.1,
    subst (λ (k : List ℕ). 0 < length k) (each i h.0.counted).step.key h.2,
    parents_there ps p h.3,
  )

  joined_there : (ps : List ℕ) (i : ℕ) → HasParents t i ps → joined u i ps ≡ joined t i ps
  joined_there [] i h = sym (each i h.0.counted).step.key
  joined_there (p ∷ ps) i h =
      ap (λ (l : List ℕ). l ++ key u i) (joined_there ps p h.3) ∙ ap (λ (k : List ℕ). joined t p ps ++ k) (sym (each i h.0.counted).step.key)

  named_there : (i : ℕ) (name : List ℕ) → HasName t i name → HasName u i name
  named_there i name h = record { parents = h.parents; chain = parents_there h.parents i h.chain; spelled = joined_there h.parents i h.chain ∙ h.spelled }

  item_here : (i : ℕ) → IsItem u i → IsItem t i
  item_here i is = record { counted = back i is.counted; key_inside = (each i (back i is.counted)).step.inside }

  parents_here : (ps : List ℕ) (i : ℕ) → HasParents u i ps → HasParents t i ps
  parents_here [] i h = (item_here i h.0, (each i (back i h.0.counted)).step.parent ∙ h.1)
  parents_here (p ∷ ps) i h = (
    item_here i h.0,
    (each i (back i h.0.counted)).step.parent ∙ h.1,
    subst (λ (k : List ℕ). 0 < length k) (sym (each i (back i h.0.counted)).step.key) h.2,
    parents_here ps p h.3,
  )

  named_here : (i : ℕ) (name : List ℕ) → HasName u i name → HasName t i name
  named_here i name h =
      let chain = parents_here h.parents i h.chain in
      record { parents = h.parents; chain = chain; spelled = sym (joined_there h.parents i chain) ∙ h.spelled }

  -- ---- S4, S7 and S8

  hash_kept : EachItem t (HasHash t)
  hash_kept i here name h = (each i here).content.hash ∙ sound hash i (there i here) name (named_there i name h)

  once_kept : EachItem t (IsOnlyNamed t)
  once_kept i here name j h k = sound once i (there i here) name j (named_there i name h) (named_there j name k)

  content_kept : EachItem t (HasContent t)
  content_kept i here =
      let like = (each i here).content in
      let own = sound content i (there i here) in
      record {
        kind = kind_of (item t i).kind (bytes_of t i) (bytes_of u i) like.bytes;
        valid = like.valid;
        whole = λ is.
            let same = list_bytes (item t i).kind (bytes_of t i) (bytes_of u i) like.bytes is in
            ap (λ (l : List ℕ). length l % 4) same ∙ own.whole (sym like.kind ∙ is);
      }

  -- ---- S9

  top_kept : (i : ℕ) → i < item_count t → IsTop u i → IsTop t i
  top_kept i here (inl root) = inl ((each i here).content.kind ∙ root.0, (each i here).step.key ∙ root.1)
  top_kept i here (inr table) = inr ((each i here).content.kind ∙ table.0, (each i here).step.key ∙ table.1)

  part_kept : (i : ℕ) → i < item_count t → IsPart u i → IsPart t i
  part_kept i here (inl value) =
      inl ((each i here).content.kind ∙ value.0, subst (λ (k : List ℕ). ¬ Contains k 47) (sym (each i here).step.key) value.1)
  part_kept i here (inr list) = inr ((each i here).content.kind ∙ list.0, subst IsDirectoryPart (sym (each i here).step.key) list.1)

  under_kept : (i : ℕ) (o : Option ℕ) → i < item_count t → (item t i).parent ≡ o → HasParent u i o → HasParent t i o
  under_kept i None here up has = top_kept i here has
  under_kept i (Some p) here up has =
      ((each p (parent_counted t i p keys_kept here up)).content.kind ∙ has.0, part_kept i here has.1)

  place_kept : EachItem t (HasPlace t)
  place_kept i here =
      let own = sound place i (there i here) in
      record {
        has_parent = under_kept i (item t i).parent here refl (subst (HasParent u i) (sym (each i here).step.parent) own.has_parent);
        short = λ name h. own.short name (named_there i name h);
      }

  -- ---- S10

  child_here : (i j : ℕ) → IsChild u i j → IsChild t i j
  child_here i j is = (back j is.0, (each j (back j is.0)).step.parent ∙ is.1)

  child_there : (i j : ℕ) → IsChild t i j → IsChild u i j
  child_there i j is = (there j is.0, sym (each j is.0).step.parent ∙ is.1)

  lists_kept : EachItem t (HasListIfAny t)
  lists_kept i here is =
      let like = (each i here).content in
      let own = sound content i (there i here) in
      let same = list_bytes (item t i).kind (bytes_of t i) (bytes_of u i) like.bytes is in
      let l = sound lists i (there i here) (sym like.kind ∙ is) in
      let size = same_length t u i like.valid own.valid same in
      let inside : (k : ℕ) → k < list_length t i → k < list_length u i = λ k lt. subst (λ (n : ℕ). k < n) size lt in
      let number = same_number t u i in
      record {
        children_alone = λ k lt. subst (IsChild t i) (sym (number k like.valid own.valid same lt)) (child_here i (listed u i k) (l.children_alone k (inside k lt)));
        each_child = λ j child.
            let found = l.each_child j (child_there i j child) in
            let lt = subst (λ (n : ℕ). found.0 < n) (sym size) found.1 in
            (found.0, lt, number found.0 like.valid own.valid same lt ∙ found.2);
        once = λ k m a b e.
            l.once k m (inside k a) (inside m b) (sym (number k like.valid own.valid same a) ∙ (e ∙ number m like.valid own.valid same b));
        empty_at_root = λ e. named_here i (codes "/") (l.empty_at_root (sym size ∙ e));
      }

  -- ---- S11: there is no table

  locks_kept : EachItem t (HasLocksIfAny t)
  locks_kept i here h =
      let like = (each i here).content in
      absurd (no_table (item t i).kind (bytes_of t i) (bytes_of u i) like.bytes
      (like.kind ∙ locks_are_a_table u i sound (named_there i (codes ".locks") h)))

  -- ---- all rules

  pub sound_by_shape : HasBuckets t → IsSound t
  sound_by_shape good buckets = good
  sound_by_shape good keys = keys_kept
  sound_by_shape good chain = chain_kept
  sound_by_shape good hash = hash_kept
  sound_by_shape good span = λ i here. (each i here).in_span
  sound_by_shape good bloom = λ i here. (each i here).in_bloom
  sound_by_shape good once = once_kept
  sound_by_shape good content = content_kept
  sound_by_shape good place = place_kept
  sound_by_shape good lists = lists_kept
  sound_by_shape good locks = locks_kept
