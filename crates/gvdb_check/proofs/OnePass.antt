-- Where each item keeps what one pass asks of it, and the lists are right, the table is sound.
use Rattle.std.proofs.Common.{ℕ, List, [], ◌∷◌, Option, Some, None, Bool, true, false, IsTrue, length, length-append, ◌≤◌, ◌<◌, ◌≡◌, ◌∙◌, refl, sym, ap, arith}
use Rattle.std.specs.Prelude.{IfSome, is_some}
use Rattle.dconf_model.specs.Table.{Table, item, item_count, key}
use Rattle.dconf_model.specs.Names.{HasName, full_name}
use Rattle.dconf_model.specs.Searchable.{EachItem, HasBuckets, LeadsUp}
use Rattle.dconf_model.specs.Sound.{KeepsAll, HasParent, IsSound}
use Rattle.dconf_model.specs.Sound.Rule.{buckets, keys, chain, hash, span, bloom, once, content, place, lists, locks}
use Rattle.dconf_model.proofs.ComputedNames.{leads_up}
use Rattle.dconf_model.proofs.FullNames.{full_name_is, full_name_at_root, full_name_below, parent_counted}
use Rattle.gvdb_check.specs.OnePass.{HasNameWithin, ItemKeeps}
use Rattle.gvdb_check.proofs.HashAbove.{hashes_kept}
use Rattle.gvdb_check.proofs.NameChecks.{only_of_hash}
use Rattle.gvdb_check.proofs.NameLengths.{short_name}
use Rattle.gvdb_check.proofs.Places.{locks_is_table}

-- a name is found to be short
pub within_where_some : (t : Table) (i most : ℕ) (o : Option ℕ) (b : Bool) → b ≡ is_some o → IfSome o (λ n. (name : List ℕ) × HasName t i name × (length name ≡ n)) → IfSome o (λ n. n ≤ most)
    → IsTrue b → HasNameWithin most t i
within_where_some t i most None b e some short h = let bad : false ≡ true = sym e ∙ h in cc
within_where_some t i most (Some n) b e some short h = (some.0, some.1, omega (arith, some.2, short))

module _ (t : Table) (each : EachItem t (ItemKeeps t)) where
  good : KeepsAll t keys
  good i counted = (each i counted).key_keeps.good_key

  -- an item lies in a list, whose parents end
  leads_from : (i : ℕ) (up : Option ℕ) → i < item_count t → (item t i).parent ≡ up → HasParent t i up → (ps : List ℕ) × LeadsUp t i ps
  leads_from i None counted top placed = ([], top)
  leads_from i (Some p) counted up placed =
      let name = (each p (parent_counted t i p good counted up)).near_top placed.0 in
      (p ∷ name.1.parents, (up, leads_up t p name.1.parents name.1.chain))

  ends : KeepsAll t chain
  ends i counted =
      let here = each i counted in
      let leads = leads_from i (item t i).parent counted refl here.key_keeps.has_parent in
      record { parents = leads.0; ends = leads.1; key = here.some_key }

  hashed : KeepsAll t hash
  hashed = hashes_kept t good ends (λ i counted. (each i counted).key_keeps.goes_on)

  in_span : KeepsAll t span
  in_span i counted = (each i counted).in_span

  only_named : KeepsAll t once
  only_named i counted = only_of_hash t i good ends hashed in_span counted (each i counted).own_hash

  -- a name has the bytes of a directory's and of a key
  short_from : (i : ℕ) (up : Option ℕ) → i < item_count t → (item t i).parent ≡ up → HasParent t i up → length (full_name t i) ≤ 65535
  short_from i None counted top placed =
      let own = (each i counted).short_key in
      omega (arith, ap length (full_name_at_root t i good counted top), own)
  short_from i (Some p) counted up placed =
      let own = (each i counted).short_key in
      let name = (each p (parent_counted t i p good counted up)).near_top placed.0 in
      omega (
        arith,
        own,
        name.2,
        ap length (full_name_is t p name.0 name.1),
        ap length (full_name_below t i p good ends counted up),
        length-append (full_name t p) (key t i),
      )

  placed : KeepsAll t place
  placed i counted =
      let has_parent = (each i counted).key_keeps.has_parent in
      record { has_parent = has_parent; short = short_name t i (short_from i (item t i).parent counted refl has_parent) }

  pub all_kept : HasBuckets t → KeepsAll t lists → IsSound t
  all_kept has_buckets lists_kept buckets = has_buckets
  all_kept has_buckets lists_kept keys = good
  all_kept has_buckets lists_kept chain = ends
  all_kept has_buckets lists_kept hash = hashed
  all_kept has_buckets lists_kept span = in_span
  all_kept has_buckets lists_kept bloom = λ i counted. (each i counted).in_bloom
  all_kept has_buckets lists_kept once = only_named
  all_kept has_buckets lists_kept content = λ i counted. (each i counted).content
  all_kept has_buckets lists_kept place = placed
  all_kept has_buckets lists_kept lists = lists_kept
  all_kept has_buckets lists_kept locks = λ i counted named. (each i counted).locks (locks_is_table t i placed named)
