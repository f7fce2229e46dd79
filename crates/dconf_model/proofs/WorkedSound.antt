-- Worked databases: the empty one is sound; with another hash of `/` its first fault is S4 at item 0.
use Rattle.std.proofs.Common.{◌≡◌, ◌<◌, ℕ, zero, suc, List, [], ◌∷◌, length, Some, None, refl, sym, ap, ◌∙◌, inl, inr, rules, arith, codes}
use Rattle.std.specs.Prelude.{slice_index, slice_index_or}
use Rattle.std.proofs.lemmas.Str.{IsUtf8-from_ascii}
use Rattle.dconf_model.specs.Bytes.{hash_of}
use Rattle.dconf_model.specs.Table.{Table, item, item_count, key}
use Rattle.dconf_model.specs.Opening.{root_of}
use Rattle.dconf_model.specs.Names.{HasName, HasParents, joined}
use Rattle.dconf_model.specs.Searchable.{EachItem, HasBuckets, HasGoodKey, HasEnd, HasHash, IsInSpan, IsInBloom, IsOnlyNamed, HasContent}
use Rattle.dconf_model.specs.Sound.{Rule, rule_number, KeepsAll, IsSound, HasPlace, IsChild, list_length, HasListIfAny, HasLocksIfAny, IsFirstFault}
use Rattle.dconf_model.specs.Sound.Rule.{buckets, keys, chain, hash, span, bloom, once, content, place, lists, locks}
use Rattle.dconf_model.proofs.WorkedTables.{computing}

-- a database with the item `/` alone, whose list is empty; the lowest byte of its hash should be 212
file_with : ℕ → List ℕ
file_with low =
    71 ∷ 86 ∷ 97 ∷ 114 ∷ 105 ∷ 97 ∷ 110 ∷ 116 ∷ 0 ∷ 0 ∷ 0 ∷ 0 ∷ 0 ∷ 0 ∷ 0 ∷ 0 ∷ 24 ∷ 0 ∷ 0 ∷ 0 ∷ 60 ∷ 0 ∷ 0 ∷ 0 ∷
    0 ∷ 0 ∷ 0 ∷ 0 ∷ 1 ∷ 0 ∷ 0 ∷ 0 ∷ 0 ∷ 0 ∷ 0 ∷ 0 ∷
    low ∷ 181 ∷ 2 ∷ 0 ∷ 255 ∷ 255 ∷ 255 ∷ 255 ∷ 60 ∷ 0 ∷ 0 ∷ 0 ∷ 1 ∷ 0 ∷ 76 ∷ 0 ∷ 64 ∷ 0 ∷ 0 ∷ 0 ∷ 64 ∷ 0 ∷ 0 ∷ 0 ∷
    47 ∷ 0 ∷ 0 ∷ 0 ∷ []

abbrev table_with : ℕ → Table
table_with low = root_of (file_with low)

one_item : (low : ℕ) → item_count (table_with low) ≡ 1
unfolding computing file_with
one_item low = refl

key_is : (low : ℕ) → key (table_with low) 0 ≡ 47 ∷ []
unfolding computing file_with
key_is low = refl

no_parent : (low : ℕ) → (item (table_with low) 0).parent ≡ None
unfolding computing file_with
no_parent low = refl

not_below : (low p : ℕ) → ¬ ((item (table_with low) 0).parent ≡ Some p)
not_below low p e = let wrong : None ≡ Some p = sym (no_parent low) ∙ e in search rules

only_item : (low : ℕ) (P : ℕ → Type 0) → P 0 → EachItem (table_with low) P
only_item low P first zero counted = first
only_item low P first (suc i) counted = let e = one_item low in absurd (omega (arith, counted, e))

has_buckets : (low : ℕ) → HasBuckets (table_with low)
unfolding computing file_with
has_buckets low = record {
  some = λ _. omega arith;
  from_zero = λ _. refl;
  rising = λ b h. absurd (omega (arith, h));
  counted = λ b h. let e : b ≡ 0 = omega (arith, h) in rw e omega arith;
}

abbrev slash : List ℕ
slash = 47 ∷ []

slash_is_ascii : (i : ℕ) → slice_index slash i < 128
slash_is_ascii zero = omega arith
slash_is_ascii (suc i) = omega arith

no_zero : (k : ℕ) → k < 1 → slice_index_or slash k 0 ≡ 0 → ⊥
no_zero zero inside at = omega (arith, at)
no_zero (suc k) inside at = omega (arith, inside)

has_good_key : (low : ℕ) → HasGoodKey (table_with low) 0
unfolding computing file_with
has_good_key low = record {
  inside = omega arith;
  utf8 = IsUtf8-from_ascii slash slash_is_ascii;
  no_nul = λ h. no_zero h.0 h.1 h.2;
  parent = tt;
}

has_end : (low : ℕ) → HasEnd (table_with low) 0
unfolding computing file_with
has_end low = record { parents = []; ends = refl; key = omega arith }

-- the item is named `/`, and nothing else
named : (low : ℕ) (name : List ℕ) → HasName (table_with low) 0 name → name ≡ 47 ∷ []
named low name h = go h.parents h.chain h.spelled
  where
    go : (ps : List ℕ) → HasParents (table_with low) 0 ps → joined (table_with low) 0 ps ≡ name → name ≡ 47 ∷ []
    go [] up spelled = sym spelled ∙ key_is low
    go (p ∷ ps) up spelled = absurd (not_below low p up.1)

has_name : (low : ℕ) → HasName (table_with low) 0 (codes "/")
unfolding computing file_with
has_name low = record { parents = []; chain = (record { counted = omega arith; key_inside = omega arith }, refl); spelled = refl }

hash_is : (item (table_with 212) 0).hash ≡ 177620
unfolding computing file_with
hash_is = refl

has_hash : HasHash (table_with 212) 0
has_hash name h = let root : 177620 ≡ hash_of (47 ∷ []) = refl in hash_is ∙ (root ∙ ap hash_of (sym (named 212 name h)))

is_in_span : IsInSpan (table_with 212) 0
unfolding computing file_with
is_in_span = record { first = omega arith; before = omega arith }

is_in_bloom : IsInBloom (table_with 212) 0
unfolding computing file_with
is_in_bloom = inl refl

is_only_named : IsOnlyNamed (table_with 212) 0
is_only_named name j here there before = omega (arith, before)

has_content : HasContent (table_with 212) 0
unfolding computing file_with
has_content = record {
  kind = inr (inl refl);
  valid = record { ordered = omega arith; inside = omega arith; aligned = refl };
  whole = λ _. refl;
}

has_place : HasPlace (table_with 212) 0
unfolding computing file_with
has_place = record {
  has_parent = inl (refl, refl);
  short = λ name h. let e : length name ≡ 1 = ap length (named 212 name h) in omega (arith, e);
}

no_child : (j : ℕ) → ¬ IsChild (table_with 212) 0 j
no_child j child = only_item 212 (λ k. ¬ ((item (table_with 212) k).parent ≡ Some 0)) (not_below 212 0) j child.0 child.1

no_list : list_length (table_with 212) 0 ≡ 0
unfolding computing file_with
no_list = refl

has_list : HasListIfAny (table_with 212) 0
has_list kind = record {
  children_alone = λ k h. let e = no_list in absurd (omega (arith, h, e));
  each_child = λ j child. absurd (no_child j child);
  once = λ k m h l same. let e = no_list in absurd (omega (arith, h, e));
  empty_at_root = λ _. has_name 212;
}

has_no_locks : HasLocksIfAny (table_with 212) 0
has_no_locks h = let e : 6 ≡ 1 = ap length (named 212 (codes ".locks") h) in absurd (omega (arith, e))

empty_is_sound : IsSound (table_with 212)
empty_is_sound buckets = has_buckets 212
empty_is_sound keys = only_item 212 (HasGoodKey (table_with 212)) (has_good_key 212)
empty_is_sound chain = only_item 212 (HasEnd (table_with 212)) (has_end 212)
empty_is_sound hash = only_item 212 (HasHash (table_with 212)) has_hash
empty_is_sound span = only_item 212 (IsInSpan (table_with 212)) is_in_span
empty_is_sound bloom = only_item 212 (IsInBloom (table_with 212)) is_in_bloom
empty_is_sound once = only_item 212 (IsOnlyNamed (table_with 212)) is_only_named
empty_is_sound content = only_item 212 (HasContent (table_with 212)) has_content
empty_is_sound place = only_item 212 (HasPlace (table_with 212)) has_place
empty_is_sound lists = only_item 212 (HasListIfAny (table_with 212)) has_list
empty_is_sound locks = only_item 212 (HasLocksIfAny (table_with 212)) has_no_locks

-- ---- another hash

no_hash : ¬ HasHash (table_with 213) 0
unfolding computing file_with
no_hash h = let e : 177621 ≡ 177620 = h (codes "/") (has_name 213) in omega (arith, e)

earlier_rules : (r : Rule) → rule_number r < 4 → KeepsAll (table_with 213) r
earlier_rules buckets h = has_buckets 213
earlier_rules keys h = only_item 213 (HasGoodKey (table_with 213)) (has_good_key 213)
earlier_rules chain h = only_item 213 (HasEnd (table_with 213)) (has_end 213)
earlier_rules hash h = absurd (omega (arith, h))
earlier_rules span h = absurd (omega (arith, h))
earlier_rules bloom h = absurd (omega (arith, h))
earlier_rules once h = absurd (omega (arith, h))
earlier_rules content h = absurd (omega (arith, h))
earlier_rules place h = absurd (omega (arith, h))
earlier_rules lists h = absurd (omega (arith, h))
earlier_rules locks h = absurd (omega (arith, h))

other_hash_is_at_fault : IsFirstFault (table_with 213) hash (Some 0)
other_hash_is_at_fault = record {
  fails = (
    λ e. let n : 4 ≡ 1 = ap rule_number e in omega (arith, n),
    record { counted = let e = one_item 213 in omega (arith, e); fails = no_hash; earlier = λ j before. absurd (omega (arith, before)) },
  );
  earlier = earlier_rules;
}
