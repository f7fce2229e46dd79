-- Each item of a table in which entries are laid out can be found by its name.
use Rattle.std.proofs.Common.{◌≡◌, ◌<◌, ◌≤◌, ◌+◌, ◌%◌, Bool, true, false, cond, ◌&&◌, ℕ, List, Option, Some, None, refl, sym, ap, ◌∙◌, subst, arith, eqb, ltb-true, ne_eqb}
use Rattle.std.specs.Prelude.{IfSome, nat_lt, nat_le, Contains, IsUtf8}
use Rattle.std.proofs.Math.Nat.{mod-lt}
use Rattle.std.proofs.lemmas.Bool.{and_parts}
use Rattle.dconf_model.specs.Bytes.{hash_of}
use Rattle.dconf_model.specs.Table.{Table, item, item_count, bucket, bucket_count}
use Rattle.dconf_model.specs.Names.{HasName}
use Rattle.dconf_model.specs.Search.{InSpan, PassesBloom, span_start, span_end}
use Rattle.dconf_model.specs.Searchable.{HasBuckets, HasGoodKey, HasEnd, HasContent, IsKind, IsSearchable}
use Rattle.dconf_model.specs.Entries.{Entries, IsSpelled, AreEntries, IsLaidOut, bucket_of}
use Rattle.dconf_model.proofs.ComputedNames.{leads_up}
use Rattle.dconf_model.proofs.LaidGroups.{first_is_zero, firsts_rise, not_before_first, before_next}
use Rattle.dconf_model.proofs.LaidNames.{has_name, name_is, some_key, is_entry}

pub laid_buckets : (t : Table) (e : Entries) → IsLaidOut t e → HasBuckets t
laid_buckets t e laid = record {
  some = λ some. let c = laid.counted in let b = laid.bucketed in omega (arith, some, c, b);
  from_zero = λ some. let b = laid.bucketed in first_is_zero e.count e.count (bucket_of e) (bucket t) laid.firsts (omega (arith, some, b));
  rising = λ g more. let b = laid.bucketed in firsts_rise e.count e.count (bucket_of e) (bucket t) laid.firsts g (omega (arith, more, b));
  counted = λ g some. let b = laid.bucketed in let c = laid.counted in let w = laid.firsts.within g (omega (arith, some, b)) in omega (arith, w, c);
}

parent_counted : (e : Entries) (n i : ℕ) → n ≡ e.count → (o : Option ℕ) → IsSpelled e i o → IfSome o (λ p. p < n)
parent_counted e n i c None spelled = tt
parent_counted e n i c (Some p) spelled = let l = spelled.0 in omega (arith, c, l)

pub laid_key : (t : Table) (e : Entries) (i : ℕ) → IsLaidOut t e → AreEntries e → i < e.count → HasGoodKey t i
laid_key t e i laid are here =
    let x = laid.items i here in
    let y = are.each i here in
    record {
      inside = x.key_inside;
      utf8 = subst (λ (k : List ℕ). IsUtf8 k) (sym x.key_is) y.utf8;
      no_nul = subst (λ (k : List ℕ). ¬ Contains k 0) (sym x.key_is) y.no_nul;
      parent = subst (λ (o : Option ℕ). IfSome o (λ p. p < item_count t)) (sym x.parent) (parent_counted e (item_count t) i laid.counted (e.entry i).parent y.spelled);
    }

pub laid_end : (t : Table) (e : Entries) (i : ℕ) → IsLaidOut t e → AreEntries e → i < e.count → HasEnd t i
laid_end t e i laid are here =
    let h = has_name t e i laid are here in
    record { parents = h.parents; ends = leads_up t i h.parents h.chain; key = some_key t e i laid are here }

-- ---- the span of a hash

past_zero : (n a : ℕ) → 0 < n → cond (eqb n 0) 0 a ≡ a
past_zero n a some = ap (λ (b : Bool). cond b 0 a) (ne_eqb n 0 (omega (arith, some)))

start_at : (t : Table) (hash : ℕ) → 0 < bucket_count t → span_start t hash ≡ bucket t (hash % bucket_count t)
start_at t hash some = past_zero (bucket_count t) (bucket t (hash % bucket_count t)) some

end_at : (t : Table) (hash : ℕ) → 0 < bucket_count t → span_end t hash ≡ cond (nat_lt (hash % bucket_count t + 1) (bucket_count t) && nat_le (bucket t (hash % bucket_count t + 1)) (item_count t)) (bucket t (hash % bucket_count t + 1)) (item_count t)
end_at t hash some = past_zero (bucket_count t) _ some

-- where an item is before a number if there is a next bucket, and before another in any case
before_either : (b : Bool) (i a c : ℕ) → (b ≡ true → i < a) → i < c → i < cond b a c
before_either true i a c x y = x refl
before_either false i a c x y = y

-- what is said of the first of a bucket, in the table's own words
first_of : (t : Table) (e : Entries) (i : ℕ) → IsLaidOut t e → i < e.count → bucket t (hash_of (e.entry i).name % bucket_count t) ≤ i
first_of t e i laid here =
    subst (λ (n : ℕ). bucket t (hash_of (e.entry i).name % n) ≤ i) (sym laid.bucketed)
    (not_before_first e.count e.count (bucket_of e) (bucket t) laid.firsts i here (mod-lt (hash_of (e.entry i).name) {m = e.count} (omega (arith, here))))

next_of : (t : Table) (e : Entries) (i : ℕ) → IsLaidOut t e → i < e.count → hash_of (e.entry i).name % bucket_count t + 1 < bucket_count t → i < bucket t (hash_of (e.entry i).name % bucket_count t + 1)
next_of t e i laid here =
    subst (λ (n : ℕ). hash_of (e.entry i).name % n + 1 < n → i < bucket t (hash_of (e.entry i).name % n + 1)) (sym laid.bucketed)
    (λ more. before_next e.count e.count (bucket_of e) (bucket t) laid.firsts i here more)

in_span : (t : Table) (e : Entries) (i : ℕ) → IsLaidOut t e → i < e.count → InSpan t (hash_of (e.entry i).name) i
in_span t e i laid here =
    let h = hash_of (e.entry i).name in
    let b = laid.bucketed in
    let c = laid.counted in
    let some : 0 < bucket_count t = omega (arith, here, b) in
    let last : i < item_count t = omega (arith, here, c) in
    record {
      first = subst (λ (n : ℕ). n ≤ i) (sym (start_at t h some)) (first_of t e i laid here);
      before = subst (λ (n : ℕ). i < n) (sym (end_at t h some))
          (before_either _ i _ _ (λ both. next_of t e i laid here (ltb-true _ _ (and_parts _ _ both).0)) last);
    }

pub laid_in_span : (t : Table) (e : Entries) (i : ℕ) → IsLaidOut t e → i < e.count → InSpan t (item t i).hash i
laid_in_span t e i laid here = subst (λ h. InSpan t h i) (sym (laid.items i here).hash) (in_span t e i laid here)

pub laid_content : (t : Table) (e : Entries) (i : ℕ) → IsLaidOut t e → AreEntries e → i < e.count → HasContent t i
laid_content t e i laid are here =
    let x = laid.items i here in
    record {
      kind = subst (λ k. IsKind k) (sym x.of_kind) (are.each i here).of_kind;
      valid = x.valid;
      whole = λ list. x.whole (sym x.of_kind ∙ list);
    }

pub laid_once : (t : Table) (e : Entries) (i j : ℕ) (name : List ℕ) → IsLaidOut t e → AreEntries e → HasName t i name → HasName t j name → i ≡ j
laid_once t e i j name laid are h k =
    are.once i j (is_entry t e i name laid h) (is_entry t e j name laid k) (sym (name_is t e i name laid are h) ∙ name_is t e j name laid are k)

pub laid_hash : (t : Table) (e : Entries) (i : ℕ) (name : List ℕ) → IsLaidOut t e → AreEntries e → i < e.count → HasName t i name → (item t i).hash ≡ hash_of name
laid_hash t e i name laid are here h = (laid.items i here).hash ∙ ap hash_of (sym (name_is t e i name laid are h))

pub entry_at : (t : Table) (e : Entries) (i : ℕ) → IsLaidOut t e → i < item_count t → i < e.count
entry_at t e i laid here = subst (λ (n : ℕ). i < n) laid.counted here

-- the entries of a table in which they are laid out can be found by their names
pub laid_is_searchable : (t : Table) (e : Entries) → IsLaidOut t e → AreEntries e → IsSearchable t
laid_is_searchable t e laid are = record {
  buckets = laid_buckets t e laid;
  good_key = λ i here. laid_key t e i laid are (entry_at t e i laid here);
  chain = λ i here. laid_end t e i laid are (entry_at t e i laid here);
  hash = λ i here name h. laid_hash t e i name laid are (entry_at t e i laid here) h;
  in_span = λ i here. laid_in_span t e i laid (entry_at t e i laid here);
  in_bloom = λ i here. let x = laid.items i (entry_at t e i laid here) in subst (PassesBloom t) (sym x.hash) x.passes;
  once = λ i here name j h k before. let same = laid_once t e i j name laid are h k in omega (arith, same, before);
  content = λ i here. laid_content t e i laid are (entry_at t e i laid here);
}
