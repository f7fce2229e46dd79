-- One sort by part and key gives the groups: it keeps what ties in both, as a sort by key and then one by part do.
use Rattle.std.specs.Prelude.{◌≡◌, ◌+◌, ◌&&◌, Bool, true, false, not, List, [], ◌∷◌, map, refl}
use Rattle.std.specs.Cmp.{IsTotalOrder}
use Rattle.std.specs.Cmp.Lexicographic.{slice_cmp}
use Rattle.std.specs.List.{filter}
use Rattle.std.specs.List.Sorted.{IsSortedBy, IsStableBy, ties}
use Rattle.std.specs.Ordering.{nat_cmp, is_lt, ordering_reverse, ordering_then}
use Rattle.std.proofs.Common.{sym, ap, ◌∙◌, arith, get_or, subst, Ordering, Less, Equal, Greater}
use Rattle.std.proofs.lemmas.Cmp.{nat_list_cmp_total, then_total}
use Rattle.std.proofs.lemmas.List.{get_or-map, length-map}
use Rattle.std.proofs.lemmas.List.Sorted.{ranks_by}
use Rattle.dconf_model.specs.Keyfiles.{DumpRow as Dumped, in_groups, row_order}
use Rattle.dconf_model.specs.Order.{in_order}
use Rattle.dconf_model.proofs.DumpOrder.{dump_is_in_order}
use Rattle.dconf_model.proofs.OneSortedList.{in_order-map, one_sorted}
use Rattle.dconf_model.proofs.OrderLaws.{order_is_stable}
use Rattle.keyfile_core.specs.DumpRows.{dump_meant}
use Rattle.keyfile_core.specs.declared.dump_row.DumpRow.{DumpRow}

-- ---- what passes two tests

turned : (a b : Bool) → (a && b) ≡ (b && a)
turned true true = refl
turned true false = refl
turned false true = refl
turned false false = refl

module _ {X : Type 0} where
  pass_both : (p q : X → Bool) (xs : List X) → filter (λ x. p x && q x) xs ≡ filter q (filter p xs)
  pass_both p q [] = refl
  pass_both p q (x ∷ xs) = go (p x) (q x) refl refl (pass_both p q xs)
    where
      go : (a b : Bool) → p x ≡ a → q x ≡ b → filter (λ x. p x && q x) xs ≡ filter q (filter p xs) → filter (λ x. p x && q x) (x ∷ xs) ≡ filter q (filter p (x ∷ xs))
      go true true e f later = rw (e, f) (ap (λ l. x ∷ l) later)
      go true false e f later = rw (e, f) later
      go false b e f later = rw e later

  pass_turned : (p q : X → Bool) (xs : List X) → filter (λ x. p x && q x) xs ≡ filter p (filter q xs)
  pass_turned p q xs = (λ i. filter (λ x. turned (p x) (q x) i) xs) ∙ pass_both q p xs

-- ---- rows by part and key

abbrev part_cmp : DumpRow → DumpRow → Ordering
part_cmp x y = slice_cmp nat_cmp x.part.now y.part.now

abbrev key_cmp : DumpRow → DumpRow → Ordering
key_cmp x y = slice_cmp nat_cmp x.key.now y.key.now

abbrev pub goes_before : DumpRow → DumpRow → Bool
goes_before x y = is_lt (ordering_then (part_cmp x y) (key_cmp x y))

abbrev part_less : DumpRow → DumpRow → Bool
part_less x y = is_lt (part_cmp x y)

abbrev key_less : DumpRow → DumpRow → Bool
key_less x y = is_lt (key_cmp x y)

parts_rank : IsTotalOrder part_cmp
parts_rank = record {
  antisymm = λ x y. nat_list_cmp_total.antisymm x.part.now y.part.now;
  trans = λ x y z. nat_list_cmp_total.trans x.part.now y.part.now z.part.now;
  congr = λ x y z. nat_list_cmp_total.congr x.part.now y.part.now z.part.now;
}

keys_rank : IsTotalOrder key_cmp
keys_rank = record {
  antisymm = λ x y. nat_list_cmp_total.antisymm x.key.now y.key.now;
  trans = λ x y z. nat_list_cmp_total.trans x.key.now y.key.now z.key.now;
  congr = λ x y z. nat_list_cmp_total.congr x.key.now y.key.now z.key.now;
}

tie_of_both : (o p : Ordering) → (not (is_lt (ordering_then o p)) && not (is_lt (ordering_then (ordering_reverse o) (ordering_reverse p))))
    ≡ ((not (is_lt o) && not (is_lt (ordering_reverse o))) && (not (is_lt p) && not (is_lt (ordering_reverse p))))
tie_of_both Less Less = refl
tie_of_both Less Equal = refl
tie_of_both Less Greater = refl
tie_of_both Equal Less = refl
tie_of_both Equal Equal = refl
tie_of_both Equal Greater = refl
tie_of_both Greater Less = refl
tie_of_both Greater Equal = refl
tie_of_both Greater Greater = refl

ties_in_both : (x y : DumpRow) → ties goes_before x y ≡ (ties part_less x y && ties key_less x y)
ties_in_both x y = rw (parts_rank.antisymm y x, keys_rank.antisymm y x) (tie_of_both (part_cmp x y) (key_cmp x y))

abbrev by_key : List DumpRow → List DumpRow
by_key rows = in_order (λ r. r.key.now) rows

abbrev grouped : List DumpRow → List DumpRow
grouped rows = in_order (λ r. r.part.now) (by_key rows)

grouped_are : (rows : List DumpRow) → map dump_meant (grouped rows) ≡ in_groups (map dump_meant rows)
grouped_are rows =
    in_order-map dump_meant (λ r. r.part) (by_key rows) ∙ ap (in_order (λ r. r.part)) (in_order-map dump_meant (λ r. r.key) rows)

grouped_keep : (rows : List DumpRow) (x : DumpRow) → filter (ties goes_before x) (grouped rows) ≡ filter (ties goes_before x) rows
grouped_keep rows x =
    let p = ties part_less x in
    let q = ties key_less x in
    let parts = (order_is_stable (λ (r : DumpRow). r.part.now) (by_key rows)).stable x in
    let keys = (order_is_stable (λ (r : DumpRow). r.key.now) rows).stable x in
    (λ i. filter (λ y. ties_in_both x y i) (grouped rows)) ∙ pass_both p q (grouped rows) ∙ ap (filter q) parts
    ∙ sym (pass_both p q (by_key rows)) ∙ pass_turned p q (by_key rows) ∙ ap (filter p) keys ∙ sym (pass_turned p q rows)
    ∙ (λ i. filter (λ y. sym (ties_in_both x y) i) rows)

grouped_rise : (rows : List DumpRow) → IsSortedBy goes_before (grouped rows)
grouped_rise rows k d low high =
    let up = subst (λ (l : List Dumped). IsSortedBy (λ x y. is_lt (row_order x y)) l) (sym (grouped_are rows)) (dump_is_in_order (map dump_meant rows)) in
    let n = length-map (grouped rows) dump_meant in
    let law = up k (dump_meant d) low (omega (arith, high, n)) in
    let one = get_or-map dump_meant (grouped rows) k d (dump_meant d) (omega (arith, high)) in
    let next = get_or-map dump_meant (grouped rows) (k + 1) d (dump_meant d) (omega (arith, high)) in
    let same : is_lt (row_order (get_or (map dump_meant (grouped rows)) (k + 1) (dump_meant d)) (get_or (map dump_meant (grouped rows)) k (dump_meant d)))
    ≡ goes_before (get_or (grouped rows) (k + 1) d) (get_or (grouped rows) k d) = λ i. is_lt (row_order (next i) (one i)) in
    sym same ∙ law

pub sorted_are_in_groups : (old new : List DumpRow) → IsSortedBy goes_before new → IsStableBy goes_before old new → map dump_meant new ≡ in_groups (map dump_meant old)
sorted_are_in_groups old new up keeps =
    ap (map dump_meant) (one_sorted goes_before (ranks_by (then_total parts_rank keys_rank) (λ x. x)) new (grouped old) up (grouped_rise old) (λ x. keeps x ∙ sym (grouped_keep old x)))
    ∙ grouped_are old
