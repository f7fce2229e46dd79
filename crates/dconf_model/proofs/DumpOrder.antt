-- A dump is in the order of groups, and in each of keys.
use Rattle.std.specs.Prelude.{◌≡◌, ℕ, ◌+◌, Bool, true, false, List, refl, slice_index_or}
use Rattle.std.specs.List.Sorted.{ties}
use Rattle.std.specs.Ordering.{nat_cmp, is_lt, ordering_then}
use Rattle.std.specs.Cmp.Lexicographic.{slice_cmp}
use Rattle.std.proofs.Common.{Ordering, Less, Equal, Greater}
use Rattle.std.proofs.lemmas.Bool.{true≢false}
use Rattle.std.proofs.lemmas.Cmp.{nat_list_cmp_total, tied_back}
use Rattle.std.proofs.lemmas.List.Sorted.{ranks_by, ties_stay_sorted}
use Rattle.dconf_model.specs.Order.{in_order}
use Rattle.dconf_model.specs.Keyfiles.{DumpRow, in_groups, DumpIsInOrder}
use Rattle.dconf_model.proofs.OrderLaws.{order_is_stable}

abbrev less_by : (DumpRow → List ℕ) → DumpRow → DumpRow → Bool
less_by name x y = is_lt (slice_cmp nat_cmp (name x) (name y))

same_part : (x y : DumpRow) → slice_cmp nat_cmp y.part x.part ≡ Equal → ties (less_by (λ r. r.part)) x y ≡ true
same_part x y e = rw (e, tied_back nat_list_cmp_total y.part x.part e) refl

by_both : (o p : Ordering) → is_lt o ≡ false → (o ≡ Equal → is_lt p ≡ false) → is_lt (ordering_then o p) ≡ false
by_both Less p e later = absurd (true≢false e)
by_both Equal p e later = later refl
by_both Greater p e later = refl

pub dump_is_in_order : DumpIsInOrder
dump_is_in_order rows k d low high =
    let by_key : List DumpRow = in_order (λ r. r.key) rows in
    let keys = order_is_stable (λ r. r.key) rows in
    let parts = order_is_stable (λ r. r.part) by_key in
    let x : DumpRow = slice_index_or (in_groups rows) k d in
    let y : DumpRow = slice_index_or (in_groups rows) (k + 1) d in
    by_both (slice_cmp nat_cmp y.part x.part) (slice_cmp nat_cmp y.key x.key) (parts.sorted k d low high)
    (λ e. ties_stay_sorted (less_by (λ r. r.key)) (less_by (λ r. r.part)) (ranks_by nat_list_cmp_total (λ r. r.key)) (ranks_by nat_list_cmp_total (λ r. r.part))
    by_key (in_groups rows) keys.sorted parts.stable k d high (same_part x y e))
