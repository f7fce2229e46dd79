use Rattle.std.proofs.Common.{◌≡◌, ◌∙◌, ◌+◌, ◌*◌, ◌-◌, ◌<◌, ◌≤◌, ℕ, List, ap₂, arith, rules, subst, sym}
use Rattle.dconf_model.specs.Table.{item_count, items_start}
use Rattle.gvdb_read.specs.Tables.{region}
use Rattle.gvdb_alike.specs.SameBytes.{HaveOnePlace}
use Rattle.gvdb_alike.specs.Spans.{AreSameOutside, LiesOutside}
use Rattle.gvdb_alike.proofs.SameOutside.{items_at, same_records}
use Rattle.gvdb_alike.proofs.patch.Patch.of.Goals as goal

pub invariant_of-result : goal.invariant_of-result
invariant_of-result c =
    let t = region c.args.table in
    let u = region c.args.other in
    let place : HaveOnePlace t u = c.have_one_place.ensures (search rules) in
    let opens = c.bounds-start.ensures.opens in
    let first = c.differing-span.result.first in
    let last = c.differing-span.result.last in
    let first_item = c.items_in-first_item.result.0 in
    let end_item = c.items_in-first_item.result.1 in
    let items : c.bounds-start.result.1 - 24 * c.n_items.result ≡ items_start t = ap₂ (λ (e n : ℕ). e - 24 * n) c.bounds-start.ensures.end c.n_items.ensures ∙ items_at t opens in
    let files : AreSameOutside t.file u.file first last =
    subst (λ (g : List ℕ). AreSameOutside t.file g first last) c.file-2.ensures
    (subst (λ (f : List ℕ). AreSameOutside f c.file-2.result.now first last) c.file.ensures c.differing-span.ensures) in
    let head : LiesOutside first last c.bounds-start.result.0 (c.bounds-start.result.1 - 24 * c.n_items.result) = c.is_outside.ensures (search rules) in
    let out : LiesOutside first last t.start (items_start t) =
    subst (λ (n : ℕ). LiesOutside first last t.start n) items (subst (λ (n : ℕ). LiesOutside first last n (c.bounds-start.result.1 - 24 * c.n_items.result)) c.bounds-start.ensures.start head) in
    let before : (i : ℕ) → i < first_item → items_start t + 24 * i + 24 ≤ first =
    λ i lt. let le = c.items_in-first_item.ensures.before i lt in omega (arith, le, items) in
    let after : (i : ℕ) → i < item_count t → end_item ≤ i → last < items_start t + 24 * i =
    λ i here ge.
    let lt = c.items_in-first_item.ensures.after i (subst (λ (n : ℕ). i < n) (sym c.n_items-2.ensures) here) ge in
    omega (arith, lt, items) in
    let both = same_records t u first last first_item end_item opens files place.len place.start place.end out before after in
    record { head = λ _. both.0; records = both.1 }
