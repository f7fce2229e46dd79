use Rattle.std.proofs.Common.{◌≡◌, true, false, inl, inr}
use Rattle.std.proofs.lemmas.Bool.Decides.{Decides-eqb}
use Rattle.std.proofs.lemmas.Slice.Eq.{slice_eq-Decides}
use Rattle.gv_model.specs.Ty.Basic.{path}
use Rattle.gv_view.specs.Views.{view_ty, view_bytes}
use Rattle.gv_view.specs.Children.{children_left}
use Rattle.gv_view.proofs.EntryLemmas.{has_first, key_first, has_key, key_is}
use Rattle.dconfdb_values.proofs.PathEntries.{found_value}
use Rattle.dconfdb_values.proofs.entries.value_under.Goals as goal

pub returns-in_err-next : goal.returns-in_err-next
returns-in_err-next c = absurd (has_first path (view_ty c.args.entry) (view_bytes c.args.entry) (children_left c.children-members.result) c.requires c.children-members.ensures c.in_err-next.ensures.steps.0)

pub returns-in_err-name : goal.returns-in_err-name
returns-in_err-name c =
    let m = key_first path (view_ty c.args.entry) (view_bytes c.args.entry) (children_left c.children-members.result) (children_left c.next.new.self) c.in_ok-next.field-0 c.requires c.children-members.ensures c.in_ok-next.ensures.steps in
    let some : false ≡ true = c.in_err-name.ensures.some.1 (inr (inl m.type)) in
    absurd cc

pub returns-then-eq : goal.returns-then-eq
returns-then-eq c =
    let d = view_ty c.args.entry in
    let b = view_bytes c.args.entry in
    let rest = children_left c.next.new.self in
    let m = key_first path d b (children_left c.children-members.result) rest c.in_ok-next.field-0 c.requires c.children-members.ensures c.in_ok-next.ensures.steps in
    let same = (slice_eq-Decides Decides-eqb _ _ _ c.eq.ensures).0 c.if-eq.true in
    let key = has_key path d b c.in_ok-next.field-0 rest c.in_ok-name.name.now c.args.key.now m c.in_ok-name.ensures.value same in
    found_value c.args.entry c.in_ok-next.field-0 rest c.args.key.now c.next-then-eq.result (children_left c.next-then-eq.new.self) m key c.next-then-eq.ensures.steps

pub returns-else-eq : goal.returns-else-eq
returns-else-eq c =
    let d = view_ty c.args.entry in
    let b = view_bytes c.args.entry in
    let rest = children_left c.next.new.self in
    let m = key_first path d b (children_left c.children-members.result) rest c.in_ok-next.field-0 c.requires c.children-members.ensures c.in_ok-next.ensures.steps in
    λ has.
    let same = key_is path d b c.in_ok-next.field-0 rest c.in_ok-name.name.now c.args.key.now m c.in_ok-name.ensures.value has in
    let yes : c.eq.result ≡ true = (slice_eq-Decides Decides-eqb _ _ _ c.eq.ensures).1 same in
    let other : c.eq.result ≡ false = c.if-eq.false in
    cc
