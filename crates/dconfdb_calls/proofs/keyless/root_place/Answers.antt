use Rattle.std.proofs.Common.{◌≡◌, ◌<◌, ◌≤◌, ◌∙◌, ℕ, refl, sym, ap, subst, arith}
use Rattle.dconf_model.specs.Bytes.{u32_at}
use Rattle.dconf_model.specs.Opening.{IsDatabase, root_of}
use Rattle.dconf_model.specs.Table.{Table, item_count}
use Rattle.gvdb_read.specs.Tables.{region}
use Rattle.dconfdb_calls.specs.Keyless.{IsFirstRoot}
use Rattle.dconfdb_calls.proofs.KeylessLaws.{below_end, end_of, inside_file}
use Rattle.dconfdb_calls.proofs.keyless.root_place.Goals as goal

pub overflow_sub-result-2 : goal.overflow_sub-result-2
overflow_sub-result-2 c =
    let root : region c.in-Ok.table ≡ root_of c.args.file.now = c.in-Ok.ensures.root in
    let opens : IsDatabase c.args.file.now = c.in-Ok.ensures.opens.0 refl in
    let count : c.n_items-count.result ≡ item_count (root_of c.args.file.now) = c.n_items-count.ensures ∙ ap (λ (t : Table). item_count t) root in
    let end : c.read_u32-end.result ≡ u32_at c.args.file.now 20 = end_of c.args.file.now c.read_u32-end.result opens.header c.read_u32-end.ensures in
    let below = below_end c.args.file.now c.read_u32-end.result c.n_items-count.result c.in-Some.at opens end count in
    omega (arith, below)

pub returns-clause-some : goal.returns-clause-some
returns-clause-some c =
    let root : region c.in-Ok.table ≡ root_of c.args.file.now = c.in-Ok.ensures.root in
    let opens : IsDatabase c.args.file.now = c.in-Ok.ensures.opens.0 refl in
    let count : c.n_items-count.result ≡ item_count (root_of c.args.file.now) = c.n_items-count.ensures ∙ ap (λ (t : Table). item_count t) root in
    let end : c.read_u32-end.result ≡ u32_at c.args.file.now 20 = end_of c.args.file.now c.read_u32-end.result opens.header c.read_u32-end.ensures in
    let few : c.n_items-count.result ≤ 2 = omega arith in
    record {
      opens = opens;
      few = subst (λ (n : ℕ). n ≤ 2) count few;
      index = c.in-Some.at;
      first = subst (λ (t : Table). IsFirstRoot t c.in-Some.at) root c.in-Some.ensures.some;
      place_is = cc;
    }

pub returns-clause-inside : goal.returns-clause-inside
returns-clause-inside c =
    let root : region c.in-Ok.table ≡ root_of c.args.file.now = c.in-Ok.ensures.root in
    let opens : IsDatabase c.args.file.now = c.in-Ok.ensures.opens.0 refl in
    let count : c.n_items-count.result ≡ item_count (root_of c.args.file.now) = c.n_items-count.ensures ∙ ap (λ (t : Table). item_count t) root in
    let end : c.read_u32-end.result ≡ u32_at c.args.file.now 20 = end_of c.args.file.now c.read_u32-end.result opens.header c.read_u32-end.ensures in
    let counted : c.in-Some.at < c.n_items-count.result = subst (λ (n : ℕ). c.in-Some.at < n) (sym c.n_items-count.ensures) c.in-Some.ensures.some.is_root.counted in
    let inside = inside_file c.args.file.now c.read_u32-end.result c.n_items-count.result c.in-Some.at opens end count counted in
    omega (arith, inside)
