use Rattle.std.proofs.Common.{◌≡◌, ◌∙◌, ◌+◌, ◌*◌, ◌<◌, ◌≤◌, ◌++◌, ℕ, List, [], None, append-nil, ap, arith, map, subst, sym}
use Rattle.std.specs.Prelude.{IsTrue}
use Rattle.std.proofs.lemmas.Bool.{and_parts}
use Rattle.dconf_model.specs.Bytes.{u32_at}
use Rattle.dconf_model.specs.Paths.{ends_with_slash, is_path}
use Rattle.dconf_model.specs.Search.{Finds}
use Rattle.dconf_model.specs.Table.{list_kind}
use Rattle.dconf_path.specs.Paths.{directory_text}
use Rattle.gvdb_read.specs.Lookups.{IsItemListOf}
use Rattle.gvdb_read.specs.Tables.{region}
use Rattle.dconf_layers.specs.Children.{child_row, item_row}
use Rattle.dconf_layers.specs.LayerRows.{items_of}
use Rattle.dconf_layers.proofs.ChildLaws.{child_counted, list_children, no_children, no_row_left, one_row_more, listed_rows}
use Rattle.dconf_layers.proofs.layer.Layer.add_children.Goals as goal

pub returns-in_default : goal.returns-in_default
returns-in_default c =
    let l = c.args.self in
    let d = directory_text c.args.directory in
    let none = subst (λ (p : List ℕ). Finds (region l.values) p list_kind None) c.as_str.ensures c.in_default.ensures.none in
    let ends : IsTrue (ends_with_slash d) = (and_parts (is_path d) (ends_with_slash d) c.args.directory.is_of_directory).1 in
    ([], no_children l c.args.index d ends none, sym (append-nil (map child_row c.args.children.now.items)))

pub child-requires : goal.child-requires
child-requires c =
    let l = c.args.self in
    let list = c.in-Some.list in
    let is = subst (λ (p : List ℕ). IsItemListOf (region l.values) p list) c.as_str.ensures c.in-Some.ensures.found in
    let within : c.loop-k.k < list.len = omega (arith, c.loop-k-test.true, c.len-k-end.ensures) in
    subst (λ (i : ℕ). i < items_of l) (sym c.number.ensures) (child_counted l (directory_text c.args.directory) list c.loop-k.k is within)

pub loop-k-preserved : goal.loop-k-preserved
loop-k-preserved c =
    let l = c.args.self in
    let list = c.in-Some.list in
    let t = region l.values in
    let k = c.loop-k.k in
    let within : k < list.len = omega (arith, c.loop-k-test.true, c.len-k-end.ensures) in
    let number : c.number.result ≡ u32_at t.file (list.at + 4 * k) = c.number.ensures ∙ ap (λ (f : List ℕ). u32_at f (list.at + 4 * k)) c.in-Some.ensures.found.in_file in
    one_row_more c.args.index t list.at list.len k c.loop-k.children.items c.push.new.self.items c.child.result
    (map child_row c.args.children.now.items ++ listed_rows c.args.index t list.at list.len) within c.in_ok-push.ensures.items
    (c.child.ensures ∙ ap (item_row c.args.index t) number) c.loop-k.invariant

pub returns : goal.returns
returns c =
    let l = c.args.self in
    let list = c.in-Some.list in
    let t = region l.values in
    let d = directory_text c.args.directory in
    let is = subst (λ (p : List ℕ). IsItemListOf (region l.values) p list) c.as_str.ensures c.in-Some.ensures.found in
    let rows = listed_rows c.args.index t list.at list.len in
    let past : list.len ≤ c.loop-k.k = omega (arith, c.loop-k-test.false, c.len-k-end.ensures) in (
      rows,
      list_children l c.args.index d list is,
      no_row_left c.args.index t list.at list.len c.loop-k.k (map child_row c.loop-k.children.items) (map child_row c.args.children.now.items ++ rows) past c.loop-k.invariant,
    )
