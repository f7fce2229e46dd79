use Rattle.std.proofs.Common.{◌≡◌, ◌∙◌, ◌+◌, ◌*◌, ◌<◌, ◌≤◌, [], ap, subst, sym, ℕ, List, None, arith}
use Rattle.std.specs.FinMap.{keys}
use Rattle.std.specs.Prelude.{IsTrue}
use Rattle.std.proofs.lemmas.Bool.{and_parts}
use Rattle.dconf_model.specs.Layers.{parts_below}
use Rattle.dconf_model.specs.Paths.{is_path, ends_with_slash}
use Rattle.dconf_model.specs.Search.{Finds}
use Rattle.dconf_model.specs.Bytes.{u32_at}
use Rattle.dconf_model.specs.Table.{key, list_kind}
use Rattle.dconf_path.specs.Paths.{directory_text}
use Rattle.gvdb_read.specs.Lookups.{IsItemListOf}
use Rattle.gvdb_read.specs.Tables.{region}
use Rattle.dconf_layers.specs.Children.{names_of}
use Rattle.dconf_layers.specs.LayerRows.{items_of}
use Rattle.dconf_layers.specs.LayerSettings.{locks_of, settings_of}
use Rattle.dconf_layers.specs.TextSets.{with_texts}
use Rattle.dconf_layers.proofs.ChildLaws.{child_counted, list_names, no_name_left, one_name_more, listed_rows}
use Rattle.dconf_layers.proofs.ListedNames.{not_listed_in}
use Rattle.dconf_layers.proofs.TextSetLaws.{children_are, texts_alike}
use Rattle.dconf_layers.proofs.layer.Layer.add_listed.Goals as goal

pub returns-in_default : goal.returns-in_default
returns-in_default c =
    let l = c.args.self in
    let d = directory_text c.args.directory in
    let paths = keys (settings_of l).values in
    let none = subst (λ (p : List ℕ). Finds (region l.values) p list_kind None) c.as_str.ensures c.in_default.ensures.none in
    let ends : IsTrue (ends_with_slash d) = (and_parts (is_path d) (ends_with_slash d) c.args.directory.is_of_directory).1 in
    texts_alike [] (parts_below d paths) c.args.names.now (λ t. not_listed_in l.values (locks_of l) d t l.sound ends none) ∙ sym (children_are d paths c.args.names.now)

pub key-requires : goal.key-requires
key-requires c =
    let l = c.args.self in
    let list = c.in-Some.list in
    let is = subst (λ (p : List ℕ). IsItemListOf (region l.values) p list) c.as_str.ensures c.in-Some.ensures.found in
    let within : c.loop-i.i < list.len = omega (arith, c.loop-i-test.true, c.len-i-end.ensures) in
    subst (λ (i : ℕ). i < items_of l) (sym c.number.ensures) (child_counted l (directory_text c.args.directory) list c.loop-i.i is within)

pub loop-i-preserved : goal.loop-i-preserved
loop-i-preserved c =
    let l = c.args.self in
    let list = c.in-Some.list in
    let t = region l.values in
    let i = c.loop-i.i in
    let within : i < list.len = omega (arith, c.loop-i-test.true, c.len-i-end.ensures) in
    let number : c.number.result ≡ u32_at t.file (list.at + 4 * i) = c.number.ensures ∙ ap (λ (f : List ℕ). u32_at f (list.at + 4 * i)) c.in-Some.ensures.found.in_file in
    one_name_more 0 t list.at list.len i c.loop-i.names c.add_with_room.new.self c.key.result.now (with_texts (names_of (listed_rows 0 t list.at list.len)) c.args.names.now) within
    c.in_ok-add_with_room.ensures (c.key.ensures ∙ ap (key t) number) c.loop-i.invariant

pub returns : goal.returns
returns c =
    let l = c.args.self in
    let list = c.in-Some.list in
    let t = region l.values in
    let d = directory_text c.args.directory in
    let old = c.args.names.now in
    let paths = keys (settings_of l).values in
    let rows = listed_rows 0 t list.at list.len in
    let is = subst (λ (p : List ℕ). IsItemListOf (region l.values) p list) c.as_str.ensures c.in-Some.ensures.found in
    let past : list.len ≤ c.loop-i.i = omega (arith, c.loop-i-test.false, c.len-i-end.ensures) in
    no_name_left 0 t list.at list.len c.loop-i.i c.loop-i.names (with_texts (names_of rows) old) past c.loop-i.invariant
    ∙ (texts_alike (names_of rows) (parts_below d paths) old (λ part. list_names l 0 d list part is) ∙ sym (children_are d paths old))
