use Rattle.std.proofs.Common.{◌≡◌, ◌∙◌, Bor, List, ap, arith, map, sym, ℕ}
use Rattle.std.specs.Prelude.{string_bytes}
use Rattle.std.specs.FinMap.{empty}
use Rattle.std.proofs.Math.ListN.{drop_of_length-le}
use Rattle.std.proofs.lemmas.Result.{IfOk-weaker}
use Rattle.dconf_layers.specs.LayerSettings.{settings_of}
use Rattle.dconf_layers.specs.TextSets.{with_texts}
use Rattle.dconf_told.specs.Own.{each_of, own_of}
use Rattle.dconf_told.proofs.OwnLaws.{own_list}
use Rattle.dconf_told.proofs.own.own_keys.Goals as goal

pub returns : goal.returns
returns c =
    let l = map settings_of c.args.before.now in
    let m = map settings_of c.args.after.now in
    let edits = c.args.edits.now in
    let all : c.loop-edit.keys ≡ with_texts (own_of l m (each_of edits)) empty =
    ap (λ (left : List (Bor (List ℕ))). with_texts (own_of l m (each_of left)) c.loop-edit.keys) (sym (drop_of_length-le edits (omega (arith, c.loop-edit-test.false)))) ∙ c.loop-edit.invariant in
    IfOk-weaker c.list.result _ _ (λ v e. own_list l m (each_of edits) c.loop-edit.keys (map string_bytes v.items) all e) c.list.ensures
