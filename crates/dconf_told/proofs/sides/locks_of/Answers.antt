use Rattle.std.proofs.Common.{◌≡◌, ◌∙◌, ◌∷◌, [], ap, arith, drop, map, sym, List}
use Rattle.std.specs.FinMap.{empty, keys}
use Rattle.std.proofs.Math.ListN.{drop_of_length-le}
use Rattle.std.proofs.lemmas.List.{nil_from_length}
use Rattle.std.proofs.lemmas.Result.{IfOk-weaker}
use Rattle.dconf_model.specs.Layers.{all_locks}
use Rattle.dconf_layers.specs.declared.layer.Layer.{Layer}
use Rattle.dconf_layers.specs.LayerSettings.{settings_of}
use Rattle.dconf_layers.specs.LayerRows.{locks_under}
use Rattle.dconf_layers.specs.TextSets.{TextSet, with_texts}
use Rattle.dconf_layers.proofs.TextSetLaws.{keys_are_listed}
use Rattle.dconf_told.specs.Relocking.{locks_in}
use Rattle.dconf_told.proofs.RelockedLaws.{root_is_directory}
use Rattle.dconf_told.proofs.sides.locks_of.Goals as goal

pub unwrap-root-requires : goal.unwrap-root-requires
unwrap-root-requires c = c.parse.ensures.accepts.1 root_is_directory

pub returns-in_default : goal.returns-in_default
returns-in_default c =
    let none : c.args.layers.now ≡ [] = nil_from_length c.args.layers.now c.in_default.ensures.cases in
    IfOk-weaker c.list.result _ _
    (λ v e. e ∙ (ap (λ (s : TextSet). keys s) c.new-locks.ensures ∙ (keys_are_listed []
    ∙ ap (λ (ls : List Layer). locks_in (drop 1 (map settings_of ls))) (sym none)))) c.list.ensures

pub returns : goal.returns
returns c =
    let locks = all_locks (drop 1 (map settings_of c.args.layers.now)) in
    let all : c.loop-layer.locks ≡ with_texts (locks_under (47 ∷ []) locks) empty =
    ap (λ (ls : List Layer). with_texts (locks_under (47 ∷ []) (all_locks (map settings_of ls))) c.loop-layer.locks) (sym (drop_of_length-le c.in-Some.later.now (omega (arith, c.loop-layer-test.false))))
    ∙ c.loop-layer.invariant in
    IfOk-weaker c.list-2.result _ _ (λ v e. e ∙ (ap (λ (s : TextSet). keys s) all ∙ keys_are_listed (locks_under (47 ∷ []) locks))) c.list-2.ensures
