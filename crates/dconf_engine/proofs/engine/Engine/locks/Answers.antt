use Rattle.std.proofs.Common.{◌≡◌, ◌∙◌, [], ap, arith, drop, map, sym, List}
use Rattle.std.specs.FinMap.{empty, keys}
use Rattle.std.proofs.Math.ListN.{drop_of_length-le}
use Rattle.std.proofs.lemmas.List.{nil_from_length}
use Rattle.std.proofs.lemmas.Result.{IfOk-weaker}
use Rattle.dconf_model.specs.Layers.{Layers, all_locks, locks_below}
use Rattle.dconf_path.specs.Paths.{directory_text}
use Rattle.dconf_layers.specs.declared.layer.Layer.{Layer}
use Rattle.dconf_layers.specs.LayerSettings.{settings_of}
use Rattle.dconf_layers.specs.LayerRows.{locks_under}
use Rattle.dconf_layers.specs.TextSets.{TextSet, with_texts}
use Rattle.dconf_layers.proofs.TextSetLaws.{keys_are_listed}
use Rattle.dconf_engine.specs.EngineLayers.{layers_of}
use Rattle.dconf_engine.proofs.engine.Engine.locks.Goals as goal

pub returns-in_default : goal.returns-in_default
returns-in_default c =
    let i = c.self.inside in
    let none : i.layers.items ≡ [] = sym c.deref.ensures.value ∙ nil_from_length c.deref.result.now c.in_default.ensures.cases in
    IfOk-weaker c.list.result _ _
    (λ v e. e ∙ (ap (λ (s : TextSet). keys s) c.new-paths.ensures ∙ (keys_are_listed []
    ∙ ap (λ (l : Layers). locks_below l (directory_text c.args.directory)) (ap (λ (ls : List Layer). layers_of i.changes ls i.writable) (sym none) ∙ c.self.view_is)))) c.list.ensures

pub loop-layer-init : goal.loop-layer-init
loop-layer-init c =
    let i = c.self.inside in
    let d = directory_text c.args.directory in
    let items = sym c.deref.ensures.value ∙ c.in-Some.ensures.cases.0 in
    ap (λ (l : Layers). with_texts (locks_under d (all_locks (drop 1 l.layers))) c.new-paths.result) (ap (λ (ls : List Layer). layers_of i.changes ls i.writable) (sym items) ∙ c.self.view_is)
    ∙ ap (with_texts (locks_under d (all_locks (drop 1 c.args.self.now.layers)))) c.new-paths.ensures

pub returns : goal.returns
returns c =
    let d = directory_text c.args.directory in
    let locks = locks_under d (all_locks (drop 1 c.args.self.now.layers)) in
    let all : c.loop-layer.paths ≡ with_texts locks empty =
    ap (λ (ls : List Layer). with_texts (locks_under d (all_locks (map settings_of ls))) c.loop-layer.paths) (sym (drop_of_length-le c.in-Some.later.now (omega (arith, c.loop-layer-test.false))))
    ∙ c.loop-layer.invariant in
    IfOk-weaker c.list-2.result _ _ (λ v e. e ∙ (ap (λ (s : TextSet). keys s) all ∙ keys_are_listed locks)) c.list-2.ensures
