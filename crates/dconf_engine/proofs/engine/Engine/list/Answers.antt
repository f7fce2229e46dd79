use Rattle.std.proofs.Common.{◌≡◌, ◌∙◌, ◌∷◌, [], ap, arith, map, sym, List}
use Rattle.std.specs.FinMap.{empty, entries, keys}
use Rattle.std.proofs.Math.ListN.{drop_of_length-le}
use Rattle.std.proofs.lemmas.List.Sums.{fold-append}
use Rattle.std.proofs.lemmas.List.{nil_from_length}
use Rattle.std.proofs.lemmas.Result.{IfOk-weaker}
use Rattle.dconf_model.specs.Layers.{Layers, all_paths, child_names, parts_below}
use Rattle.dconf_path.specs.Paths.{directory_text}
use Rattle.dconf_layers.specs.declared.layer.Layer.{Layer}
use Rattle.dconf_layers.specs.LayerSettings.{settings_of}
use Rattle.dconf_layers.specs.TextSets.{TextSet, with_child, with_children, with_texts}
use Rattle.dconf_layers.proofs.TextSetLaws.{children_are, keys_are_listed}
use Rattle.dconf_engine.specs.EngineLayers.{layers_of}
use Rattle.dconf_engine.specs.LeftPaths.{with_set_children}
use Rattle.dconf_engine.specs.Unsaved.{with_changes}
use Rattle.dconf_engine.proofs.LeftLaws.{both_taken}
use Rattle.dconf_engine.proofs.engine.Engine.list.Goals as goal

pub returns-in_default : goal.returns-in_default
returns-in_default c =
    let i = c.self.inside in
    let d = directory_text c.args.directory in
    let none : i.layers.items ≡ [] = sym c.deref.ensures.value ∙ nil_from_length c.deref.result.now c.in_default.ensures.cases in
    IfOk-weaker c.list.result _ _
    (λ v e. e ∙ (ap (λ (s : TextSet). keys s) c.new-names.ensures ∙ (keys_are_listed []
    ∙ ap (λ (l : Layers). child_names l d) (ap (λ (ls : List Layer). layers_of i.changes ls i.writable) (sym none) ∙ c.self.view_is)))) c.list.ensures

pub loop-layer-init : goal.loop-layer-init
loop-layer-init c =
    let i = c.self.inside in
    let d = directory_text c.args.directory in
    let first = c.in-Some.first.now in
    let others = c.in-Some.others.now in
    let names = c.new-names.result in
    let items : i.layers.items ≡ first ∷ others = sym c.deref.ensures.value ∙ c.in-Some.ensures.cases.0 in
    ap (with_children d (all_paths (map settings_of others)))
    (c.in_ok-add_sets.ensures ∙ (ap (with_set_children d (entries i.changes)) c.in_ok-add_file.ensures ∙ both_taken d i.changes first names))
    ∙ (sym (fold-append (with_child d) names (keys (with_changes i.changes (settings_of first).values)) (all_paths (map settings_of others)))
    ∙ (ap (λ (l : Layers). with_children d (all_paths l.layers) names) (ap (λ (ls : List Layer). layers_of i.changes ls i.writable) (sym items) ∙ c.self.view_is)
    ∙ ap (with_children d (all_paths c.args.self.now.layers)) c.new-names.ensures))

pub returns : goal.returns
returns c =
    let d = directory_text c.args.directory in
    let paths = all_paths c.args.self.now.layers in
    let others = c.in-Some.others.now in
    let all : c.loop-layer.names ≡ with_texts (parts_below d paths) empty =
    ap (λ (ls : List Layer). with_children d (all_paths (map settings_of ls)) c.loop-layer.names) (sym (drop_of_length-le others (omega (arith, c.loop-layer-test.false))))
    ∙ (c.loop-layer.invariant ∙ children_are d paths empty) in
    IfOk-weaker c.list-2.result _ _ (λ v e. e ∙ (ap (λ (s : TextSet). keys s) all ∙ keys_are_listed (parts_below d paths))) c.list-2.ensures
