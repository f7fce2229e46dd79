use Rattle.std.proofs.Common.{◌∙◌, ◌++◌, ◌+◌, ◌<◌, ◌≤◌, List, [], ◌∷◌, append-nil, append_assoc, ap, arith, drop, get_or, length, map, subst, sym}
use Rattle.std.proofs.lemmas.List.{drop_all, drop_more, length-map}
use Rattle.dconf_model.specs.Settings.{Settings, no_settings}
use Rattle.dconf_path.specs.Paths.{directory_text}
use Rattle.dconf_layers.specs.Children.{AreChildren, ChildRow, child_row}
use Rattle.dconf_layers.specs.LayerSettings.{settings_of}
use Rattle.dconf_layers.proofs.ChildLaws.{no_layers, one_layer_more}
use Rattle.dconf_layers.proofs.Levels.{layer_lent}
use Rattle.dconf_layers.proofs.lent.LentLayers.listed.Goals as goal

pub loop-i-preserved : goal.loop-i-preserved
loop-i-preserved c later are =
    let layers = c.args.self.layers.now in
    let all : List Settings = map settings_of layers in
    let d = directory_text c.args.directory in
    let i = c.loop-i.i in
    let n = length-map layers settings_of in
    let within : i < length all = let test = c.loop-i-test.true in omega (arith, n, test) in
    let here = c.in_ok-add_children.ensures in
    let first = subst (λ (s : Settings). AreChildren i (s ∷ []) d here.0) (layer_lent layers i c.index-self-i.result within) here.1 in
    let both = one_layer_more i (get_or all i no_settings) (drop (i + 1) all) d here.0 later first are in
    subst (AreChildren 0 all d) (sym (ap (λ (l : List ChildRow). l ++ later) here.2 ∙ append_assoc (map child_row c.loop-i.children.items) here.0 later))
    (c.loop-i.invariant (here.0 ++ later) (subst (λ (ss : List Settings). AreChildren i ss d (here.0 ++ later)) (sym (drop_more all i no_settings within)) both))

pub returns : goal.returns
returns c =
    let layers = c.args.self.layers.now in
    let all : List Settings = map settings_of layers in
    let d = directory_text c.args.directory in
    let i = c.loop-i.i in
    let n = length-map layers settings_of in
    let past : length all ≤ i = let test = c.loop-i-test.false in omega (arith, n, test) in
    subst (AreChildren 0 all d) (append-nil (map child_row c.loop-i.children.items))
    (c.loop-i.invariant [] (subst (λ (ss : List Settings). AreChildren i ss d []) (sym (drop_all i all past)) (no_layers i d)))
