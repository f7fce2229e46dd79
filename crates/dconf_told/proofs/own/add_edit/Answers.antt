use Rattle.std.proofs.Common.{◌∙◌, List, ap, map, refl, ℕ}
use Rattle.std.proofs.lemmas.Result.{on_ok_weaker}
use Rattle.dconf_model.proofs.PathMaps.{no_truth}
use Rattle.dconf_layers.specs.LayerSettings.{settings_of}
use Rattle.dconf_layers.specs.TextSets.{with_text, with_texts}
use Rattle.dconf_told.specs.Own.{below_in}
use Rattle.dconf_told.proofs.OwnLaws.{of_directory, of_key, of_none}
use Rattle.dconf_told.proofs.own.add_edit.Goals as goal

pub returns-in-Some : goal.returns-in-Some
returns-in-Some c =
    let l = map settings_of c.args.before.now in
    let m = map settings_of c.args.after.now in
    let edit = c.args.edit.now in
    on_ok_weaker c.add.result
    (λ e. e ∙ (ap (with_text c.args.keys.now) (c.as_str.ensures ∙ c.in-Some.ensures.path) ∙ of_key l m edit c.args.keys.now (c.in-Some.ensures.some.0 refl))) c.add.ensures

pub returns-in-Some-directory_of : goal.returns-in-Some-directory_of
returns-in-Some-directory_of c =
    let l = map settings_of c.args.before.now in
    let m = map settings_of c.args.after.now in
    let edit = c.args.edit.now in
    on_ok_weaker c.add_both.result
    (λ e. e ∙ (ap (λ (d : List ℕ). with_texts (below_in l m d) c.args.keys.now) c.in-Some-directory_of.ensures.path
    ∙ of_directory l m edit c.args.keys.now (c.in-Some-directory_of.ensures.some.0 refl))) c.add_both.ensures

pub returns-in-None-directory_of : goal.returns-in-None-directory_of
returns-in-None-directory_of c =
    of_none (map settings_of c.args.before.now) (map settings_of c.args.after.now) c.args.edit.now c.args.keys.now
    (λ key. no_truth (c.in-None.ensures.some.1 key))
    (λ directory. no_truth (c.in-None-directory_of.ensures.some.1 directory))
