use Rattle.std.specs.Prelude.{map, string_bytes}
use Rattle.std.proofs.Common.{◌≡◌, ◌∙◌, ℕ, List, ap}
use Rattle.std.specs.declared.alloc.Global.{Global}
use Rattle.std.specs.declared.string.String.{String}
use Rattle.std.proofs.lemmas.Result.{IfOk-weaker}
use Rattle.dconf_layers.specs.LayerSettings.{settings_of}
use Rattle.dconf_told.specs.Own.{AreOwn, each_of}
use Rattle.dconf_told.specs.Telling.{ended}
use Rattle.dconf_told.proofs.own.own_texts.Goals as goal

pub returns : goal.returns
returns c =
    let l = map settings_of c.args.before.now in
    let m = map settings_of c.args.after.now in
    IfOk-weaker c.texts_of.result (λ all. all.items ≡ ended (map string_bytes c.as_slice.result.now))
    (λ all. (paths : List (List ℕ)) × AreOwn l m (each_of c.args.edits.now) paths × (all.items ≡ ended paths))
    (λ all e. (map string_bytes c.in_ok-paths.paths.items, c.in_ok-paths.ensures, e ∙ ap (λ (ts : List (String Global)). ended (map string_bytes ts)) c.as_slice.ensures.value))
    c.texts_of.ensures
