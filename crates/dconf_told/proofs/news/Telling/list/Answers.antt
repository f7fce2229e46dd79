use Rattle.std.proofs.Common.{◌≡◌, map}
use Rattle.std.specs.Prelude.{string_bytes}
use Rattle.std.specs.FinMap.{empty, keys}
use Rattle.std.proofs.lemmas.Result.{IfOk-weaker}
use Rattle.dconf_layers.specs.LayerSettings.{seen_in}
use Rattle.dconf_layers.specs.TextSets.{with_texts}
use Rattle.dconf_told.specs.Telling.{AreTold, named_otherwise}
use Rattle.dconf_told.proofs.TellingLaws.{told_list}
use Rattle.dconf_told.proofs.news.Telling.list.Goals as goal

pub returns : goal.returns
returns c =
    let l = seen_in c.args.self.before in
    let m = seen_in c.args.self.after in
    let asked = c.args.self.asked.now in
    let first : c.in_ok-paths.paths ≡ with_texts (named_otherwise l m asked) empty =
    c.in_ok-paths.ensures in
    IfOk-weaker c.list.result (λ v. map string_bytes v.items ≡ keys c.add_others.new.paths) (λ v. AreTold l m asked (map string_bytes v.items))
    (λ v e. told_list l m asked (map string_bytes c.args.others.now) c.requires c.in_ok-paths.paths c.add_others.new.paths first c.in_ok-add_others.ensures (map string_bytes v.items) e)
    c.list.ensures
