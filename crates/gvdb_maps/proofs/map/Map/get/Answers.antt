use Rattle.std.proofs.Common.{◌≡◌, ◌∙◌, ap, sym, List, ℕ, Some, None, option_map, Vec}
use Rattle.std.specs.declared.alloc.Global.{Global}
use Rattle.std.specs.BTreeMap.{get_by_text}
use Rattle.std.specs.FinMap.{get}
use Rattle.dconf_model.specs.Settings.{Settings}
use Rattle.gvdb_maps.proofs.Read.{get_values}
use Rattle.gvdb_maps.proofs.map.Map.get.Goals as goal

pub returns-in-Some : goal.returns-in-Some
returns-in-Some c =
    let m = c.self.inside.values in
    let path = c.as_str.result.now in
    let found : Some c.in-Some.value.now ≡ get_by_text m path = c.in-Some.ensures.value in
    ap (λ (x : List ℕ). Some x) c.as_slice.ensures.value ∙ ap (option_map (λ (w : Vec ℕ Global). w.items)) found ∙ sym (get_values m path)
    ∙ ap (λ (s : Settings). get s.values path) c.self.view_is ∙ ap (get c.args.self.now.values) c.as_str.ensures

pub returns-in-None : goal.returns-in-None
returns-in-None c =
    let m = c.self.inside.values in
    let path = c.as_str.result.now in
    let found : None ≡ get_by_text m path = c.in-None.ensures.value in
    ap (option_map (λ (w : Vec ℕ Global). w.items)) found ∙ sym (get_values m path)
    ∙ ap (λ (s : Settings). get s.values path) c.self.view_is ∙ ap (get c.args.self.now.values) c.as_str.ensures
