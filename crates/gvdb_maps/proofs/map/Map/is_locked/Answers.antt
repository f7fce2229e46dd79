use Rattle.std.proofs.Common.{◌∙◌, ap, sym, List, ℕ}
use Rattle.std.specs.FinMap.{contains_key}
use Rattle.dconf_model.specs.Settings.{Settings}
use Rattle.gvdb_maps.proofs.Read.{contains_locks}
use Rattle.gvdb_maps.proofs.map.Map.is_locked.Goals as goal

pub returns : goal.returns
returns c =
    let path = c.as_str.result.now in
    c.contains.ensures ∙ sym (contains_locks c.self.inside.locks path) ∙ ap (λ (s : Settings). contains_key s.locks path) c.self.view_is
    ∙ ap (λ (p : List ℕ). contains_key c.args.self.now.locks p) c.as_str.ensures
