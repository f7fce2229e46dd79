use Rattle.std.proofs.Common.{◌≡◌, ◌∙◌, ap, ℕ, rules}
use Rattle.std.specs.FinMap.{keys}
use Rattle.dconf_model.specs.Locks.{is_below}
use Rattle.dconf_path.specs.Paths.{directory_text}
use Rattle.dconf_layers.specs.LayerSettings.{locks_of, settings_of}
use Rattle.dconf_layers.specs.LayerRows.{lock_count, locks_under}
use Rattle.dconf_layers.specs.TextSets.{with_texts}
use Rattle.dconf_layers.proofs.LockNameLaws.{locks_of_layer, lock_names}
use Rattle.dconf_layers.proofs.TextSetLaws.{passing_alike}
use Rattle.dconf_layers.proofs.layer.Layer.add_locks.Goals as goal

pub returns : goal.returns
returns c =
    let d = directory_text c.args.directory in
    let locks = locks_of c.args.self in
    let all : c.loop-i.i ≡ lock_count locks = search rules in
    c.loop-i.invariant ∙ (ap (λ (n : ℕ). with_texts (locks_under d (lock_names locks n)) c.args.paths.now) all
    ∙ passing_alike (λ lock. is_below lock d) (lock_names locks (lock_count locks)) (keys (settings_of c.args.self).locks) c.args.paths.now (locks_of_layer c.args.self))
