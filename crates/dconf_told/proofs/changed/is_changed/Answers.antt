use Rattle.dconf_layers.specs.LayerSettings.{seen_in}
use Rattle.dconf_told.proofs.ChangedLaws.{changed_is}
use Rattle.dconf_told.proofs.changed.is_changed.Goals as goal

pub returns : goal.returns
returns c =
    changed_is c.args.same_others (seen_in c.args.before) (seen_in c.args.after) c.args.files_before.now c.args.files_after.now c.any_of.result
    c.is_other-writer.result c.are_other_files-files.result c.in_ok-locks.locks c.in_ok-keys.keys
    c.any_of.ensures c.is_other-writer.ensures c.are_other_files-files.ensures c.in_ok-locks.ensures c.in_ok-keys.ensures
