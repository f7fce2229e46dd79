use Rattle.std.proofs.Common.{List, rules}
use Rattle.dconf_model.specs.Folders.{Event}
use Rattle.dconf_model.specs.Replacing.{MaybeReplaced}
use Rattle.dconf_folders.proofs.Results.{always_err}
use Rattle.dconf_disk.proofs.DrivingLaws.{as_it_was}
use Rattle.dconf_disk.proofs.replacement.replace.Goals as goal

pub returns-in_err-new-clause-err : goal.returns-in_err-new-clause-err
returns-in_err-new-clause-err g c es k =
    let name = c.args.name.now in
    let bytes = c.args.bytes.now in
    always_err c.from_residual.result ((x : List Event) × g.F.Folder.past c.args.folder.now x × MaybeReplaced es x name bytes) (es, k, as_it_was es name bytes)

pub returns-in_err-push_str-clause-err : goal.returns-in_err-push_str-clause-err
returns-in_err-push_str-clause-err g c es k =
    let name = c.args.name.now in
    let bytes = c.args.bytes.now in
    always_err c.from_residual-in_err-push_str.result ((x : List Event) × g.F.Folder.past c.args.folder.now x × MaybeReplaced es x name bytes) (es, k, as_it_was es name bytes)

pub returns-clause-events : goal.returns-clause-events
returns-clause-events g c = search rules

pub returns-clause-ok : goal.returns-clause-ok
returns-clause-ok g c = search rules

pub returns-clause-err : goal.returns-clause-err
returns-clause-err g c = search rules
