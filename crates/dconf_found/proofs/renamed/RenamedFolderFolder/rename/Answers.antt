use Rattle.std.proofs.Common.{◌∙◌, ap}
use Rattle.dconf_model.specs.Folders.{read_content}
use Rattle.dconf_found.specs.Renamed.{held_events, names_in}
use Rattle.dconf_found.proofs.RenamedLaws.{same_read}
use Rattle.dconf_found.proofs.renamed.RenamedFolderFolder.rename.Goals as goal

pub returns-clause-missing : goal.returns-clause-missing
returns-clause-missing g c honest es past none =
    let n = names_in c.args.self.now in
    c.rename.ensures.missing honest (held_events n es) past
    (ap (read_content (held_events n es)) c.held.ensures ∙ (same_read n es c.args.from.now ∙ none))
