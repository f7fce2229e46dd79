use Rattle.std.proofs.Common.{◌≡◌, ◌∙◌, ℕ, IfOk, IsErrOf, List, Option, ap, option_map, subst}
use Rattle.dconf_model.specs.Folders.{read_content}
use Rattle.dconf_model.specs.Reads.{IsOverSize}
use Rattle.dconf_folders.specs.declared.fault.FolderFault.{FolderFault}
use Rattle.dconf_found.specs.Renamed.{held_events, names_in}
use Rattle.dconf_found.proofs.RenamedLaws.{same_read}
use Rattle.dconf_found.proofs.renamed.RenamedFolderFolder.read.Goals as goal

pub returns-clause-bytes : goal.returns-clause-bytes
returns-clause-bytes g c honest es past =
    let n = names_in c.args.self.now in
    subst (λ (held : Option (List ℕ)). IfOk c.read.result (λ found. option_map (λ v. v.items) found ≡ held))
    (ap (read_content (held_events n es)) c.held.ensures ∙ same_read n es c.args.name.now) (c.read.ensures.bytes honest (held_events n es) past)

pub returns-clause-too_big : goal.returns-clause-too_big
returns-clause-too_big g c honest es past big =
    let n = names_in c.args.self.now in
    subst IsOverSize (ap (read_content (held_events n es)) c.held.ensures ∙ same_read n es c.args.name.now)
    (c.read.ensures.too_big honest (held_events n es) past big)
