use Rattle.std.proofs.Common.{ap, map, ◌∙◌}
use Rattle.dconf_roles.specs.Folders.{role_in}
use Rattle.dconf_roles.specs.declared.slips.Name.{Name}
use Rattle.dconf_roles.proofs.FolderLaws.{first_folder, no_folders}
use Rattle.dconf_roles.proofs.folders.+role_in.Goals as goal

pub returns-in-Some : goal.returns-in-Some
unfolding role_in
returns-in-Some t c =
    first_folder c.args.folders.now _ c.in-Some.others.now c.args.role _ c.in-Some.ensures.cases.0
    (c.role_in.ensures ∙ ap (role_in (map (λ (f : Name). f.text.now) c.in-Some.others.now)) c.in_folder.ensures)

pub returns-in-None : goal.returns-in-None
returns-in-None t c = no_folders c.args.folders.now c.args.role c.in-None.ensures.cases
