use Rattle.std.proofs.Common.{ap, ◌∙◌}
use Rattle.dconf_roles.specs.Folders.{sources_in, up_to}
use Rattle.dconf_roles.proofs.FolderLaws.{first_sources, no_sources}
use Rattle.dconf_roles.proofs.folders.+sources_in.Goals as goal

pub returns-in-Some-clause-value : goal.returns-in-Some-clause-value
unfolding sources_in
returns-in-Some-clause-value t c =
    first_sources c.args.folders.now _ c.in-Some.others.now _ c.in-Some.ensures.cases.0
    (c.up_to.ensures ∙ ap (up_to c.in-Some.folder.now.text.now) c.sources_in.ensures.value)

pub returns-in-None-clause-value : goal.returns-in-None-clause-value
returns-in-None-clause-value t c = no_sources c.args.folders.now c.in-None.ensures.cases
