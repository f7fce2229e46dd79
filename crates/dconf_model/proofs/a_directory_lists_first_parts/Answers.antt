use Rattle.dconf_model.proofs.ListedParts.{lists_first_parts, lists_texts, lists_parts_once}
use Rattle.dconf_model.proofs.a_directory_lists_first_parts.Goals as goal

pub returns-clause-parts : goal.returns-clause-parts
returns-clause-parts c = lists_first_parts

pub returns-clause-texts : goal.returns-clause-texts
returns-clause-texts c = lists_texts

pub returns-clause-once : goal.returns-clause-once
returns-clause-once c = lists_parts_once
