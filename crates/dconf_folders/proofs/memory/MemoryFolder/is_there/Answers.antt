use Rattle.std.proofs.Common.{sym, ◌∙◌}
use Rattle.dconf_folders.proofs.ReadLemmas.{is_there}
use Rattle.dconf_folders.proofs.memory.MemoryFolder.is_there.Goals as goal

pub returns : goal.returns
returns c t es past n = is_there c.args.self.now.calls.items c.deref.result.now c.deref.ensures.value es past c.args.name.now c.file_of.result c.file_of.ensures (sym c.is_some.ensures ∙ t) n
