use Rattle.std.proofs.Common.{sym, ◌∙◌}
use Rattle.dconf_folders.proofs.ReadLemmas.{is_free_for as still_free_for}
use Rattle.dconf_folders.proofs.memory.MemoryFolder.is_free_for.Goals as goal

pub returns : goal.returns
returns c t es past =
    still_free_for c.args.self.now.calls.items c.deref.result.now c.deref-2.result.now c.deref.ensures.value c.deref-2.ensures.value es past c.args.name.now c.args.aside.now
    c.file_of.result c.file_of-2.result c.file_of.ensures c.file_of-2.ensures (sym c.is_none_or.ensures ∙ t)
