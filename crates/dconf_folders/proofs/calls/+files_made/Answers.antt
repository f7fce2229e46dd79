use Rattle.std.proofs.Common.{◌+◌, sym, ap, ◌∙◌, arith}
use Rattle.dconf_folders.proofs.CallLemmas.{made_by}
use Rattle.dconf_folders.proofs.calls.+files_made.Goals as goal

pub returns-in-Create-clause-is : goal.returns-in-Create-clause-is
returns-in-Create-clause-is t c = ap (λ n. n + 1) c.files_made-before.ensures.is ∙ sym (made_by c.args.calls.now c.last-item.result _ (omega arith) c.last-item.is c.in-Create.is)

pub returns-in-Append-clause-is : goal.returns-in-Append-clause-is
returns-in-Append-clause-is t c = c.files_made-before.ensures.is ∙ sym (made_by c.args.calls.now c.last-item.result _ (omega arith) c.last-item.is c.in-Append.is)

pub returns-in-Sync-clause-is : goal.returns-in-Sync-clause-is
returns-in-Sync-clause-is t c = c.files_made-before.ensures.is ∙ sym (made_by c.args.calls.now c.last-item.result _ (omega arith) c.last-item.is c.in-Sync.is)

pub returns-in-Touch-clause-is : goal.returns-in-Touch-clause-is
returns-in-Touch-clause-is t c = c.files_made-before.ensures.is ∙ sym (made_by c.args.calls.now c.last-item.result _ (omega arith) c.last-item.is c.in-Touch.is)

pub returns-in-Rename-clause-is : goal.returns-in-Rename-clause-is
returns-in-Rename-clause-is t c = c.files_made-before.ensures.is ∙ sym (made_by c.args.calls.now c.last-item.result _ (omega arith) c.last-item.is c.in-Rename.is)

pub returns-in-SyncFolder-clause-is : goal.returns-in-SyncFolder-clause-is
returns-in-SyncFolder-clause-is t c = c.files_made-before.ensures.is ∙ sym (made_by c.args.calls.now c.last-item.result _ (omega arith) c.last-item.is c.in-SyncFolder.is)

pub returns-in-Remove-clause-is : goal.returns-in-Remove-clause-is
returns-in-Remove-clause-is t c = c.files_made-before.ensures.is ∙ sym (made_by c.args.calls.now c.last-item.result _ (omega arith) c.last-item.is c.in-Remove.is)

pub returns-in-Link-clause-is : goal.returns-in-Link-clause-is
returns-in-Link-clause-is t c = c.files_made-before.ensures.is ∙ sym (made_by c.args.calls.now c.last-item.result _ (omega arith) c.last-item.is c.in-Link.is)
