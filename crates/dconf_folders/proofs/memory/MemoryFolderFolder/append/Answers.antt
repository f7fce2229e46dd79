use Rattle.std.proofs.Common.{inl}
use Rattle.std.proofs.lemmas.Result.{on_err_weaker}
use Rattle.dconf_model.specs.Folders.Event.{append}
use Rattle.dconf_folders.specs.MemoryFolders.{events_of, AddsTouches}
use Rattle.dconf_folders.proofs.Untouched.{noted, same_calls, touched}
use Rattle.dconf_folders.proofs.memory.MemoryFolderFolder.append.Goals as goal

pub returns-then-is_err-clause-err : goal.returns-then-is_err-clause-err
returns-then-is_err-clause-err c _ es past =
    let name = c.args.name.now in
    let mid = c.note-noted.new.self.calls.items in
    on_err_weaker c.note-noted.result
    (λ (a : AddsTouches (events_of mid) es). inl (touched (events_of mid) (events_of c.touch.new.self.calls.items) es name c.touch.ensures.events a))
    (same_calls c.note-noted.result c.args.self.now.calls.items mid c.note-noted.ensures.err es past)

pub returns-else-is_err-clause-ok : goal.returns-else-is_err-clause-ok
returns-else-is_err-clause-ok c es past =
    noted c.append_call.result c.note-noted.result (append c.args.name.now c.args.bytes.now) c.args.self.now.calls.items c.note-noted.new.self.calls.items c.note-noted.ensures.ok c.note-noted.ensures.had c.append_call.ensures es past
