use Rattle.std.proofs.Common.{ℕ, Some, ◌-◌, length, take, sym, ap, ◌∙◌, arith}
use Rattle.std.specs.Str.{bytes_eq}
use Rattle.dconf_model.specs.Folders.{file_of}
use Rattle.dconf_folders.specs.MemoryFolders.{events_of}
use Rattle.dconf_folders.proofs.CallLemmas.{newest_create, newest_rename, newest_append, newest_sync, newest_touch, newest_remove, newest_sync_folder, newest_link, by_true, by_false}
use Rattle.dconf_folders.proofs.calls.+file_of.Goals as goal

pub returns-then-eq : goal.returns-then-eq
returns-then-eq t c =
    ap (λ (n : ℕ). Some n) c.files_made.ensures.is ∙ by_true _ _ _ _ (newest_create c.args.calls.now c.in-Create.made c.args.name.now c.last-item.result (omega arith) c.last-item.is c.in-Create.is) (ap (bytes_eq c.args.name.now) (sym c.as_str.ensures.value) ∙ (sym c.eq.ensures ∙ c.if-eq.true))

pub returns-else-eq : goal.returns-else-eq
returns-else-eq t c =
    c.file_of.ensures ∙ by_false _ _ _ _ (newest_create c.args.calls.now c.in-Create.made c.args.name.now c.last-item.result (omega arith) c.last-item.is c.in-Create.is) (ap (bytes_eq c.args.name.now) (sym c.as_str.ensures.value) ∙ (sym c.eq.ensures ∙ c.if-eq.false))

pub returns-then-eq-2 : goal.returns-then-eq-2
returns-then-eq-2 t c =
    c.file_of-then-eq-2.ensures ∙ ap (file_of (events_of (take (length c.args.calls.now - 1) c.args.calls.now))) c.as_str-then-eq-2.ensures.value
    ∙ by_true _ _ _ _ (newest_rename c.args.calls.now c.in-Rename.from c.in-Rename.to c.args.name.now c.last-item.result (omega arith) c.last-item.is c.in-Rename.is) (ap (bytes_eq c.args.name.now) (sym c.as_str-in-Rename.ensures.value) ∙ (sym c.eq-in-Rename.ensures ∙ c.if-eq-2.true))

pub returns-then-eq-3 : goal.returns-then-eq-3
returns-then-eq-3 t c =
    by_true _ _ _ _ (sym (by_false _ _ _ _ (newest_rename c.args.calls.now c.in-Rename.from c.in-Rename.to c.args.name.now c.last-item.result
    (omega arith) c.last-item.is c.in-Rename.is) (ap (bytes_eq c.args.name.now) (sym c.as_str-in-Rename.ensures.value)
    ∙ (sym c.eq-in-Rename.ensures ∙ c.if-eq-2.false))))
    (ap (bytes_eq c.args.name.now) (sym c.as_str-in-Rename-2.ensures.value) ∙ (sym c.eq-in-Rename-2.ensures ∙ c.if-eq-3.true))

pub returns-else-eq-3 : goal.returns-else-eq-3
returns-else-eq-3 t c =
    c.file_of-in-Rename.ensures
    ∙ by_false _ _ _ _ (sym (by_false _ _ _ _ (newest_rename c.args.calls.now c.in-Rename.from c.in-Rename.to c.args.name.now c.last-item.result
    (omega arith) c.last-item.is c.in-Rename.is) (ap (bytes_eq c.args.name.now) (sym c.as_str-in-Rename.ensures.value)
    ∙ (sym c.eq-in-Rename.ensures ∙ c.if-eq-2.false))))
    (ap (bytes_eq c.args.name.now) (sym c.as_str-in-Rename-2.ensures.value) ∙ (sym c.eq-in-Rename-2.ensures ∙ c.if-eq-3.false))

pub returns-in-Append : goal.returns-in-Append
returns-in-Append t c = c.file_of-in-Append.ensures ∙ sym (newest_append c.args.calls.now _ _ c.args.name.now c.last-item.result (omega arith) c.last-item.is c.in-Append.is)

pub returns-in-Sync : goal.returns-in-Sync
returns-in-Sync t c = c.file_of-in-Sync.ensures ∙ sym (newest_sync c.args.calls.now _ c.args.name.now c.last-item.result (omega arith) c.last-item.is c.in-Sync.is)

pub returns-in-SyncFolder : goal.returns-in-SyncFolder
returns-in-SyncFolder t c = c.file_of-in-SyncFolder.ensures ∙ sym (newest_sync_folder c.args.calls.now c.args.name.now c.last-item.result (omega arith) c.last-item.is c.in-SyncFolder.is)

pub returns-in-Touch : goal.returns-in-Touch
returns-in-Touch t c = c.file_of-in-Touch.ensures ∙ sym (newest_touch c.args.calls.now _ c.args.name.now c.last-item.result (omega arith) c.last-item.is c.in-Touch.is)

pub returns-then-eq-4 : goal.returns-then-eq-4
returns-then-eq-4 t c =
    by_true _ _ _ _ (newest_remove c.args.calls.now c.in-Remove.gone c.args.name.now c.last-item.result (omega arith) c.last-item.is c.in-Remove.is)
    (ap (bytes_eq c.args.name.now) (sym c.as_str-in-Remove.ensures.value) ∙ (sym c.eq-in-Remove.ensures ∙ c.if-eq-4.true))

pub returns-else-eq-4 : goal.returns-else-eq-4
returns-else-eq-4 t c =
    c.file_of-in-Remove.ensures ∙ by_false _ _ _ _ (newest_remove c.args.calls.now c.in-Remove.gone c.args.name.now c.last-item.result (omega arith) c.last-item.is c.in-Remove.is)
    (ap (bytes_eq c.args.name.now) (sym c.as_str-in-Remove.ensures.value) ∙ (sym c.eq-in-Remove.ensures ∙ c.if-eq-4.false))

pub returns-then-eq-5 : goal.returns-then-eq-5
returns-then-eq-5 t c =
    c.file_of-then-eq-5.ensures ∙ ap (file_of (events_of (take (length c.args.calls.now - 1) c.args.calls.now))) c.as_str-then-eq-5.ensures.value
    ∙ by_true _ _ _ _ (newest_link c.args.calls.now c.in-Link.from c.in-Link.to c.args.name.now c.last-item.result (omega arith) c.last-item.is c.in-Link.is) (ap (bytes_eq c.args.name.now) (sym c.as_str-in-Link.ensures.value) ∙ (sym c.eq-in-Link.ensures ∙ c.if-eq-5.true))

pub returns-else-eq-5 : goal.returns-else-eq-5
returns-else-eq-5 t c =
    c.file_of-in-Link.ensures ∙ by_false _ _ _ _ (newest_link c.args.calls.now c.in-Link.from c.in-Link.to c.args.name.now c.last-item.result (omega arith) c.last-item.is c.in-Link.is)
    (ap (bytes_eq c.args.name.now) (sym c.as_str-in-Link.ensures.value) ∙ (sym c.eq-in-Link.ensures ∙ c.if-eq-5.false))
