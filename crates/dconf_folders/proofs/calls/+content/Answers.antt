use Rattle.std.proofs.Common.{◌≡◌, ◌-◌, ◌++◌, ℕ, List, length, take, sym, ap, ◌∙◌, arith, Option}
use Rattle.std.specs.String.{string_bytes}
use Rattle.dconf_model.specs.Folders.{file_of, is_file, content}
use Rattle.dconf_folders.specs.MemoryFolders.{events_of}
use Rattle.dconf_folders.proofs.CallLemmas.{content_append, content_create, content_rename, content_sync, content_touch, content_remove, content_sync_folder, content_link, by_true, by_false}
use Rattle.dconf_folders.proofs.calls.+content.Goals as goal

pub returns-then-is_file : goal.returns-then-is_file
returns-then-is_file t c =
    let earlier = events_of (take (length c.args.calls.now - 1) c.args.calls.now) in
    let file = c.args.file in
    let test : is_file (file_of earlier (string_bytes c.in-Append.name)) file ≡ c.is_file.result = sym (c.is_file.ensures ∙ ap (λ (o : Option ℕ). is_file o file) (c.file_of.ensures ∙ ap (file_of earlier) c.as_str.ensures.value)) in
    let grown : c.extend_from_slice.new.self.items ≡ content earlier file ++ c.in-Append.more.items =
    c.in_ok-extend_from_slice-in-Append.ensures.items ∙ ap (λ (l : List ℕ). c.in_ok-bytes.bytes.items ++ l) c.as_slice.ensures.value ∙ ap (λ (l : List ℕ). l ++ c.in-Append.more.items) c.in_ok-bytes.ensures in
    grown ∙ by_true _ _ _ _ (content_append c.args.calls.now c.in-Append.name c.in-Append.more file c.last-item.result (omega arith) c.last-item.is c.in-Append.is) (test ∙ c.if-is_file.true)

pub returns-else-is_file : goal.returns-else-is_file
returns-else-is_file t c =
    let earlier = events_of (take (length c.args.calls.now - 1) c.args.calls.now) in
    let file = c.args.file in
    let test : is_file (file_of earlier (string_bytes c.in-Append.name)) file ≡ c.is_file.result = sym (c.is_file.ensures ∙ ap (λ (o : Option ℕ). is_file o file) (c.file_of.ensures ∙ ap (file_of earlier) c.as_str.ensures.value)) in
    c.in_ok-bytes.ensures ∙ by_false _ _ _ _ (content_append c.args.calls.now c.in-Append.name c.in-Append.more file c.last-item.result (omega arith) c.last-item.is c.in-Append.is) (test ∙ c.if-is_file.false)

pub returns-in-Create : goal.returns-in-Create
returns-in-Create t c = c.in_ok-bytes.ensures ∙ sym (content_create c.args.calls.now _ c.args.file c.last-item.result (omega arith) c.last-item.is c.in-Create.is)

pub returns-in-Rename : goal.returns-in-Rename
returns-in-Rename t c = c.in_ok-bytes.ensures ∙ sym (content_rename c.args.calls.now _ _ c.args.file c.last-item.result (omega arith) c.last-item.is c.in-Rename.is)

pub returns-in-Sync : goal.returns-in-Sync
returns-in-Sync t c = c.in_ok-bytes.ensures ∙ sym (content_sync c.args.calls.now _ c.args.file c.last-item.result (omega arith) c.last-item.is c.in-Sync.is)

pub returns-in-SyncFolder : goal.returns-in-SyncFolder
returns-in-SyncFolder t c = c.in_ok-bytes.ensures ∙ sym (content_sync_folder c.args.calls.now c.args.file c.last-item.result (omega arith) c.last-item.is c.in-SyncFolder.is)

pub returns-in-Touch : goal.returns-in-Touch
returns-in-Touch t c = c.in_ok-bytes.ensures ∙ sym (content_touch c.args.calls.now _ c.args.file c.last-item.result (omega arith) c.last-item.is c.in-Touch.is)

pub returns-in-Remove : goal.returns-in-Remove
returns-in-Remove t c = c.in_ok-bytes.ensures ∙ sym (content_remove c.args.calls.now _ c.args.file c.last-item.result (omega arith) c.last-item.is c.in-Remove.is)

pub returns-in-Link : goal.returns-in-Link
returns-in-Link t c = c.in_ok-bytes.ensures ∙ sym (content_link c.args.calls.now _ _ c.args.file c.last-item.result (omega arith) c.last-item.is c.in-Link.is)
