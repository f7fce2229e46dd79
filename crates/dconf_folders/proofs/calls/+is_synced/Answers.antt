use Rattle.std.proofs.Common.{◌≡◌, ◌-◌, ℕ, Option, true, false, length, take, sym, ap, ◌∙◌, arith}
use Rattle.std.specs.String.{string_bytes}
use Rattle.dconf_model.specs.Folders.{file_of, is_file, is_synced}
use Rattle.dconf_folders.specs.MemoryFolders.{events_of}
use Rattle.dconf_folders.proofs.CallLemmas.{synced_by, by_true, by_false}
use Rattle.dconf_folders.proofs.calls.+is_synced.Goals as goal

pub returns-then-is_file : goal.returns-then-is_file
returns-then-is_file t c =
    let earlier = events_of (take (length c.args.calls.now - 1) c.args.calls.now) in
    let file = c.args.file in
    let test : is_file (file_of earlier (string_bytes c.in-Append.name)) file ≡ c.is_file.result =
    sym (c.is_file.ensures ∙ ap (λ (o : Option ℕ). is_file o file) (c.file_of.ensures ∙ ap (file_of earlier) c.as_str.ensures.value)) in
    by_true (is_file (file_of earlier (string_bytes c.in-Append.name)) file) false (is_synced earlier file) _
    (synced_by c.args.calls.now c.last-item.result _ file (omega arith) c.last-item.is c.in-Append.is) (test ∙ c.if-is_file.true)

pub returns-else-is_file : goal.returns-else-is_file
returns-else-is_file t c =
    let earlier = events_of (take (length c.args.calls.now - 1) c.args.calls.now) in
    let file = c.args.file in
    let test : is_file (file_of earlier (string_bytes c.in-Append.name)) file ≡ c.is_file.result =
    sym (c.is_file.ensures ∙ ap (λ (o : Option ℕ). is_file o file) (c.file_of.ensures ∙ ap (file_of earlier) c.as_str.ensures.value)) in
    c.is_synced.ensures ∙ by_false (is_file (file_of earlier (string_bytes c.in-Append.name)) file) false (is_synced earlier file) _
    (synced_by c.args.calls.now c.last-item.result _ file (omega arith) c.last-item.is c.in-Append.is) (test ∙ c.if-is_file.false)

pub returns-then-is_file-2 : goal.returns-then-is_file-2
returns-then-is_file-2 t c =
    let earlier = events_of (take (length c.args.calls.now - 1) c.args.calls.now) in
    let file = c.args.file in
    let test : is_file (file_of earlier (string_bytes c.in-Touch.name)) file ≡ c.is_file-in-Touch.result =
    sym (c.is_file-in-Touch.ensures ∙ ap (λ (o : Option ℕ). is_file o file) (c.file_of-in-Touch.ensures ∙ ap (file_of earlier) c.as_str-in-Touch.ensures.value)) in
    by_true (is_file (file_of earlier (string_bytes c.in-Touch.name)) file) false (is_synced earlier file) _
    (synced_by c.args.calls.now c.last-item.result _ file (omega arith) c.last-item.is c.in-Touch.is) (test ∙ c.if-is_file-2.true)

pub returns-else-is_file-2 : goal.returns-else-is_file-2
returns-else-is_file-2 t c =
    let earlier = events_of (take (length c.args.calls.now - 1) c.args.calls.now) in
    let file = c.args.file in
    let test : is_file (file_of earlier (string_bytes c.in-Touch.name)) file ≡ c.is_file-in-Touch.result =
    sym (c.is_file-in-Touch.ensures ∙ ap (λ (o : Option ℕ). is_file o file) (c.file_of-in-Touch.ensures ∙ ap (file_of earlier) c.as_str-in-Touch.ensures.value)) in
    c.is_synced-in-Touch.ensures ∙ by_false (is_file (file_of earlier (string_bytes c.in-Touch.name)) file) false (is_synced earlier file) _
    (synced_by c.args.calls.now c.last-item.result _ file (omega arith) c.last-item.is c.in-Touch.is) (test ∙ c.if-is_file-2.false)

pub returns-then-is_file-3 : goal.returns-then-is_file-3
returns-then-is_file-3 t c =
    let earlier = events_of (take (length c.args.calls.now - 1) c.args.calls.now) in
    let file = c.args.file in
    let test : is_file (file_of earlier (string_bytes c.in-Sync.name)) file ≡ c.is_file-in-Sync.result =
    sym (c.is_file-in-Sync.ensures ∙ ap (λ (o : Option ℕ). is_file o file) (c.file_of-in-Sync.ensures ∙ ap (file_of earlier) c.as_str-in-Sync.ensures.value)) in
    by_true (is_file (file_of earlier (string_bytes c.in-Sync.name)) file) true (is_synced earlier file) _
    (synced_by c.args.calls.now c.last-item.result _ file (omega arith) c.last-item.is c.in-Sync.is) (test ∙ c.if-is_file-3.true)

pub returns-else-is_file-3 : goal.returns-else-is_file-3
returns-else-is_file-3 t c =
    let earlier = events_of (take (length c.args.calls.now - 1) c.args.calls.now) in
    let file = c.args.file in
    let test : is_file (file_of earlier (string_bytes c.in-Sync.name)) file ≡ c.is_file-in-Sync.result =
    sym (c.is_file-in-Sync.ensures ∙ ap (λ (o : Option ℕ). is_file o file) (c.file_of-in-Sync.ensures ∙ ap (file_of earlier) c.as_str-in-Sync.ensures.value)) in
    c.is_synced-in-Sync.ensures ∙ by_false (is_file (file_of earlier (string_bytes c.in-Sync.name)) file) true (is_synced earlier file) _
    (synced_by c.args.calls.now c.last-item.result _ file (omega arith) c.last-item.is c.in-Sync.is) (test ∙ c.if-is_file-3.false)

pub returns-in-Create : goal.returns-in-Create
returns-in-Create t c = c.is_synced-in-Create.ensures ∙ sym (synced_by c.args.calls.now c.last-item.result _ c.args.file (omega arith) c.last-item.is c.in-Create.is)

pub returns-in-Rename : goal.returns-in-Rename
returns-in-Rename t c = c.is_synced-in-Rename.ensures ∙ sym (synced_by c.args.calls.now c.last-item.result _ c.args.file (omega arith) c.last-item.is c.in-Rename.is)

pub returns-in-SyncFolder : goal.returns-in-SyncFolder
returns-in-SyncFolder t c = c.is_synced-in-SyncFolder.ensures ∙ sym (synced_by c.args.calls.now c.last-item.result _ c.args.file (omega arith) c.last-item.is c.in-SyncFolder.is)

pub returns-in-Remove : goal.returns-in-Remove
returns-in-Remove t c = c.is_synced-in-Remove.ensures ∙ sym (synced_by c.args.calls.now c.last-item.result _ c.args.file (omega arith) c.last-item.is c.in-Remove.is)

pub returns-in-Link : goal.returns-in-Link
returns-in-Link t c = c.is_synced-in-Link.ensures ∙ sym (synced_by c.args.calls.now c.last-item.result _ c.args.file (omega arith) c.last-item.is c.in-Link.is)
