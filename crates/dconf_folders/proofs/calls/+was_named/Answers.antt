use Rattle.std.proofs.Common.{◌≡◌, ◌-◌, true, length, take, sym, ap, ◌∙◌, arith}
use Rattle.std.specs.Str.{bytes_eq}
use Rattle.std.specs.String.{string_bytes}
use Rattle.dconf_folders.specs.MemoryFolders.{events_of}
use Rattle.dconf_folders.specs.Crashes.{was_named}
use Rattle.dconf_folders.proofs.CallLemmas.{named_by, by_true, by_false}
use Rattle.dconf_folders.proofs.calls.+was_named.Goals as goal

pub returns-then-eq : goal.returns-then-eq
returns-then-eq t c =
    let earlier = events_of (take (length c.args.calls.now - 1) c.args.calls.now) in
    let test : bytes_eq c.args.name.now (string_bytes c.in-Create.made) ≡ c.eq.result =
    sym (c.eq.ensures ∙ ap (bytes_eq c.args.name.now) c.as_str.ensures.value) in
    by_true (bytes_eq c.args.name.now (string_bytes c.in-Create.made)) true (was_named earlier c.args.name.now) _
    (named_by c.args.calls.now c.last-item.result _ c.args.name.now (omega arith) c.last-item.is c.in-Create.is) (test ∙ c.if-eq.true)

pub returns-else-eq : goal.returns-else-eq
returns-else-eq t c =
    let earlier = events_of (take (length c.args.calls.now - 1) c.args.calls.now) in
    let test : bytes_eq c.args.name.now (string_bytes c.in-Create.made) ≡ c.eq.result =
    sym (c.eq.ensures ∙ ap (bytes_eq c.args.name.now) c.as_str.ensures.value) in
    c.was_named.ensures ∙ by_false (bytes_eq c.args.name.now (string_bytes c.in-Create.made)) true (was_named earlier c.args.name.now) _
    (named_by c.args.calls.now c.last-item.result _ c.args.name.now (omega arith) c.last-item.is c.in-Create.is) (test ∙ c.if-eq.false)

pub returns-then-eq-2 : goal.returns-then-eq-2
returns-then-eq-2 t c =
    let earlier = events_of (take (length c.args.calls.now - 1) c.args.calls.now) in
    let test : bytes_eq c.args.name.now (string_bytes c.in-Rename.to) ≡ c.eq-in-Rename.result =
    sym (c.eq-in-Rename.ensures ∙ ap (bytes_eq c.args.name.now) c.as_str-in-Rename.ensures.value) in
    by_true (bytes_eq c.args.name.now (string_bytes c.in-Rename.to)) true (was_named earlier c.args.name.now) _
    (named_by c.args.calls.now c.last-item.result _ c.args.name.now (omega arith) c.last-item.is c.in-Rename.is) (test ∙ c.if-eq-2.true)

pub returns-else-eq-2 : goal.returns-else-eq-2
returns-else-eq-2 t c =
    let earlier = events_of (take (length c.args.calls.now - 1) c.args.calls.now) in
    let test : bytes_eq c.args.name.now (string_bytes c.in-Rename.to) ≡ c.eq-in-Rename.result =
    sym (c.eq-in-Rename.ensures ∙ ap (bytes_eq c.args.name.now) c.as_str-in-Rename.ensures.value) in
    c.was_named-in-Rename.ensures ∙ by_false (bytes_eq c.args.name.now (string_bytes c.in-Rename.to)) true (was_named earlier c.args.name.now) _
    (named_by c.args.calls.now c.last-item.result _ c.args.name.now (omega arith) c.last-item.is c.in-Rename.is) (test ∙ c.if-eq-2.false)

pub returns-in-Append : goal.returns-in-Append
returns-in-Append t c = c.was_named-in-Append.ensures ∙ sym (named_by c.args.calls.now c.last-item.result _ c.args.name.now (omega arith) c.last-item.is c.in-Append.is)

pub returns-in-Sync : goal.returns-in-Sync
returns-in-Sync t c = c.was_named-in-Sync.ensures ∙ sym (named_by c.args.calls.now c.last-item.result _ c.args.name.now (omega arith) c.last-item.is c.in-Sync.is)

pub returns-in-Touch : goal.returns-in-Touch
returns-in-Touch t c = c.was_named-in-Touch.ensures ∙ sym (named_by c.args.calls.now c.last-item.result _ c.args.name.now (omega arith) c.last-item.is c.in-Touch.is)

pub returns-in-SyncFolder : goal.returns-in-SyncFolder
returns-in-SyncFolder t c = c.was_named-in-SyncFolder.ensures ∙ sym (named_by c.args.calls.now c.last-item.result _ c.args.name.now (omega arith) c.last-item.is c.in-SyncFolder.is)

pub returns-in-Remove : goal.returns-in-Remove
returns-in-Remove t c = c.was_named-in-Remove.ensures ∙ sym (named_by c.args.calls.now c.last-item.result _ c.args.name.now (omega arith) c.last-item.is c.in-Remove.is)

pub returns-then-eq-3 : goal.returns-then-eq-3
returns-then-eq-3 t c =
    let earlier = events_of (take (length c.args.calls.now - 1) c.args.calls.now) in
    let test : bytes_eq c.args.name.now (string_bytes c.in-Link.to) ≡ c.eq-in-Link.result =
    sym (c.eq-in-Link.ensures ∙ ap (bytes_eq c.args.name.now) c.as_str-in-Link.ensures.value) in
    by_true (bytes_eq c.args.name.now (string_bytes c.in-Link.to)) true (was_named earlier c.args.name.now) _
    (named_by c.args.calls.now c.last-item.result _ c.args.name.now (omega arith) c.last-item.is c.in-Link.is) (test ∙ c.if-eq-3.true)

pub returns-else-eq-3 : goal.returns-else-eq-3
returns-else-eq-3 t c =
    let earlier = events_of (take (length c.args.calls.now - 1) c.args.calls.now) in
    let test : bytes_eq c.args.name.now (string_bytes c.in-Link.to) ≡ c.eq-in-Link.result =
    sym (c.eq-in-Link.ensures ∙ ap (bytes_eq c.args.name.now) c.as_str-in-Link.ensures.value) in
    c.was_named-in-Link.ensures ∙ by_false (bytes_eq c.args.name.now (string_bytes c.in-Link.to)) true (was_named earlier c.args.name.now) _
    (named_by c.args.calls.now c.last-item.result _ c.args.name.now (omega arith) c.last-item.is c.in-Link.is) (test ∙ c.if-eq-3.false)
