use Rattle.std.proofs.Common.{◌∷◌, ◌-◌, ℕ, List, length, take, sym, subst, arith}
use Rattle.std.specs.String.{string_bytes}
use Rattle.std.proofs.lemmas.Result.{IfOk-weaker}
use Rattle.dconf_model.specs.Folders.{Event}
use Rattle.dconf_model.specs.Folders.Event.{create}
use Rattle.dconf_folders.specs.MemoryFolders.{events_of}
use Rattle.dconf_folders.specs.Crashes.{AreMadeAgain}
use Rattle.dconf_folders.proofs.CallLemmas.{newest}
use Rattle.dconf_folders.proofs.MadeAgain.{by_link, by_rename}
use Rattle.dconf_folders.proofs.crash.+made_again.Goals as goal

pub returns-in-Create : goal.returns-in-Create
returns-in-Create t c =
    let given = events_of (take (length c.args.calls.now - 1) c.args.calls.now) in
    let all = events_of c.args.all.now in
    IfOk-weaker c.make_again.result (λ made. AreMadeAgain (create c.as_str.result.now ∷ given) all (events_of made.items)) (λ made. AreMadeAgain (events_of c.args.calls.now) all (events_of made.items))
    (λ made a. subst (λ (es : List Event). AreMadeAgain es all (events_of made.items)) (sym (newest c.args.calls.now c.last-item.result _ (omega arith) c.last-item.is c.in-Create.is))
    (subst (λ (n : List ℕ). AreMadeAgain (create n ∷ given) all (events_of made.items)) c.as_str.ensures.value a)) c.make_again.ensures

pub returns-in-Rename : goal.returns-in-Rename
returns-in-Rename t c =
    let given = events_of (take (length c.args.calls.now - 1) c.args.calls.now) in
    let all = events_of c.args.all.now in
    IfOk-weaker c.make_again-in-Rename.result (λ made. AreMadeAgain (create c.as_str-in-Rename.result.now ∷ given) all (events_of made.items)) (λ made. AreMadeAgain (events_of c.args.calls.now) all (events_of made.items))
    (λ made a. subst (λ (es : List Event). AreMadeAgain es all (events_of made.items)) (sym (newest c.args.calls.now c.last-item.result _ (omega arith) c.last-item.is c.in-Rename.is))
    (by_rename given all (events_of made.items) (string_bytes c.in-Rename.field-0) (string_bytes c.in-Rename.name)
    (subst (λ (n : List ℕ). AreMadeAgain (create n ∷ given) all (events_of made.items)) c.as_str-in-Rename.ensures.value a))) c.make_again-in-Rename.ensures

pub returns-in-Append : goal.returns-in-Append
returns-in-Append t c =
    let a = c.in_ok-left.ensures in
    subst (λ (es : List Event). AreMadeAgain es (events_of c.args.all.now) (events_of c.in_ok-left.left.items)) (sym (newest c.args.calls.now c.last-item.result _ (omega arith) c.last-item.is c.in-Append.is))
    (record { synced = a.synced; named = a.named; others = a.others })

pub returns-in-Sync : goal.returns-in-Sync
returns-in-Sync t c =
    let a = c.in_ok-left.ensures in
    subst (λ (es : List Event). AreMadeAgain es (events_of c.args.all.now) (events_of c.in_ok-left.left.items)) (sym (newest c.args.calls.now c.last-item.result _ (omega arith) c.last-item.is c.in-Sync.is))
    (record { synced = a.synced; named = a.named; others = a.others })

pub returns-in-Touch : goal.returns-in-Touch
returns-in-Touch t c =
    let a = c.in_ok-left.ensures in
    subst (λ (es : List Event). AreMadeAgain es (events_of c.args.all.now) (events_of c.in_ok-left.left.items)) (sym (newest c.args.calls.now c.last-item.result _ (omega arith) c.last-item.is c.in-Touch.is))
    (record { synced = a.synced; named = a.named; others = a.others })

pub returns-in-SyncFolder : goal.returns-in-SyncFolder
returns-in-SyncFolder t c =
    let a = c.in_ok-left.ensures in
    subst (λ (es : List Event). AreMadeAgain es (events_of c.args.all.now) (events_of c.in_ok-left.left.items)) (sym (newest c.args.calls.now c.last-item.result _ (omega arith) c.last-item.is c.in-SyncFolder.is))
    (record { synced = a.synced; named = a.named; others = a.others })

pub returns-in-Remove : goal.returns-in-Remove
returns-in-Remove t c =
    let a = c.in_ok-left.ensures in
    subst (λ (es : List Event). AreMadeAgain es (events_of c.args.all.now) (events_of c.in_ok-left.left.items)) (sym (newest c.args.calls.now c.last-item.result _ (omega arith) c.last-item.is c.in-Remove.is))
    (record { synced = a.synced; named = a.named; others = a.others })

pub returns-in-Link : goal.returns-in-Link
returns-in-Link t c =
    let given = events_of (take (length c.args.calls.now - 1) c.args.calls.now) in
    let all = events_of c.args.all.now in
    IfOk-weaker c.make_again-in-Link.result (λ made. AreMadeAgain (create c.as_str-in-Link.result.now ∷ given) all (events_of made.items)) (λ made. AreMadeAgain (events_of c.args.calls.now) all (events_of made.items))
    (λ made a. subst (λ (es : List Event). AreMadeAgain es all (events_of made.items)) (sym (newest c.args.calls.now c.last-item.result _ (omega arith) c.last-item.is c.in-Link.is))
    (by_link given all (events_of made.items) (string_bytes c.in-Link.field-0) (string_bytes c.in-Link.name)
    (subst (λ (n : List ℕ). AreMadeAgain (create n ∷ given) all (events_of made.items)) c.as_str-in-Link.ensures.value a))) c.make_again-in-Link.ensures
