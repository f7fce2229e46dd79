use Rattle.std.proofs.Common.{◌-◌, ℕ, Some, None, length, take, sym, ap, ◌∙◌, arith, subst, refl, inl, inr}
use Rattle.dconf_model.specs.Folders.{file_of, StoodFor}
use Rattle.dconf_folders.specs.MemoryFolders.{events_of}
use Rattle.dconf_folders.proofs.CallLemmas.{newest, same_text}
use Rattle.dconf_folders.proofs.crash.+stood_for.Goals as goal

pub returns-then-pick-eq0 : goal.returns-then-pick-eq0
returns-then-pick-eq0 t c =
    subst (λ es. StoodFor es c.args.name.now (Some c.files_made.result)) (sym (newest c.args.calls.now c.last-item.result _ (omega arith) c.last-item.is c.in-Create.is))
    (inl (same_text _ _ _ _ c.eq.ensures c.as_str.ensures.value c.if-eq.true, ap (λ (n : ℕ). Some n) c.files_made.ensures.is))

pub returns-else-eq : goal.returns-else-eq
returns-else-eq t c =
    subst (λ es. StoodFor es c.args.name.now c.stood_for.result) (sym (newest c.args.calls.now c.last-item.result _ (omega arith) c.last-item.is c.in-Create.is))
    (inr c.stood_for.ensures)

pub returns-then-pick-eq0-2 : goal.returns-then-pick-eq0-2
returns-then-pick-eq0-2 t c =
    subst (λ es. StoodFor es c.args.name.now c.file_of-then-pick-eq0-2.result) (sym (newest c.args.calls.now c.last-item.result _ (omega arith) c.last-item.is c.in-Rename.is))
    (inl (same_text _ _ _ _ c.eq-in-Rename.ensures c.as_str-in-Rename.ensures.value c.if-eq-2.true, c.file_of-then-pick-eq0-2.ensures ∙ ap (file_of (events_of (take (length c.args.calls.now - 1) c.args.calls.now))) c.as_str-then-pick-eq0-2.ensures.value))

pub returns-then-pick-eq0-3 : goal.returns-then-pick-eq0-3
returns-then-pick-eq0-3 t c =
    subst (λ es. StoodFor es c.args.name.now None) (sym (newest c.args.calls.now c.last-item.result _ (omega arith) c.last-item.is c.in-Rename.is))
    (inr (inl (same_text _ _ _ _ c.eq-in-Rename-2.ensures c.as_str-in-Rename-2.ensures.value c.if-eq-3.true, refl)))

pub returns-else-eq-3 : goal.returns-else-eq-3
returns-else-eq-3 t c =
    subst (λ es. StoodFor es c.args.name.now c.stood_for-in-Rename.result) (sym (newest c.args.calls.now c.last-item.result _ (omega arith) c.last-item.is c.in-Rename.is))
    (inr (inr c.stood_for-in-Rename.ensures))

pub returns-in-SyncFolder : goal.returns-in-SyncFolder
returns-in-SyncFolder t c =
    subst (λ es. StoodFor es c.args.name.now c.file_of.result) (sym (newest c.args.calls.now c.last-item.result _ (omega arith) c.last-item.is c.in-SyncFolder.is))
    (c.file_of.ensures)

pub returns-in-Append : goal.returns-in-Append
returns-in-Append t c =
    subst (λ es. StoodFor es c.args.name.now c.stood_for-in-Append.result) (sym (newest c.args.calls.now c.last-item.result _ (omega arith) c.last-item.is c.in-Append.is))
    (c.stood_for-in-Append.ensures)

pub returns-in-Sync : goal.returns-in-Sync
returns-in-Sync t c =
    subst (λ es. StoodFor es c.args.name.now c.stood_for-in-Sync.result) (sym (newest c.args.calls.now c.last-item.result _ (omega arith) c.last-item.is c.in-Sync.is))
    (c.stood_for-in-Sync.ensures)

pub returns-in-Touch : goal.returns-in-Touch
returns-in-Touch t c =
    subst (λ es. StoodFor es c.args.name.now c.stood_for-in-Touch.result) (sym (newest c.args.calls.now c.last-item.result _ (omega arith) c.last-item.is c.in-Touch.is))
    (c.stood_for-in-Touch.ensures)

pub returns-then-pick-eq0-4 : goal.returns-then-pick-eq0-4
returns-then-pick-eq0-4 t c =
    subst (λ es. StoodFor es c.args.name.now None) (sym (newest c.args.calls.now c.last-item.result _ (omega arith) c.last-item.is c.in-Remove.is))
    (inl (same_text _ _ _ _ c.eq-in-Remove.ensures c.as_str-in-Remove.ensures.value c.if-eq-4.true, refl))

pub returns-else-eq-4 : goal.returns-else-eq-4
returns-else-eq-4 t c =
    subst (λ es. StoodFor es c.args.name.now c.stood_for-in-Remove.result) (sym (newest c.args.calls.now c.last-item.result _ (omega arith) c.last-item.is c.in-Remove.is))
    (inr c.stood_for-in-Remove.ensures)

pub returns-then-pick-eq0-5 : goal.returns-then-pick-eq0-5
returns-then-pick-eq0-5 t c =
    subst (λ es. StoodFor es c.args.name.now c.file_of-then-pick-eq0-5.result) (sym (newest c.args.calls.now c.last-item.result _ (omega arith) c.last-item.is c.in-Link.is))
    (inl (same_text _ _ _ _ c.eq-in-Link.ensures c.as_str-in-Link.ensures.value c.if-eq-5.true, c.file_of-then-pick-eq0-5.ensures ∙ ap (file_of (events_of (take (length c.args.calls.now - 1) c.args.calls.now))) c.as_str-then-pick-eq0-5.ensures.value))

pub returns-else-eq-5 : goal.returns-else-eq-5
returns-else-eq-5 t c =
    subst (λ es. StoodFor es c.args.name.now c.stood_for-in-Link.result) (sym (newest c.args.calls.now c.last-item.result _ (omega arith) c.last-item.is c.in-Link.is))
    (inr c.stood_for-in-Link.ensures)
