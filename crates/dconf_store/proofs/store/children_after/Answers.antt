use Rattle.std.proofs.Common.{◌≡◌, ◌∙◌, ap, sym, subst, IfErr}
use Rattle.std.proofs.lemmas.Result.{err_from_is_err_and}
use Rattle.refused.specs.Faults.{OfFault}
use Rattle.dconf_model.specs.Databases.{IsFirstBad}
use Rattle.dconf_model.specs.Profiles.{has_writable}
use Rattle.dconf_path.specs.Paths.{directory_text}
use Rattle.dconf_path.specs.Profiles.{databases_of}
use Rattle.dconf_layers.specs.Verdicts.{bytes_of_files, verdict_of}
use Rattle.dconf_store.specs.declared.fault.StoreFlaw.TheVariants as flaws
use Rattle.dconf_store.specs.Changes.{asked_of}
use Rattle.dconf_store.specs.Faults.{IsFaultOf}
use Rattle.dconf_store.specs.Files.{with_first_file}
use Rattle.dconf_store.specs.Seen.{AreChildrenAfter}
use Rattle.dconf_store.proofs.SeenLaws.{children_after, reopen_fault, opened_again}
use Rattle.dconf_store.proofs.store.children_after.Goals as goal

pub returns-in_err-engine-clause-fault : goal.returns-in_err-engine-clause-fault
returns-in_err-engine-clause-fault c =
    let files = bytes_of_files c.args.files.now in
    let asked = asked_of c.args.changes.now in
    let writable = has_writable (databases_of c.args.profile.now) in
    let same : bytes_of_files c.deref-2.result.now ≡ with_first_file c.in_ok-file.file.items files = ap bytes_of_files c.deref-2.ensures.value ∙ (c.in_ok-again.ensures ∙ ap (λ f. with_first_file f files) c.deref.ensures.value) in
    let p = err_from_is_err_and c.from_residual-in_err-engine.result c.from_residual-in_err-engine.ensures.1 in
    rw (p.1, p.2) (reopen_fault (λ bad flaw. flaw ≡ flaws.BadDatabase bad.0 bad.1) files writable asked c.in_ok-file.file.items (IsFaultOf files writable asked) c.open.result c.in_err-engine.field-0.0 c.in_ok-file.ensures.file c.in_err-engine.ensures.cases
    (subst (λ items. IfErr c.open.result (OfFault (λ bad. IsFirstBad items bad.0 (verdict_of bad.1)))) same c.open.ensures.fault))

pub returns-clause-names : goal.returns-clause-names
returns-clause-names c =
    let files = bytes_of_files c.args.files.now in
    let asked = asked_of c.args.changes.now in
    let writable = has_writable (databases_of c.args.profile.now) in
    let directory = directory_text c.args.directory in
    let same : bytes_of_files c.deref-2.result.now ≡ with_first_file c.in_ok-file.file.items files = ap bytes_of_files c.deref-2.ensures.value ∙ (c.in_ok-again.ensures ∙ ap (λ f. with_first_file f files) c.deref.ensures.value) in
    let m = c.in_ok-engine.engine in
    let again = opened_again files (bytes_of_files c.deref-2.result.now) writable c.in_ok-file.file.items c.open.result m same c.in_ok-engine.ensures.cases c.open.ensures.layers c.open.ensures.writable in
    subst (AreChildrenAfter files asked directory) (sym c.in_ok-list.ensures) (children_after files writable asked c.in_ok-file.file.items m c.in_ok-file.ensures.file again directory)
