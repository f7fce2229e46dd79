use Rattle.std.proofs.Common.{◌≡◌, ◌∙◌, ap, sym, subst, IfErr}
use Rattle.std.proofs.lemmas.Result.{IfOk-weaker, err_from_is_err_and}
use Rattle.refused.specs.Faults.{OfFault}
use Rattle.refused.proofs.Faults.{IfErr-carried}
use Rattle.dconf_model.specs.Databases.{IsFirstBad}
use Rattle.dconf_model.specs.Layers.{visible}
use Rattle.dconf_model.specs.Profiles.{has_writable}
use Rattle.dconf_path.specs.Paths.{key_text}
use Rattle.dconf_path.specs.Profiles.{databases_of}
use Rattle.dconf_layers.specs.Verdicts.{bytes_of_files, verdict_of}
use Rattle.dconf_store.specs.declared.fault.StoreFlaw.TheVariants as flaws
use Rattle.gv_view.specs.declared.owned.TooLarge.{TooLarge}
use Rattle.dconf_store.specs.declared.fault.StoreFlaw.{StoreFlaw}
use Rattle.dconf_store.specs.Changes.{asked_of}
use Rattle.dconf_store.specs.Faults.{IsNoValue, IsTooLarge}
use Rattle.dconf_store.specs.Files.{with_first_file}
use Rattle.dconf_store.specs.Seen.{IsValueAfter}
use Rattle.dconf_store.proofs.SeenLaws.{value_after, ok_carried, reopen_fault, opened_again}
use Rattle.dconf_store.proofs.store.value_after.Goals as goal

pub returns-in_err-engine-clause-fault : goal.returns-in_err-engine-clause-fault
returns-in_err-engine-clause-fault c =
    let files = bytes_of_files c.args.files.now in
    let asked = asked_of c.args.changes.now in
    let writable = has_writable (databases_of c.args.profile.now) in
    let same : bytes_of_files c.deref-2.result.now ≡ with_first_file c.in_ok-saved.saved.items files = ap bytes_of_files c.deref-2.ensures.value ∙ (c.in_ok-again.ensures ∙ ap (λ f. with_first_file f files) c.deref.ensures.value) in
    let p = err_from_is_err_and c.from_residual-in_err-engine.result c.from_residual-in_err-engine.ensures.1 in
    rw (p.1, p.2) (reopen_fault (λ bad flaw. flaw ≡ flaws.BadDatabase bad.0 bad.1) files writable asked c.in_ok-saved.saved.items (IsNoValue files writable asked (key_text c.args.path)) c.open.result c.in_err-engine.field-0.0 c.in_ok-saved.ensures.file c.in_err-engine.ensures.cases
    (subst (λ items. IfErr c.open.result (OfFault (λ bad. IsFirstBad items bad.0 (verdict_of bad.1)))) same c.open.ensures.fault))

pub returns-clause-value : goal.returns-clause-value
returns-clause-value c =
    let files = bytes_of_files c.args.files.now in
    let asked = asked_of c.args.changes.now in
    let writable = has_writable (databases_of c.args.profile.now) in
    let path = key_text c.args.path in
    let same : bytes_of_files c.deref-2.result.now ≡ with_first_file c.in_ok-saved.saved.items files = ap bytes_of_files c.deref-2.ensures.value ∙ (c.in_ok-again.ensures ∙ ap (λ f. with_first_file f files) c.deref.ensures.value) in
    let m = c.in_ok-engine.engine in
    let again = opened_again files (bytes_of_files c.deref-2.result.now) writable c.in_ok-saved.saved.items c.open.result m same c.in_ok-engine.ensures.cases c.open.ensures.layers c.open.ensures.writable in
    ok_carried _ (IsValueAfter files asked path) c.seen.result c.map_err-2.result c.map_err-2.ensures.cases
    (IfOk-weaker c.seen.result _ _
    (λ v e. subst (IsValueAfter files asked path) (sym e) (value_after files writable asked c.in_ok-saved.saved.items m c.in_ok-saved.ensures.file again path)) c.seen.ensures.value)

pub returns-clause-fault : goal.returns-clause-fault
returns-clause-fault c =
    let files = bytes_of_files c.args.files.now in
    let asked = asked_of c.args.changes.now in
    let writable = has_writable (databases_of c.args.profile.now) in
    let path = key_text c.args.path in
    let same : bytes_of_files c.deref-2.result.now ≡ with_first_file c.in_ok-saved.saved.items files = ap bytes_of_files c.deref-2.ensures.value ∙ (c.in_ok-again.ensures ∙ ap (λ f. with_first_file f files) c.deref.ensures.value) in
    let m = c.in_ok-engine.engine in
    let again = opened_again files (bytes_of_files c.deref-2.result.now) writable c.in_ok-saved.saved.items c.open.result m same c.in_ok-engine.ensures.cases c.open.ensures.layers c.open.ensures.writable in
    IfErr-carried (λ (f : TooLarge) (flaw : StoreFlaw). flaw ≡ flaws.TooLarge) (λ _. IsTooLarge (visible m path)) (IsNoValue files writable asked path)
    (λ f flaw is h. subst (IsNoValue files writable asked path) (sym is) (visible m path, value_after files writable asked c.in_ok-saved.saved.items m c.in_ok-saved.ensures.file again path, h))
    c.seen.result c.map_err-2.result c.map_err-2.ensures.cases c.seen.ensures.fault
