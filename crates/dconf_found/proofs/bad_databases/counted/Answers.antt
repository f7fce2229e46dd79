use Rattle.std.proofs.Common.{inl, inr, Some, option_map, subst, vec_items}
use Rattle.std.proofs.lemmas.Result.{IfOk-weaker}
use Rattle.dconf_model.specs.Databases.{IsTooBig}
use Rattle.dconf_model.specs.Salvaging.{IsSalvaged}
use Rattle.dconf_model.specs.Settings.{Settings}
use Rattle.dconfdb_calls.specs.Numbers.{number_of}
use Rattle.dconfdb_calls.specs.Opened.{IsToldOf}
use Rattle.dconf_found.specs.FoundFolders.{CountsBad}
use Rattle.dconf_found.proofs.bad_databases.counted.Goals as goal

pub returns-in-Some-clause-counts : goal.returns-in-Some-clause-counts
returns-in-Some-clause-counts c =
    IfOk-weaker c.counted_bad.result _ _
    (λ it counts. inr (subst (λ file. CountsBad file (option_map vec_items it.file) it.loss) c.deref-in-Some.ensures.value counts)) c.counted_bad.ensures.counts

pub returns-in-Some-clause-too_big : goal.returns-in-Some-clause-too_big
returns-in-Some-clause-too_big c e =
    let bad = subst (λ file. IsToldOf (Some file) (number_of c.in-Some.bad.fault) c.in-Some.bad.unsound) c.deref.ensures.value c.in-Some.ensures.bad in
    inl (bad.0, bad.1, subst (λ file. (s : Settings) × IsSalvaged file s × IsTooBig s) c.deref-in-Some.ensures.value (c.counted_bad.ensures.too_big e))
