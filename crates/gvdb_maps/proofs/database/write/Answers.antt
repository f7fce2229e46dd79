use Rattle.std.proofs.Common.{IfErr, IfOk, subst}
use Rattle.std.proofs.lemmas.Result.{IfOk-weaker}
use Rattle.dconf_model.specs.Databases.{IsDatabaseOf}
use Rattle.dconf_model.specs.Settings.{Settings}
use Rattle.gvdb_maps.specs.Limits.{IsRefusal}
use Rattle.gvdb_maps.proofs.database.write.Goals as goal
use Rattle.gvdb_maps.proofs.database.write.Goals.{After-write_sorted}

written : (c : After-write_sorted) → IfOk c.write_sorted.result (λ file. IsDatabaseOf c.args.map.now file.items)
written c = subst (λ (s : Settings). IfOk c.write_sorted.result (λ file. IsDatabaseOf s file.items)) c.in_ok-sorted.ensures c.write_sorted.ensures.database

pub returns-clause-opens : goal.returns-clause-opens
returns-clause-opens c = IfOk-weaker c.write_sorted.result _ _ (λ file is. is.opens) (written c)

pub returns-clause-sound : goal.returns-clause-sound
returns-clause-sound c = IfOk-weaker c.write_sorted.result _ _ (λ file is. is.sound) (written c)

pub returns-clause-values : goal.returns-clause-values
returns-clause-values c = IfOk-weaker c.write_sorted.result _ _ (λ file is. is.values) (written c)

pub returns-clause-locks : goal.returns-clause-locks
returns-clause-locks c = IfOk-weaker c.write_sorted.result _ _ (λ file is. is.locks) (written c)

pub returns-clause-length : goal.returns-clause-length
returns-clause-length c = IfOk-weaker c.write_sorted.result _ _ (λ file is. is.size) (written c)

pub returns-clause-fits : goal.returns-clause-fits
returns-clause-fits c = IfOk-weaker c.write_sorted.result _ _ (λ file is. is.fits) (written c)

pub returns-clause-fault : goal.returns-clause-fault
returns-clause-fault c = subst (λ (s : Settings). IfErr c.write_sorted.result (IsRefusal s)) c.in_ok-sorted.ensures c.write_sorted.ensures.fault
