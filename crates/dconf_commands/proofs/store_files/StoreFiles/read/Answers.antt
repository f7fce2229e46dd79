use Rattle.std.proofs.Common.{◌∙◌, List, Err, ap, length, map, subst, sym}
use Rattle.std.specs.Prelude.{vec_items}
use Rattle.std.proofs.lemmas.List.{length-map}
use Rattle.std.proofs.lemmas.Result.{err_from_is_err_and}
use Rattle.dconf_model.specs.Outcomes.{OrLine, WithDatabases}
use Rattle.dconf_model.specs.Profiles.{Database, profile_of}
use Rattle.dconf_path.specs.Profiles.{database_of, databases_of}
use Rattle.dconf_streams.specs.Answers.{GivesOutcome}
use Rattle.dconf_streams.specs.Readings.{Decides, HasRead}
use Rattle.dconf_commands.specs.StoreReads.{NoDatabases, NoItems, bytes_of, database_reads}
use Rattle.dconf_commands.proofs.Stores.{a_database_is_unread, no_profile}
use Rattle.dconf_commands.proofs.store_files.StoreFiles.read.Goals as goal

pub returns-in_err-profile-clause-err : goal.returns-in_err-profile-clause-err
returns-in_err-profile-clause-err g c =
    let p = err_from_is_err_and c.from_residual.result c.from_residual.ensures.1 in
    rw (p.1, p.2) (no_profile g.F.Folder c.args.file.now.name.now (vec_items c.args.file.now.bytes) (Err c.in_err-profile.field-0.0) c.args.folder.now
    (subst (λ b. GivesOutcome (Err c.in_err-profile.field-0.0) (OrLine c.args.file.now.name.now (profile_of b) NoDatabases)) c.deref.ensures.value c.in_err-profile.ensures.err))

pub returns-in_err-databases-clause-err : goal.returns-in_err-databases-clause-err
returns-in_err-databases-clause-err g c =
    let p = err_from_is_err_and c.from_residual-in_err-databases.result c.from_residual-in_err-databases.ensures.1 in
    rw (p.1, p.2) (a_database_is_unread g.F.Folder c.args.file.now.name.now (vec_items c.args.file.now.bytes) (Err c.in_err-databases.field-0.0) c.args.folder.now
    c.databases-2.new.folder (databases_of c.in_ok-profile.profile) (ap profile_of (sym c.deref.ensures.value) ∙ c.in_ok-profile.ensures.ok)
    (subst (λ (all : List Database). Decides g.F.Folder c.args.folder.now c.databases-2.new.folder 1 (λ reads. WithDatabases reads 1 all NoItems) (Err c.in_err-databases.field-0.0))
    c.databases.ensures (c.in_err-databases.ensures.err 1)))

pub returns-clause-ok : goal.returns-clause-ok
returns-clause-ok g c = record {
  names = ap profile_of (sym c.deref.ensures.value) ∙ c.in_ok-profile.ensures.ok;
  each =
      length-map c.in_ok-databases.databases.items bytes_of
      ∙ (c.in_ok-databases.ensures.each ∙ (sym (length-map c.databases.result.now database_of) ∙ ap length c.databases.ensures));
  read =
      subst (λ (all : List Database). HasRead g.F.Folder c.args.folder.now c.databases-2.new.folder
      (database_reads all (map bytes_of c.in_ok-databases.databases.items))) c.databases.ensures c.in_ok-databases.ensures.ok;
}
