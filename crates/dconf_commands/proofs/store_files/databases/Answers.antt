use Rattle.std.proofs.Common.{List, Err, ◌≡◌, ◌+◌, ◌∙◌, [], ℕ, drop, get_or, length, map, take, sym, ap, subst}
use Rattle.std.proofs.lemmas.List.{length-map, length_push, map-append}
use Rattle.std.proofs.lemmas.Result.{err_from_is_err_and}
use Rattle.dconf_model.specs.Outcomes.{WithDatabases}
use Rattle.dconf_model.specs.Profiles.{Database}
use Rattle.dconf_path.specs.Profiles.{database_of}
use Rattle.dconf_streams.specs.Readings.{Decides}
use Rattle.dconf_commands.specs.StoreReads.{NoItems, bytes_of}
use Rattle.dconf_streams.proofs.Decisions.{decides_no_memory, kept_both}
use Rattle.dconf_commands.proofs.StoreReads.{all_around, decides_at_database, length_taken, no_database, one_taken, reads_one_more}
use Rattle.dconf_commands.proofs.store_files.databases.Goals as goal

pub returns-in_err-read_database-clause-err : goal.returns-in_err-read_database-clause-err
returns-in_err-read_database-clause-err g c =
    let ds = c.args.databases.now in
    let k = c.loop-database.database-index in
    let items = map bytes_of c.loop-database.items.items in
    let length_is : length items ≡ k = length-map c.loop-database.items.items bytes_of ∙ c.loop-database.invariant.1 in
    let taken : length (take k (map database_of ds)) ≡ k = length_taken database_of ds k no_database c.loop-database-test.true in
    let p = err_from_is_err_and c.from_residual.result c.from_residual.ensures.1 in
    rw (p.1, p.2) (λ n. subst (λ (all : List Database). Decides g.F.Folder c.args.folder.now c.read_database.new.folder n
    (λ reads. WithDatabases reads n all NoItems) (Err c.in_err-read_database.field-0.0)) (sym (all_around database_of ds k no_database c.loop-database-test.true))
    (decides_at_database g.F.Folder c.args.folder.now c.loop-database.folder c.read_database.new.folder (take k (map database_of ds)) items
    (length_is ∙ sym taken) c.loop-database.invariant.0 (database_of (get_or ds k no_database)) (drop (k + 1) (map database_of ds)) (Err c.in_err-read_database.field-0.0) c.in_err-read_database.ensures.err n))

pub returns-in_err-push-clause-err : goal.returns-in_err-push-clause-err
returns-in_err-push-clause-err g c =
    let p = err_from_is_err_and c.from_residual-in_err-push.result c.from_residual-in_err-push.ensures.1 in
    rw (p.1, p.2) (λ n. decides_no_memory g.F.Folder c.args.folder.now c.read_database.new.folder []
    (kept_both g.F.Folder c.args.folder.now c.loop-database.folder c.read_database.new.folder c.loop-database.invariant.0.kept c.in_ok-read_database.ensures.ok.kept) n
    (c.in_ok-read_database.ensures.ok.none_failed ∙ c.loop-database.invariant.0.none_failed) _)

pub loop-database-preserved : goal.loop-database-preserved
loop-database-preserved g c =
    let ds = c.args.databases.now in
    let k = c.loop-database.database-index in
    let items = map bytes_of c.loop-database.items.items in
    let length_is : length items ≡ k = length-map c.loop-database.items.items bytes_of ∙ c.loop-database.invariant.1 in
    let taken : length (take k (map database_of ds)) ≡ k = length_taken database_of ds k no_database c.loop-database-test.true in
    let more = reads_one_more g.F.Folder c.args.folder.now c.loop-database.folder c.read_database.new.folder (take k (map database_of ds)) items
    (length_is ∙ sym taken) c.loop-database.invariant.0 (database_of (get_or ds k no_database)) (bytes_of c.in_ok-read_database.field-0) c.in_ok-read_database.ensures.ok in (
      rw (one_taken database_of ds k no_database c.loop-database-test.true, c.in_ok-push.ensures.items, map-append) more,
      rw (c.in_ok-push.ensures.items, length_push) (ap (λ (n : ℕ). n + 1) c.loop-database.invariant.1),
    )
