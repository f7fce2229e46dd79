use Rattle.std.proofs.Common.{◌≡◌, ◌∙◌, ℕ, List, Result, Err, ap, codes, map, string_bytes, subst, sym}
use Rattle.std.specs.Prelude.{IfErr, IfOk}
use Rattle.std.proofs.lemmas.Result.{err_from_is_err_and}
use Rattle.dconf_model.specs.Changes.{Refusal, apply, paths_of, saved}
use Rattle.dconf_model.specs.Changes.Change.{load_values}
use Rattle.dconf_model.specs.Databases.{IsDatabaseOf}
use Rattle.dconf_model.specs.Layers.{Layers}
use Rattle.dconf_model.specs.Outcomes.{Loads, Gives, OrLine, SavesSaying, Writes, lines_text}
use Rattle.dconf_model.specs.Profiles.{user_file}
use Rattle.dconf_model.specs.Reads.{ReadResults}
use Rattle.dconf_model.specs.Settings.{Settings}
use Rattle.dconf_model.specs.Sources.{Loaded}
use Rattle.gvdb_maps.specs.Limits.{IsRefusal}
use Rattle.dconf_path.specs.Profiles.{databases_of}
use Rattle.dconf_compile.specs.LineStops.{line_fault_of}
use Rattle.dconf_compile.specs.Loading.{loaded_of, rows_loaded}
use Rattle.refused.specs.declared.Refused.TheVariants.{Memory}
use Rattle.dconf_streams.specs.Answers.{GivesOutcome}
use Rattle.dconf_streams.proofs.Decisions.{decides_at_once}
use Rattle.dconf_commands.proofs.LoadLaws.{decides_line, decides_rows}
use Rattle.dconf_commands.proofs.OpenStores.{change_saved_saying}
use Rattle.dconf_commands.proofs.Stores.{store_not_opened, store_opened, store_without_databases, store_without_file}
use Rattle.dconf_commands.proofs.commands.load.load_rows.Goals as goal

pub returns-in-Err : goal.returns-in-Err
returns-in-Err g c =
    let Go : ReadResults → Loaded → Gives = λ reads. Loads reads c.args.profile.now c.args.force in
    decides_line g.F.Folder c.args.folder.now (Err c.line_refused.result) (line_fault_of c.in-Err.stop) (rows_loaded c.args.skip_doubles c.args.below) Go c.in-Err.ensures.fault c.line_refused.ensures

pub returns-in_err-text : goal.returns-in_err-text
returns-in_err-text g c =
    let Go : ReadResults → Loaded → Gives = λ reads. Loads reads c.args.profile.now c.args.force in
    let p = err_from_is_err_and c.from_residual.result c.from_residual.ensures.1 in
    rw (p.1, p.2) (decides_at_once g.F.Folder c.args.folder.now 0 (Err Memory) (λ reads. OrLine (codes "input") (rows_loaded c.args.skip_doubles c.args.below) (Go reads)) (λ reads. tt))

pub returns-in_err-profile : goal.returns-in_err-profile
returns-in_err-profile g c =
    let Go : ReadResults → Loaded → Gives = λ reads. Loads reads c.args.profile.now c.args.force in
    let l = loaded_of c.in-Ok.loaded in
    let said = lines_text l.left_out in
    let own = l.rows in
    let p = err_from_is_err_and c.from_residual-in_err-profile.result c.from_residual-in_err-profile.ensures.1 in
    rw (p.1, p.2)
    (decides_rows g.F.Folder c.args.folder.now c.named_file.new.folder (Err c.in_err-profile.field-0.0) (rows_loaded c.args.skip_doubles c.args.below) l Go c.in-Ok.ensures.found
    (store_without_file g.F.Folder c.args.profile.now (change_saved_saying said (paths_of own) (load_values own c.args.force)) (Err c.in_err-profile.field-0.0) c.args.folder.now c.named_file.new.folder (c.in_err-profile.ensures.err 0)))

pub returns-in_err-files : goal.returns-in_err-files
returns-in_err-files g c =
    let Go : ReadResults → Loaded → Gives = λ reads. Loads reads c.args.profile.now c.args.force in
    let l = loaded_of c.in-Ok.loaded in
    let said = lines_text l.left_out in
    let own = l.rows in
    let p = err_from_is_err_and c.from_residual-in_err-files.result c.from_residual-in_err-files.ensures.1 in
    rw (p.1, p.2)
    (decides_rows g.F.Folder c.args.folder.now c.read.new.folder (Err c.in_err-files.field-0.0) (rows_loaded c.args.skip_doubles c.args.below) l Go c.in-Ok.ensures.found
    (store_without_databases g.F.Folder c.args.profile.now (change_saved_saying said (paths_of own) (load_values own c.args.force)) (Err c.in_err-files.field-0.0) c.args.folder.now c.named_file.new.folder c.read.new.folder c.in_ok-profile.profile c.in_ok-profile.ensures.name c.in_ok-profile.ensures.ok c.in_err-files.ensures.err))

pub returns-in_err-engine : goal.returns-in_err-engine
returns-in_err-engine g c =
    let Go : ReadResults → Loaded → Gives = λ reads. Loads reads c.args.profile.now c.args.force in
    let l = loaded_of c.in-Ok.loaded in
    let said = lines_text l.left_out in
    let own = l.rows in
    let p = err_from_is_err_and c.from_residual-in_err-engine.result c.from_residual-in_err-engine.ensures.1 in
    rw (p.1, p.2)
    (decides_rows g.F.Folder c.args.folder.now c.read.new.folder (Err c.in_err-engine.field-0.0) (rows_loaded c.args.skip_doubles c.args.below) l Go c.in-Ok.ensures.found
    (store_not_opened g.F.Folder c.args.profile.now (change_saved_saying said (paths_of own) (load_values own c.args.force)) (Err c.in_err-engine.field-0.0) c.args.folder.now c.named_file.new.folder c.read.new.folder
    c.in_ok-profile.profile c.in_ok-profile.ensures.name c.in_ok-profile.ensures.ok c.in_ok-files.files c.in_ok-files.ensures.ok c.in_err-engine.ensures.err))

pub open-requires : goal.open-requires
open-requires g c = c.in_ok-files.ensures.ok.each

pub returns-in_err-loaded : goal.returns-in_err-loaded
returns-in_err-loaded g c =
    let Go : ReadResults → Loaded → Gives = λ reads. Loads reads c.args.profile.now c.args.force in
    let l = loaded_of c.in-Ok.loaded in
    let said = lines_text l.left_out in
    let own = l.rows in
    let p = err_from_is_err_and c.from_residual-in_err-loaded.result c.from_residual-in_err-loaded.ensures.1 in
    rw (p.1, p.2)
    (decides_rows g.F.Folder c.args.folder.now c.read.new.folder (Err c.in_err-loaded.field-0.0) (rows_loaded c.args.skip_doubles c.args.below) l Go c.in-Ok.ensures.found
    (store_opened g.F.Folder c.args.profile.now (change_saved_saying said (paths_of own) (load_values own c.args.force)) (Err c.in_err-loaded.field-0.0) c.args.folder.now c.named_file.new.folder c.read.new.folder
    c.in_ok-profile.profile c.in_ok-profile.ensures.name c.in_ok-profile.ensures.ok c.in_ok-files.files c.in_ok-files.ensures.ok c.in_ok-engine.engine c.in_ok-engine.ensures.ok (c.in_err-loaded.ensures.err said (user_file (databases_of c.in_ok-files.files.profile)))))

pub returns : goal.returns
returns g c =
    let Go : ReadResults → Loaded → Gives = λ reads. Loads reads c.args.profile.now c.args.force in
    let l = loaded_of c.in-Ok.loaded in
    let said = lines_text l.left_out in
    let own = l.rows in
    let file = user_file (databases_of c.in_ok-files.files.profile) in
    let text : string_bytes c.in_ok-text.text ≡ said = c.in_ok-text.ensures ∙ ap (λ paths. lines_text (map (λ path. path.now) paths)) c.deref.ensures.value in
    let new = c.in_ok-loaded.ensures.ok in
    let saves : GivesOutcome c.saved_saying.result (SavesSaying said (paths_of own) file (apply c.in_ok-engine.engine (load_values own c.args.force))) =
    subst (λ (x : Result Layers Refusal). GivesOutcome c.saved_saying.result (SavesSaying said (paths_of own) file x)) (sym new.1)
    (subst (λ (t : List ℕ). GivesOutcome c.saved_saying.result (Writes file t (saved new.0.layers))) text (c.saved_saying.ensures (saved new.0.layers)
    (subst (λ (s : Settings). IfOk c.write.result (λ file. IsDatabaseOf s file.items)) new.2 c.write.ensures.database)
    (subst (λ (s : Settings). IfErr c.write.result (IsRefusal s)) new.2 c.write.ensures.fault))) in
    decides_rows g.F.Folder c.args.folder.now c.read.new.folder c.saved_saying.result (rows_loaded c.args.skip_doubles c.args.below) l Go c.in-Ok.ensures.found
    (store_opened g.F.Folder c.args.profile.now (change_saved_saying said (paths_of own) (load_values own c.args.force)) c.saved_saying.result c.args.folder.now c.named_file.new.folder c.read.new.folder
    c.in_ok-profile.profile c.in_ok-profile.ensures.name c.in_ok-profile.ensures.ok c.in_ok-files.files c.in_ok-files.ensures.ok c.in_ok-engine.engine c.in_ok-engine.ensures.ok saves)
