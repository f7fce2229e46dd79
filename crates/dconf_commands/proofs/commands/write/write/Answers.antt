use Rattle.std.proofs.Common.{◌∷◌, ℕ, List, [], Err, subst}
use Rattle.std.proofs.lemmas.Result.{err_from_is_err_and}
use Rattle.dconf_model.specs.Changes.{apply}
use Rattle.dconf_model.specs.Changes.Change.{set_value}
use Rattle.dconf_model.specs.Outcomes.{Saves, value_of_word}
use Rattle.dconf_model.specs.Paths.{key_fault}
use Rattle.dconf_model.specs.Profiles.{user_file}
use Rattle.dconf_streams.specs.Answers.{GivesOutcome}
use Rattle.dconf_commands.specs.Stores.{named_by}
use Rattle.dconf_commands.proofs.ChangeLaws.{decides_with_value, no_value_is_any}
use Rattle.dconf_commands.proofs.PathArguments.{decides_at_path, decides_at_word, decides_faultless}
use Rattle.dconf_commands.proofs.OpenStores.{change_saved}
use Rattle.dconf_commands.proofs.Stores.{store_not_opened, store_opened, store_without_databases, store_without_file}
use Rattle.dconf_commands.proofs.commands.write.write.Goals as goal

pub returns-in_err-key : goal.returns-in_err-key
returns-in_err-key g c = λ input.
    let p = err_from_is_err_and c.from_residual.result c.from_residual.ensures.1 in
    rw (p.1, p.2) (decides_at_path g.F.Folder c.args.folder.now _ (Err c.in_err-key.field-0.0) (key_fault c.args.key.now) c.in_err-key.ensures.err)

pub returns-in_err-value : goal.returns-in_err-value
returns-in_err-value g c = λ input.
    let p = err_from_is_err_and c.from_residual-in_err-value.result c.from_residual-in_err-value.ensures.1 in
    rw (p.1, p.2) (decides_at_word g.F.Folder c.args.folder.now _ (Err c.in_err-value.field-0.0) (key_fault c.args.key.now) c.in_ok-key.ensures.faultless
    (λ reads. no_value_is_any (Err c.in_err-value.field-0.0) (value_of_word c.args.value.now) _ c.in_err-value.ensures.err))

pub returns-in_err-profile : goal.returns-in_err-profile
returns-in_err-profile g c = λ input.
    let p = err_from_is_err_and c.from_residual-in_err-profile.result c.from_residual-in_err-profile.ensures.1 in
    rw (p.1, p.2) (decides_faultless g.F.Folder c.args.folder.now c.named_file.new.folder _ (Err c.in_err-profile.field-0.0) (key_fault c.args.key.now) c.in_ok-key.ensures.faultless
    (decides_with_value g.F.Folder c.args.folder.now c.named_file.new.folder (Err c.in_err-profile.field-0.0) (value_of_word c.args.value.now) c.in_ok-value.value _ c.in_ok-value.ensures.ok
    (store_without_file g.F.Folder c.args.profile.now (change_saved (c.args.key.now ∷ []) (set_value c.args.key.now c.in_ok-value.value)) (Err c.in_err-profile.field-0.0) c.args.folder.now c.named_file.new.folder (c.in_err-profile.ensures.err 0))))

pub returns-in_err-files : goal.returns-in_err-files
returns-in_err-files g c = λ input.
    let p = err_from_is_err_and c.from_residual-in_err-files.result c.from_residual-in_err-files.ensures.1 in
    rw (p.1, p.2) (decides_faultless g.F.Folder c.args.folder.now c.read.new.folder _ (Err c.in_err-files.field-0.0) (key_fault c.args.key.now) c.in_ok-key.ensures.faultless
    (decides_with_value g.F.Folder c.args.folder.now c.read.new.folder (Err c.in_err-files.field-0.0) (value_of_word c.args.value.now) c.in_ok-value.value _ c.in_ok-value.ensures.ok
    (store_without_databases g.F.Folder c.args.profile.now (change_saved (c.args.key.now ∷ []) (set_value c.args.key.now c.in_ok-value.value)) (Err c.in_err-files.field-0.0) c.args.folder.now c.named_file.new.folder c.read.new.folder
    c.in_ok-profile.profile c.in_ok-profile.ensures.name c.in_ok-profile.ensures.ok c.in_err-files.ensures.err)))

pub returns-in_err-engine : goal.returns-in_err-engine
returns-in_err-engine g c = λ input.
    let p = err_from_is_err_and c.from_residual-in_err-engine.result c.from_residual-in_err-engine.ensures.1 in
    rw (p.1, p.2) (decides_faultless g.F.Folder c.args.folder.now c.read.new.folder _ (Err c.in_err-engine.field-0.0) (key_fault c.args.key.now) c.in_ok-key.ensures.faultless
    (decides_with_value g.F.Folder c.args.folder.now c.read.new.folder (Err c.in_err-engine.field-0.0) (value_of_word c.args.value.now) c.in_ok-value.value _ c.in_ok-value.ensures.ok
    (store_not_opened g.F.Folder c.args.profile.now (change_saved (c.args.key.now ∷ []) (set_value c.args.key.now c.in_ok-value.value)) (Err c.in_err-engine.field-0.0) c.args.folder.now c.named_file.new.folder c.read.new.folder
    c.in_ok-profile.profile c.in_ok-profile.ensures.name c.in_ok-profile.ensures.ok c.in_ok-files.files c.in_ok-files.ensures.ok c.in_err-engine.ensures.err)))

pub open-requires : goal.open-requires
open-requires g c = c.in_ok-files.ensures.ok.each

pub returns : goal.returns
returns g c = λ input.
    decides_faultless g.F.Folder c.args.folder.now c.read.new.folder _ c.with_value.result (key_fault c.args.key.now) c.in_ok-key.ensures.faultless
    (decides_with_value g.F.Folder c.args.folder.now c.read.new.folder c.with_value.result (value_of_word c.args.value.now) c.in_ok-value.value _ c.in_ok-value.ensures.ok
    (store_opened g.F.Folder c.args.profile.now (change_saved (c.args.key.now ∷ []) (set_value c.args.key.now c.in_ok-value.value)) c.with_value.result c.args.folder.now c.named_file.new.folder c.read.new.folder
    c.in_ok-profile.profile c.in_ok-profile.ensures.name c.in_ok-profile.ensures.ok c.in_ok-files.files c.in_ok-files.ensures.ok c.in_ok-engine.engine
    c.in_ok-engine.ensures.ok
    (subst (λ (key : List ℕ). GivesOutcome c.with_value.result (Saves (key ∷ []) (user_file (named_by c.in_ok-files.files)) (apply c.in_ok-engine.engine (set_value key c.in_ok-value.value))))
    c.in_ok-key.ensures.ok c.with_value.ensures)))
