use Rattle.std.proofs.Common.{◌≡◌, ℕ, List, Err, subst}
use Rattle.dconf_model.specs.Explains.{explained}
use Rattle.dconf_model.specs.Outcomes.{done}
use Rattle.dconf_streams.specs.Answers.{GivesOutcome}
use Rattle.dconf_commands.specs.Stores.{named_by}
use Rattle.std.proofs.lemmas.Result.{err_from_is_err_and}
use Rattle.dconf_model.specs.Paths.{key_fault}
use Rattle.dconf_commands.proofs.PathArguments.{decides_at_path, decides_faultless}
use Rattle.dconf_commands.proofs.OpenStores.{key_explained}
use Rattle.dconf_commands.proofs.Stores.{store_not_opened, store_opened, store_without_databases, store_without_file}
use Rattle.dconf_commands.proofs.commands.explain.explain.Goals as goal

pub returns-in_err-key : goal.returns-in_err-key
returns-in_err-key g c = λ input.
    let p = err_from_is_err_and c.from_residual.result c.from_residual.ensures.1 in
    rw (p.1, p.2) (decides_at_path g.F.Folder c.args.folder.now _ (Err c.in_err-key.field-0.0) (key_fault c.args.key.now) c.in_err-key.ensures.err)

pub returns-in_err-profile : goal.returns-in_err-profile
returns-in_err-profile g c = λ input.
    let p = err_from_is_err_and c.from_residual-in_err-profile.result c.from_residual-in_err-profile.ensures.1 in
    rw (p.1, p.2) (decides_faultless g.F.Folder c.args.folder.now c.named_file.new.folder _ (Err c.in_err-profile.field-0.0) (key_fault c.args.key.now) c.in_ok-key.ensures.faultless
    (store_without_file g.F.Folder c.args.profile.now (key_explained c.args.key.now) (Err c.in_err-profile.field-0.0) c.args.folder.now c.named_file.new.folder (c.in_err-profile.ensures.err 0)))

pub returns-in_err-files : goal.returns-in_err-files
returns-in_err-files g c = λ input.
    let p = err_from_is_err_and c.from_residual-in_err-files.result c.from_residual-in_err-files.ensures.1 in
    rw (p.1, p.2) (decides_faultless g.F.Folder c.args.folder.now c.read.new.folder _ (Err c.in_err-files.field-0.0) (key_fault c.args.key.now) c.in_ok-key.ensures.faultless
    (store_without_databases g.F.Folder c.args.profile.now (key_explained c.args.key.now) (Err c.in_err-files.field-0.0) c.args.folder.now c.named_file.new.folder c.read.new.folder
    c.in_ok-profile.profile c.in_ok-profile.ensures.name c.in_ok-profile.ensures.ok c.in_err-files.ensures.err))

pub returns-in_err-engine : goal.returns-in_err-engine
returns-in_err-engine g c = λ input.
    let p = err_from_is_err_and c.from_residual-in_err-engine.result c.from_residual-in_err-engine.ensures.1 in
    rw (p.1, p.2) (decides_faultless g.F.Folder c.args.folder.now c.read.new.folder _ (Err c.in_err-engine.field-0.0) (key_fault c.args.key.now) c.in_ok-key.ensures.faultless
    (store_not_opened g.F.Folder c.args.profile.now (key_explained c.args.key.now) (Err c.in_err-engine.field-0.0) c.args.folder.now c.named_file.new.folder c.read.new.folder
    c.in_ok-profile.profile c.in_ok-profile.ensures.name c.in_ok-profile.ensures.ok c.in_ok-files.files c.in_ok-files.ensures.ok c.in_err-engine.ensures.err))

pub open-requires : goal.open-requires
open-requires g c = c.in_ok-files.ensures.ok.each

pub returns : goal.returns
returns g c = λ input.
    decides_faultless g.F.Folder c.args.folder.now c.read.new.folder _ c.explained.result (key_fault c.args.key.now) c.in_ok-key.ensures.faultless
    (store_opened g.F.Folder c.args.profile.now (key_explained c.args.key.now) c.explained.result c.args.folder.now c.named_file.new.folder c.read.new.folder
    c.in_ok-profile.profile c.in_ok-profile.ensures.name c.in_ok-profile.ensures.ok c.in_ok-files.files c.in_ok-files.ensures.ok c.in_ok-engine.engine
    c.in_ok-engine.ensures.ok
    (subst (λ (key : List ℕ). GivesOutcome c.explained.result (λ o. o ≡ done (explained (named_by c.in_ok-files.files) c.in_ok-engine.engine key))) c.in_ok-key.ensures.ok c.explained.ensures))
