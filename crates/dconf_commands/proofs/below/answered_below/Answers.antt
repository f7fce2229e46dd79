use Rattle.std.proofs.Common.{◌≡◌, Err, refl, subst}
use Rattle.dconf_model.specs.Outcomes.{done}
use Rattle.dconf_path.specs.Paths.{directory_text}
use Rattle.dconf_streams.specs.Answers.{GivesOutcome}
use Rattle.std.proofs.lemmas.Result.{err_from_is_err_and}
use Rattle.dconf_model.specs.Paths.{directory_fault}
use Rattle.dconf_commands.specs.Below.{explained_below}
use Rattle.dconf_commands.specs.Stores.{named_by}
use Rattle.dconf_commands.proofs.PathArguments.{decides_at_path, decides_faultless}
use Rattle.dconf_commands.proofs.OpenStores.{keys_explained, opened}
use Rattle.dconf_commands.proofs.Stores.{store_not_opened, store_opened, store_without_databases, store_without_file}
use Rattle.dconf_commands.proofs.below.answered_below.Goals as goal

pub returns-in_err-directory : goal.returns-in_err-directory
returns-in_err-directory g c =
    let p = err_from_is_err_and c.from_residual.result c.from_residual.ensures.1 in
    rw (p.1, p.2) (decides_at_path g.F.Folder c.args.folder.now _ (Err c.in_err-directory.field-0.0) (directory_fault c.args.directory.now) c.in_err-directory.ensures.err)

pub returns-in_err-profile : goal.returns-in_err-profile
returns-in_err-profile g c =
    let p = err_from_is_err_and c.from_residual-in_err-profile.result c.from_residual-in_err-profile.ensures.1 in
    rw (p.1, p.2) (decides_faultless g.F.Folder c.args.folder.now c.named_file.new.folder _ (Err c.in_err-profile.field-0.0) (directory_fault c.args.directory.now) c.in_ok-directory.ensures.faultless
    (store_without_file g.F.Folder c.args.profile.now (keys_explained c.args.directory.now) (Err c.in_err-profile.field-0.0) c.args.folder.now c.named_file.new.folder (c.in_err-profile.ensures.err 0)))

pub returns-in_err-files : goal.returns-in_err-files
returns-in_err-files g c =
    let p = err_from_is_err_and c.from_residual-in_err-files.result c.from_residual-in_err-files.ensures.1 in
    rw (p.1, p.2) (decides_faultless g.F.Folder c.args.folder.now c.read.new.folder _ (Err c.in_err-files.field-0.0) (directory_fault c.args.directory.now) c.in_ok-directory.ensures.faultless
    (store_without_databases g.F.Folder c.args.profile.now (keys_explained c.args.directory.now) (Err c.in_err-files.field-0.0) c.args.folder.now c.named_file.new.folder c.read.new.folder
    c.in_ok-profile.profile c.in_ok-profile.ensures.name c.in_ok-profile.ensures.ok c.in_err-files.ensures.err))

pub returns-in_err-layers : goal.returns-in_err-layers
returns-in_err-layers g c =
    let p = err_from_is_err_and c.from_residual-in_err-layers.result c.from_residual-in_err-layers.ensures.1 in
    rw (p.1, p.2) (decides_faultless g.F.Folder c.args.folder.now c.read.new.folder _ (Err c.in_err-layers.field-0.0) (directory_fault c.args.directory.now) c.in_ok-directory.ensures.faultless
    (store_not_opened g.F.Folder c.args.profile.now (keys_explained c.args.directory.now) (Err c.in_err-layers.field-0.0) c.args.folder.now c.named_file.new.folder c.read.new.folder
    c.in_ok-profile.profile c.in_ok-profile.ensures.name c.in_ok-profile.ensures.ok c.in_ok-files.files c.in_ok-files.ensures.ok c.in_err-layers.ensures.err))

pub returns : goal.returns
returns g c =
    let files = c.in_ok-files.files in
    let l = opened files c.in_ok-layers.layers.items in
    decides_faultless g.F.Folder c.args.folder.now c.read.new.folder _ c.explained_below.result (directory_fault c.args.directory.now) c.in_ok-directory.ensures.faultless
    (store_opened g.F.Folder c.args.profile.now (keys_explained c.args.directory.now) c.explained_below.result c.args.folder.now c.named_file.new.folder c.read.new.folder
    c.in_ok-profile.profile c.in_ok-profile.ensures.name c.in_ok-profile.ensures.ok files c.in_ok-files.ensures.ok l
    (record { layers = c.in_ok-layers.ensures.ok; writable = refl })
    (subst (λ directory. GivesOutcome c.explained_below.result (λ o. o ≡ done (explained_below (named_by files) l directory))) c.in_ok-directory.ensures.ok
    (subst (λ layers. GivesOutcome c.explained_below.result (λ o. o ≡ done (explained_below (named_by files) (opened files layers) (directory_text c.in_ok-directory.directory)))) c.deref.ensures.value
    c.explained_below.ensures)))
