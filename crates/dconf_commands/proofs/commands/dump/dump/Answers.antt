use Rattle.std.proofs.Common.{◌≡◌, ◌∙◌, Err, ap, false, map, refl, subst}
use Rattle.dconf_model.specs.Layers.{paths_below}
use Rattle.dconf_model.specs.Outcomes.{dump_at}
use Rattle.dconf_path.specs.Paths.{directory_text}
use Rattle.dconf_layers.specs.LayerSettings.{settings_of}
use Rattle.dconf_streams.specs.Answers.{GivesOutcome}
use Rattle.std.proofs.lemmas.Result.{err_from_is_err_and}
use Rattle.dconf_model.specs.Paths.{directory_fault}
use Rattle.dconf_commands.proofs.PathArguments.{decides_at_path, decides_faultless}
use Rattle.dconf_commands.proofs.OpenStores.{opened, values_dumped}
use Rattle.dconf_commands.proofs.Stores.{store_not_opened, store_opened, store_without_databases, store_without_file}
use Rattle.dconf_commands.proofs.commands.dump.dump.Goals as goal

pub returns-in_err-directory : goal.returns-in_err-directory
returns-in_err-directory g c = λ input.
    let p = err_from_is_err_and c.from_residual.result c.from_residual.ensures.1 in
    rw (p.1, p.2) (decides_at_path g.F.Folder c.args.folder.now _ (Err c.in_err-directory.field-0.0) (directory_fault c.args.directory.now) c.in_err-directory.ensures.err)

pub returns-in_err-profile : goal.returns-in_err-profile
returns-in_err-profile g c = λ input.
    let p = err_from_is_err_and c.from_residual-in_err-profile.result c.from_residual-in_err-profile.ensures.1 in
    rw (p.1, p.2) (decides_faultless g.F.Folder c.args.folder.now c.named_file.new.folder _ (Err c.in_err-profile.field-0.0) (directory_fault c.args.directory.now) c.in_ok-directory.ensures.faultless
    (store_without_file g.F.Folder c.args.profile.now (values_dumped c.args.skip_doubles c.args.directory.now) (Err c.in_err-profile.field-0.0) c.args.folder.now c.named_file.new.folder (c.in_err-profile.ensures.err 0)))

pub returns-in_err-files : goal.returns-in_err-files
returns-in_err-files g c = λ input.
    let p = err_from_is_err_and c.from_residual-in_err-files.result c.from_residual-in_err-files.ensures.1 in
    rw (p.1, p.2) (decides_faultless g.F.Folder c.args.folder.now c.read.new.folder _ (Err c.in_err-files.field-0.0) (directory_fault c.args.directory.now) c.in_ok-directory.ensures.faultless
    (store_without_databases g.F.Folder c.args.profile.now (values_dumped c.args.skip_doubles c.args.directory.now) (Err c.in_err-files.field-0.0) c.args.folder.now c.named_file.new.folder c.read.new.folder
    c.in_ok-profile.profile c.in_ok-profile.ensures.name c.in_ok-profile.ensures.ok c.in_err-files.ensures.err))

pub returns-in_err-layers : goal.returns-in_err-layers
returns-in_err-layers g c = λ input.
    let p = err_from_is_err_and c.from_residual-in_err-layers.result c.from_residual-in_err-layers.ensures.1 in
    rw (p.1, p.2) (decides_faultless g.F.Folder c.args.folder.now c.read.new.folder _ (Err c.in_err-layers.field-0.0) (directory_fault c.args.directory.now) c.in_ok-directory.ensures.faultless
    (store_not_opened g.F.Folder c.args.profile.now (values_dumped c.args.skip_doubles c.args.directory.now) (Err c.in_err-layers.field-0.0) c.args.folder.now c.named_file.new.folder c.read.new.folder
    c.in_ok-profile.profile c.in_ok-profile.ensures.name c.in_ok-profile.ensures.ok c.in_ok-files.files c.in_ok-files.ensures.ok c.in_err-layers.ensures.err))

pub returns : goal.returns
returns g c = λ input.
    let l = opened c.in_ok-files.files c.in_ok-layers.layers.items in
    decides_faultless g.F.Folder c.args.folder.now c.read.new.folder _ c.dumped.result (directory_fault c.args.directory.now) c.in_ok-directory.ensures.faultless
    (store_opened g.F.Folder c.args.profile.now (values_dumped c.args.skip_doubles c.args.directory.now) c.dumped.result c.args.folder.now c.named_file.new.folder c.read.new.folder
    c.in_ok-profile.profile c.in_ok-profile.ensures.name c.in_ok-profile.ensures.ok c.in_ok-files.files c.in_ok-files.ensures.ok l
    (record { layers = c.in_ok-layers.ensures.ok; writable = refl })
    (subst (λ directory. GivesOutcome c.dumped.result (λ o. o ≡ dump_at c.args.skip_doubles directory l (paths_below l directory))) c.in_ok-directory.ensures.ok
    (subst (λ seen. GivesOutcome c.dumped.result (λ o. o ≡ dump_at c.args.skip_doubles (directory_text c.in_ok-directory.directory) seen (paths_below seen (directory_text c.in_ok-directory.directory))))
    (c.new.ensures ∙ ap (λ layers. record { layers = map settings_of layers; writable = false }) c.deref.ensures.value) c.dumped.ensures)))
