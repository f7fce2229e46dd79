use Rattle.std.proofs.Common.{◌≡◌, ◌∙◌, Bool, Err, ap, map, refl, subst}
use Rattle.std.proofs.lemmas.Result.{err_from_is_err_and}
use Rattle.dconf_model.specs.Layers.{Layers}
use Rattle.dconf_model.specs.Outcomes.{done}
use Rattle.dconf_layers.specs.LayerSettings.{seen_in, settings_of}
use Rattle.dconf_streams.specs.Answers.{GivesOutcome}
use Rattle.dconf_commands.specs.Stores.{named_by}
use Rattle.dconf_commands.proofs.OpenStores.{Made, opened}
use Rattle.dconf_commands.proofs.PathArguments.{decides_at_path, decides_faultless}
use Rattle.dconf_commands.proofs.Stores.{store_not_opened, store_opened, store_without_databases, store_without_file}
use Rattle.dconf_json.specs.Answers.{parsed_text, question_fault, text_for}
use Rattle.dconf_json.specs.declared.questions.Question.{Question}
use Rattle.dconf_json.proofs.questions.answered_as_json.Goals as goal

-- what is made of the databases of a store
abbrev answered : Question → Made
answered question = λ databases l o. o ≡ done (text_for question databases l)

pub returns-in_err-parsed : goal.returns-in_err-parsed
returns-in_err-parsed g c =
    let p = err_from_is_err_and c.from_residual.result c.from_residual.ensures.1 in
    rw (p.1, p.2) (decides_at_path g.F.Folder c.args.folder.now _ (Err c.in_err-parsed.field-0.0) (question_fault c.args.question) c.in_err-parsed.ensures.err)

pub returns-in_err-profile : goal.returns-in_err-profile
returns-in_err-profile g c =
    let p = err_from_is_err_and c.from_residual-in_err-profile.result c.from_residual-in_err-profile.ensures.1 in
    rw (p.1, p.2) (decides_faultless g.F.Folder c.args.folder.now c.named_file.new.folder _ (Err c.in_err-profile.field-0.0) (question_fault c.args.question) c.in_ok-parsed.ensures.faultless
    (store_without_file g.F.Folder c.args.profile.now (answered c.args.question) (Err c.in_err-profile.field-0.0) c.args.folder.now c.named_file.new.folder (c.in_err-profile.ensures.err 0)))

pub returns-in_err-files : goal.returns-in_err-files
returns-in_err-files g c =
    let p = err_from_is_err_and c.from_residual-in_err-files.result c.from_residual-in_err-files.ensures.1 in
    rw (p.1, p.2) (decides_faultless g.F.Folder c.args.folder.now c.read.new.folder _ (Err c.in_err-files.field-0.0) (question_fault c.args.question) c.in_ok-parsed.ensures.faultless
    (store_without_databases g.F.Folder c.args.profile.now (answered c.args.question) (Err c.in_err-files.field-0.0) c.args.folder.now c.named_file.new.folder c.read.new.folder
    c.in_ok-profile.profile c.in_ok-profile.ensures.name c.in_ok-profile.ensures.ok c.in_err-files.ensures.err))

pub returns-in_err-layers : goal.returns-in_err-layers
returns-in_err-layers g c =
    let p = err_from_is_err_and c.from_residual-in_err-layers.result c.from_residual-in_err-layers.ensures.1 in
    rw (p.1, p.2) (decides_faultless g.F.Folder c.args.folder.now c.read.new.folder _ (Err c.in_err-layers.field-0.0) (question_fault c.args.question) c.in_ok-parsed.ensures.faultless
    (store_not_opened g.F.Folder c.args.profile.now (answered c.args.question) (Err c.in_err-layers.field-0.0) c.args.folder.now c.named_file.new.folder c.read.new.folder
    c.in_ok-profile.profile c.in_ok-profile.ensures.name c.in_ok-profile.ensures.ok c.in_ok-files.files c.in_ok-files.ensures.ok c.in_err-layers.ensures.err))

pub returns : goal.returns
returns g c =
    let files = c.in_ok-files.files in
    let l = opened files c.in_ok-layers.layers.items in
    let question = c.args.question in
    let lent : seen_in c.new-lent.result ≡ l =
    c.new-lent.ensures ∙ (λ i. record { layers = map settings_of (c.deref.ensures.value i); writable = c.is_of_user.ensures i }) in
    decides_faultless g.F.Folder c.args.folder.now c.read.new.folder _ _ (question_fault question) c.in_ok-parsed.ensures.faultless
    (store_opened g.F.Folder c.args.profile.now (answered question) _ c.args.folder.now c.named_file.new.folder c.read.new.folder
    c.in_ok-profile.profile c.in_ok-profile.ensures.name c.in_ok-profile.ensures.ok files c.in_ok-files.ensures.ok l
    (record { layers = c.in_ok-layers.ensures.ok; writable = refl })
    (subst (λ text. GivesOutcome c.answer.result (λ o. o ≡ done text))
    (ap (parsed_text c.in_ok-parsed.parsed (named_by files)) lent ∙ c.in_ok-parsed.ensures.ok (named_by files) l) c.answer.ensures))
