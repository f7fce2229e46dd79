use Rattle.std.proofs.Common.{◌≡◌, ◌∙◌, ap, sym, ℕ, List, None, Result, Ok}
use Rattle.std.proofs.lemmas.Result.{IfOk-weaker}
use Rattle.dconf_model.specs.Lines.{LineFault, settings_text_fault, unless_fault}
use Rattle.dconf_model.specs.Profiles.{Database, databases_in, profile_of}
use Rattle.command_words.specs.Replaced.{file_if_read}
use Rattle.command_words.proofs.replaced.user_file.Goals as goal

-- a text without fault, read
is_read : (bytes text : List ℕ) (read : Result (List Database) LineFault) → text ≡ bytes → settings_text_fault bytes ≡ None → databases_in text ≡ read → profile_of bytes ≡ read
is_read bytes text read same faultless found =
    ap (λ fault. unless_fault fault (databases_in bytes)) faultless ∙ (ap databases_in (sym same) ∙ found)

pub returns-in-Ok-read_profile : goal.returns-in-Ok-read_profile
returns-in-Ok-read_profile c =
    IfOk-weaker c.name_of_first.result _ _ (λ name is. is ∙ ap (λ read. file_if_read c.args.profile.now read)
    (ap Ok c.databases.ensures ∙ sym (is_read c.args.bytes.now c.in-Ok.text.now _ c.in-Ok.ensures.text c.in-Ok.ensures.faultless c.in-Ok-read_profile.ensures.found))) c.name_of_first.ensures
