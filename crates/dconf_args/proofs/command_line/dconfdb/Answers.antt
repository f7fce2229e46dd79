use Rattle.std.proofs.Common.{◌≡◌, ◌∙◌, ap, codes, map, string_bytes}
use Rattle.std.proofs.lemmas.Result.{IfOk-weaker}
use Rattle.clap.specs.Simple.{app_of_fields}
use Rattle.clap.specs.Words.{App, app_of, new_app}
use Rattle.dconf_args.specs.CommandLine.{dconfdb_line}
use Rattle.dconf_args.specs.Taken.{with_lines}
use Rattle.dconf_args.proofs.Lines.{versioned, wanting_subcommand}
use Rattle.dconf_args.proofs.command_line.dconfdb.Goals as goal

pub returns : goal.returns
returns c =
    let words = map string_bytes c.args.words.now in
    let start : app_of c.after_long_help.result ≡ new_app (codes "dconfdb") = ap app_of_fields c.after_long_help.ensures ∙ ap app_of_fields c.about.ensures ∙ c.new.ensures.app in
    let version : app_of c.version.result ≡ versioned (app_of c.after_long_help.result) = ap app_of_fields c.version.ensures in
    let wants : app_of c.subcommand_required-line.result ≡ wanting_subcommand (app_of c.version.result) = ap app_of_fields c.subcommand_required-line.ensures in
    let line : app_of c.subcommand_required-line.result ≡ dconfdb_line = wants ∙ ap wanting_subcommand (version ∙ ap versioned start) in
    IfOk-weaker c.with_all.result _ _ (λ r h. h ∙ (ap (λ (a : App). with_lines words a c.as_slice.result.now) line ∙ ap (with_lines words dconfdb_line) c.as_slice.ensures)) c.with_all.ensures
