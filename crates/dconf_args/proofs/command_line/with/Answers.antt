use Rattle.std.proofs.Common.{◌≡◌, ◌∙◌, ap, map, string_bytes, true}
use Rattle.std.proofs.lemmas.Result.{IfOk-weaker}
use Rattle.std.proofs.lemmas.Bool.{and_parts}
use Rattle.clap.specs.Words.{App, Shape, app_of, new_app, with_subcommand}
use Rattle.dconf_args.specs.Taken.{told_of, with_words}
use Rattle.dconf_args.proofs.Lines.{first_not, only_rules}
use Rattle.dconf_args.proofs.command_line.with.Goals as goal

pub returns : goal.returns
returns c =
    let start : App = new_app c.args.command.now.name.now in
    let whole : App = with_words start c.args.command.now.words.now in
    let made : (app_of c.in_ok-made.field-0).top ≡ told_of (map string_bytes c.args.given.now) whole.top = c.in_ok-made.ensures in
    let plain : whole.top.is_plain ≡ true = ap (λ (s : Shape). s.is_plain) (only_rules start c.args.command.now.words.now) in
    IfOk-weaker c.subcommand.result _ _ (λ r h.
    h.shape (first_not _ _ (and_parts _ _ (and_parts _ _ (ap (λ (s : Shape). s.is_plain) made ∙ plain)).1).1)
    ∙ ap (with_subcommand (app_of c.args.line)) made) c.subcommand.ensures
