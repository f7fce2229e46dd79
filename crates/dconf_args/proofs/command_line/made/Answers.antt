use Rattle.std.proofs.Common.{◌∙◌, ap, false, map, string_bytes, sym, true}
use Rattle.std.proofs.lemmas.List.{at_drop_all}
use Rattle.clap.specs.Simple.{app_of_fields}
use Rattle.clap.specs.Words.{App, app_of}
use Rattle.dconf_args.specs.Taken.{with_words}
use Rattle.dconf_args.proofs.Lines.{told_line}
use Rattle.dconf_args.proofs.command_line.made.Goals as goal

pub returns : goal.returns
returns c =
    let line = c.args.line.now in
    let whole = sym (at_drop_all (with_words (app_of c.loop-word.command)) line.words.now c.loop-word.word-index c.loop-word-test.false) ∙ c.loop-word.invariant in
    ap (λ (a : App). a.top) whole ∙ told_line (map string_bytes c.args.given.now) line.name.now line.words.now true (sym c.is_given.ensures ∙ c.if-not-is_given.false)

pub returns-then-not-is_given : goal.returns-then-not-is_given
returns-then-not-is_given c =
    let line = c.args.line.now in
    let start = ap app_of_fields c.after_long_help-command.ensures ∙ ap app_of_fields c.about.ensures ∙ c.new.ensures.app in
    ap (λ (a : App). a.top) start ∙ told_line (map string_bytes c.args.given.now) line.name.now line.words.now false (sym c.is_given.ensures ∙ c.if-not-is_given.true)
