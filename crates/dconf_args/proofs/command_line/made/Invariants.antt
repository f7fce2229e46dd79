use Rattle.std.proofs.Common.{◌≡◌, drop}
use Rattle.clap.specs.Words.{app_of, new_app}
use Rattle.dconf_args.specs.Taken.{with_words}
use Rattle.dconf_args.proofs.command_line.made.Given as goal

abbrev pub invariant-loop-word : goal.invariant-loop-word
invariant-loop-word l = with_words (app_of l.command) (drop l.word-index l.line.words.now) ≡ with_words (new_app l.line.name.now) l.line.words.now
