-- What clap is told of commands and of the words that they take.
use Rattle.std.specs.Prelude.{Bool, List, [], Some, if◌then◌else◌, map}
use Rattle.std.specs.List.{fold, list_any}
use Rattle.std.specs.Str.{bytes_eq}
use Rattle.clap.specs.Words.{App, Rule, Shape, Text, new_app, new_rule, with_rule, with_subcommand}
use Rattle.clap.specs.declared.builder.action.ArgAction.TheVariants.{SetTrue}
use Rattle.dconf_args.specs.CommandLine.{further_words, locks_option, long_flag, optional_word, profile_option, required_word, store_option}
use Rattle.dconf_args.specs.declared.command_table.Line.{Line}
use Rattle.dconf_args.specs.declared.word.Word.{Word}
use Rattle.dconf_args.specs.declared.word.Word.TheVariants.{Required, Optional, Further, Flag, Long, Locks, Profile, Store}

abbrev pub rule_of_word : Word → Rule
rule_of_word (Required name help) = required_word name.now
rule_of_word (Optional name help) = optional_word name.now
rule_of_word (Further name help) = further_words name.now
rule_of_word (Flag name letter help) = record (new_rule name.now) { short = Some letter; action = Some SetTrue }
rule_of_word (Long name help) = long_flag name.now
rule_of_word Locks = locks_option
rule_of_word Profile = profile_option
rule_of_word Store = store_option

-- a line with these words after its own
abbrev pub with_words : App → List Word → App
with_words line words = fold with_rule line (map rule_of_word words)

-- a name is one of the words
abbrev pub is_among : Text → List Text → Bool
is_among name words = list_any (λ word. bytes_eq word name) words

-- a command, without its arguments if its name is not among the words
abbrev pub told_of : List Text → Shape → Shape
told_of words s = record s { rules = if is_among s.name words then s.rules else [] }

-- what clap is told of a command line for these words
abbrev pub told : List Text → App → App
told words app = record app { subs = map (told_of words) app.subs }

-- with a command more, of a name and its words
abbrev pub with_line : List Text → App → Line → App
with_line words app line = with_subcommand app (told_of words (with_words (new_app line.name.now) line.words.now).top)

-- with commands more
abbrev pub with_lines : List Text → App → List Line → App
with_lines words app lines = fold (with_line words) app lines
