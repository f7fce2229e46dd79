-- The command line of `dconfdb`, as clap sees it.
use Rattle.std.specs.Prelude.{true, List, [], ◌∷◌, Some, codes}
use Rattle.std.specs.List.{fold}
use Rattle.clap.specs.Words.{App, Rule, Text, new_app, new_rule, with_rule, with_subcommand}
use Rattle.clap.specs.declared.builder.action.ArgAction.TheVariants.{Append, Set, SetTrue}

-- a word that must be there, in its place
abbrev pub required_word : Text → Rule
required_word id = record (new_rule id) { required = true; action = Some Set }

-- `show TYPE FILE`
abbrev pub show_line : App
show_line = with_rule (with_rule (new_app (codes "show")) (required_word (codes "TYPE"))) (required_word (codes "FILE"))

-- `check FILE`
abbrev pub check_line : App
check_line = with_rule (new_app (codes "check")) (required_word (codes "FILE"))

-- `--locks FILE`, any number of times
abbrev pub locks_option : Rule
locks_option = record (new_rule (codes "locks")) { long = Some (codes "locks"); action = Some Append; value_names = 1 }

-- words that may be there, each a value
abbrev pub further_words : Text → Rule
further_words id = record (new_rule id) { action = Some Append }

-- `compile OUT [--locks FILE].. [KEYFILE..]`
abbrev pub compile_line : App
compile_line =
    with_rule (with_rule (with_rule (new_app (codes "compile")) (required_word (codes "OUT"))) locks_option) (further_words (codes "KEYFILE"))

-- a word that may be there, in its place
abbrev pub optional_word : Text → Rule
optional_word id = record (new_rule id) { action = Some Set }

-- a flag `--ID`
abbrev pub long_flag : Text → Rule
long_flag id = record (new_rule id) { long = Some id; action = Some SetTrue }

-- `update [--force] [--dry-run] [FOLDER]`
abbrev pub update_line : App
update_line = with_rule (with_rule (with_rule (new_app (codes "update")) (optional_word (codes "FOLDER"))) (long_flag (codes "force"))) (long_flag (codes "dry-run"))

-- `-d`
abbrev pub default_flag : Rule
default_flag = record (new_rule (codes "default")) { short = Some 100; action = Some SetTrue }

-- `-p FILE`
abbrev pub profile_option : Rule
profile_option = record (new_rule (codes "profile")) { short = Some 112; action = Some Set; value_names = 1 }

-- `--user`
abbrev pub user_flag : Rule
user_flag = long_flag (codes "user")

-- `--store FOLDER`
abbrev pub store_option : Rule
store_option = record (new_rule (codes "store")) { long = Some (codes "store"); action = Some Set; value_names = 1 }

-- a line with the options of a command on a store, `[-p FILE] [--user] [--store FOLDER]`
abbrev pub with_store : App → App
with_store line = with_rule (with_rule (with_rule line profile_option) user_flag) store_option

-- `--json`
abbrev pub json_flag : Rule
json_flag = long_flag (codes "json")

-- `read [-d] [--json] KEY`
abbrev pub read_line : App
read_line = with_store (with_rule (with_rule (with_rule (new_app (codes "read")) (required_word (codes "KEY"))) default_flag) json_flag)

-- `origin KEY`
abbrev pub origin_line : App
origin_line = with_store (with_rule (new_app (codes "origin")) (required_word (codes "KEY")))

-- `explain [--json] PATH`
abbrev pub explain_line : App
explain_line = with_store (with_rule (with_rule (new_app (codes "explain")) (required_word (codes "PATH"))) json_flag)

-- `repair FILE OUT`
abbrev pub repair_line : App
repair_line = with_rule (with_rule (new_app (codes "repair")) (required_word (codes "FILE"))) (required_word (codes "OUT"))

-- `list [--json] DIR`
abbrev pub list_line : App
list_line = with_store (with_rule (with_rule (new_app (codes "list")) (required_word (codes "DIR"))) json_flag)

-- `list-locks DIR`
abbrev pub list_locks_line : App
list_locks_line = with_store (with_rule (new_app (codes "list-locks")) (required_word (codes "DIR")))

-- `--skip-doubles`
abbrev pub skip_doubles_flag : Rule
skip_doubles_flag = long_flag (codes "skip-doubles")

-- `dump [--skip-doubles] [--own] [--json] DIR`
abbrev pub dump_line : App
dump_line =
    with_store (with_rule (with_rule (with_rule (with_rule (new_app (codes "dump")) (required_word (codes "DIR"))) skip_doubles_flag) (long_flag (codes "own"))) json_flag)

-- `write KEY VALUE`
abbrev pub write_line : App
write_line = with_store (with_rule (with_rule (new_app (codes "write")) (required_word (codes "KEY"))) (required_word (codes "VALUE")))

-- `-f`
abbrev pub force_flag : Rule
force_flag = record (new_rule (codes "force")) { short = Some 102; action = Some SetTrue }

-- `reset [-f] PATH`
abbrev pub reset_line : App
reset_line = with_store (with_rule (with_rule (new_app (codes "reset")) (required_word (codes "PATH"))) force_flag)

-- `load [-f] [--skip-doubles] DIR`
abbrev pub load_line : App
load_line = with_store (with_rule (with_rule (with_rule (new_app (codes "load")) (required_word (codes "DIR"))) force_flag) skip_doubles_flag)

-- `diff [--json] OLD NEW`
abbrev pub diff_line : App
diff_line = with_rule (with_rule (with_rule (new_app (codes "diff")) (required_word (codes "OLD"))) (required_word (codes "NEW"))) json_flag

-- `dconfdb`, which wants a subcommand and has a version
abbrev pub dconfdb_line : App
dconfdb_line = record (new_app (codes "dconfdb")) {
  top = record (new_app (codes "dconfdb")).top {
    subcommand_required = true;
    has_version = true;
  };
}

-- its commands, in the order of its help
abbrev commands : List App
commands =
    read_line ∷ (write_line ∷ (reset_line ∷ (list_line ∷ (dump_line ∷ (load_line ∷ (origin_line ∷ (explain_line
    ∷ (list_locks_line ∷ (diff_line ∷ (compile_line ∷ (update_line ∷ (check_line ∷ (repair_line ∷ (show_line ∷ []))))))))))))))

abbrev pub command_line : App
command_line = fold (λ line command. with_subcommand line command.top) dconfdb_line commands
