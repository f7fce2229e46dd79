-- What is said of wrong words, and for help.
use Rattle.std.specs.Prelude.{ℕ, List, [], ◌∷◌, ◌++◌, codes, Option, Some, None}
use Rattle.dconf_by_name.specs.declared.verb.Verb.{Verb}
use Rattle.dconf_by_name.specs.declared.verb.Verb.TheVariants.{Help, Read, List as ListIt, ListLocks, Write, Reset, Compile, Update, Watch, Dump, Load, Blame, Complete}
use Rattle.dconf_by_name.specs.declared.why.Noun.{Noun}
use Rattle.dconf_by_name.specs.declared.why.Noun.TheVariants.{Key, Dir, Path}
use Rattle.dconf_by_name.specs.declared.why.Why.{Why}
use Rattle.dconf_by_name.specs.declared.why.Why.TheVariants.{NoCommand, Unknown, Missing, NotAbsolute, DoubleSlash, EndsInSlash, NoEndSlash, NoValue, NeedsForce, NoOutput, NoFolder, NoSuffix, TooMany}

-- in the order of dconf's help
abbrev pub verbs : List Verb
verbs = Help ∷ Read ∷ ListIt ∷ ListLocks ∷ Write ∷ Reset ∷ Compile ∷ Update ∷ Watch ∷ Dump ∷ Load ∷ Blame ∷ Complete ∷ []

abbrev pub name_of : Verb → List ℕ
name_of Help = codes "help"
name_of Read = codes "read"
name_of ListIt = codes "list"
name_of ListLocks = codes "list-locks"
name_of Write = codes "write"
name_of Reset = codes "reset"
name_of Compile = codes "compile"
name_of Update = codes "update"
name_of Watch = codes "watch"
name_of Dump = codes "dump"
name_of Load = codes "load"
name_of Blame = codes "blame"
name_of Complete = codes "_complete"

-- its words and what it does
abbrev pub usage_of : Verb → List ℕ
usage_of Help = codes "help COMMAND\n\nPrint what COMMAND does; without one, the list of commands.\n"
usage_of Read = codes "read [-d] KEY\n\nPrint the value of KEY, or nothing if it has none.\n-d prints the value that it has without the user's.\n"
usage_of ListIt = codes "list DIR\n\nPrint the keys and the directories directly below DIR.\n"
usage_of ListLocks = codes "list-locks DIR\n\nPrint the locks on DIR and on paths below it.\n"
usage_of Write = codes "write KEY VALUE\n\nSet KEY to VALUE, a GVariant text without a double in it.\n"
usage_of Reset = codes "reset [-f] PATH\n\nRemove the user's value of a key. That of a locked key stays.\n-f removes those of all keys below a directory.\n"
usage_of Compile = codes "compile OUTPUT KEYFILEDIR\n\nMake the database OUTPUT of the keyfiles in KEYFILEDIR, and of the locks in KEYFILEDIR/locks.\n"
usage_of Update = codes "update [DBDIR]\n\nMake the databases of the folders NAME.d in DBDIR, or of the site's.\n"
usage_of Watch = codes "watch PATH\n\nPrint what changes at a key or below a directory, until it is interrupted.\n"
usage_of Dump = codes "dump DIR\n\nPrint all values below DIR as a keyfile.\nA value with a double in it is left out, and its key named in a comment.\n"
usage_of Load = codes "load [-f] DIR\n\nSet keys below DIR from a keyfile on stdin.\nA value with a double in it is left out, and its key named on stderr.\n-f leaves out locked keys, too.\n"
usage_of Blame = codes "blame\n\nPrint what the service has noted: who changed settings, where DCONF_BLAME is set.\n"
usage_of Complete = codes "_complete SUFFIX PATH\n\nPrint the paths that begin with PATH and end in SUFFIX, which is empty or a slash.\n"

abbrev pub commands_text : List ℕ
commands_text = codes "COMMAND [ARGS...]\n\nCommands:\n  help              Print what a command does\n  read              Print the value of a key\n  list              Print the names below a directory\n  list-locks        Print the locks below a directory\n  write             Set a key\n  reset             Remove the user's value of a key, or those below a directory\n  compile           Make a database of keyfiles\n  update            Make the databases of the system\n  watch             Print what changes\n  dump              Print all values below a directory as a keyfile\n  load              Set keys below a directory from a keyfile\n\n'dconf help COMMAND' says more of one.\n"

abbrev pub usage_if_any : Option Verb → List ℕ
usage_if_any None = commands_text
usage_if_any (Some of) = usage_of of

-- as help, and below what is wrong
abbrev pub usage : Option Verb → List ℕ
usage of = codes "Usage:\n  dconf " ++ (usage_if_any of ++ 10 ∷ [])

-- ---- what is wrong

abbrev pub noun_of : Noun → List ℕ
noun_of Key = codes "key"
noun_of Dir = codes "dir"
noun_of Path = codes "path"

-- `name` is that of the command
abbrev pub said_of : Why → List ℕ → List ℕ
said_of NoCommand name = codes "no command specified"
said_of Unknown name = codes "unknown command " ++ name
said_of (Missing noun) name = noun_of noun ++ codes " not specified"
said_of (NotAbsolute noun) name = codes "dconf " ++ (noun_of noun ++ codes " must begin with a slash")
said_of (DoubleSlash noun) name = codes "dconf " ++ (noun_of noun ++ codes " must not contain two consecutive slashes")
said_of EndsInSlash name = codes "dconf key must not end with a slash"
said_of NoEndSlash name = codes "dconf dir must end with a slash"
said_of NoValue name = codes "value not specified"
said_of NeedsForce name = codes "-f must be given to (recursively) reset entire directories"
said_of NoOutput name = codes "output file not specified"
said_of NoFolder name = codes "keyfile .d directory not specified"
said_of NoSuffix name = codes "suffix not specified"
said_of TooMany name = codes "too many arguments"

abbrev pub refusal : Option Verb → Why → List ℕ → List ℕ
refusal of why name = codes "error: " ++ (said_of why name ++ (codes "\n\n" ++ usage of))
