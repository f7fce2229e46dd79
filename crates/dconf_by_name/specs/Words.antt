-- What the words of dconf(1), of dconf 0.40, ask for, and why words are refused.
use Rattle.std.specs.Prelude.{ℕ, List, [], ◌∷◌, Bool, true, false, codes, find, option_map, Option, Some, None, Result, Ok, Err, if◌then◌else◌, not, ◌&&◌}
use Rattle.std.specs.Str.{bytes_eq}
use Rattle.dconf_model.specs.Commands.{Command}
use Rattle.dconf_model.specs.Commands.Command.{read, list, list_locks, write, dump, load}
use Rattle.dconf_model.specs.Paths.{PathFault, directory_fault, ends_with_slash, key_fault}
use Rattle.dconf_model.specs.Paths.PathFault.{not_absolute, has_nul, double_slash, ends_in_slash, no_end_slash, too_long}
use Rattle.command_words.specs.Commands.{command_of, resetting}
use Rattle.dconf_by_name.specs.Usages.{name_of, verbs}
use Rattle.dconf_by_name.specs.declared.verb.Verb.{Verb}
use Rattle.dconf_by_name.specs.declared.verb.Verb.TheVariants as verb
use Rattle.dconf_by_name.specs.declared.why.Noun.{Noun}
use Rattle.dconf_by_name.specs.declared.why.Noun.TheVariants.{Key, Dir, Path}
use Rattle.dconf_by_name.specs.declared.why.Why.{Why}
use Rattle.dconf_by_name.specs.declared.why.Why.TheVariants.{NoCommand, Unknown, Missing, NotAbsolute, DoubleSlash, EndsInSlash, NoEndSlash, NoValue, NeedsForce, NoOutput, NoFolder, NoSuffix, TooMany}
use Rattle.dconf_by_name.specs.declared.request.Asked.{Asked}
use Rattle.dconf_by_name.specs.declared.request.Asked.TheVariants as asked

-- A command on the store that is found; a dump, whose groups are put in dconf's order; a reset, and its key; a load, and its directory; the
-- databases of a folder, or of the site; OUTPUT and KEYFILEDIR; SUFFIX and PATH; what is watched; help for a command; or words that are refused, by
-- the command if there is one.
pub data Meaning : Type 0 where
  run : Command → Meaning
  run_dump : Command → Meaning
  run_reset : Command → List ℕ → Meaning
  run_load : Command → List ℕ → Meaning
  update : Option (List ℕ) → Meaning
  compile : List ℕ → List ℕ → Meaning
  complete : List ℕ → List ℕ → Meaning
  watch : List ℕ → Meaning
  blame : Meaning
  help : Option Verb → Meaning
  wrong : Option Verb → Why → Meaning

abbrev pub meaning_of : Asked → Meaning
meaning_of (asked.Run command) = run (command_of command)
meaning_of (asked.Dump command) = run_dump (command_of command)
meaning_of (asked.Reset command key) = run_reset (command_of command) key.now
meaning_of (asked.Load command directory) = run_load (command_of command) directory.now
meaning_of (asked.Update folder) = update (option_map (λ f. f.now) folder)
meaning_of (asked.Compile out folder) = compile out.now folder.now
meaning_of (asked.Complete suffix path) = complete suffix.now path.now
meaning_of (asked.Watch path) = watch path.now
meaning_of asked.Blame = blame
meaning_of (asked.Help of) = help of
meaning_of (asked.Wrong of why) = wrong of why

-- ---- paths

-- the first fault of a text as a path of this kind; a PATH is a KEY's or a DIR's
abbrev pub fault_as : Noun → List ℕ → Option PathFault
fault_as Key text = key_fault text
fault_as Dir text = directory_fault text
fault_as Path text = if ends_with_slash text then directory_fault text else key_fault text

-- what dconf says of it: it has no limit, and the command says what is too long
abbrev pub why_of : Noun → Option PathFault → Option Why
why_of noun (Some not_absolute) = Some (NotAbsolute noun)
why_of noun (Some double_slash) = Some (DoubleSlash noun)
why_of noun (Some ends_in_slash) = Some EndsInSlash
why_of noun (Some no_end_slash) = Some NoEndSlash
why_of noun (Some has_nul) = None
why_of noun (Some too_long) = None
why_of noun None = None

abbrev pub unless_any : Option Why → List ℕ → Result (List ℕ) Why
unless_any None text = Ok text
unless_any (Some why) text = Err why

abbrev pub a_path : Noun → List ℕ → Result (List ℕ) Why
a_path noun text = unless_any (why_of noun (fault_as noun text)) text

-- the path that comes first
abbrev pub first_path : Noun → List (List ℕ) → Result (List ℕ) Why
first_path noun [] = Err (Missing noun)
first_path noun (text ∷ more) = a_path noun text

-- what comes behind the first word
abbrev pub behind : List (List ℕ) → List (List ℕ)
behind [] = []
behind (word ∷ more) = more

-- nothing may follow
abbrev pub alone : Result (List ℕ) Why → List (List ℕ) → Result (List ℕ) Why
alone (Err why) more = Err why
alone (Ok text) [] = Ok text
alone (Ok text) (word ∷ more) = Err TooMany

abbrev pub only_path : Noun → List (List ℕ) → Result (List ℕ) Why
only_path noun words = alone (first_path noun words) (behind words)

-- ---- an option, which comes first

abbrev pub has_option : List ℕ → List (List ℕ) → Bool
has_option option [] = false
has_option option (word ∷ more) = bytes_eq word option

abbrev pub behind_option : List ℕ → List (List ℕ) → List (List ℕ)
behind_option option words = if has_option option words then behind words else words

-- ---- commands: the profile is the one of the store, which is found later

abbrev pub profile : List ℕ
profile = codes "profile"

-- a command on the path, or why there is none
abbrev pub run_on : Verb → Result (List ℕ) Why → (List ℕ → Command) → Meaning
run_on of (Ok path) command = run (command path)
run_on of (Err why) command = wrong (Some of) why

-- `read [-d] KEY`
abbrev pub read_means : List (List ℕ) → Meaning
read_means words =
    run_on verb.Read (only_path Key (behind_option (codes "-d") words)) (λ key. read (has_option (codes "-d") words) key profile)

-- `list DIR`; dconf doesn't look at what follows
abbrev pub list_means : List (List ℕ) → Meaning
list_means words = run_on verb.List (first_path Dir words) (λ directory. list directory profile)

-- `list-locks DIR`
abbrev pub list_locks_means : List (List ℕ) → Meaning
list_locks_means words = run_on verb.ListLocks (only_path Dir words) (λ directory. list_locks directory profile)

-- `dump DIR`; a value that has no text for a double in it is named in a comment
abbrev pub dump_of : Result (List ℕ) Why → Meaning
dump_of (Ok directory) = run_dump (dump true directory profile)
dump_of (Err why) = wrong (Some verb.Dump) why

abbrev pub dump_means : List (List ℕ) → Meaning
dump_means words = dump_of (only_path Dir words)

-- `load [-f] DIR`; what has a double in its text is left out, and with -f what is locked
abbrev pub load_of : Bool → Result (List ℕ) Why → Meaning
load_of force (Ok directory) = run_load (load force true directory profile) directory
load_of force (Err why) = wrong (Some verb.Load) why

abbrev pub load_means : List (List ℕ) → Meaning
load_means words = load_of (has_option (codes "-f") words) (only_path Dir (behind_option (codes "-f") words))

-- `write KEY VALUE`
abbrev pub write_of : Result (List ℕ) Why → List (List ℕ) → Meaning
write_of (Err why) more = wrong (Some verb.Write) why
write_of (Ok key) [] = wrong (Some verb.Write) NoValue
write_of (Ok key) (value ∷ []) = run (write key value profile)
write_of (Ok key) (value ∷ (word ∷ more)) = wrong (Some verb.Write) TooMany

abbrev pub write_means : List (List ℕ) → Meaning
write_means words = write_of (first_path Key words) (behind words)

-- `reset [-f] PATH`; a directory wants -f, and of a key it says nothing
abbrev pub if_forced : Bool → Result (List ℕ) Why → Result (List ℕ) Why
if_forced force (Err why) = Err why
if_forced force (Ok path) = if ends_with_slash path && not force then Err NeedsForce else Ok path

abbrev pub reset_path : Bool → List (List ℕ) → Result (List ℕ) Why
reset_path force words = alone (if_forced force (first_path Path words)) (behind words)

-- a locked key stays as it is, and is named
abbrev pub reset_of : Result (List ℕ) Why → Meaning
reset_of (Ok path) =
    if ends_with_slash path then run (resetting true path profile) else run_reset (resetting false path profile) path
reset_of (Err why) = wrong (Some verb.Reset) why

abbrev pub reset_means : List (List ℕ) → Meaning
reset_means words = reset_of (reset_path (has_option (codes "-f") words) (behind_option (codes "-f") words))

-- `compile OUTPUT KEYFILEDIR`
abbrev pub compile_means : List (List ℕ) → Meaning
compile_means [] = wrong (Some verb.Compile) NoOutput
compile_means (out ∷ []) = wrong (Some verb.Compile) NoFolder
compile_means (out ∷ (folder ∷ [])) = compile out folder
compile_means (out ∷ (folder ∷ (word ∷ more))) = wrong (Some verb.Compile) TooMany

-- `update [DBDIR]`
abbrev pub update_means : List (List ℕ) → Meaning
update_means [] = update None
update_means (folder ∷ []) = update (Some folder)
update_means (folder ∷ (word ∷ more)) = wrong (Some verb.Update) TooMany

-- `watch PATH`
abbrev pub watch_of : Result (List ℕ) Why → Meaning
watch_of (Ok path) = watch path
watch_of (Err why) = wrong (Some verb.Watch) why

abbrev pub watch_means : List (List ℕ) → Meaning
watch_means words = watch_of (only_path Path words)

-- `blame`
abbrev pub blame_means : List (List ℕ) → Meaning
blame_means [] = blame
blame_means (word ∷ more) = wrong (Some verb.Blame) TooMany

-- `_complete SUFFIX PATH`
abbrev pub complete_means : List (List ℕ) → Meaning
complete_means [] = wrong (Some verb.Complete) NoSuffix
complete_means (suffix ∷ []) = wrong (Some verb.Complete) (Missing Path)
complete_means (suffix ∷ (path ∷ [])) = complete suffix path
complete_means (suffix ∷ (path ∷ (word ∷ more))) = wrong (Some verb.Complete) TooMany

-- the command of a name
abbrev pub verb_named : List ℕ → Option Verb
verb_named name = find (λ v. bytes_eq (name_of v) name) verbs

-- `help [COMMAND]`
abbrev pub help_means : List (List ℕ) → Meaning
help_means [] = help None
help_means (name ∷ more) = help (verb_named name)

abbrev pub means : Verb → List (List ℕ) → Meaning
means verb.Help words = help_means words
means verb.Read words = read_means words
means verb.List words = list_means words
means verb.ListLocks words = list_locks_means words
means verb.Write words = write_means words
means verb.Reset words = reset_means words
means verb.Compile words = compile_means words
means verb.Update words = update_means words
means verb.Watch words = watch_means words
means verb.Dump words = dump_means words
means verb.Load words = load_means words
means verb.Blame words = blame_means words
means verb.Complete words = complete_means words

abbrev pub means_if_any : Option Verb → List (List ℕ) → Meaning
means_if_any None words = wrong None Unknown
means_if_any (Some of) words = means of words

-- the words of a line, behind the name of the program
abbrev pub dconf_means : List (List ℕ) → Meaning
dconf_means [] = wrong None NoCommand
dconf_means (name ∷ words) = means_if_any (verb_named name) words
