-- What the words of a command line ask for.
use Rattle.std.specs.Prelude.{◌≡◌, IsSome, Bool, false, List, None, [], Option, Some, codes, map, option_map, string_bytes, unwrap_or, vec_items}
use Rattle.std.specs.Str.{bytes_eq}
use Rattle.clap.specs.Words.{Row, Text, all_of, fault_of, first_of, first_value, found_of, matched_of, raw_values, rows_of, subcommand_of, subcommand_rows_of}
use Rattle.clap.specs.declared.ArgMatches.{ArgMatches}
use Rattle.dconf_args.specs.CommandLine.{command_line}
use Rattle.command_words.specs.declared.commands.Command.{Command}
use Rattle.dconf_args.specs.declared.place.Asked.{Asked}
use Rattle.dconf_args.specs.declared.place.Asked.TheVariants.{Diff, Run, Update}
use Rattle.dconf_args.specs.declared.place.Place.{Place}
use Rattle.command_words.specs.declared.commands.Command.TheVariants.{Show, Read, Origin, Explain, Check, Compile, Repair, List as ListIt, ListLocks, Dump, Write, Reset, Load}

-- clap finds no fault in the words, and met the subcommand that they name
pub record IsParsedBy (words : List Text) (m : ArgMatches) : Type 0 where
  pub sound : fault_of command_line words ≡ []
  pub met : subcommand_rows_of m ≡ subcommand_of command_line words

-- clap finds no fault in the words, and they name this subcommand, with these values
pub record IsNamedBy (words : List Text) (name : Text) (m : ArgMatches) : Type 0 where
  pub sound : fault_of command_line words ≡ []
  pub named : subcommand_of command_line words ≡ Some (name, rows_of (found_of m))

-- an argument has a value
abbrev pub HasValue : ArgMatches → Text → Type 0
HasValue m id = IsSome (first_value (found_of m) id)

-- a flag was given
abbrev pub is_set : Option Text → Bool
is_set None = false
is_set (Some text) = bytes_eq text (codes "true")

-- the profile's file, where the words name it or don't
abbrev pub profile_file : Option Text → Text
profile_file given = unwrap_or given (codes "profile")

-- the subcommand that asks for a command
abbrev pub name_of : Command → Text
name_of (Show type_text file) = codes "show"
name_of (Read default key profile) = codes "read"
name_of (Origin key profile) = codes "origin"
name_of (Explain key profile) = codes "explain"
name_of (ListIt directory profile) = codes "list"
name_of (ListLocks directory profile) = codes "list-locks"
name_of (Dump skip_doubles directory profile) = codes "dump"
name_of (Check file) = codes "check"
name_of (Compile out locks keyfiles) = codes "compile"
name_of (Repair file out) = codes "repair"
name_of (Write key value profile) = codes "write"
name_of (Reset force path profile) = codes "reset"
name_of (Load force skip_doubles directory profile) = codes "load"

-- what a command takes of the values of its arguments: the first of each, and all of those that may have several
module _ (first : Text → Option Text) (all : Text → Option (List Text)) where
  abbrev Has : Text → Text → Type 0
  Has id text = first id ≡ Some text

  abbrev HasFlag : Text → Bool → Type 0
  HasFlag id given = given ≡ is_set (first id)

  abbrev HasAll : Text → List Text → Type 0
  HasAll id texts = texts ≡ unwrap_or (all id) []

  abbrev HasProfile : Text → Type 0
  HasProfile profile = profile ≡ profile_file (first (codes "profile"))

  abbrev pub Takes : Command → Type 0
  Takes (Show type_text file) = Has (codes "TYPE") (string_bytes type_text) × Has (codes "FILE") (string_bytes file)
  Takes (Read default key profile) = HasFlag (codes "default") default × Has (codes "KEY") (string_bytes key) × HasProfile (string_bytes profile)
  Takes (Origin key profile) = Has (codes "KEY") (string_bytes key) × HasProfile (string_bytes profile)
  Takes (Explain path profile) = Has (codes "PATH") (string_bytes path) × HasProfile (string_bytes profile)
  Takes (ListIt directory profile) = Has (codes "DIR") (string_bytes directory) × HasProfile (string_bytes profile)
  Takes (ListLocks directory profile) = Has (codes "DIR") (string_bytes directory) × HasProfile (string_bytes profile)
  Takes (Dump skip_doubles directory profile) = HasFlag (codes "skip-doubles") skip_doubles × Has (codes "DIR") (string_bytes directory) × HasProfile (string_bytes profile)
  Takes (Check file) = Has (codes "FILE") (string_bytes file)
  Takes (Compile out locks keyfiles) = Has (codes "OUT") (string_bytes out) × HasAll (codes "locks") (map string_bytes (vec_items locks)) × HasAll (codes "KEYFILE") (map string_bytes (vec_items keyfiles))
  Takes (Repair file out) = Has (codes "FILE") (string_bytes file) × Has (codes "OUT") (string_bytes out)
  Takes (Write key value profile) = Has (codes "KEY") (string_bytes key) × Has (codes "VALUE") (string_bytes value) × HasProfile (string_bytes profile)
  Takes (Reset force path profile) = HasFlag (codes "force") force × Has (codes "PATH") (string_bytes path) × HasProfile (string_bytes profile)
  Takes (Load force skip_doubles directory profile) =
      HasFlag (codes "force") force × HasFlag (codes "skip-doubles") skip_doubles × Has (codes "DIR") (string_bytes directory) × HasProfile (string_bytes profile)

-- the words name the command, and clap gives its arguments the values that it takes
pub record IsAskedBy (words : List Text) (command : Command) : Type 0 where
  pub rows : List Row
  pub named : subcommand_of command_line words ≡ Some (name_of command, rows)
  pub values : Takes (λ id. first_of id rows) (λ id. all_of id rows) command

-- it is the command of this name, by what clap found
abbrev pub IsOf : Text → ArgMatches → Command → Type 0
IsOf name m command =
    (name_of command ≡ name) × Takes (first_value (found_of m)) (λ id. option_map raw_values (matched_of (found_of m) id)) command

-- the words name `update`, and clap gives its argument this value, where it is there, and these to its flags
pub record AsksToUpdate (words : List Text) (folder : Option Text) (forces dry : Bool) : Type 0 where
  pub rows : List Row
  pub named : subcommand_of command_line words ≡ Some (codes "update", rows)
  pub folder_value : first_of (codes "FOLDER") rows ≡ folder
  pub force_value : is_set (first_of (codes "force") rows) ≡ forces
  pub dry_value : is_set (first_of (codes "dry-run") rows) ≡ dry

-- the words name `diff`, and clap gives its arguments these values, and this one to its flag
pub record AsksToCompare (words : List Text) (old new : Text) (json : Bool) : Type 0 where
  pub rows : List Row
  pub named : subcommand_of command_line words ≡ Some (codes "diff", rows)
  pub old_value : first_of (codes "OLD") rows ≡ Some old
  pub new_value : first_of (codes "NEW") rows ≡ Some new
  pub json_value : is_set (first_of (codes "json") rows) ≡ json

-- clap gives these values to the options of the command, whichever it is, that say where its store is
pub record IsPlacedBy (words : List Text) (place : Place) : Type 0 where
  pub name : Text
  pub rows : List Row
  pub named : subcommand_of command_line words ≡ Some (name, rows)
  pub user_value : is_set (first_of (codes "user") rows) ≡ place.is_users
  pub folder_value : first_of (codes "store") rows ≡ option_map string_bytes place.folder
  pub profile_value : first_of (codes "profile") rows ≡ option_map string_bytes place.profile
  pub own_value : is_set (first_of (codes "own") rows) ≡ place.is_own

-- clap gives this value to the flag of the command, whichever it is, that asks for JSON
pub record IsFormedBy (words : List Text) (is_json : Bool) : Type 0 where
  pub name : Text
  pub rows : List Row
  pub named : subcommand_of command_line words ≡ Some (name, rows)
  pub json_value : is_set (first_of (codes "json") rows) ≡ is_json

-- all that the words ask for
abbrev pub Asks : List Text → Asked → Type 0
Asks words (Run command place is_json) = IsAskedBy words command × (IsPlacedBy words place × IsFormedBy words is_json)
Asks words (Update folder forces dry) = AsksToUpdate words (option_map string_bytes folder) forces dry
Asks words (Diff old new json) = AsksToCompare words (string_bytes old) (string_bytes new) json
