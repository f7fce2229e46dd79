-- The words of `watch` or `lint` one after another: what those before say, and what is said of the next.
use Rattle.std.specs.Prelude.{ℕ, List, Bool, true, not, ◌&&◌, ◌==◌, if◌then◌else◌}
use Rattle.dconf_options.specs.Words.{word_of}
use Rattle.dconf_options.specs.declared.words.Word.{Word}
use Rattle.dconf_options.specs.declared.options.OptionsRead.{OptionsRead}
use Rattle.dconf_options.specs.declared.options.Taken.{Taken}
use Rattle.dconf_options.specs.declared.options.Said.{Said}
use Rattle.dconf_options.specs.declared.options.Said.TheVariants.{Nothing, Folder, Schema, Name, Help, Unknown, Twice, Excluded, TooMany, Lacking, NoName, Json, Machines}

abbrev pub read_with : OptionsRead → ℕ → Bool → Bool → Bool → Bool → OptionsRead
read_with r wants over folder user name =
    record { wants = wants; is_lint = r.is_lint; is_over = over; has_folder = folder; is_user = user; has_name = name }

abbrev pub saying : OptionsRead → Said → Taken
saying r said = record { read = r; said = said; from = 0 }

-- what an option waits for is its argument, whatever it is
abbrev pub of_argument : OptionsRead → Said → Taken
of_argument r said = saying (read_with r 0 r.is_over r.has_folder r.is_user r.has_name) said

-- the option whose argument is a folder is given once, and not beside `--user`
abbrev pub as_folder : OptionsRead → ℕ → Said → ℕ → Taken
as_folder r wants said from =
    if r.has_folder then saying r Twice else if r.is_user then saying r Excluded else
    record { read = read_with r wants r.is_over true r.is_user r.has_name; said = said; from = from }

abbrev pub as_user : OptionsRead → Taken
as_user r =
    if r.is_user then saying r Twice else if r.has_folder then saying r Excluded else
    saying (read_with r r.wants r.is_over r.has_folder true r.has_name) Nothing

-- `watch` takes one, and `lint` any number
abbrev pub as_name : OptionsRead → Taken
as_name r = if not r.is_lint && r.has_name then saying r TooMany else saying (read_with r r.wants r.is_over r.has_folder r.is_user true) Name

-- behind `--schemas=` or `--store=`
abbrev pub begins_at : Bool → ℕ
begins_at is_lint = if is_lint then 10 else 8

abbrev pub as_word : OptionsRead → Word → Taken
as_word r Word.Name = as_name r
as_word r Word.Help = saying r Help
as_word r Word.Divider = saying (read_with r r.wants true r.has_folder r.is_user r.has_name) Nothing
as_word r Word.WantsFolder = as_folder r 1 Nothing 0
as_word r Word.Folder = as_folder r 0 Folder (begins_at r.is_lint)
as_word r Word.WantsSchema = saying (read_with r 2 r.is_over r.has_folder r.is_user r.has_name) Nothing
as_word r Word.Schema = record { read = r; said = Schema; from = 9 }
as_word r Word.User = as_user r
as_word r Word.Json = saying r Json
as_word r Word.Unknown = saying r Unknown

abbrev pub option_after : OptionsRead → List ℕ → Taken
option_after r word =
    if r.wants == 1 then of_argument r Folder else if r.wants == 2 then of_argument r Schema else
    if r.is_over then as_name r else as_word r (word_of r.is_lint word)

-- when there is no further word; without a name `lint` looks at what `update` would make
abbrev pub options_end : OptionsRead → Said
options_end r = if not (r.wants == 0) then Lacking else if not r.is_lint && not r.has_name then NoName else if not r.has_name then Machines else Nothing

abbrev pub said_number : Said → ℕ
said_number Nothing = 0
said_number Folder = 1
said_number Schema = 2
said_number Name = 3
said_number Help = 4
said_number Unknown = 5
said_number Twice = 6
said_number Excluded = 7
said_number TooMany = 8
said_number Lacking = 9
said_number NoName = 10
said_number Json = 11
said_number Machines = 12
