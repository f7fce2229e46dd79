-- What a program is told of a fault: which sentence, with which code and errno, and which file that names.
use Rattle.std.specs.Prelude.{ℕ, Bool, true, false, not, ◌&&◌, ◌||◌, if◌then◌else◌, ◌==◌, nat_le}
use Rattle.dconf_verdicts.specs.declared.told.Told.{Told}
use Rattle.dconf_verdicts.specs.declared.told.Told.TheVariants as told
use Rattle.dconf_verdicts.specs.Errnos.{file_told, lock_told}
use Rattle.dconf_verdicts.specs.Errnos.{code_of as told_code}
use Rattle.dconf_making.specs.declared.ending.Told.{Told as EndingTold}
use Rattle.dconf_making.specs.declared.ending.Told.TheVariants as ending
use Rattle.dconf_making.specs.Endings.{told_by}
use Rattle.dconf_making.specs.declared.sentence.FaultOf.{FaultOf}
use Rattle.dconf_making.specs.declared.sentence.FaultOf.TheVariants.{File, Lock, Call, Change, Edits, Folder, Kind, Parsing, Expected}
use Rattle.dconf_making.specs.declared.sentence.FaultMet.{FaultMet}
use Rattle.dconf_making.specs.declared.sentence.Says.{Says}
use Rattle.dconf_making.specs.declared.sentence.Says.TheVariants.{Nothing, Already, NoMemory, TooBig, System, NoFile, TenSeconds, Busy, Either, Unsettled, Unsynced, Double, Number, Text, TextAt, Rule, RuleAt, NoFolder, NoKind, NotUtf8, TooDeep, HoldsDouble, NoValue, NoValueAt, Changed}
use Rattle.dconf_making.specs.declared.sentence.Sentence.{Sentence}

abbrev pub fault_of : ℕ → FaultOf
fault_of n = if n == 0 then File else if n == 1 then Lock else if n == 2 then Call else if n == 4 then Edits else if n == 5 then Folder else
    if n == 6 then Kind else if n == 7 then Parsing else if n == 8 then Expected else Change

-- ---- which sentence

abbrev pub said_by : Told → Says
said_by told.Memory = NoMemory
said_by told.TooLarge = TooBig
said_by told.System = System
said_by told.Busy = System

-- of a file, by the errno
abbrev pub said_of_file : ℕ → Says
said_of_file errno = said_by (file_told errno)

-- Others had the lock (EAGAIN) for as long as it was waited for, or its name is no regular file's (EINVAL).
abbrev pub locked : FaultMet → Says
locked f =
    if f.number == 11 then (if f.wait == 10000 then TenSeconds else Busy) else
    if f.number == 22 then NoFile else said_of_file f.number

abbrev pub rule_or_text : FaultMet → Says
rule_or_text f =
    if f.number == 7 && f.has_rule then (if f.has_item then RuleAt else Rule) else
    if f.has_text then (if f.has_line then TextAt else Text) else Number

-- of a proved call, by the number of its fault
abbrev pub called : FaultMet → Says
called f = if f.number == 19 then Double else rule_or_text f

-- of a change, by what is told of its end
abbrev pub ended : EndingTold → FaultMet → Says
ended ending.Nothing f = Nothing
ended ending.First f = said_of_file f.number
ended ending.BadWrite f = System
ended ending.Either f = Either
ended ending.Unsettled f = Unsettled
ended ending.Unsynced f = Unsynced
ended ending.Already f = Already

-- of what was looked for: no call failed, and there is none; or one did
abbrev pub sought : Says → ℕ → Says
sought says errno = if errno == 0 then says else said_of_file errno

-- of a text that is read as a value, by the number of its fault: of 32 to 35 it is known where in the text it is
abbrev pub parsed : ℕ → Says
parsed n =
    if n == 1 then NoMemory else if n == 8 then NotUtf8 else if n == 17 then TooDeep else if n == 19 then HoldsDouble else
    if nat_le 32 n && nat_le n 35 then NoValueAt else NoValue

-- of what is seen otherwise than was expected, or of a comparison with that which failed
abbrev pub unexpected : ℕ → Says
unexpected n = if n == 0 then Changed else NoMemory

abbrev pub said_for : FaultOf → FaultMet → Says
said_for File f = said_of_file f.number
said_for Lock f = locked f
said_for Call f = called f
said_for Edits f = called f
said_for Change f = ended (told_by f.told) f
said_for Folder f = sought NoFolder f.number
said_for Kind f = sought NoKind f.number
said_for Parsing f = parsed f.number
said_for Expected f = unexpected f.number

abbrev pub says_of : FaultMet → Says
says_of f = said_for (fault_of f.of) f

-- ---- what stands beside it: the header's code, ..

-- of a change that may be made it is FILE
abbrev pub ended_code : EndingTold → ℕ → ℕ
ended_code ending.First errno = told_code (file_told errno)
ended_code what errno = 64

-- .. of what was looked for its own, if there is none
abbrev pub sought_code : ℕ → ℕ → ℕ
sought_code code errno = if errno == 0 then code else told_code (file_told errno)

-- a text that is no value has one code, whatever it is that is wrong with it
abbrev pub parsed_code : Says → ℕ → ℕ
parsed_code NoValue n = 21
parsed_code NoValueAt n = 21
parsed_code says n = n

abbrev pub code_for : FaultOf → FaultMet → ℕ
code_for File f = told_code (file_told f.number)
code_for Lock f = told_code (lock_told f.number)
code_for Call f = f.number
code_for Edits f = f.number
code_for Change f = ended_code (told_by f.told) f.number
code_for Folder f = sought_code 66 f.number
code_for Kind f = sought_code 9 f.number
code_for Parsing f = parsed_code (parsed f.number) f.number
code_for Expected f = if f.number == 0 then 67 else 1

-- ---- the errno, ..

-- EIO stands for a write that wrote nothing, or more than there was.
abbrev pub ended_errno : EndingTold → ℕ → ℕ
ended_errno ending.BadWrite errno = 5
ended_errno what errno = errno

abbrev pub system_errno : FaultOf → FaultMet → ℕ
system_errno Change f = ended_errno (told_by f.told) f.number
system_errno what f = f.number

abbrev pub errno_of : Says → FaultMet → ℕ
errno_of System f = system_errno (fault_of f.of) f
errno_of NoFile f = f.number
errno_of Either f = f.number
errno_of Unsettled f = f.number
errno_of Unsynced f = f.number
errno_of says f = 0

-- ---- .. the outcome, as the header has it: but of these the file is kept

abbrev pub outcome_of : Says → FaultMet → ℕ
outcome_of Either f = f.outcome
outcome_of Unsettled f = f.outcome
outcome_of Unsynced f = f.outcome
outcome_of says f = 1

-- ---- .. and the name

-- the user's file, or, where there is none, the folder
abbrev pub users_name : FaultMet → ℕ
users_name f = if f.has_user then 0 else 2

-- a lock's fault names the lock, if that is there
abbrev pub locks_name : Says → FaultMet → ℕ
locks_name NoFile f = 1
locks_name TenSeconds f = users_name f
locks_name Busy f = users_name f
locks_name says f = if f.looked == 0 && f.is_there then 1 else users_name f

-- A folder's fault names the folder, if that is given, or else what names it: the user's home, or the environment.
abbrev pub folders_name : FaultMet → ℕ
folders_name f = if f.is_given then 0 else if f.asked == 2 then 4 else 5

-- an edit's its path
abbrev pub named_for : FaultOf → Says → FaultMet → ℕ
named_for Lock says f = locks_name says f
named_for Change says f = users_name f
named_for Edits says f = if f.has_edit then 3 else users_name f
named_for Expected says f = 3
named_for Folder says f = folders_name f
named_for what says f = 0

-- the fault of a file that can't be read is none of a line
abbrev pub has_lines : FaultOf → Bool
has_lines Kind = true
has_lines what = false

abbrev pub is_placed : Says → FaultOf → Bool
is_placed NoMemory of = false
is_placed System of = not (has_lines of)
is_placed TooBig of = not (has_lines of)
is_placed says of = true

abbrev pub says_number : Says → ℕ
says_number Nothing = 0
says_number Already = 1
says_number NoMemory = 2
says_number TooBig = 3
says_number System = 4
says_number NoFile = 5
says_number TenSeconds = 6
says_number Busy = 7
says_number Either = 8
says_number Unsettled = 9
says_number Unsynced = 10
says_number Double = 11
says_number Number = 12
says_number Text = 13
says_number TextAt = 14
says_number Rule = 15
says_number RuleAt = 16
says_number NoFolder = 17
says_number NoKind = 18
says_number NotUtf8 = 19
says_number TooDeep = 20
says_number HoldsDouble = 21
says_number NoValue = 22
says_number NoValueAt = 23
says_number Changed = 24

abbrev pub sentence_of : FaultMet → Sentence
sentence_of f = record {
  says = says_number (says_of f);
  code = code_for (fault_of f.of) f;
  errno = errno_of (says_of f) f;
  outcome = outcome_of (says_of f) f;
  names = named_for (fault_of f.of) (says_of f) f;
  is_placed = is_placed (says_of f) (fault_of f.of);
}
