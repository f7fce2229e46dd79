-- The bytes of a change: what is asked before there are any, in which order, and what comes of it; and what is asked of its notes, once it was made.
use Rattle.std.specs.Prelude.{ℕ, ◌≡◌, Bool, true, false, not, ◌&&◌, ◌||◌, if◌then◌else◌, ◌==◌}
use Rattle.dconf_making.specs.declared.making.Ask.{Ask}
use Rattle.dconf_making.specs.declared.making.Ask.TheVariants.{Expect, LeaveOut, Bytes, Compare, Open, Ready, Nothing, Failed, Begins, Ended, Note, Write, Noted, Unnoted}
use Rattle.dconf_making.specs.declared.making.Found.{Found}
use Rattle.dconf_making.specs.declared.making.Found.TheVariants.{Yes, No, Fault}
use Rattle.dconf_making.specs.declared.making.Making.{Making}

-- after the bytes: a file that a failed write may have left is written once more, be it the same
abbrev pub after_bytes : Making → Ask
after_bytes m = if not m.makes_file then Nothing else if m.is_unsettled then Open else Compare

-- where no file is to be made nothing is left out
abbrev pub after_expected : Making → Ask
after_expected m = if m.makes_file then LeaveOut else Bytes

-- what nobody expects isn't asked for
abbrev pub begun : Making → Ask
begun m = if m.is_expected then Expect else after_expected m

-- What is in the file is noted first. What isn't, others don't hear of.
abbrev pub noted : Found → Ask
noted Yes = Note
noted _ = Write

-- without a note of all that was asked for, none is written
abbrev pub written : Found → Ask
written Yes = Write
written _ = Unnoted

abbrev pub known : Found → Ask
known Yes = Noted
known _ = Unnoted

-- what is asked next, or what came of it
abbrev pub after : Making → Ask → Found → Ask
after m Begins found = begun m
after m Expect Yes = after_expected m
after m LeaveOut Yes = Bytes
after m LeaveOut No = Nothing
after m Bytes Yes = after_bytes m
after m Compare Yes = Nothing
after m Compare No = Open
after m Compare Fault = Open
after m Open Yes = Ready
after m Ready found = Ready
after m Nothing found = Nothing
after m Ended found = noted found
after m Note found = written found
after m Write found = known found
after m Noted found = Noted
after m Unnoted found = Unnoted
after m ask found = Failed

abbrev pub ask_number : Ask → ℕ
ask_number Expect = 0
ask_number LeaveOut = 1
ask_number Bytes = 2
ask_number Compare = 3
ask_number Open = 4
ask_number Ready = 5
ask_number Nothing = 6
ask_number Failed = 7
ask_number Begins = 8
ask_number Ended = 9
ask_number Note = 10
ask_number Write = 11
ask_number Noted = 12
ask_number Unnoted = 13

abbrev pub ask_of : ℕ → Ask
ask_of n =
    if n == 0 then Expect else if n == 1 then LeaveOut else if n == 2 then Bytes else if n == 3 then Compare else if n == 4 then Open else
    if n == 5 then Ready else if n == 6 then Nothing else if n == 8 then Begins else if n == 9 then Ended else if n == 10 then Note else
    if n == 11 then Write else if n == 12 then Noted else if n == 13 then Unnoted else Failed

abbrev pub found_of : ℕ → Found
found_of n = if n == 0 then Yes else if n == 1 then No else Fault

-- ---- the law

abbrev pub is_yes : Found → Bool
is_yes Yes = true
is_yes No = false
is_yes Fault = false

-- it is over
abbrev pub is_end : Ask → Bool
is_end Ready = true
is_end Nothing = true
is_end Failed = true
is_end ask = false

abbrev pub is_no : Found → Bool
is_no Yes = false
is_no No = true
is_no Fault = false

abbrev pub is_ready : Ask → Bool
is_ready Ready = true
is_ready ask = false

abbrev pub is_nothing : Ask → Bool
is_nothing Nothing = true
is_nothing ask = false

-- what is answered to each question, if it is asked
pub record Answers : Type 0 where
  pub expected : Found
  pub left : Found
  pub bytes : Found
  pub same : Found
  pub opens : Found

abbrev pub answer_to : Answers → Ask → Found
answer_to a Expect = a.expected
answer_to a LeaveOut = a.left
answer_to a Bytes = a.bytes
answer_to a Compare = a.same
answer_to a Open = a.opens
answer_to a ask = Yes

-- what comes of a question, and of all that follow
abbrev pub next_of : Making → Answers → Ask → Ask
next_of m a ask = after m ask (answer_to a ask)

abbrev pub end_of : Making → Answers → Ask
end_of m a = next_of m a (next_of m a (next_of m a (next_of m a (next_of m a (begun m)))))

-- nothing is expected, or it is as expected
abbrev pub is_as_expected : Making → Answers → Bool
is_as_expected m a = not m.is_expected || is_yes a.expected

pub record IsGoodMaking (m : Making) (a : Answers) : Type 0 where
  -- five questions are enough
  pub over : is_end (end_of m a) ≡ true
  -- Bytes are written exactly where it is as expected, edits are left, and the bytes with them open; where the same is there already,
  -- only after a change that failed.
  pub ready : is_ready (end_of m a) ≡
      (((m.makes_file && is_as_expected m a) && is_yes a.left) && is_yes a.bytes) && ((m.is_unsettled || not (is_yes a.same)) && is_yes a.opens)
  -- It comes to nothing exactly where no edit is left or all that are say what is there, and it is as expected.
  pub nothing : m.makes_file ≡ true →
      is_nothing (end_of m a) ≡ is_as_expected m a && (is_no a.left || ((is_yes a.left && is_yes a.bytes) && (not m.is_unsettled && is_yes a.same)))
  -- where no file is to be made, it is only asked whether one could be
  pub unmade : m.makes_file ≡ false → is_nothing (end_of m a) ≡ is_as_expected m a && is_yes a.bytes

-- law: so it is, whatever is answered
abbrev pub NothingUnexpected : Type 0
NothingUnexpected = (m : Making) (a : Answers) → IsGoodMaking m a

-- ---- the law of the notes

abbrev pub is_noted : Ask → Bool
is_noted Noted = true
is_noted ask = false

abbrev pub is_unnoted : Ask → Bool
is_unnoted Unnoted = true
is_unnoted ask = false

-- what is answered: whether what was asked for is in the file, there is a note of it, and the notes are written
pub record NoteAnswers : Type 0 where
  pub there : Found
  pub noted : Found
  pub written : Found

abbrev pub note_answer : NoteAnswers → Ask → Found
note_answer a Ended = a.there
note_answer a Note = a.noted
note_answer a ask = a.written

abbrev pub next_note : Making → NoteAnswers → Ask → Ask
next_note m a ask = after m ask (note_answer a ask)

abbrev pub notes_end : Making → NoteAnswers → Ask
notes_end m a = next_note m a (next_note m a (next_note m a Ended))

-- What is in the file has a note.
abbrev pub has_its_note : NoteAnswers → Bool
has_its_note a = not (is_yes a.there) || is_yes a.noted

pub record IsGoodNoting (m : Making) (a : NoteAnswers) : Type 0 where
  -- A program takes what was set for noted exactly where the notes are written that have all of it. Else it knows what it knew.
  pub noted : is_noted (notes_end m a) ≡ has_its_note a && is_yes a.written
  pub unnoted : is_unnoted (notes_end m a) ≡ not (has_its_note a && is_yes a.written)

-- law: so it is, whatever is answered
abbrev pub NothingHalfNoted : Type 0
NothingHalfNoted = (m : Making) (a : NoteAnswers) → IsGoodNoting m a
