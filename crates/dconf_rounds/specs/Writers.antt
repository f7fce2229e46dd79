-- Who writes what waits.
use Rattle.std.specs.Prelude.{ℕ, zero, suc, ◌≡◌, Bool, true, false, not, ◌&&◌, ◌||◌, if◌then◌else◌, ◌==◌, nat_lt, nat_le}
use Rattle.dconf_rounds.specs.Rounds.{is_at_work}
use Rattle.dconf_rounds.specs.Syncs.{sync_after, sync_number}
use Rattle.dconf_rounds.specs.declared.syncs.SyncTask.{SyncTask}
use Rattle.dconf_rounds.specs.declared.syncs.SyncTask.TheVariants as sync
use Rattle.dconf_rounds.specs.declared.writers.WriterKnown.{WriterKnown}
use Rattle.dconf_rounds.specs.declared.writers.NeedTask.{NeedTask}
use Rattle.dconf_rounds.specs.declared.writers.NeedTask.TheVariants as need
use Rattle.dconf_rounds.specs.declared.writers.LineTask.{LineTask}
use Rattle.dconf_rounds.specs.declared.writers.LineTask.TheVariants as line
use Rattle.dconf_rounds.specs.declared.writers.EndTask.{EndTask}
use Rattle.dconf_rounds.specs.declared.writers.EndTask.TheVariants as end

-- ---- something is new

-- a thread is to be there: also for who listens, and never reads
abbrev pub wants : WriterKnown → Bool
wants k = k.is_wanted || k.listens

-- in the process that began it, before the end
abbrev pub works : WriterKnown → Bool
works k = is_at_work k.has_ended k.begun_in k.process

-- it isn't
abbrev pub begins : WriterKnown → Bool
begins k = wants k && (not k.has_thread && works k)

-- it does what is new, until the end
abbrev pub does : WriterKnown → Bool
does k = k.has_thread && works k

-- something is new for it: of one that doesn't watch the files who listens is none, and what begins to wait is no more where something does already
abbrev pub is_new : WriterKnown → Bool
is_new k = k.is_news || ((k.adds && not k.waits) || (k.listens && k.has_turned))

abbrev pub need_after : ℕ → WriterKnown → NeedTask
need_after done k =
    if nat_lt done 1 && (begins k && not k.has_wake) then need.MakeWake else if nat_lt done 2 && (begins k && k.has_wake) then need.Begin else
    if nat_lt done 3 && (does k && is_new k) then need.Wake else if nat_lt done 4 && (k.is_owed && not (does k)) then need.Here else need.Over

abbrev pub need_number : NeedTask → ℕ
need_number need.MakeWake = 1
need_number need.Begin = 2
need_number need.Wake = 3
need_number need.Here = 4
need_number need.Over = 5

pub record IsGoodNeed (k : WriterKnown) : Type 0 where
  -- a thread is begun only where there is none, before the end, and never in a child
  pub begun : (done : ℕ) → need_after done k ≡ need.Begin → (k.has_thread ≡ false) × (k.has_ended ≡ false) × ((k.begun_in == k.process) ≡ true)
  -- what is new for the thread wakes it
  pub woken : does k ≡ true → is_new k ≡ true → need_after 2 k ≡ need.Wake
  -- what begins to wait is new, where nothing else does
  pub first : k.adds ≡ true → k.waits ≡ false → is_new k ≡ true
  -- and what no thread does is done here
  pub here : does k ≡ false → k.is_owed ≡ true → need_after 2 k ≡ need.Here
  -- in a child of fork() none does, whatever was known of one
  pub child : (k.begun_in == k.process) ≡ false → does k ≡ false

-- ---- the turn

abbrev pub line_after : ℕ → Bool → WriterKnown → LineTask
line_after done is_so k =
    if nat_lt done 1 then (if not k.is_thread then line.Wait else if k.has_line then line.Await else line.Try) else
    if done == 2 then (if is_so then line.Await else line.Again) else
    if is_so then line.Had else if done == 1 then line.Begin else if done == 4 then line.Again else line.InLine

abbrev pub line_number : LineTask → ℕ
line_number line.Try = 1
line_number line.Begin = 2
line_number line.Await = 3
line_number line.Wait = 4
line_number line.Had = 5
line_number line.InLine = 6
line_number line.Again = 7

pub record IsGoodLine (k : WriterKnown) : Type 0 where
  -- who is in line already asks nobody else, so that it keeps its place
  pub place : k.is_thread ≡ true → k.has_line ≡ true → line_after 0 true k ≡ line.Await
  -- nobody else has a place in line: it waits itself, and leaves nothing behind
  pub other : k.is_thread ≡ false → line_after 0 true k ≡ line.Wait
  pub alone : line_after 4 false k ≡ line.Again
  -- and who can't have its turn at once waits in line, if a thread can be had for that
  pub waits : line_after 1 false k ≡ line.Begin
  pub line : line_after 2 true k ≡ line.Await

-- ---- the end

-- what waits is the process's that began it
abbrev pub is_own : WriterKnown → Bool
is_own k = k.begun_in == k.process

abbrev pub is_settled : WriterKnown → Bool
is_settled k = nat_le k.added k.settled

-- what counts at the end
pub record Facts : Type 0 where
  pub exits : Bool
  pub own : Bool
  pub thread : Bool
  pub this : Bool
  pub let_go : Bool
  pub settled : Bool

abbrev pub facts : WriterKnown → Facts
facts k = record { exits = k.exits; own = is_own k; thread = k.has_thread; this = k.is_thread; let_go = k.is_let_go; settled = is_settled k }

abbrev pub first_wait : Bool → Facts → EndTask
first_wait is_so f =
    if not is_so || not f.thread then end.Count else
    if f.exits then (if f.this then end.Rounds else if f.let_go then end.Watch else end.Join) else if f.this then end.Leave else end.Over

abbrev pub end_after : ℕ → Bool → Facts → EndTask
end_after done is_so f =
    if nat_lt done 1 && not (f.exits && not f.own) then end.Mark else if nat_lt done 2 && f.own then first_wait is_so f else
    if done == 5 then (if is_so then end.Reap else end.Leave) else if done == 6 then end.Left else if nat_lt done 2 || nat_lt 8 done then end.Done else
    if nat_lt done 8 then end.Count else if not is_so then end.Doubt else if f.settled then end.Done else end.Tell

abbrev pub end_number : EndTask → ℕ
end_number end.Mark = 1
end_number end.Rounds = 2
end_number end.Join = 3
end_number end.Watch = 4
end_number end.Over = 5
end_number end.Leave = 6
end_number end.Reap = 7
end_number end.Count = 8
end_number end.Tell = 9
end_number end.Doubt = 10
end_number end.Done = 11
end_number end.Left = 12

-- what the tasks answer
pub record EndAnswers : Type 0 where
  pub marked : Bool
  pub over : Bool
  pub counted : Bool

abbrev pub answer_to : EndAnswers → EndTask → Bool
answer_to a end.Mark = a.marked
answer_to a end.Over = a.over
answer_to a end.Count = a.counted
answer_to a _ = true

abbrev pub is_end : EndTask → Bool
is_end end.Done = true
is_end end.Left = true
is_end _ = false

abbrev pub is_word : EndTask → Bool
is_word end.Tell = true
is_word end.Doubt = true
is_word _ = false

-- one after another, each with its answer: the last one, and whether anything was said on the way
abbrev pub goes_on : ℕ → EndAnswers → Facts → EndTask → EndTask
goes_on zero a f task = task
goes_on (suc n) a f task = if is_end task then task else goes_on n a f (end_after (end_number task) (answer_to a task) f)

abbrev pub says : ℕ → EndAnswers → Facts → EndTask → Bool
says zero a f task = is_word task
says (suc n) a f task = is_word task || (not (is_end task) && says n a f (end_after (end_number task) (answer_to a task) f))

-- nobody holds it, and the thread goes on
abbrev pub is_left : EndAnswers → Facts → Bool
is_left a f = f.own && (not f.exits && (a.marked && (f.thread && (f.this || not a.over))))

pub record IsGoodEnd (a : EndAnswers) (f : Facts) : Type 0 where
  -- it ends, and who goes on writing has it if nobody else does
  pub ends : goes_on 6 a f (end_after 0 true f) ≡ (if is_left a f then end.Left else end.Done)
  -- what waits is written, which was counted, or told; but for what is left to the thread, and what is the parent's
  pub told : says 6 a f (end_after 0 true f) ≡ (f.own && (not (is_left a f) && not (a.counted && f.settled)))

-- ---- a sync

-- one that waited is told by the count whether all is settled
abbrev pub answered : ℕ → Bool → WriterKnown → Bool
answered done is_so k = if done == 3 then is_settled k else is_so

-- in a child nothing of its own waits
abbrev pub own_sync : ℕ → Bool → WriterKnown → SyncTask
own_sync done is_so k = if is_own k then sync_after done (answered done is_so k) k.sync else sync.Yes

-- ---- the same as numbers

abbrev pub writer_number : ℕ → ℕ → Bool → WriterKnown → ℕ
writer_number what done is_so k =
    if what == 0 then need_number (need_after done k) else if what == 1 then line_number (line_after done is_so k) else
    if what == 2 then end_number (end_after done is_so (facts k)) else sync_number (own_sync done is_so k)

-- ---- the law

pub record IsGoodWriter (a : EndAnswers) (k : WriterKnown) : Type 0 where
  pub need : IsGoodNeed k
  pub line : IsGoodLine k
  pub end : IsGoodEnd a (facts k)
  -- a sync in a child does nothing, and says nothing of what its parent writes
  pub child : (done : ℕ) (is_so : Bool) → is_own k ≡ false → own_sync done is_so k ≡ sync.Yes

abbrev pub WhatWaitsIsWrittenOrTold : Type 0
WhatWaitsIsWrittenOrTold = (a : EndAnswers) (k : WriterKnown) → IsGoodWriter a k
