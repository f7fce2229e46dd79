-- What the thread does next that writes what waits.
use Rattle.std.specs.Prelude.{ℕ, ◌≡◌, ◌⊎◌, Bool, true, false, not, ◌&&◌, ◌||◌, if◌then◌else◌, ◌==◌, nat_lt, nat_le}
use Rattle.dconf_rounds.specs.declared.rounds.Known.{Known}
use Rattle.dconf_rounds.specs.declared.rounds.WritingKnown.{WritingKnown}
use Rattle.dconf_rounds.specs.declared.rounds.Task.{Task}
use Rattle.dconf_rounds.specs.declared.rounds.Task.TheVariants.{Tell, Watch, Look, Take, Write, Leave, Rest, End, GiveUp}

-- it has not ended, and is in the process that began it
abbrev pub is_at_work : Bool → ℕ → ℕ → Bool
is_at_work has_ended begun_in process = not has_ended && (begun_in == process)

-- Somebody may write in the user's database: there is one. Who writes goes on until the end, and may unless he finds it closed to this program. Who
-- sets something has to be at work; whether it is closed, only the write finds out, each time, since rights may come back.
abbrev pub is_open : WritingKnown → Bool
is_open k = k.has_user && (if k.writes then not k.is_closed else is_at_work k.has_ended k.begun_in k.process)

-- it writes, waits for its turn, or is to try again
abbrev pub has_work : Known → Bool
has_work k = k.waits || (k.is_in_line || not (k.again == 0))

-- ---- what is due

-- somebody's main context has turned to whom what others change can be told
abbrev pub watches : Known → Bool
watches k = k.has_turned && not k.ends

-- something waits; and it is in line already, or asked for, or its moment has come
abbrev pub takes : Known → Bool
takes k = k.waits && (k.is_in_line || (k.is_asked || nat_le k.again k.moment))

-- before a write, unless the newest files are known
abbrev pub looks_first : Known → Bool
looks_first k = takes k && (k.asks || not k.is_watched)

-- others have the turn, and it goes on waiting for its own
abbrev pub is_waiting : Known → Bool
is_waiting k = k.is_others && k.is_in_line

-- something waits, and its turn has come, or was waited for in vain
abbrev pub writes : Known → Bool
writes k = k.waits && (k.has_asked && not (is_waiting k))

-- nothing waits, but it is in line, or was to try again
abbrev pub leaves : Known → Bool
leaves k = not k.waits && (k.is_in_line || not (k.again == 0))

-- ---- how a round ends

-- nobody but this thread has what it works for, and it is in line
abbrev pub is_left : Known → Bool
is_left k = k.is_in_line && k.is_let_go

-- a later try than those of then has failed by a fault that lasts
abbrev pub has_failed : Known → Bool
has_failed k = nat_lt k.last_try k.failed

abbrev pub ending : Known → Task
ending k = if not k.ends then Rest else if not k.waits && not (is_left k) then End else if not (has_failed k) then Rest else if k.waits then GiveUp else End

-- ---- what comes next, once the first tasks were done, or were not due

abbrev pub task_after : ℕ → Known → Task
task_after done k =
    if nat_lt done 1 && k.has_untold then Tell else if nat_lt done 2 && watches k then Watch else
    if nat_lt done 3 && looks_first k then Look else if nat_lt done 4 && takes k then Take else
    if nat_lt done 5 && writes k then Write else if nat_lt done 6 && leaves k then Leave else ending k

abbrev pub task_number : Task → ℕ
task_number Tell = 1
task_number Watch = 2
task_number Look = 3
task_number Take = 4
task_number Write = 5
task_number Leave = 6
task_number Rest = 7
task_number End = 8
task_number GiveUp = 9

-- ---- the law

-- a task that is due, and was not come to
abbrev pub is_owed : ℕ → Known → Bool
is_owed done k =
    (nat_lt done 1 && k.has_untold) || ((nat_lt done 2 && watches k) ||
    ((nat_lt done 3 && looks_first k) || ((nat_lt done 4 && takes k) || ((nat_lt done 5 && writes k) || (nat_lt done 6 && leaves k)))))

abbrev pub is_over : Task → Bool
is_over Tell = false
is_over Watch = false
is_over Look = false
is_over Take = false
is_over Write = false
is_over Leave = false
is_over Rest = true
is_over End = true
is_over GiveUp = true

pub record IsGoodRound (done : ℕ) (k : Known) : Type 0 where
  -- it is over exactly if nothing is due
  pub over : is_over (task_after done k) ≡ not (is_owed done k)
  -- each task comes once, and those before it don't come after it
  pub forward : is_over (task_after done k) ≡ false → nat_lt done (task_number (task_after done k)) ≡ true
  -- nothing is written before its turn has come
  pub turn : task_after done k ≡ Write → (k.waits ≡ true) × (k.has_asked ≡ true) × (not (is_waiting k) ≡ true)
  -- while the program goes on, so does the thread
  pub lives : k.ends ≡ false → is_over (task_after done k) ≡ true → task_after done k ≡ Rest
  -- what waits is given up only at the program's end, after a later try has failed
  pub gives_up : task_after done k ≡ GiveUp → (k.ends ≡ true) × (k.waits ≡ true) × (has_failed k ≡ true)
  -- and else it ends with nothing that waits
  pub ends : task_after done k ≡ End → (k.ends ≡ true) × (k.waits ≡ false)
  -- as long as it takes its turn, writes, or has a line to leave, it has work, for which the program's end waits
  pub works : task_after done k ≡ Take ⊎ (task_after done k ≡ Write ⊎ task_after done k ≡ Leave) → has_work k ≡ true
  -- and the files are watched once there is somebody to be told, until the end
  pub watched : nat_lt done 1 && k.has_untold ≡ false → nat_lt done 2 ≡ true → (k.has_turned ≡ true) × (k.ends ≡ false) → task_after done k ≡ Watch

abbrev pub NothingDueIsPassedOver : Type 0
NothingDueIsPassedOver = (done : ℕ) (k : Known) → IsGoodRound done k
