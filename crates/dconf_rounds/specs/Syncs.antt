-- What whoever wants to know that all is on the disk does next.
use Rattle.std.specs.Prelude.{ℕ, zero, suc, ◌≡◌, Bool, true, false, not, ◌&&◌, ◌||◌, if◌then◌else◌, ◌==◌, nat_lt}
use Rattle.dconf_rounds.specs.declared.syncs.SyncKnown.{SyncKnown}
use Rattle.dconf_rounds.specs.declared.syncs.SyncTask.{SyncTask}
use Rattle.dconf_rounds.specs.declared.syncs.SyncTask.TheVariants.{Ask, Write, Await, Take, Look, Settle, Yes, No}

abbrev pub looks : SyncKnown → Bool
looks k = k.has_store && not k.has_looked

-- the last look that succeeded began when more looks had begun than by then: one that had begun before may have read what was there before
abbrev pub has_looked_since : ℕ → ℕ → Bool
has_looked_since begun last = nat_lt begun last

-- somebody else writes, and is to try again what failed by a fault that lasts
abbrev pub asks : SyncKnown → Bool
asks k = k.has_writer && k.has_failed

-- once the first tasks were done, or were not due; and by the answer to the last one
abbrev pub sync_after : ℕ → Bool → SyncKnown → SyncTask
sync_after done is_so k =
    if nat_lt done 1 && asks k then Ask else if nat_lt done 2 && not k.has_writer then Write else if nat_lt done 3 then Await else
    if not (done == 5) && not is_so then No else
    if nat_lt done 4 then Take else if nat_lt done 5 && looks k then Look else if nat_lt done 6 && k.is_to_settle then Settle else Yes

abbrev pub sync_number : SyncTask → ℕ
sync_number Ask = 1
sync_number Write = 2
sync_number Await = 3
sync_number Take = 4
sync_number Look = 5
sync_number Settle = 6
sync_number Yes = 7
sync_number No = 8

-- ---- the law

-- what each task answers
pub record Answers : Type 0 where
  pub asked : Bool
  pub wrote : Bool
  pub settled : Bool
  pub has_turn : Bool
  pub looked : Bool
  pub on_disk : Bool

abbrev pub answer_to : Answers → SyncTask → Bool
answer_to a Ask = a.asked
answer_to a Write = a.wrote
answer_to a Await = a.settled
answer_to a Take = a.has_turn
answer_to a Look = a.looked
answer_to a Settle = a.on_disk
answer_to a Yes = true
answer_to a No = true

abbrev pub is_said : SyncTask → Bool
is_said Yes = true
is_said No = true
is_said _ = false

-- one after another, each with its answer
abbrev pub goes_on : ℕ → Answers → SyncKnown → SyncTask → SyncTask
goes_on zero a k task = task
goes_on (suc n) a k task = if is_said task then task else goes_on n a k (sync_after (sync_number task) (answer_to a task) k)

-- what is said at last: there are six tasks at most
abbrev pub said : Answers → SyncKnown → SyncTask
said a k = goes_on 6 a k (sync_after 0 true k)

pub record IsGoodSync (a : Answers) (k : SyncKnown) : Type 0 where
  -- Yes exactly if all that waited is settled, and it had its turn, and what was there already is on the disk; and else no.
  pub yes : said a k ≡ (if a.settled && (a.has_turn && (not k.is_to_settle || a.on_disk)) then Yes else No)
  -- what is to be tried again is tried now, by who writes
  pub asked : k.has_failed ≡ true → sync_after 0 true k ≡ (if k.has_writer then Ask else Write)

abbrev pub YesMeansAllIsThere : Type 0
YesMeansAllIsThere = (a : Answers) (k : SyncKnown) → IsGoodSync a k
