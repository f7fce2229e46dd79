-- A change from its beginning to its end: whether a turn is taken for it, and what is done where no file is to be made.
use Rattle.std.specs.Prelude.{ℕ, zero, suc, ◌≡◌, Bool, true, false, not, ◌&&◌, ◌||◌, if◌then◌else◌, nat_lt}
use Rattle.dconf_made.specs.declared.need.Need.{Need}
use Rattle.dconf_made.specs.declared.need.Need.TheVariants as need
use Rattle.dconf_made.specs.declared.course.Course.{Course}
use Rattle.dconf_made.specs.declared.course.Task.{Task}
use Rattle.dconf_made.specs.declared.course.Task.TheVariants.{Look, Change, Turn, Refresh, Well, Settle, Done, Failed}

-- where no file is to be made
abbrev pub unmade : Course → Task
unmade k = if k.has_user then Refresh else Well

-- once it is known what stands at the name, as far as that can be said
abbrev pub by_need : Need → Course → Task
by_need need.File k = Change
by_need need.Nothing k = unmade k
by_need need.Look k = Change

abbrev pub unlocked : Need → Course → Task
unlocked need.File k = by_need need.File k
unlocked need.Nothing k = by_need need.Nothing k
unlocked need.Look k = Look

abbrev pub begun : Need → Course → Task
begun n k = if not k.has_edits then Done else if not k.is_locked then unlocked n k else if k.has_user then Turn else Well

abbrev pub after_well : Course → Task
after_well k = if k.has_user && not k.is_unsynced then Settle else Done

-- What comes after that task: 0 is none.
abbrev pub course_after : ℕ → Bool → Need → Course → Task
course_after done is_so n k =
    if nat_lt done 1 then begun n k
    else if nat_lt done 2 then by_need n k
    else if not is_so then Failed
    else if nat_lt done 4 then Done
    else if nat_lt done 5 then Well
    else if nat_lt done 6 then after_well k else Done

abbrev pub task_number : Task → ℕ
task_number Look = 1
task_number Change = 2
task_number Turn = 3
task_number Refresh = 4
task_number Well = 5
task_number Settle = 6
task_number Done = 7
task_number Failed = 8

-- ---- the law

-- what each task answers, and whether a file is to be made: before anybody looked, and after that
pub record Answers : Type 0 where
  pub first : Need
  pub seen : Need
  pub made : Bool
  pub turned : Bool
  pub read : Bool
  pub well : Bool
  pub settled : Bool

abbrev pub answer_to : Answers → Task → Bool
answer_to a Change = a.made
answer_to a Turn = a.turned
answer_to a Refresh = a.read
answer_to a Well = a.well
answer_to a Settle = a.settled
answer_to a _ = true

abbrev pub is_over : Task → Bool
is_over Done = true
is_over Failed = true
is_over _ = false

-- one after another, each with its answer
abbrev pub goes_on : ℕ → Answers → Course → Task → Task
goes_on zero a k task = task
goes_on (suc n) a k task = if is_over task then task else goes_on n a k (course_after (task_number task) (answer_to a task) a.seen k)

-- how it ends: there are four tasks at most
abbrev pub ended : Answers → Course → Task
ended a k = goes_on 4 a k (course_after 0 true a.first k)

abbrev pub is_done_end : Task → Bool
is_done_end Done = true
is_done_end _ = false

abbrev pub is_failed_end : Task → Bool
is_failed_end Failed = true
is_failed_end _ = false

abbrev pub is_file_after : Need → Bool
is_file_after need.Nothing = false
is_file_after need.File = true
is_file_after need.Look = true

-- a file is to be made, as far as the changes and what stands there say
abbrev pub is_file_before : Need → Need → Bool
is_file_before need.File seen = true
is_file_before need.Nothing seen = false
is_file_before need.Look seen = is_file_after seen

-- Where none is made, the change is well by what the files hold, and, where there could be one, that there is none is on the disk.
abbrev pub is_well_without : Answers → Course → Bool
is_well_without a k = if k.has_user then a.read && (a.well && (k.is_unsynced || a.settled)) else a.well

abbrev pub is_done : Answers → Course → Bool
is_done a k =
    if not k.has_edits then true
    else if k.is_locked then (if k.has_user then a.turned else a.well)
    else if is_file_before a.first a.seen then a.made else is_well_without a k

-- It is done exactly if it asks for nothing, or was made in its turn where a file is to be made, or else is well; and then no turn was taken.
pub record EachChangeIsDone : Type 0 where
  pub done : (a : Answers) (k : Course) → is_done_end (ended a k) ≡ is_done a k
  pub failed : (a : Answers) (k : Course) → is_failed_end (ended a k) ≡ not (is_done a k)
