-- Whether what the user's file is, is on the disk: what is asked of it, in this order, and what is known then.
use Rattle.std.specs.Prelude.{ℕ, zero, suc, ◌≡◌, Bool, true, false, not, ◌&&◌, ◌||◌, if◌then◌else◌, ◌==◌, nat_lt}
use Rattle.dconf_making.specs.declared.settling.SettlingKnown.{SettlingKnown}
use Rattle.dconf_making.specs.declared.settling.Settling.{Settling}
use Rattle.dconf_making.specs.declared.settling.Settling.TheVariants.{Notes, Settle, Names, Look, Known, Done, Failed}

-- once it was settled
abbrev pub once_settled : SettlingKnown → Settling
once_settled k = if k.is_unsynced then Done else if k.is_in_turn then Known else Look

-- Of what can't be read, by that errno, no more than its name can be brought to the disk.
abbrev pub is_readable : SettlingKnown → Bool
is_readable k = k.errnum == 0

-- how what nobody noted is brought to the disk
abbrev pub settling_of : SettlingKnown → Settling
settling_of k = if k.is_unsynced then Done else if is_readable k then Settle else Names

-- once the first tasks were done, by the answer to the last one
abbrev pub settling_after : ℕ → Bool → SettlingKnown → Settling
settling_after done is_so k =
    if nat_lt done 1 then (if not k.has_file || k.is_known then Known else Notes)
    else if nat_lt done 2 then (if is_so then Known else if k.asks_only then Failed else settling_of k)
    else if nat_lt done 4 then (if is_so then once_settled k else Failed)
    else if is_so then Known else Done

abbrev pub settling_number : Settling → ℕ
settling_number Notes = 1
settling_number Settle = 2
settling_number Names = 3
settling_number Look = 4
settling_number Known = 5
settling_number Done = 6
settling_number Failed = 7

-- ---- the law

-- what each task answers
pub record Answers : Type 0 where
  pub noted : Bool
  pub settled : Bool
  pub named : Bool  -- of a file that can't be read, its folder's names
  pub same : Bool

abbrev pub answer_to : Answers → Settling → Bool
answer_to a Notes = a.noted
answer_to a Settle = a.settled
answer_to a Names = a.named
answer_to a Look = a.same
answer_to a _ = true

abbrev pub is_over : Settling → Bool
is_over Known = true
is_over Done = true
is_over Failed = true
is_over _ = false

-- one after another, each with its answer
abbrev pub goes_on : ℕ → Answers → SettlingKnown → Settling → Settling
goes_on zero a k task = task
goes_on (suc n) a k task = if is_over task then task else goes_on n a k (settling_after (settling_number task) (answer_to a task) k)

-- how it ends: there are three tasks at most
abbrev pub ended : Answers → SettlingKnown → Settling
ended a k = goes_on 3 a k (settling_after 0 true k)

abbrev pub is_known_end : Settling → Bool
is_known_end Known = true
is_known_end _ = false

abbrev pub is_failed_end : Settling → Bool
is_failed_end Failed = true
is_failed_end _ = false

-- what could be brought there was: the file, or, of one that can't be read, its folder's names
abbrev pub is_brought : Answers → SettlingKnown → Bool
is_brought a k = if is_readable k then a.settled else a.named

-- There is no file, or it is known or noted already, or it was brought there now by who syncs, and is the same file still.
abbrev pub is_on_disk : Answers → SettlingKnown → Bool
is_on_disk a k = not k.has_file || (k.is_known || (a.noted || (not k.asks_only && (not k.is_unsynced && (is_brought a k && (k.is_in_turn || a.same))))))

-- Nobody knows that it is there, and it couldn't be brought there, or wasn't to be.
abbrev pub is_lacking : Answers → SettlingKnown → Bool
is_lacking a k = k.has_file && (not k.is_known && (not a.noted && (k.asks_only || (not k.is_unsynced && not (is_brought a k)))))

pub record SettledMeansOnDisk : Type 0 where
  pub known : (a : Answers) (k : SettlingKnown) → is_known_end (ended a k) ≡ is_on_disk a k
  pub failed : (a : Answers) (k : SettlingKnown) → is_failed_end (ended a k) ≡ is_lacking a k
