-- A try to take a lock, whatever is answered: it ends, and makes nothing unasked.
use Rattle.std.specs.Prelude.{ℕ, ◌≡◌, ◌⊎◌, ◌≤◌, Bool, true, false, ◌&&◌, ◌||◌, ◌==◌, nat_lt, List, [], ◌∷◌, length}
use Rattle.dconf_verdicts.specs.declared.standing.Seen.{Seen}
use Rattle.dconf_waits.specs.declared.taking.TakingRecord.{TakingRecord}
use Rattle.dconf_waits.specs.Takings.{taken, to}

-- the lock is had, others have it, or it isn't had
abbrev pub is_over : TakingRecord → Bool
is_over t = (t.task == 13) || ((t.task == 14) || (t.task == 15))

-- nothing was answered yet, or the try before is over
abbrev pub Begins : TakingRecord → Type 0
Begins t = (t.task ≡ 0) ⊎ ((t.task ≡ 13) ⊎ ((t.task ≡ 14) ⊎ (t.task ≡ 15)))

-- it is over after one of these answers
abbrev pub EndsIn : List Seen → TakingRecord → Type 0
EndsIn [] t = ⊥
EndsIn (s ∷ more) t = (is_over (taken t s) ≡ true) ⊎ EndsIn more (taken t s)

-- law: after so many answers at most it is known whether the lock is had, and why not
abbrev pub EachTryEnds : Type 0
EachTryEnds = (answers : List Seen) (t : TakingRecord) → Begins t → 32000 ≤ length answers → EndsIn answers t

-- it makes the folder or the lock's file, or first brings the folder's name to the disk
abbrev pub makes_at : ℕ → Bool
makes_at task = (task == 2) || (nat_lt 3 task && nat_lt task 8)

-- law: who may make nothing makes nothing, and waits for no disk, as long as each answer says so
abbrev pub NothingIsMadeUnasked : Type 0
NothingIsMadeUnasked = (t : TakingRecord) (s : Seen) → s.may_make ≡ false → makes_at t.task ≡ false → makes_at (taken t s).task ≡ false

-- law: between two tries of one thread while another one forks, or has forks heeded, there is a pause, and after it all is opened anew
pub record IsPausedFor (t : TakingRecord) (s : Seen) : Type 0 where
  pub pause : nat_lt t.forks (taken t s).forks ≡ true → (taken t s).task ≡ 12
  pub after : t.task ≡ 12 → taken t s ≡ to t 1

abbrev pub ForksArePausedFor : Type 0
ForksArePausedFor = (t : TakingRecord) (s : Seen) → IsPausedFor t s
