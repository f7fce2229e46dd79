-- What comes after a call that moves bytes into a file or out of it: it may move fewer than were asked for. And what stands behind them.
use Rattle.std.specs.Prelude.{ℕ, ◌≡◌, ◌⊎◌, ◌+◌, ◌-◌, ◌≤◌, ◌<◌, Bool, true, false, not, if◌then◌else◌, ◌==◌, min, max, nat_le, nat_lt}
use Rattle.dconf_parts.specs.declared.moving.NextMove.{NextMove}
use Rattle.dconf_parts.specs.declared.moving.NextMove.TheVariants.{On, All, End, Failed}

-- how many were moved then: a call that failed moved none
abbrev pub moved_to : ℕ → ℕ → ℕ → ℕ → ℕ
moved_to wanted at errno count = if errno == 0 then at + min count (wanted - at) else at

-- where a call moves nothing there are no more, or there is no room for them
abbrev pub by_count : ℕ → ℕ → ℕ → NextMove
by_count wanted to count = if nat_le wanted to then All else if count == 0 then End else On

-- What a signal interrupted (EINTR) is made again, and no other call that failed is.
abbrev pub moved : ℕ → ℕ → ℕ → ℕ → NextMove
moved wanted at errno count =
    if errno == 4 then On else if not (errno == 0) then Failed else by_count wanted (moved_to wanted at errno count) count

abbrev pub moved_number : NextMove → ℕ
moved_number On = 0
moved_number All = 1
moved_number End = 2
moved_number Failed = 3

-- More stood in the file than was written into it from its start on.
abbrev pub is_cut : ℕ → ℕ → Bool
is_cut stood written = nat_lt written stood

-- how many bytes the file has then
abbrev pub left_after : Bool → ℕ → ℕ → ℕ
left_after cuts stood written = if cuts then written else max stood written

-- ---- the law

pub record IsMovedWell (wanted at errno count : ℕ) : Type 0 where
  -- what was moved stays so, and no more is counted than was asked for
  pub kept : at ≤ moved_to wanted at errno count
  pub within : at ≤ wanted → moved_to wanted at errno count ≤ wanted
  -- all are moved only where each is
  pub all : at ≤ wanted → moved wanted at errno count ≡ All → moved_to wanted at errno count ≡ wanted
  -- another call comes only after one that was interrupted, or that brought it nearer
  pub on : moved wanted at errno count ≡ On → (errno ≡ 4) ⊎ (at < moved_to wanted at errno count)
  -- a fault is passed over by none
  pub fault : (errno == 0) ≡ false → (errno == 4) ≡ false → moved wanted at errno count ≡ Failed

pub record EachByteIsMoved : Type 0 where
  pub moved : (wanted at errno count : ℕ) → IsMovedWell wanted at errno count
  -- nothing stands behind what was written
  pub cut : (stood written : ℕ) → left_after (is_cut stood written) stood written ≡ written
