-- The steps of a look at the files of a store: what may follow which.
use Rattle.std.specs.Prelude.{ℕ, ◌≡◌, ◌+◌, ◌≤◌, ◌<◌, Bool, true, false, not, ◌&&◌, if◌then◌else◌, ◌==◌}
use Rattle.dconf_verdicts.specs.declared.faults.FaultKind.{FaultKind}
use Rattle.dconf_verdicts.specs.Faults.{is_files_own}
use Rattle.dconf_steps.specs.declared.refresh.Refresh.{Refresh}
use Rattle.dconf_steps.specs.declared.refresh.LookStage.{LookStage}
use Rattle.dconf_steps.specs.declared.refresh.LookStage.TheVariants.{Asking, Reading, Comparing, Keeping, Opening, Over}
use Rattle.dconf_steps.specs.declared.refresh.LookEnd.{LookEnd}
use Rattle.dconf_steps.specs.declared.refresh.LookEnd.TheVariants.{Failed, Same, Newer}
use Rattle.dconf_steps.specs.declared.refresh.LookStep.{LookStep}
use Rattle.dconf_steps.specs.declared.refresh.LookStep.TheVariants.{Stat, Read, Compare, Keep, Open, Done}

abbrev pub look_step_at : LookStage → ℕ → LookStep
look_step_at Asking at = Stat at
look_step_at Reading at = Read at
look_step_at Comparing at = Compare at
look_step_at Keeping at = Keep at
look_step_at Opening at = Open at
look_step_at (Over end) at = Done end

abbrev pub look_step : Refresh → LookStep
look_step r = look_step_at r.stage r.at

abbrev pub IsLookDone : LookStep → Type 0
IsLookDone (Done end) = Unit {0}
IsLookDone _ = ⊥

-- The host is asked of a file that has an old part, but not of the first one in a turn.
abbrev pub first_look : Bool → Bool → ℕ → LookStage
first_look has_old in_turn at = if has_old && not (in_turn && (at == 0)) then Asking else Reading

-- What was read is compared with what the old part was made of, if there is one.
abbrev pub after_reading : Bool → LookStage
after_reading has_old = if has_old then Comparing else Opening

abbrev pub end_of : Bool → LookEnd
end_of is_newer = if is_newer then Newer else Same

-- the next file's first step, or the end
pub record AreNext (r : Refresh) (at : ℕ) (is_newer : Bool) (next : LookStep) : Type 0 where
  pub more : at + 1 < r.count → next ≡ look_step_at (first_look r.has_old r.in_turn (at + 1)) (at + 1)
  pub last : r.count ≤ at + 1 → next ≡ Done (end_of is_newer)

-- A file that is as it was is kept. Any other is read, compared if that can be, and then kept or opened.
abbrev pub LookGoes : Refresh → LookStep → Bool → LookStep → Type 0
LookGoes r (Stat at) true next = next ≡ Keep at
LookGoes r (Stat at) false next = next ≡ Read at
LookGoes r (Read at) true next = next ≡ look_step_at (after_reading r.has_old) at
LookGoes r (Read at) false next = next ≡ Done Failed
LookGoes r (Compare at) true next = next ≡ Keep at
LookGoes r (Compare at) false next = next ≡ Open at
LookGoes r (Keep at) said next = AreNext r at r.is_newer next
LookGoes r (Open at) true next = AreNext r at true next
LookGoes r (Open at) false next = next ≡ Done Failed
LookGoes r (Done end) said next = next ≡ Done end

abbrev pub newer_after : LookStep → Bool → Bool → Bool
newer_after (Open at) true before = true
newer_after step said before = before

abbrev pub is_read_leniently : LookStep → Bool → Bool
is_read_leniently (Read at) lenient = lenient
is_read_leniently step lenient = false

-- What a fault of the host is to a step: to a lenient look a file that can't be read by a fault of its own is had, and counts as nothing.
abbrev pub is_had : LookStep → Bool → FaultKind → Bool
is_had step lenient kind = is_read_leniently step lenient && is_files_own kind

-- nothing is done yet
pub record IsRefreshBegun (count : ℕ) (has_old in_turn is_lenient : Bool) (r : Refresh) : Type 0 where
  pub some : 0 < count → look_step r ≡ look_step_at (first_look has_old in_turn 0) 0
  pub none : count ≡ 0 → look_step r ≡ Done (end_of (not has_old))
  pub count_is : r.count ≡ count
  pub old : r.has_old ≡ has_old
  pub turn : r.in_turn ≡ in_turn
  pub lenient : r.is_lenient ≡ is_lenient
  pub newer : r.is_newer ≡ not has_old

-- What became of a look when a step's answer was given, whatever the answer was.
pub record IsLookAnswered (r : Refresh) (said : Bool) (v : Refresh) : Type 0 where
  pub goes : LookGoes r (look_step r) said (look_step v)
  pub newer : v.is_newer ≡ newer_after (look_step r) said r.is_newer
  pub count : v.count ≡ r.count
  pub old : v.has_old ≡ r.has_old
  pub turn : v.in_turn ≡ r.in_turn
  pub lenient : v.is_lenient ≡ r.is_lenient

-- ---- words of private parts

pub record IsNextFile (r v : Refresh) : Type 0 where
  pub next : AreNext r r.at r.is_newer (look_step v)
  pub newer : v.is_newer ≡ r.is_newer
  pub count : v.count ≡ r.count
  pub old : v.has_old ≡ r.has_old
  pub turn : v.in_turn ≡ r.in_turn
  pub lenient : v.is_lenient ≡ r.is_lenient
