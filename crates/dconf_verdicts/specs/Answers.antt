-- What a fault means to a call of which it may mean another thing than that the change failed.
use Rattle.std.specs.Prelude.{ℕ, ◌≡◌, ◌⊎◌, ◌↔◌, Bool, true, false, if◌then◌else◌, ◌==◌}
use Rattle.dconf_verdicts.specs.declared.faults.FaultKind.{FaultKind}
use Rattle.dconf_verdicts.specs.declared.faults.FaultKind.TheVariants.{Rights, Damage, Moment, Disk, Missing, Unsupported, Wait, Other}
use Rattle.dconf_verdicts.specs.declared.faults.FaultClass.{FaultClass}
use Rattle.dconf_verdicts.specs.declared.faults.FaultClass.TheVariants as class
use Rattle.dconf_verdicts.specs.declared.answers.FileCall.{FileCall}
use Rattle.dconf_verdicts.specs.declared.answers.FileCall.TheVariants.{Open, Lock, SetAside, Place}
use Rattle.dconf_verdicts.specs.declared.answers.FaultAnswer.{FaultAnswer}
use Rattle.dconf_verdicts.specs.declared.answers.FaultAnswer.TheVariants.{Own, Soon, Later, Leased, Taken, Nameless, Nothing, Unsure}
use Rattle.dconf_verdicts.specs.Faults.{class_of}

abbrev pub of_class : FaultClass → FaultAnswer
of_class class.Own = Own
of_class class.Soon = Soon
of_class class.Later = Later

abbrev pub by_class : FaultKind → Bool → FaultAnswer
by_class k changes = of_class (class_of k changes)

abbrev pub opening : FaultKind → FaultAnswer
opening Wait = Leased
opening k = by_class k false

abbrev pub locking : FaultKind → FaultAnswer
locking Wait = Taken
locking k = by_class k true

abbrev pub setting_aside : FaultKind → FaultAnswer
setting_aside Rights = Nameless
setting_aside Unsupported = Nameless
setting_aside Missing = Nothing
setting_aside k = by_class k true

abbrev pub placing : FaultKind → FaultAnswer
placing Disk = Unsure
placing Damage = Unsure
placing Moment = Unsure
placing Wait = Unsure
placing Other = Unsure
placing k = by_class k true

abbrev pub answer_of : FileCall → FaultKind → FaultAnswer
answer_of Open k = opening k
answer_of Lock k = locking k
answer_of SetAside k = setting_aside k
answer_of Place k = placing k

abbrev pub call_of : ℕ → FileCall
call_of n = if n == 0 then Open else if n == 1 then Lock else if n == 2 then SetAside else Place

abbrev pub answer_number : FaultAnswer → ℕ
answer_number Own = 0
answer_number Soon = 1
answer_number Later = 2
answer_number Leased = 3
answer_number Taken = 4
answer_number Nameless = 5
answer_number Nothing = 6
answer_number Unsure = 7

-- ---- the law

-- it is tried again, or waited for
abbrev pub IsAgain : FaultAnswer → Type 0
IsAgain Soon = Unit {0}
IsAgain Later = Unit {0}
IsAgain Leased = Unit {0}
IsAgain Taken = Unit {0}
IsAgain _ = ⊥

-- the change goes on in another way
abbrev pub GoesOn : FaultAnswer → Type 0
GoesOn Nameless = Unit {0}
GoesOn Nothing = Unit {0}
GoesOn _ = ⊥

-- Who says so may have done what was asked: a disk that fails, what was interrupted, and what no one knows.
abbrev pub may_be_done : FaultKind → Bool
may_be_done Disk = true
may_be_done Damage = true
may_be_done Moment = true
may_be_done Wait = true
may_be_done Other = true
may_be_done _ = false

pub record IsGoodAnswer (call : FileCall) (k : FaultKind) : Type 0 where
  -- it is the file's own, or passes, or the change goes on, or nobody knows; and what is the file's own is not tried again
  pub one : ((answer_of call k ≡ Own) ⊎ IsAgain (answer_of call k)) ⊎ (GoesOn (answer_of call k) ⊎ (answer_of call k ≡ Unsure))
  pub own : answer_of call k ≡ Own → IsAgain (answer_of call k) → ⊥
  -- who gives the new file its name is unsure after each fault that may have been done all the same, and after no other
  pub unsure : (answer_of call k ≡ Unsure) ↔ ((call ≡ Place) × (may_be_done k ≡ true))
  -- only who locks finds a lock taken, and only who opens finds a lease
  pub taken : answer_of call k ≡ Taken → call ≡ Lock
  pub leased : answer_of call k ≡ Leased → call ≡ Open

abbrev pub EachHasOneAnswer : Type 0
EachHasOneAnswer = (call : FileCall) (k : FaultKind) → IsGoodAnswer call k
