-- What comes of a call that gives the old file another name, or the new one the old one's; and how the old one is looked at before.
use Rattle.std.specs.Prelude.{ℕ, ◌≡◌, ◌+◌, ◌%◌, Bool, true, false, not, ◌&&◌, if◌then◌else◌, ◌==◌}
use Rattle.dconf_files.specs.declared.owner.OldFile.{OldFile}
use Rattle.dconf_files.specs.declared.owner.FileOwner.{FileOwner}
use Rattle.dconf_files.specs.declared.owner.NewOwner.{NewOwner}
use Rattle.dconf_files.specs.declared.owner.NewOwner.TheVariants.{Given, Refused, Again}
use Rattle.dconf_files.specs.declared.owner.NewFile.{NewFile}
use Rattle.dconf_files.specs.Owners.{IsToldOwner, owner_of}
use Rattle.dconf_verdicts.specs.declared.answers.FaultAnswer.{FaultAnswer}
use Rattle.dconf_verdicts.specs.declared.answers.FaultAnswer.TheVariants as is
use Rattle.dconf_verdicts.specs.declared.answers.FileCall.TheVariants as call
use Rattle.dconf_verdicts.specs.Answers.{answer_of}
use Rattle.dconf_verdicts.specs.Errnos.{kind_of}
use Rattle.dconf_making.specs.declared.renamed.NewLook.{NewLook}
use Rattle.dconf_making.specs.declared.renamed.NewLook.TheVariants.{Follow, Is}
use Rattle.dconf_making.specs.declared.renamed.Renamed.{Renamed}

-- ---- another name

abbrev pub unmoved : ℕ → Bool → Bool → Renamed
unmoved errno nameless goes = record { fault = errno; is_nameless = nameless; is_aside = false; goes = goes }

-- What can have no other name changes places with the new file, and where nothing has the name nothing is set aside.
abbrev pub aside_by : ℕ → FaultAnswer → Renamed
aside_by errno is.Nameless = unmoved 0 true false
aside_by errno is.Nothing = unmoved 0 false false
aside_by errno answer = unmoved errno false false

abbrev pub set_aside : ℕ → Renamed
set_aside errno = aside_by errno (answer_of call.SetAside (kind_of errno))

-- What perhaps is the old file stays.
abbrev pub may_go : FaultAnswer → Bool
may_go is.Unsure = false
may_go answer = true

abbrev pub placed : ℕ → Renamed
placed errno = unmoved errno false (may_go (answer_of call.Place (kind_of errno)))

abbrev pub renamed_of : Bool → ℕ → Renamed
renamed_of places errno =
    if errno == 0 then record { fault = 0; is_nameless = false; is_aside = true; goes = false } else
    if places then placed errno else set_aside errno

-- ---- the look before

-- of what is set aside a turn is told 512 more
abbrev pub beside : NewOwner → NewOwner
beside (Given new) = Given (record new { bits = new.bits % 512 + 512 })
beside Refused = Refused
beside Again = Again

abbrev pub new_look : OldFile → FileOwner → Bool → Bool → NewLook
new_look old above is_root bad =
    if (old.is_there && old.is_link) && not bad then Follow else
    if bad then Is (beside (owner_of old above is_root true)) else Is (owner_of old above is_root false)

-- the same in numbers: ELOOP where a link is to be followed
abbrev pub IsToldLook : NewLook → NewFile → ℕ → NewFile → Type 0
IsToldLook Follow before number given = (number ≡ 40) × (given ≡ before)
IsToldLook (Is owner) before number given = IsToldOwner owner before number given
