-- Whose a file is that takes another's place, and who may do what with it.
use Rattle.std.specs.Prelude.{ℕ, ◌≡◌, ◌⊎◌, ◌+◌, ◌*◌, ◌/◌, ◌%◌, Bool, true, false, not, ◌&&◌, if◌then◌else◌, ◌==◌, bit_and, bit_or}
use Rattle.dconf_files.specs.declared.owner.OldFile.{OldFile}
use Rattle.dconf_files.specs.declared.owner.FileOwner.{FileOwner}
use Rattle.dconf_files.specs.declared.owner.NewFile.{NewFile}
use Rattle.dconf_files.specs.declared.owner.NewOwner.{NewOwner}
use Rattle.dconf_files.specs.declared.owner.NewOwner.TheVariants.{Given, Refused, Again}

-- ---- permission bits: a digit of three rights each for the owner, the group and all others

abbrev pub owners : ℕ → ℕ
owners bits = bits / 64 % 8

abbrev pub groups : ℕ → ℕ
groups bits = bits / 8 % 8

abbrev pub others : ℕ → ℕ
others bits = bits % 8

-- the rights that the group and all others have both
abbrev pub both : ℕ → ℕ
both bits = bit_and (groups bits) (others bits)

abbrev pub bits_for : ℕ → Bool → ℕ
bits_for bits has_group = if has_group then bits % 512 else bits % 512 / 64 * 64 + both (bits % 512) * 8 + both (bits % 512)

-- its owner may read and write it, too
abbrev pub first_bits : ℕ → ℕ
first_bits bits = bit_or (bits / 64) 6 % 8 * 64 + bits % 64

-- ---- the new file

abbrev pub new_bits : OldFile → Bool → ℕ
new_bits old keeps = if not old.is_regular then 384 else if keeps then first_bits (old.bits % 512) else old.bits % 512

abbrev pub given : ℕ → ℕ → ℕ → NewOwner
given user group bits = Given (record { user = user; group = group; bits = bits })

abbrev pub as_old : OldFile → Bool → NewOwner
as_old old keeps = given old.user old.group (new_bits old keeps)

abbrev pub owner_of : OldFile → FileOwner → Bool → Bool → NewOwner
owner_of old above is_root keeps =
    if not old.is_there then given above.user above.group 384 else
    if is_root && keeps && old.is_link then (if old.user == 0 then as_old old keeps else Refused) else
    if is_root && not old.is_read then Again else as_old old keeps

-- It is told as an errno, and given where there is none: EACCES, or EAGAIN where it is to be read again.
abbrev pub IsToldOwner : NewOwner → NewFile → ℕ → NewFile → Type 0
IsToldOwner (Given new) before number given = (number ≡ 0) × (given ≡ new)
IsToldOwner Refused before number given = (number ≡ 13) × (given ≡ before)
IsToldOwner Again before number given = (number ≡ 11) × (given ≡ before)

-- ---- the law

-- The rights of somebody who is not the owner, by the groups that he is in.
abbrev pub rights_of : (ℕ → Bool) → ℕ → ℕ → ℕ
rights_of is_in group bits = if is_in group then groups bits else others bits

-- each right of these is one of those
abbrev pub AreRightsOf : ℕ → ℕ → Type 0
AreRightsOf these those = bit_and these those ≡ these

-- what somebody may do with the old file, as far as it is one
abbrev pub old_rights : OldFile → (ℕ → Bool) → ℕ
old_rights old is_in = if old.is_there && old.is_regular then rights_of is_in old.group old.bits else 0

pub record IsGoodOwner (old : OldFile) (above : FileOwner) (is_root keeps : Bool) (new : NewFile) : Type 0 where
  -- in its own group, and in any other while it hasn't that or where nobody can give it that
  pub own : (is_in : ℕ → Bool) → AreRightsOf (rights_of is_in new.group (bits_for new.bits true)) (old_rights old is_in)
  pub foreign : (is_in : ℕ → Bool) (group : ℕ) → AreRightsOf (rights_of is_in group (bits_for new.bits false)) (old_rights old is_in)
  -- root gives it to whom it was read from, or keeps what is its own
  pub root : is_root ≡ true → old.is_there ≡ true → (new.user ≡ old.user) × ((old.is_read ≡ true) ⊎ (new.user ≡ 0))
  -- a regular file has the bits that the old one had
  pub kept : old.is_there ≡ true → old.is_regular ≡ true → keeps ≡ false → new.bits ≡ old.bits % 512

abbrev pub NobodyGains : Type 0
NobodyGains = (old : OldFile) (above : FileOwner) (is_root keeps : Bool) (new : NewFile)
    → owner_of old above is_root keeps ≡ Given new → IsGoodOwner old above is_root keeps new
