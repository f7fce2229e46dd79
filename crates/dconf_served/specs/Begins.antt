-- What the D-Bus service does before it serves.
use Rattle.std.specs.Prelude.{ℕ, ◌≡◌, ◌≢◌, Bool, true, false, ◌&&◌, if◌then◌else◌, nat_lt}
use Rattle.dconf_served.specs.declared.begins.Begins.{Begins}
use Rattle.dconf_served.specs.declared.begins.Begins.TheVariants.{MakeFolder, MakeFlags, OpenUser, Serves}

-- dconf's folders, where the store is of dconf's kind, that of flags in the user's runtime folder, if there is one; the database `user`; and it serves
abbrev pub begins_after : ℕ → Bool → ℕ → Begins
begins_after done is_dconfs runtime =
    if nat_lt done 1 && is_dconfs then MakeFolder else if nat_lt done 2 && (is_dconfs && nat_lt 0 runtime) then MakeFlags else
    if nat_lt done 3 then OpenUser else Serves

abbrev pub begins_number : Begins → ℕ
begins_number MakeFolder = 1
begins_number MakeFlags = 2
begins_number OpenUser = 3
begins_number Serves = 4

pub record BeginsInOrder (done : ℕ) (is_dconfs : Bool) (runtime : ℕ) : Type 0 where
  -- nobody is served before what others change is told
  pub opened : begins_after done is_dconfs runtime ≡ Serves → nat_lt done 3 ≡ false
  -- and that isn't before the folders are made that it is told by
  pub made : is_dconfs ≡ true → begins_after done is_dconfs runtime ≡ OpenUser → nat_lt done 1 ≡ false
  pub flags : is_dconfs ≡ true → nat_lt 0 runtime ≡ true → begins_after done is_dconfs runtime ≡ OpenUser → nat_lt done 2 ≡ false
  -- a store of our own kind has none
  pub ours : is_dconfs ≡ false → (begins_after done is_dconfs runtime ≢ MakeFolder) × (begins_after done is_dconfs runtime ≢ MakeFlags)
  -- none is made in a folder that nobody names
  pub nowhere : nat_lt 0 runtime ≡ false → begins_after done is_dconfs runtime ≢ MakeFlags

abbrev pub OthersAreToldOfFromTheStart : Type 0
OthersAreToldOfFromTheStart = (done : ℕ) (is_dconfs : Bool) (runtime : ℕ) → BeginsInOrder done is_dconfs runtime
