-- What holds of what comes before it serves, whatever is known.
use Rattle.std.proofs.Common.{◌≡◌, ◌≢◌, Bool, true, false, refl}
use Rattle.std.specs.Prelude.{◌&&◌, if◌then◌else◌, nat_lt}
use Rattle.dconf_served.specs.declared.begins.Begins.{Begins}
use Rattle.dconf_served.specs.declared.begins.Begins.TheVariants.{MakeFolder, MakeFlags, OpenUser, Serves}
use Rattle.dconf_served.specs.Begins.{OthersAreToldOfFromTheStart}

-- by whether the first, the second and the third are due, the store is of dconf's kind, and there is a runtime folder
abbrev by : Bool → Bool → Bool → Bool → Bool → Begins
by first second third dconfs runtime =
    if first && dconfs then MakeFolder else if second && (dconfs && runtime) then MakeFlags else if third then OpenUser else Serves

abbrev rest : Bool → Bool → Begins
rest flags third = if flags then MakeFlags else if third then OpenUser else Serves

rest_opened : (flags third : Bool) → rest flags third ≡ Serves → third ≡ false
rest_opened true third e = absurd (let bad : MakeFlags ≡ Serves = e in cc)
rest_opened false true e = absurd (let bad : OpenUser ≡ Serves = e in cc)
rest_opened false false e = refl

opened : (folder flags third : Bool) → (if folder then MakeFolder else rest flags third) ≡ Serves → third ≡ false
opened true flags third e = absurd (let bad : MakeFolder ≡ Serves = e in cc)
opened false flags third e = rest_opened flags third e

made : (first dconfs flags third : Bool) → dconfs ≡ true → (if first && dconfs then MakeFolder else rest flags third) ≡ OpenUser → first ≡ false
made false dconfs flags third d e = refl
made true true flags third d e = absurd (let bad : MakeFolder ≡ OpenUser = e in cc)
made true false flags third d e = absurd (let bad : false ≡ true = d in cc)

flags_made : (folder second dconfs runtime third : Bool) → dconfs ≡ true → runtime ≡ true
    → (if folder then MakeFolder else rest (second && (dconfs && runtime)) third) ≡ OpenUser → second ≡ false
flags_made true second dconfs runtime third d r e = absurd (let bad : MakeFolder ≡ OpenUser = e in cc)
flags_made false false dconfs runtime third d r e = refl
flags_made false true true true third d r e = absurd (let bad : MakeFlags ≡ OpenUser = e in cc)
flags_made false true true false third d r e = absurd (let bad : false ≡ true = r in cc)
flags_made false true false runtime third d r e = absurd (let bad : false ≡ true = d in cc)

end_is : (third : Bool) → (rest false third ≢ MakeFolder) × (rest false third ≢ MakeFlags)
end_is true = (λ e. let bad : OpenUser ≡ MakeFolder = e in cc, λ e. let bad : OpenUser ≡ MakeFlags = e in cc)
end_is false = (λ e. let bad : Serves ≡ MakeFolder = e in cc, λ e. let bad : Serves ≡ MakeFlags = e in cc)

ours : (first second third dconfs runtime : Bool) → dconfs ≡ false
    → (by first second third dconfs runtime ≢ MakeFolder) × (by first second third dconfs runtime ≢ MakeFlags)
ours first second third true runtime d = absurd (let bad : true ≡ false = d in cc)
ours true true third false runtime d = end_is third
ours true false third false runtime d = end_is third
ours false true third false runtime d = end_is third
ours false false third false runtime d = end_is third

nowhere : (folder second dconfs third runtime : Bool) → runtime ≡ false → (if folder then MakeFolder else rest (second && (dconfs && runtime)) third) ≢ MakeFlags
nowhere folder second dconfs third true r e = let bad : true ≡ false = r in cc
nowhere true second dconfs third false r e = let bad : MakeFolder ≡ MakeFlags = e in cc
nowhere false true true third false r e = (end_is third).1 e
nowhere false true false third false r e = (end_is third).1 e
nowhere false false dconfs third false r e = (end_is third).1 e

pub others_are_told_of_from_the_start : OthersAreToldOfFromTheStart
others_are_told_of_from_the_start done is_dconfs runtime = record {
  opened = opened (nat_lt done 1 && is_dconfs) (nat_lt done 2 && (is_dconfs && nat_lt 0 runtime)) (nat_lt done 3);
  made = made (nat_lt done 1) is_dconfs (nat_lt done 2 && (is_dconfs && nat_lt 0 runtime)) (nat_lt done 3);
  flags = flags_made (nat_lt done 1 && is_dconfs) (nat_lt done 2) is_dconfs (nat_lt 0 runtime) (nat_lt done 3);
  ours = ours (nat_lt done 1) (nat_lt done 2) (nat_lt done 3) is_dconfs (nat_lt 0 runtime);
  nowhere = nowhere (nat_lt done 1 && is_dconfs) (nat_lt done 2) is_dconfs (nat_lt done 3) (nat_lt 0 runtime);
}
