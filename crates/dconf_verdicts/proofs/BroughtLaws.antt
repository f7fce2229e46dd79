-- What is brought to the disk, by what is wanted, and what was done.
use Rattle.std.proofs.Common.{◌≡◌, ◌≢◌, Bool, true, false, not, ◌&&◌, refl, ◌==◌}
use Rattle.std.specs.Prelude.{ℕ, if◌then◌else◌}
use Rattle.dconf_verdicts.specs.declared.brought.Bring.{Bring}
use Rattle.dconf_verdicts.specs.declared.brought.Bring.TheVariants.{Name, Make, File, Folder, Over}
use Rattle.dconf_verdicts.specs.Brought.{NamesFollowBytes}

abbrev first : Bool → Bool → Bring
first made file = if made then Name else if file then File else Folder

abbrev next : Bool → Bool → Bool → Bool → Bool → Bool → Bool → Bool → Bool → Bring
next good none named made file folder makes both has =
    if not good then Over else if none then first makes has else if named && makes then Make else if made then Folder else if file then Folder else
    if folder && both then Name else Over

stops : (good none named made file folder makes both has : Bool) → good ≡ false → next good none named made file folder makes both has ≡ Over
stops false none named made file folder makes both has e = refl
stops true none named made file folder makes both has e = absurd (let bad : true ≡ false = e in cc)

later : (made file folder both : Bool) → (if made then Folder else if file then Folder else if folder && both then Name else Over) ≡ Make → ⊥
later true file folder both e = let bad : Folder ≡ Make = e in cc
later false true folder both e = let bad : Folder ≡ Make = e in cc
later false false true true e = let bad : Name ≡ Make = e in cc
later false false true false e = let bad : Over ≡ Make = e in cc
later false false false both e = let bad : Over ≡ Make = e in cc

makes_last : (good none named made file folder makes both has : Bool) → next good none named made file folder makes both has ≡ Make
    → (makes ≡ true) × (named ≡ true) × (good ≡ true)
makes_last false none named made file folder makes both has e = absurd (let bad : Over ≡ Make = e in cc)
makes_last true true named made file folder true both has e = absurd (let bad : Name ≡ Make = e in cc)
makes_last true true named made file folder false both true e = absurd (let bad : File ≡ Make = e in cc)
makes_last true true named made file folder false both false e = absurd (let bad : Folder ≡ Make = e in cc)
makes_last true false true made file folder true both has e = (refl, refl, refl)
makes_last true false true made file folder false both has e = absurd (later made file folder both e)
makes_last true false false made file folder makes both has e = absurd (later made file folder both e)

bytes_first : (makes has : Bool) → makes ≡ false → has ≡ true → first makes has ≡ File
bytes_first false true m h = refl
bytes_first true has m h = absurd (let bad : true ≡ false = m in cc)
bytes_first false false m h = absurd (let bad : false ≡ true = h in cc)

begins : (makes has : Bool) → first makes has ≢ Over
begins true has e = let bad : Name ≡ Over = e in cc
begins false true e = let bad : File ≡ Over = e in cc
begins false false e = let bad : Folder ≡ Over = e in cc

name_last : (both : Bool) → both ≡ true → (if both then Name else Over) ≡ Name
name_last true e = refl
name_last false e = absurd (let bad : false ≡ true = e in cc)

pub names_follow_bytes : NamesFollowBytes
names_follow_bytes what done errno has = record {
  stops = stops (errno == 0) (done == 0) (done == 1) (done == 2) (done == 3) (done == 4) (what == 0) (what == 2) has;
  made = makes_last (errno == 0) (done == 0) (done == 1) (done == 2) (done == 3) (done == 4) (what == 0) (what == 2) has;
  bytes = bytes_first (what == 0) has;
  begins = begins (what == 0) has;
  named = (refl, refl);
  folder = name_last (what == 2);
}
