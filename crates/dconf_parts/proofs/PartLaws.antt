-- What is kept is the same.
use Rattle.std.proofs.Common.{◌≡◌, Bool, true, false, not, refl}
use Rattle.std.specs.Prelude.{◌&&◌, ◌||◌, ◌==◌, if◌then◌else◌}
use Rattle.dconf_files.specs.declared.stamp.Sameness.{Sameness}
use Rattle.dconf_files.specs.declared.stamp.Sameness.TheVariants as sameness
use Rattle.dconf_parts.specs.declared.parts.Likeness.TheVariants.{Same, Other}
use Rattle.dconf_files.specs.declared.stamp.FileStamp.{FileStamp}
use Rattle.dconf_files.specs.declared.stamp.FileTime.{FileTime}
use Rattle.dconf_files.specs.Stamps.{is_same_time, is_settled, is_written_alike, missing}
use Rattle.std.proofs.lemmas.Bool.{and_from, eq-eqb}
use Rattle.dconf_parts.specs.Parts.{WhatIsKeptIsTheSame, has_same_fault, is_as_read, is_kept, is_one_file, is_other, kept_by, said_of, taken_by}

kept : (is_fault : Bool) (said : Sameness) (untouched : Bool) → is_kept (if is_fault then Other else kept_by said untouched) ≡ true → said ≡ sameness.Same
kept true said untouched e = cc
kept false sameness.Same untouched e = refl
kept false sameness.Other untouched e = cc
kept false sameness.Unsure untouched e = cc

taken : (is_fault : Bool) (said : Sameness) (is : Bool) → (if is_fault then Other else taken_by said is) ≡ Same → (is ≡ true) × (is_other said ≡ false)
taken true said is e = cc
taken false sameness.Other is e = cc
taken false sameness.Same true e = (refl, refl)
taken false sameness.Same false e = cc
taken false sameness.Unsure true e = (refl, refl)
taken false sameness.Unsure false e = cc

second : (one other : Bool) → (one && other) ≡ true → other ≡ true
second true other e = e
second false other e = cc

by_bytes : (could before has same : Bool) → (if could then before && has else same) ≡ true → could ≡ true → has ≡ true
by_bytes true before has same e y = second before has e
by_bytes false before has same e y = cc

by_fault : (could before has same : Bool) → (if could then before && has else same) ≡ true → could ≡ false → same ≡ true
by_fault true before has same e y = cc
by_fault false before has same e y = e

by_holding : (missing alike held : Bool) (lost touched other : Sameness) → held ≡ true
    → (if missing then lost else if not alike then sameness.Other else if held then sameness.Same else touched)
    ≡ (if missing then lost else if not alike then sameness.Other else if held then sameness.Same else other)
by_holding missing alike true lost touched other h = refl
by_holding missing alike false lost touched other h = absurd (let bad : false ≡ true = h in cc)

same_time : (t : FileTime) → is_same_time t t ≡ true
same_time t = and_from (t.nanoseconds == t.nanoseconds) (t.seconds == t.seconds) (eq-eqb t.nanoseconds t.nanoseconds refl) (eq-eqb t.seconds t.seconds refl)

one_self : (f : FileStamp) → f.is_there ≡ true → is_one_file f f ≡ true
one_self f h =
    let same : ((f.device == f.device) && (f.inode == f.inode)) ≡ true =
    and_from (f.device == f.device) (f.inode == f.inode) (eq-eqb f.device f.device refl) (eq-eqb f.inode f.inode refl) in
    and_from f.is_there (f.is_there && ((f.device == f.device) && (f.inode == f.inode))) h
    (and_from f.is_there ((f.device == f.device) && (f.inode == f.inode)) h same)

by_place : (is : Bool) (made named : FileStamp) → is_one_file made named ≡ is → made.is_there ≡ true → is_one_file made (if is then named else made) ≡ true
by_place true made named e h = e
by_place false made named e h = one_self made h

pub what_is_kept_is_the_same : WhatIsKeptIsTheSame
what_is_kept_is_the_same = record {
  unread = λ old now s e. kept (not (s.fault == 0)) (said_of old now s) (is_same_time old.touched now.touched) e;
  bytes = λ old now s e y. by_bytes (s.read_code == 0) (s.code == 0) s.has_bytes (has_same_fault s) (taken (not (s.fault == 0)) (said_of old now s) (is_as_read s) e).0 y;
  fault = λ old now s e y. by_fault (s.read_code == 0) (s.code == 0) s.has_bytes (has_same_fault s) (taken (not (s.fault == 0)) (said_of old now s) (is_as_read s) e).0 y;
  known = λ old now s h. by_holding (not old.is_there || not now.is_there) (is_written_alike old now) s.is_held (missing old.is_there now.is_there)
      (if not (is_same_time now.touched now.touched) then sameness.Other else if is_settled now.touched s.opened then sameness.Same else sameness.Unsure)
      (if not (is_same_time old.touched now.touched) then sameness.Other else if is_settled old.touched s.opened then sameness.Same else sameness.Unsure) h;
  settled = λ old now. same_time now.touched;
  placed = λ made named h. by_place (is_one_file made named) made named refl h;
  one = λ old now s e. (taken (not (s.fault == 0)) (said_of old now s) (is_as_read s) e).1;
}
