-- What is read, what is a lock, and what root follows.
use Rattle.std.proofs.Common.{◌≡◌, Bool, true, false, not, ◌&&◌, ◌||◌, refl, ◌==◌}
use Rattle.std.specs.Prelude.{ℕ, if◌then◌else◌, nat_lt}
use Rattle.dconf_verdicts.specs.declared.standing.Standing.{Standing}
use Rattle.dconf_verdicts.specs.declared.standing.Standing.TheVariants.{Good, Nothing, Map, Head, Other, Fault}
use Rattle.dconf_verdicts.specs.Standings.{is_regular, is_roots_alone, is_no_file, fault_of_mode, is_not_ours, EachIsSafe}

abbrev sized : Bool → Bool → Bool → Bool → Bool → Standing
sized over none large map stop = if over then Fault 75 else if none then Nothing else if not large then Good else if map then Map else if stop then Head else Good

abbrev take : Bool → ℕ → Bool → ℕ → Bool → Bool → Bool → Bool → Bool → Standing
take done errno regular fault over none large map stop = if not done then Fault errno else if regular then sized over none large map stop else Fault fault

sized_good : (over none large map stop : Bool) → sized over none large map stop ≡ Good → over ≡ false
sized_good true none large map stop e = cc
sized_good false none large map stop e = refl

sized_map : (over none large map stop : Bool) → sized over none large map stop ≡ Map → over ≡ false
sized_map true none large map stop e = cc
sized_map false none large map stop e = refl

take_good : (done : Bool) (errno : ℕ) (regular : Bool) (fault : ℕ) (over none large map stop : Bool) → take done errno regular fault over none large map stop ≡ Good
    → (regular ≡ true) × (over ≡ false)
take_good false errno regular fault over none large map stop e = cc
take_good true errno false fault over none large map stop e = cc
take_good true errno true fault over none large map stop e = (refl, sized_good over none large map stop e)

take_map : (done : Bool) (errno : ℕ) (regular : Bool) (fault : ℕ) (over none large map stop : Bool) → take done errno regular fault over none large map stop ≡ Map
    → (regular ≡ true) × (over ≡ false)
take_map false errno regular fault over none large map stop e = cc
take_map true errno false fault over none large map stop e = cc
take_map true errno true fault over none large map stop e = (refl, sized_map over none large map stop e)

abbrev look : Bool → Bool → ℕ → Standing
look done missing errno = if done then Good else if missing then Nothing else Fault errno

abbrev lock : Bool → Bool → Bool → Bool → ℕ → Standing
lock done regular other missing errno = if done then (if regular then Good else Fault 22) else if other then Fault 22 else look done missing errno

lock_good : (done regular other missing : Bool) (errno : ℕ) → lock done regular other missing errno ≡ Good → regular ≡ true
lock_good true true other missing errno e = refl
lock_good true false other missing errno e = cc
lock_good false regular true missing errno e = cc
lock_good false regular false true errno e = cc
lock_good false regular false false errno e = cc

abbrev held : Bool → Bool → Bool → Bool → Standing
held done moved named more = if not done || (moved || not named) then Nothing else if more then Other else Good

held_good : (done moved named more : Bool) → held done moved named more ≡ Good → (named ≡ true) × (moved ≡ false) × (more ≡ false)
held_good false moved named more e = cc
held_good true true named more e = cc
held_good true false false more e = cc
held_good true false true true e = cc
held_good true false true false e = (refl, refl, refl)

abbrev follow : Bool → Bool → Bool → Bool → Standing
follow root done alone few = if root && not (done && alone) then Fault 13 else if few then Good else Fault 40

follow_good : (root done alone few : Bool) → root ≡ true → follow root done alone few ≡ Good → alone ≡ true
follow_good false done alone few r e = absurd (let bad : false ≡ true = r in cc)
follow_good true done true few r e = refl
follow_good true false false few r e = cc
follow_good true true false few r e = cc

follow_few : (root done alone few : Bool) → follow root done alone few ≡ Good → few ≡ true
follow_few root done alone true e = refl
follow_few false done alone false e = cc
follow_few true true true false e = cc
follow_few true true false false e = cc
follow_few true false alone false e = cc

abbrev open_folder : Bool → Bool → Bool → ℕ → Standing
open_folder root done named errno = if root then (if done && named then Good else Other) else if done then Good else Fault errno

open_good : (root done named : Bool) (errno : ℕ) → root ≡ true → open_folder root done named errno ≡ Good → named ≡ true
open_good false done named errno r e = absurd (let bad : false ≡ true = r in cc)
open_good true done true errno r e = refl
open_good true true false errno r e = cc
open_good true false false errno r e = cc

abbrev make_in : Bool → Bool → Bool → ℕ → Standing
make_in done root own errno = if not done then Fault errno else if root && not own then Other else Good

make_good : (done root own : Bool) (errno : ℕ) → root ≡ true → make_in done root own errno ≡ Good → own ≡ true
make_good done false own errno r e = absurd (let bad : false ≡ true = r in cc)
make_good done true true errno r e = refl
make_good true true false errno r e = cc
make_good false true false errno r e = cc

abbrev enter : Bool → Bool → Bool → Bool → Bool → ℕ → Standing
enter done missing may none other errno = if done then Good else if missing && (may && none) then Nothing else if other then Other else Fault errno

enter_none : (done missing may none other : Bool) (errno : ℕ) → enter done missing may none other errno ≡ Nothing → none ≡ true
enter_none true missing may none other errno e = cc
enter_none false missing may true other errno e = refl
enter_none false true true false true errno e = cc
enter_none false true true false false errno e = cc
enter_none false true false false true errno e = cc
enter_none false true false false false errno e = cc
enter_none false false may false true errno e = cc
enter_none false false may false false errno e = cc

abbrev sync_name : Bool → Bool → ℕ → Standing
sync_name done none errno = if done then Good else if none then Nothing else Fault errno

sync_good : (done none : Bool) (errno : ℕ) → sync_name done none errno ≡ Good → done ≡ true
sync_good true none errno e = refl
sync_good false true errno e = cc
sync_good false false errno e = cc

pub each_is_safe : EachIsSafe
each_is_safe s = record {
  regular = take_good (s.fault == 0) s.fault (is_regular s.mode) (fault_of_mode s.mode) (nat_lt s.most s.size) (s.size == 0) (nat_lt 65536 s.size) s.may_map s.may_stop;
  mapped = take_map (s.fault == 0) s.fault (is_regular s.mode) (fault_of_mode s.mode) (nat_lt s.most s.size) (s.size == 0) (nat_lt 65536 s.size) s.may_map s.may_stop;
  lock = lock_good (s.fault == 0) (is_regular s.mode) (is_no_file s.fault) (s.fault == 2) s.fault;
  held = held_good (s.fault == 0) s.is_moved s.is_named (nat_lt 1 s.links);
  followed = follow_good s.is_root (s.fault == 0) (is_roots_alone s) (nat_lt s.tried 40);
  ends = follow_few s.is_root (s.fault == 0) (is_roots_alone s) (nat_lt s.tried 40);
  opened = open_good s.is_root (s.fault == 0) s.is_named s.fault;
  made = make_good (s.fault == 0) s.is_root (s.user == 0) s.fault;
  entered = enter_none (s.fault == 0) (s.fault == 2) s.may_make (s.tried == 0) (s.fault == 20) s.fault;
  synced = sync_good (s.fault == 0) (is_not_ours s.fault) s.fault;
}
