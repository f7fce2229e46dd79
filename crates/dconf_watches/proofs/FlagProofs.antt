-- In which order the tasks come about the flag of dconf's readers.
use Rattle.std.proofs.Common.{◌≡◌, Bool, true, false, not, refl}
use Rattle.std.specs.Prelude.{◌&&◌, ◌||◌, if◌then◌else◌, ◌==◌}
use Rattle.dconf_watches.specs.declared.flag.Flagging.{Flagging}
use Rattle.dconf_watches.specs.declared.flag.Flagging.TheVariants.{Look, Lock, Open, Lengthen, Set, Remove, Over}
use Rattle.dconf_watches.specs.Flags.{NoReaderIsLost}

-- once it was looked for, or the lock was asked for
abbrev by : Bool → Bool → Bool → Bool → Bool → Bool → Bool → Bool → Flagging
by none asked could looked own first longer goes =
    if none then Look else if asked then Open else if not could then Over else if looked then (if own then Open else Lock) else
    if first then Lengthen else if longer then Set else if goes then Remove else Over

removed : (none asked could looked own first longer goes : Bool) → by none asked could looked own first longer goes ≡ Remove → (could ≡ true) × (goes ≡ true)
removed true asked could looked own first longer goes e = cc
removed false true could looked own first longer goes e = cc
removed false false false looked own first longer goes e = cc
removed false false true true true first longer goes e = cc
removed false false true true false first longer goes e = cc
removed false false true false own true longer goes e = cc
removed false false true false own false true goes e = cc
removed false false true false own false false true e = (refl, refl)
removed false false true false own false false false e = cc

set : (none asked could looked own first longer goes : Bool) → by none asked could looked own first longer goes ≡ Set → (could ≡ true) × (longer ≡ true)
set true asked could looked own first longer goes e = cc
set false true could looked own first longer goes e = cc
set false false false looked own first longer goes e = cc
set false false true true true first longer goes e = cc
set false false true true false first longer goes e = cc
set false false true false own true longer goes e = cc
set false false true false own false true goes e = (refl, refl)
set false false true false own false false true e = cc
set false false true false own false false false e = cc

opened : (none asked could looked own first longer goes : Bool) → by none asked could looked own first longer goes ≡ Open → asked || own ≡ true
opened true asked could looked own first longer goes e = cc
opened false true could looked own first longer goes e = refl
opened false false false looked own first longer goes e = cc
opened false false true true true first longer goes e = refl
opened false false true true false first longer goes e = cc
opened false false true false own true longer goes e = cc
opened false false true false own false true goes e = cc
opened false false true false own false false true e = cc
opened false false true false own false false false e = cc

failed : (none asked could looked own first longer goes : Bool) → none ≡ false → asked ≡ false → could ≡ false → by none asked could looked own first longer goes ≡ Over
failed true asked could looked own first longer goes n a c = cc
failed false true could looked own first longer goes n a c = cc
failed false false false looked own first longer goes n a c = refl
failed false false true looked own first longer goes n a c = cc

pub no_reader_is_lost : NoReaderIsLost
no_reader_is_lost done could_be is_in_turn = record {
  removed = removed (done == 0) (done == 2) could_be (done == 1) is_in_turn (done == 3) (done == 4) ((done == 5) && is_in_turn);
  set = set (done == 0) (done == 2) could_be (done == 1) is_in_turn (done == 3) (done == 4) ((done == 5) && is_in_turn);
  opened = opened (done == 0) (done == 2) could_be (done == 1) is_in_turn (done == 3) (done == 4) ((done == 5) && is_in_turn);
  unlocked = refl;
  failed = failed (done == 0) (done == 2) could_be (done == 1) is_in_turn (done == 3) (done == 4) ((done == 5) && is_in_turn);
}
