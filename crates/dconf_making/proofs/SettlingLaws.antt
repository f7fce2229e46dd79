-- How it ends to ask whether the user's file is on the disk.
use Rattle.std.proofs.Common.{ℕ, ◌≡◌, Bool, true, false, refl}
use Rattle.std.specs.Prelude.{◌==◌}
use Rattle.dconf_making.specs.declared.settling.SettlingKnown.{SettlingKnown}
use Rattle.dconf_making.specs.Settling.{Answers, SettledMeansOnDisk, ended, is_failed_end, is_known_end, is_lacking, is_on_disk}

abbrev answers : Bool → Bool → Bool → Bool → Answers
answers noted settled named same = record { noted = noted; settled = settled; named = named; same = same }

abbrev known : Bool → Bool → Bool → Bool → Bool → ℕ → SettlingKnown
known file is_known unsynced turn only errnum =
    record { has_file = file; is_known = is_known; is_unsynced = unsynced; is_in_turn = turn; asks_only = only; errnum = errnum }

pub record AsSaid (a : Answers) (k : SettlingKnown) : Type 0 where
  pub known : is_known_end (ended a k) ≡ is_on_disk a k
  pub failed : is_failed_end (ended a k) ≡ is_lacking a k

by_all : (file is_known noted only unsynced readable settled named turn same : Bool) (errnum : ℕ) → (errnum == 0) ≡ readable
    → AsSaid (answers noted settled named same) (known file is_known unsynced turn only errnum)
by_all false is_known noted only unsynced readable settled named turn same errnum e = record { known = refl; failed = refl }
by_all true true noted only unsynced readable settled named turn same errnum e = record { known = refl; failed = refl }
by_all true false true only unsynced readable settled named turn same errnum e = record { known = refl; failed = refl }
by_all true false false true unsynced readable settled named turn same errnum e = record { known = refl; failed = refl }
by_all true false false false true readable settled named turn same errnum e = record { known = refl; failed = refl }
by_all true false false false false true false named turn same errnum e = record { known = rw e refl; failed = rw e refl }
by_all true false false false false true true named true same errnum e = record { known = rw e refl; failed = rw e refl }
by_all true false false false false true true named false true errnum e = record { known = rw e refl; failed = rw e refl }
by_all true false false false false true true named false false errnum e = record { known = rw e refl; failed = rw e refl }
by_all true false false false false false settled false turn same errnum e = record { known = rw e refl; failed = rw e refl }
by_all true false false false false false settled true true same errnum e = record { known = rw e refl; failed = rw e refl }
by_all true false false false false false settled true false true errnum e = record { known = rw e refl; failed = rw e refl }
by_all true false false false false false settled true false false errnum e = record { known = rw e refl; failed = rw e refl }

said : (a : Answers) (k : SettlingKnown) → AsSaid a k
said a k = by_all k.has_file k.is_known a.noted k.asks_only k.is_unsynced (k.errnum == 0) a.settled a.named k.is_in_turn a.same k.errnum refl

pub settled_means_on_disk : SettledMeansOnDisk
settled_means_on_disk = record { known = λ a k. (said a k).known; failed = λ a k. (said a k).failed }
