-- How a change ends.
use Rattle.std.proofs.Common.{◌≡◌, Bool, true, false, not, refl}
use Rattle.dconf_made.specs.declared.need.Need.{Need}
use Rattle.dconf_made.specs.declared.need.Need.TheVariants as need
use Rattle.dconf_made.specs.declared.course.Course.{Course}
use Rattle.dconf_made.specs.Courses.{Answers, EachChangeIsDone, ended, is_done, is_done_end, is_failed_end}

abbrev answers : Need → Need → Bool → Bool → Bool → Bool → Bool → Answers
answers first seen made turned read well settled =
    record { first = first; seen = seen; made = made; turned = turned; read = read; well = well; settled = settled }

abbrev course : Bool → Bool → Bool → Bool → Course
course edits user locked unsynced = record { has_edits = edits; has_user = user; is_locked = locked; is_unsynced = unsynced }

pub record AsSaid (a : Answers) (k : Course) : Type 0 where
  pub done : is_done_end (ended a k) ≡ is_done a k
  pub failed : is_failed_end (ended a k) ≡ not (is_done a k)

abbrev Said : Bool → Bool → Bool → Bool → Need → Need → Bool → Bool → Bool → Bool → Bool → Type 0
Said edits user locked unsynced first seen made turned read well settled = AsSaid (answers first seen made turned read well settled) (course edits user locked unsynced)

by_well : (unsynced well settled : Bool) (seen : Need) (made turned read : Bool) → Said true false false unsynced need.Nothing seen made turned read well settled
by_well unsynced true settled seen made turned read = record { done = refl; failed = refl }
by_well unsynced false settled seen made turned read = record { done = refl; failed = refl }

by_files : (read well unsynced settled : Bool) (seen : Need) (made turned : Bool) → Said true true false unsynced need.Nothing seen made turned read well settled
by_files false well unsynced settled seen made turned = record { done = refl; failed = refl }
by_files true false unsynced settled seen made turned = record { done = refl; failed = refl }
by_files true true true settled seen made turned = record { done = refl; failed = refl }
by_files true true false true seen made turned = record { done = refl; failed = refl }
by_files true true false false seen made turned = record { done = refl; failed = refl }

by_well_seen : (unsynced well settled : Bool) (made turned read : Bool) → Said true false false unsynced need.Look need.Nothing made turned read well settled
by_well_seen unsynced true settled made turned read = record { done = refl; failed = refl }
by_well_seen unsynced false settled made turned read = record { done = refl; failed = refl }

by_files_seen : (read well unsynced settled : Bool) (made turned : Bool) → Said true true false unsynced need.Look need.Nothing made turned read well settled
by_files_seen false well unsynced settled made turned = record { done = refl; failed = refl }
by_files_seen true false unsynced settled made turned = record { done = refl; failed = refl }
by_files_seen true true true settled made turned = record { done = refl; failed = refl }
by_files_seen true true false true made turned = record { done = refl; failed = refl }
by_files_seen true true false false made turned = record { done = refl; failed = refl }

by_all : (edits locked user : Bool) (first seen : Need) (made turned read well settled unsynced : Bool) → Said edits user locked unsynced first seen made turned read well settled
by_all false locked user first seen made turned read well settled unsynced = record { done = refl; failed = refl }
by_all true true true first seen made true read well settled unsynced = record { done = refl; failed = refl }
by_all true true true first seen made false read well settled unsynced = record { done = refl; failed = refl }
by_all true true false first seen made turned read true settled unsynced = record { done = refl; failed = refl }
by_all true true false first seen made turned read false settled unsynced = record { done = refl; failed = refl }
by_all true false user need.File seen true turned read well settled unsynced = record { done = refl; failed = refl }
by_all true false user need.File seen false turned read well settled unsynced = record { done = refl; failed = refl }
by_all true false true need.Nothing seen made turned read well settled unsynced = by_files read well unsynced settled seen made turned
by_all true false false need.Nothing seen made turned read well settled unsynced = by_well unsynced well settled seen made turned read
by_all true false user need.Look need.File true turned read well settled unsynced = record { done = refl; failed = refl }
by_all true false user need.Look need.File false turned read well settled unsynced = record { done = refl; failed = refl }
by_all true false user need.Look need.Look true turned read well settled unsynced = record { done = refl; failed = refl }
by_all true false user need.Look need.Look false turned read well settled unsynced = record { done = refl; failed = refl }
by_all true false true need.Look need.Nothing made turned read well settled unsynced = by_files_seen read well unsynced settled made turned
by_all true false false need.Look need.Nothing made turned read well settled unsynced = by_well_seen unsynced well settled made turned read

said : (a : Answers) (k : Course) → AsSaid a k
said a k = by_all k.has_edits k.is_locked k.has_user a.first a.seen a.made a.turned a.read a.well a.settled k.is_unsynced

pub each_change_is_done : EachChangeIsDone
each_change_is_done = record { done = λ a k. (said a k).done; failed = λ a k. (said a k).failed }
