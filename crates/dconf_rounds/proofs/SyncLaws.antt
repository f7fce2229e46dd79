-- What is said to who wants to know that all is on the disk.
use Rattle.std.proofs.Common.{◌≡◌, Bool, true, false, not, refl}
use Rattle.std.specs.Prelude.{◌&&◌, ◌||◌, if◌then◌else◌}
use Rattle.dconf_rounds.specs.declared.syncs.SyncKnown.{SyncKnown}
use Rattle.dconf_rounds.specs.declared.syncs.SyncTask.TheVariants.{Ask, Write, Yes, No}
use Rattle.dconf_rounds.specs.Syncs.{Answers, said, sync_after, YesMeansAllIsThere}

abbrev answers : Bool → Bool → Bool → Bool → Bool → Bool → Answers
answers asked wrote settled has_turn looked on_disk =
    record { asked = asked; wrote = wrote; settled = settled; has_turn = has_turn; looked = looked; on_disk = on_disk }

abbrev known : Bool → Bool → Bool → Bool → Bool → SyncKnown
known has_writer has_failed has_store has_looked is_to_settle =
    record { has_writer = has_writer; has_failed = has_failed; has_store = has_store; has_looked = has_looked; is_to_settle = is_to_settle }

-- whether who asks writes, or asks for it, and whether it looks
said_by : (writer failed store looked settle asked wrote settled turn look disk : Bool)
    → said (answers asked wrote settled turn look disk) (known writer failed store looked settle) ≡ (if settled && (turn && (not settle || disk)) then Yes else No)
said_by true true store looked settle asked wrote false turn look disk = refl
said_by true true store looked settle asked wrote true false look disk = refl
said_by true true false looked false asked wrote true true look disk = refl
said_by true true false looked true asked wrote true true look true = refl
said_by true true false looked true asked wrote true true look false = refl
said_by true true true true false asked wrote true true look disk = refl
said_by true true true true true asked wrote true true look true = refl
said_by true true true true true asked wrote true true look false = refl
said_by true true true false false asked wrote true true look disk = refl
said_by true true true false true asked wrote true true look true = refl
said_by true true true false true asked wrote true true look false = refl
said_by true false store looked settle asked wrote false turn look disk = refl
said_by true false store looked settle asked wrote true false look disk = refl
said_by true false false looked false asked wrote true true look disk = refl
said_by true false false looked true asked wrote true true look true = refl
said_by true false false looked true asked wrote true true look false = refl
said_by true false true true false asked wrote true true look disk = refl
said_by true false true true true asked wrote true true look true = refl
said_by true false true true true asked wrote true true look false = refl
said_by true false true false false asked wrote true true look disk = refl
said_by true false true false true asked wrote true true look true = refl
said_by true false true false true asked wrote true true look false = refl
said_by false failed store looked settle asked wrote false turn look disk = refl
said_by false failed store looked settle asked wrote true false look disk = refl
said_by false failed false looked false asked wrote true true look disk = refl
said_by false failed false looked true asked wrote true true look true = refl
said_by false failed false looked true asked wrote true true look false = refl
said_by false failed true true false asked wrote true true look disk = refl
said_by false failed true true true asked wrote true true look true = refl
said_by false failed true true true asked wrote true true look false = refl
said_by false failed true false false asked wrote true true look disk = refl
said_by false failed true false true asked wrote true true look true = refl
said_by false failed true false true asked wrote true true look false = refl

first_by : (writer failed store looked settle : Bool) → failed ≡ true → sync_after 0 true (known writer failed store looked settle) ≡ (if writer then Ask else Write)
first_by true true store looked settle e = refl
first_by false true store looked settle e = refl
first_by writer false store looked settle e = absurd (let bad : false ≡ true = e in cc)

pub yes_means_all_is_there : YesMeansAllIsThere
yes_means_all_is_there a k =
    record {
      yes = said_by k.has_writer k.has_failed k.has_store k.has_looked k.is_to_settle a.asked a.wrote a.settled a.has_turn a.looked a.on_disk;
      asked = first_by k.has_writer k.has_failed k.has_store k.has_looked k.is_to_settle;
    }
