-- A worked folder: its profile names the user's database, which isn't there yet. The laws of runs
-- speak of it.
use Rattle.std.specs.Prelude.{◌≡◌, List, ℕ, [], ◌∷◌, Bool, true, false, cond, Some, None, codes, length, refl}
use Rattle.std.specs.Str.{bytes_eq, is_utf8, chars}
use Rattle.std.specs.Str.Lossy.{utf8_valid_len}
use Rattle.std.proofs.Common.{ap, subst, arith}
use lib.Utf8.{encode as encode_char}
use Rattle.dconf_model.specs.Profiles.{Database}
use Rattle.dconf_model.specs.Profiles.Kind.{user_db}
use Rattle.dconf_model.specs.Folders.{Event, IsSettled, MayLeaveOf, content_of, read_content}
use Rattle.dconf_model.specs.Folders.Event.{create, append, sync, sync_folder}
use Rattle.dconf_model.specs.Stores.{OwnValues, nothing_given}
use Rattle.dconf_model.specs.Programs.{FolderHolds, AreApart}
use Rattle.dconf_model.specs.Survivals.{AskedCommand, Attempt, AreSettled, AreKept, CrashedSince}
use Rattle.dconf_model.specs.Survivals.RunEnd.{crashed}
use Rattle.dconf_model.specs.Commands.Command.{reset}
use Rattle.dconf_model.proofs.CompiledFolders.{given_holds, no_file_gives_nothing}
use Rattle.dconf_model.proofs.FolderLaws.{counts_now, seen_may}
use Rattle.dconf_model.proofs.SurvivalLaws.{next_run_finds_all}

abbrev p : List ℕ
p = codes "p"

abbrev folder : List Event
folder = sync_folder ∷ sync p ∷ append p (codes "user-db:u") ∷ create p ∷ []

abbrev user : Database
user = record { kind = user_db; name = codes "u" }

abbrev no_values : OwnValues
no_values path = None

folder_holds : FolderHolds (read_content folder) p user [] no_values []
unfolding is_utf8 chars encode_char utf8_valid_len
folder_holds =
    given_holds (read_content folder) p (codes "user-db:u") user [] nothing_given [] refl refl
    (no_file_gives_nothing (read_content folder) (codes "u.user") refl, tt)

other_length : (name other : List ℕ) → length name ≡ 1 → length other ≡ 6 → name ≡ other → ⊥
other_length name other one six e = let same = ap length e in absurd (omega (arith, one, six, same))

other_long : (name other : List ℕ) → length name ≡ 1 → length other ≡ 10 → name ≡ other → ⊥
other_long name other one ten e = let same = ap length e in absurd (omega (arith, one, ten, same))

apart : AreApart p user []
apart = record {
  profile_is = record { own = other_length p (codes "u.user") refl refl; fresh = other_long p (codes "u.user.new") refl refl };
  databases = tt;
}

settled : AreSettled folder p user []
settled = record {
  profile_is = λ c m. (subst (λ file. MayLeaveOf folder file c) m.1 m.2).1 refl;
  user = λ c m. subst (λ file. MayLeaveOf folder file c) m.1 m.2;
  others = tt;
}

-- no run, nothing kept
nothing_kept : (kept : List AskedCommand) × (AreKept (codes "u.user") [] kept)
nothing_kept =
    let found = next_run_finds_all p user [] no_values [] [] folder folder apart folder_holds settled tt refl in
    (found.0, found.1)

-- ---- a crash, before a command began

-- the folder is synced, so each name stands for what it stood for
all_settled : (name : List ℕ) → IsSettled folder name (read_content folder name)
all_settled name c left = by_file (bytes_eq name p) (subst (λ file. MayLeaveOf folder file c) left.1 left.2)
  where
    by_file : (b : Bool) → MayLeaveOf folder (cond b (Some 0) None) c → c ≡ content_of folder (cond b (Some 0) None)
    by_file true h = h.1 refl
    by_file false h = h

abbrev before_it : Attempt
before_it = record { command = reset (codes "/k") p; input = record { bytes = []; fails = false }; end = crashed }

crash : CrashedSince folder folder folder
crash = record {
  left = λ name. counts_now folder 4 name (read_content folder name) (omega arith) (seen_may folder name);
  settled = all_settled;
}

-- the command is not kept
left_out : (kept : List AskedCommand) × AreKept (codes "u.user") (before_it ∷ []) kept
left_out =
    let found = next_run_finds_all p user [] no_values [] (before_it ∷ []) folder folder apart folder_holds settled (refl, tt) (folder, crash, refl) in
    (found.0, found.1)
