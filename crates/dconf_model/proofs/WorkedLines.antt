-- Worked lock files and profiles.
use Rattle.std.specs.Prelude.{◌≡◌, ℕ, List, [], ◌∷◌, ◌++◌, Ok, codes, refl, true, false, replicate}
use Rattle.std.specs.Str.{is_utf8, chars}
use Rattle.std.specs.Str.Lossy.{utf8_valid_len}
use lib.Utf8.{encode as encode_char}
use Rattle.dconf_model.specs.Paths.{first_path_fault, has_two_slashes}
use Rattle.dconf_model.specs.Causes.SettingsCause.{not_utf8, lock_not_key, bad_line, service_db, user_not_first, too_many}
use Rattle.dconf_model.specs.Lines.{lines_of, fault_at_line}
use Rattle.dconf_model.specs.Locks.{locks_in, covers}
use Rattle.dconf_model.specs.Profiles.{databases_in, profile_of}
use Rattle.dconf_model.specs.Profiles.Kind.{user_db, system_db}
use Rattle.dconf_model.proofs.EndedLines.{ended}

unfoldable pub reading : ℕ
unfolding is_utf8 chars encode_char utf8_valid_len first_path_fault has_two_slashes
reading = 0

-- a text of these lines
unfoldable pub text_of : List (List ℕ) → List ℕ
text_of ls = ended ls

two_lines : lines_of (codes "a" ++ 10 ∷ codes "b") ≡ codes "a" ∷ codes "b" ∷ []
two_lines = refl

empty_lines : lines_of (10 ∷ 10 ∷ []) ≡ [] ∷ [] ∷ []
empty_lines = refl

no_line : lines_of [] ≡ []
no_line = refl

-- ---- locks

two_locks : locks_in (text_of (codes "/a/k" ∷ codes "# c" ∷ codes "/a/" ∷ [])) ≡ Ok (record { path = codes "/a/k"; line = 1 } ∷ record { path = codes "/a/"; line = 3 } ∷ [])
unfolding reading text_of
two_locks = refl

no_lock : locks_in (codes "/a//") ≡ fault_at_line 1 lock_not_key
unfolding reading
no_lock = refl

-- a carriage return belongs to the path, and a line without a line feed is a line
nothing_is_trimmed : locks_in (codes " /b" ++ 10 ∷ codes "/a/k" ++ 13 ∷ []) ≡ Ok (record { path = codes "/a/k" ++ 13 ∷ []; line = 2 } ∷ [])
unfolding reading
nothing_is_trimmed = refl

root_covers : covers (codes "/") (codes "/q") ≡ true
root_covers = refl

other_directory : covers (codes "/a/") (codes "/ab") ≡ false
other_directory = refl

key_covers_itself_alone : covers (codes "/a/k") (codes "/a/kk") ≡ false
key_covers_itself_alone = refl

-- ---- profiles

site_first : databases_in (text_of (codes "system-db:a" ∷ codes "user-db:b" ∷ [])) ≡ fault_at_line 2 user_not_first
unfolding reading text_of
site_first = refl

service : databases_in (codes "service-db:x") ≡ fault_at_line 1 service_db
unfolding reading
service = refl

word : databases_in (codes "local") ≡ fault_at_line 1 bad_line
unfolding reading
word = refl

two_databases : databases_in (text_of (codes "# c" ∷ codes "  user-db:me" ∷ [] ∷ (codes "system-db: site" ++ 9 ∷ codes "# c") ∷ []))
    ≡ Ok (record { kind = user_db; name = codes "me" } ∷ record { kind = system_db; name = codes " site" } ∷ [])
unfolding reading text_of
two_databases = refl

empty_name : databases_in (codes "file-db:#b") ≡ fault_at_line 1 bad_line
unfolding reading
empty_name = refl

lines : ℕ → List ℕ → List (List ℕ)
lines n l = replicate n l

many : databases_in (text_of (lines 65 (codes "file-db:a"))) ≡ fault_at_line 65 too_many
unfolding reading text_of lines
many = refl

-- the user's as the 65th
user_late : databases_in (text_of (lines 64 (codes "file-db:a") ++ codes "user-db:b" ∷ [])) ≡ fault_at_line 65 user_not_first
unfolding reading text_of lines
user_late = refl

not_text : profile_of (codes "local" ++ 10 ∷ 255 ∷ []) ≡ fault_at_line 2 not_utf8
unfolding reading
not_text = refl
