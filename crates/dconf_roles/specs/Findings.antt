-- What is found wrong with a key that is set, and with a lock. docs/MANUAL.md, "lint [FILE]..".
use Rattle.std.specs.Prelude.{ℕ, ◌≡◌, ◌≢◌, ◌⊎◌, Bool, true, false, not, ◌&&◌, ◌||◌, if◌then◌else◌, ◌==◌, List, codes, nat_eq}
use Rattle.std.specs.List.{ends_with}
use Rattle.std.specs.Str.{bytes_eq}
use Rattle.dconf_roles.specs.declared.findings.Finding.{Finding}
use Rattle.dconf_roles.specs.declared.findings.Finding.TheVariants.{Nothing, NoKey, NoLockedKey, NoLockedDirectory, OtherType, NotTaken, NoDatabase, SetTwice, NotSet, Double, NoValue, NoFile, OddFile, LargeFile, UnreadFile}
use Rattle.dconf_roles.specs.declared.findings.FindingKnown.{FindingKnown}

-- no schema is at its directory, one without a path may have it, and it is no slip
abbrev pub may_be_there : FindingKnown → Bool → Bool
may_be_there k slip = not k.has_schemas && (k.may_be_elsewhere && not slip)

abbrev pub of_value : FindingKnown → Finding
of_value k = if not k.has_value || k.is_taken then Nothing else if k.is_of_type then NotTaken else OtherType

abbrev pub missing : ℕ → Finding
missing what = if what == 0 then NoKey else if what == 1 then NoLockedKey else NoLockedDirectory

abbrev pub finding_of : FindingKnown → Bool → Finding
finding_of k slip = if k.is_known then of_value k else if may_be_there k slip then Nothing else missing k.what

-- it has its file, or will have it, or nobody can say
abbrev pub may_have_file : FindingKnown → Bool
may_have_file k = k.is_known || (k.is_made || (k.is_unseen || k.is_among_profiles))

-- A database that a profile names, a file of that name. The system's lie beside the profile of a folder, `profile`; of any other one nobody knows
-- where they do.
abbrev pub of_database : FindingKnown → List ℕ → Finding
of_database k file = if may_have_file k || not (k.is_system && bytes_eq file (codes "profile")) then Nothing else NoDatabase

-- set by an earlier line of the same database
abbrev pub of_again : FindingKnown → Finding
of_again k = if k.is_known then SetTwice else Nothing

abbrev pub is_key : List ℕ → Bool
is_key path = not (ends_with nat_eq path (codes "/"))

-- a key that is locked, and that no keyfile of the site sets: it has the schema's default for good
abbrev pub of_unset : FindingKnown → List ℕ → Finding
of_unset k path = if not k.is_known && (k.is_taken && is_key path) then NotSet else Nothing

-- a text is a value, and one that a database holds; of one with a double, which we don't read, GLib says whether it is
abbrev pub is_value : FindingKnown → Bool
is_value k = if k.has_double then k.has_value else k.is_known && k.is_taken

-- and one with a double, in a source of `update`, is refused there
abbrev pub of_text : FindingKnown → Finding
of_text k = if not (is_value k) then NoValue else if k.has_double && k.is_system then Double else Nothing

-- What can't be read isn't there (ENOENT, or no errno), is no regular file (EINVAL), is too large (EOVERFLOW), or has what the system says of it.
abbrev pub of_file : ℕ → Finding
of_file errno =
    if (errno == 0) || (errno == 2) then NoFile else if errno == 22 then OddFile else if errno == 75 then LargeFile else UnreadFile

abbrev pub finding_for : FindingKnown → List ℕ → Bool → Finding
finding_for k name slip =
    if k.what == 3 then of_database k name else if k.what == 4 then of_again k else if k.what == 5 then of_unset k name
    else if k.what == 6 then of_text k else if k.what == 7 then of_file k.errnum else finding_of k slip

abbrev pub finding_number : Finding → ℕ
finding_number Nothing = 0
finding_number NoKey = 1
finding_number NoLockedKey = 2
finding_number NoLockedDirectory = 3
finding_number OtherType = 4
finding_number NotTaken = 5
finding_number NoDatabase = 6
finding_number SetTwice = 7
finding_number NotSet = 8
finding_number Double = 9
finding_number NoValue = 10
finding_number NoFile = 11
finding_number OddFile = 12
finding_number LargeFile = 13
finding_number UnreadFile = 14

-- ---- the law

pub record IsNoFalseAlarm (k : FindingKnown) (slip : Bool) : Type 0 where
  -- a key that a schema has, and that isn't set, or takes its value, is as it should be
  pub taken : k.is_known ≡ true → k.is_taken ≡ true → finding_of k slip ≡ Nothing
  pub unset : k.is_known ≡ true → k.has_value ≡ false → finding_of k slip ≡ Nothing
  -- a value that no key takes is found
  pub untaken : k.is_known ≡ true → k.has_value ≡ true → k.is_taken ≡ false → (finding_of k slip ≡ NotTaken) ⊎ (finding_of k slip ≡ OtherType)
  -- what is unknown is found, unless a schema without a path may have it
  pub unknown : k.is_known ≡ false → may_be_there k slip ≡ false → finding_of k slip ≡ missing k.what
  pub elsewhere : k.is_known ≡ false → may_be_there k slip ≡ true → finding_of k slip ≡ Nothing
  -- a database of the system that isn't there is found, in the profile of a folder alone
  pub there : (file : List ℕ) → may_have_file k ≡ true → of_database k file ≡ Nothing
  -- a key is set twice only after an earlier line, and locked without a value only if no keyfile has one, and nothing else is wrong
  pub again : of_again k ≡ SetTwice → k.is_known ≡ true
  pub first : k.is_known ≡ false → of_again k ≡ Nothing
  pub set : (path : List ℕ) → k.is_known ≡ true → of_unset k path ≡ Nothing
  pub not_set : (path : List ℕ) → k.is_known ≡ false → k.is_taken ≡ true → is_key path ≡ true → of_unset k path ≡ NotSet
  pub database : (file : List ℕ) → may_have_file k ≡ false → k.is_system ≡ true → bytes_eq file (codes "profile") ≡ true → of_database k file ≡ NoDatabase
  -- a text is found exactly if it is no value, or has a double where `update` reads it
  pub text : is_value k ≡ false → of_text k ≡ NoValue
  pub double : is_value k ≡ true → of_text k ≡ (if k.has_double && k.is_system then Double else Nothing)
  -- what isn't there is said to be so, and nothing else is
  pub gone : (of_file 0 ≡ NoFile) × (of_file 2 ≡ NoFile)
  pub is_there : (errno : ℕ) → (errno == 0) || (errno == 2) ≡ false → of_file errno ≢ NoFile

abbrev pub NoAlarmIsFalse : Type 0
NoAlarmIsFalse = (k : FindingKnown) (slip : Bool) → IsNoFalseAlarm k slip
