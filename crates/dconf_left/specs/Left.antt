-- Records of files that were left, the newest first: what they say of a file, and what they are with one more.
use Rattle.std.specs.Prelude.{ℕ, ◌/◌, Bool, List, [], ◌∷◌, length, take, flat_map, if◌then◌else◌}
use Rattle.std.specs.Simd.{first_chunks}
use Rattle.dconf_files.specs.declared.stamp.FileStamp.{FileStamp}
use Rattle.dconf_left.specs.declared.files.LeftFile.{LeftFile}
use Rattle.dconf_left.specs.declared.states.LeftState.{LeftState}
use Rattle.dconf_left.specs.declared.states.LeftState.TheVariants.{Unknown, Left, Synced}
use Rattle.dconf_left.specs.Records.{file_in, is_one, left_file, record_bytes, synced_in}

-- the whole records that bytes begin with; what is left over is none
abbrev pub records : List ℕ → List (List ℕ)
records bytes = first_chunks 56 (length bytes / 56) bytes

abbrev pub state_in : List ℕ → LeftState
state_in r = if synced_in r then Synced else Left

-- the first record of a file says what is known of it
abbrev pub state_of : LeftFile → List (List ℕ) → LeftState
state_of f [] = Unknown
state_of f (r ∷ more) = if is_one f (file_in r) then state_in r else state_of f more

-- nobody leaves a file that isn't there
abbrev pub left_state : List ℕ → List ℕ → FileStamp → LeftState
left_state left name file = if file.is_there then state_of (left_file name file) (records left) else Unknown

abbrev pub state_number : LeftState → ℕ
state_number Unknown = 0
state_number Left = 1
state_number Synced = 2

-- ---- with one more

-- all but the newest, if that is of the same file
abbrev pub others : LeftFile → List (List ℕ) → List (List ℕ)
others f [] = []
others f (r ∷ more) = if is_one f (file_in r) then more else r ∷ more

-- a file that is there stands in front of the others
abbrev pub in_front : List ℕ → FileStamp → Bool → List (List ℕ) → List (List ℕ)
in_front name file synced rs =
    if file.is_there then record_bytes (left_file name file) synced ∷ others (left_file name file) rs else rs

abbrev pub joined : List (List ℕ) → List ℕ
joined rs = flat_map (λ r. r) rs

-- at most so many stay: the oldest go
abbrev pub with_left : List ℕ → List ℕ → FileStamp → Bool → ℕ → List ℕ
with_left left name file synced most = joined (take most (in_front name file synced (records left)))
