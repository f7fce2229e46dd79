-- How notes stand in a file: the title, the records, and the moment of the turn once more.
use Rattle.std.specs.Prelude.{◌≡◌, ◌≤◌, ◌<◌, ◌++◌, ℕ, List, [], ◌∷◌, length, drop, codes}
use Rattle.gv_model.specs.Encode.{number_bytes}
use Rattle.dconf_times.specs.declared.times.DconfdbTime.{DconfdbTime}

-- a path, when it was set, and a number for what was set
pub record Noted : Type 0 where
  pub path : List ℕ
  pub when : ℕ
  pub value : ℕ

abbrev pub noted_of : DconfdbTime → Noted
noted_of t = record { path = t.path.now; when = t.when; value = t.value }

abbrev pub title : List ℕ
title = codes "dconfdb times 2\n"

-- each number in eight bytes, the lowest first: when, the value, and how long the path is; and the path
abbrev pub record_bytes : Noted → List ℕ
record_bytes r = number_bytes 8 r.when ++ (number_bytes 8 r.value ++ (number_bytes 8 (length r.path) ++ r.path))

abbrev pub records_bytes : List Noted → List ℕ
records_bytes [] = []
records_bytes (r ∷ more) = record_bytes r ++ records_bytes more

-- The first record is of the turn: it has no path, the moment, and how many of the others are of files that were left.
abbrev pub IsHeaded : List Noted → Type 0
IsHeaded [] = ⊥
IsHeaded (head ∷ more) = (head.path ≡ []) × (head.value ≤ length more)

-- it is of a turn in that moment
abbrev pub IsOf : ℕ → List Noted → Type 0
IsOf moment [] = ⊥
IsOf moment (head ∷ more) = head.when ≡ moment

-- The moment stands in front and behind: who is killed amid writing leaves two.
abbrev pub file_bytes : List Noted → List ℕ
file_bytes [] = []
file_bytes (head ∷ more) = title ++ (records_bytes (head ∷ more) ++ number_bytes 8 head.when)

abbrev pub IsFile : List ℕ → List Noted → Type 0
IsFile bytes notes = IsHeaded notes × (bytes ≡ file_bytes notes)

-- law: no bytes are those of two lists of notes, so what was written is what is read
abbrev pub SaysOneThing : Type 0
SaysOneThing = (bytes : List ℕ) (notes others : List Noted) → IsFile bytes notes → IsFile bytes others → notes ≡ others

-- n is how many bytes there are; they stand at the start of the room, and what is behind them stays.
-- A room that is too short for them stays as it was.
pub record IsHandedOut (bytes old new : List ℕ) (n : ℕ) : Type 0 where
  pub count : n ≡ length bytes
  pub fits : length bytes ≤ length old → new ≡ bytes ++ drop (length bytes) old
  pub short : length old < length bytes → new ≡ old
