-- Where notes are too many, which of them go: the oldest, and one stands for these.
use Rattle.std.specs.Prelude.{◌≡◌, ◌⊎◌, ◌<◌, ◌+◌, ◌-◌, ◌++◌, ◌∷◌, [], ℕ, Bool, true, false, List, length, codes, filter, nat_le, nat_lt, ◌&&◌, IsTrue}
use Rattle.std.specs.List.{list_any}
use Rattle.dconf_model.specs.Locks.{covers}
use Rattle.dconf_times.specs.Noted.{is_said_by}
use Rattle.dconf_times.specs.Times.{note_of}
use Rattle.dconf_times.specs.declared.times.DconfdbTime.{DconfdbTime}

-- three numbers of eight bytes, and the path
abbrev pub bytes_of : DconfdbTime → ℕ
bytes_of note = 24 + length note.path.now

abbrev pub notes_bytes : List DconfdbTime → ℕ
notes_bytes [] = 0
notes_bytes (note ∷ more) = bytes_of note + notes_bytes more

-- there is room for so many notes, and bytes
abbrev pub has_room : ℕ → ℕ → List DconfdbTime → Bool
has_room most most_bytes notes = nat_le (length notes) most && nat_le (notes_bytes notes) most_bytes

abbrev pub is_since : ℕ → DconfdbTime → Bool
is_since when note = nat_lt when note.when

-- there is room for those that are later
abbrev pub has_room_since : ℕ → ℕ → List DconfdbTime → ℕ → Bool
has_room_since most most_bytes notes when = has_room most most_bytes (filter (is_since when) notes)

-- no fewer go than must, and there is room for what is kept, unless that is none
pub record IsLeast (most most_bytes : ℕ) (notes : List DconfdbTime) (when : ℕ) : Type 0 where
  pub least : (sooner : ℕ) → sooner < when → has_room_since most most_bytes notes sooner ≡ false
  pub room : (has_room_since most most_bytes notes when ≡ true) ⊎ (when ≡ 0xffff_ffff_ffff_ffff)

-- The later ones are kept, and one note says of all paths that they were set by then. Its number isn't that of no value, 0.
pub record AreLater (most most_bytes : ℕ) (notes kept : List DconfdbTime) : Type 0 where
  pub when : ℕ
  pub one : DconfdbTime
  pub kept_is : kept ≡ filter (is_since when) notes ++ one ∷ []
  pub root : one.path.now ≡ codes "/"
  pub until : one.when ≡ when
  pub number : one.value ≡ 1
  pub least : IsLeast (most - 1) (most_bytes - 25) notes when

-- All are kept where there is room for them, and only there.
pub record AreNewest (most most_bytes : ℕ) (notes kept : List DconfdbTime) : Type 0 where
  pub all : has_room most most_bytes notes ≡ true → kept ≡ notes
  pub later : has_room most most_bytes notes ≡ false → AreLater most most_bytes notes kept

-- ---- the law

-- a note is kept, or one that covers its path is as late
abbrev pub is_told : DconfdbTime → DconfdbTime → Bool
is_told note kept = covers kept.path.now note.path.now && nat_le note.when kept.when

-- law: of what goes it is noted that it was set by then, so no older edit wins
abbrev pub NoneIsForgotten : Type 0
NoneIsForgotten = (most most_bytes : ℕ) (notes kept : List DconfdbTime) → AreLater most most_bytes notes kept →
    (note : DconfdbTime) → IsTrue (covers (codes "/") note.path.now) → IsTrue (list_any (λ n. is_said_by (note_of note) (note_of n)) notes) →
    IsTrue (list_any (λ n. is_told note n) kept)
