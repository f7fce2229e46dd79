-- A change that is asked for, beside what waits and what is stored: what becomes of it.
use Rattle.std.specs.Prelude.{ℕ, ◌≡◌, ◌↔◌, Bool, true, false, not, ◌&&◌, if◌then◌else◌, List, [], ◌∷◌}
use Rattle.std.specs.List.{list_any}
use Rattle.dconf_verdicts.specs.declared.entry.NewEdit.{NewEdit}
use Rattle.dconf_verdicts.specs.declared.entry.Entry.{Entry}
use Rattle.dconf_verdicts.specs.declared.entry.Entry.TheVariants.{Refused, Empty, Renews, Asks, Waits}

-- it sets what may not be written
abbrev pub is_barred : NewEdit → Bool
is_barred edit = edit.sets && not edit.may

abbrev pub goes : NewEdit → Bool
goes edit = edit.may

-- something else is seen by it
abbrev pub is_news : NewEdit → Bool
is_news edit = edit.may && not edit.is_same

-- One waits that says the same, is alone in its change, and is nobody's to write yet.
abbrev pub has_twin : NewEdit → Bool
has_twin edit = edit.waits && edit.is_same && edit.is_alone && not edit.is_taken

-- it is one edit, and has such a one
abbrev pub renews : List NewEdit → Bool
renews [] = false
renews (edit ∷ []) = has_twin edit
renews (edit ∷ other ∷ more) = false

abbrev pub entry_of : List NewEdit → Entry
entry_of edits =
    if list_any is_barred edits then Refused else if not (list_any goes edits) then Empty else
    if list_any is_news edits then Waits else if renews edits then Renews else Asks

abbrev pub entry_number : Entry → ℕ
entry_number Refused = 0
entry_number Empty = 1
entry_number Renews = 2
entry_number Asks = 3
entry_number Waits = 4

-- The user has it, and no other edit of its key waits; or it is the reset of a key that may not be written.
abbrev pub is_there : NewEdit → Bool
is_there edit = if edit.may then edit.is_same && not edit.waits else not edit.sets

-- ---- the law

-- it waits, be it in the place of the same one
abbrev pub IsKept : Entry → Type 0
IsKept Refused = ⊥
IsKept Empty = ⊥
IsKept Renews = Unit {0}
IsKept Asks = Unit {0}
IsKept Waits = Unit {0}

pub record IsGoodEntry (edits : List NewEdit) : Type 0 where
  -- it is refused exactly where it sets what may not be written
  pub refused : (entry_of edits ≡ Refused) ↔ (list_any is_barred edits ≡ true)
  -- the newest is the newest, be it what waits or is there already
  pub kept : list_any is_barred edits ≡ false → list_any goes edits ≡ true → IsKept (entry_of edits)
  -- it counts as the one that waits only if that says the same, all of it, and nobody writes it yet
  pub twin : entry_of edits ≡ Renews → (edit : NewEdit) × (edits ≡ edit ∷ []) × (has_twin edit ≡ true)

abbrev pub NewestIsKept : Type 0
NewestIsKept = (edits : List NewEdit) → IsGoodEntry edits
