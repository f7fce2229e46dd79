-- The keys of the items that a list names.
-- GVDB, file version 0 (gvdb-format.h): a list is item numbers of four bytes each. What is left of its bytes after whole
-- numbers is passed over.
use Rattle.std.specs.Prelude.{ℕ, zero, suc, ◌+◌, ◌-◌, ◌/◌, List, [], ◌∷◌, ◌++◌, length, if◌then◌else◌, nat_lt, nat_le, ◌&&◌}
use Rattle.dconf_model.specs.Bytes.{u32_at}
use Rattle.dconf_model.specs.Table.{Table, item, item_count, key}

-- the item's key, where there is such an item and its key lies in the file
abbrev pub key_if_any : Table → ℕ → List (List ℕ)
key_if_any t i =
    if nat_lt i (item_count t) && nat_le (item t i).key_end (length t.file) then key t i ∷ [] else []

-- the keys of so many items, whose numbers occur from that place on
abbrev pub listed_keys : Table → ℕ → ℕ → List (List ℕ)
listed_keys t at zero = []
listed_keys t at (suc n) = key_if_any t (u32_at t.file at) ++ listed_keys t (at + 4) n

-- the keys of the items that the list of item i names
abbrev pub keys_in_list : Table → ℕ → List (List ℕ)
keys_in_list t i = listed_keys t (item t i).start (((item t i).end - (item t i).start) / 4)
