-- Rows that are lent, one after another.
use Rattle.std.proofs.Common.{ℕ, ◌≡◌, ◌<◌, ◌≤◌, ◌+◌, List, [], ◌∷◌, ◌++◌, length, drop, get_or, sym, ap, ◌∙◌, Vec}
use Rattle.std.specs.declared.alloc.Global.{Global}
use Rattle.std.specs.declared.string.String.{String}
use Rattle.std.specs.String.{string_bytes}
use Rattle.std.proofs.lemmas.List.{append-nil, append_assoc, drop_all, drop_more, map-append}
use Rattle.dconf_model.specs.Order.{in_order}
use Rattle.gvdb_maps.specs.Maps.{lent_entries, path_and_bytes, value_entries, Entry, StandForSame, kept, values_after}
use Rattle.gvdb_maps.proofs.HeldEntries.{LentEntry}

abbrev Row : Type 0
Row = String Global × Vec ℕ Global

abbrev entry_of : Row → Entry
entry_of row = (string_bytes row.0, row.1.items)

-- the first of those that are left is lent
next_lent : (old new : List LentEntry) (x : LentEntry) (left rest : List Row) (row : Row) → new ≡ old ++ x ∷ [] → left ≡ row ∷ rest → path_and_bytes x ≡ entry_of row
    → lent_entries new ++ value_entries rest ≡ lent_entries old ++ value_entries left
next_lent old new x left rest row pushed first is =
    ap (λ (l : List LentEntry). lent_entries l ++ value_entries rest) pushed
    ∙ (ap (λ (l : List Entry). l ++ value_entries rest) (map-append path_and_bytes old (x ∷ []))
    ∙ (append_assoc (lent_entries old) (path_and_bytes x ∷ []) (value_entries rest)
    ∙ (ap (λ (e : Entry). lent_entries old ++ e ∷ value_entries rest) is ∙ ap (λ (l : List Row). lent_entries old ++ value_entries l) (sym first))))

pub row_listed : (old new : List LentEntry) (x : LentEntry) (left rest : List Row) (row : Row) (all : List Entry) → new ≡ old ++ x ∷ [] → left ≡ row ∷ rest → path_and_bytes x ≡ entry_of row
    → lent_entries old ++ value_entries left ≡ all → lent_entries new ++ value_entries rest ≡ all
row_listed old new x left rest row all pushed first is so_far = next_lent old new x left rest row pushed first is ∙ so_far

-- one row more, behind what stands for the same as before
pub row_lent : (entries before : List Entry) (was old new : List LentEntry) (x : LentEntry) (rows : List Row) (i : ℕ) (row d : Row) → new ≡ old ++ x ∷ [] → row ≡ get_or rows i d → path_and_bytes x ≡ entry_of row
    → i < length rows → StandForSame (entries ++ lent_entries old) (before ++ lent_entries was) → values_after ((before ++ lent_entries was) ++ value_entries (drop i rows)) ≡ values_after (value_entries rows)
    → values_after ((entries ++ lent_entries new) ++ value_entries (drop (i + 1) rows)) ≡ values_after (value_entries rows)
row_lent entries before was old new x rows i row d pushed here is inside same so_far =
    let next = next_lent old new x (drop i rows) (drop (i + 1) rows) row pushed (drop_more rows i d inside ∙ ap (λ (r : Row). r ∷ drop (i + 1) rows) (sym here)) is in
    ap values_after
    (append_assoc entries (lent_entries new) (value_entries (drop (i + 1) rows))
    ∙ (ap (λ (l : List Entry). entries ++ l) next ∙ sym (append_assoc entries (lent_entries old) (value_entries (drop i rows)))))
    ∙ (same (value_entries (drop i rows)) ∙ so_far)

-- all of them
pub all_lent : (new gone old stretch : List LentEntry) (rows : List Row) (i : ℕ) → gone ≡ [] → StandForSame (lent_entries new ++ lent_entries gone) (lent_entries old ++ lent_entries stretch) → length rows ≤ i
    → values_after ((lent_entries old ++ lent_entries stretch) ++ value_entries (drop i rows)) ≡ values_after (value_entries rows) → values_after (lent_entries new) ≡ values_after (value_entries rows)
all_lent new gone old stretch rows i empty same end so_far =
    ap values_after (sym (ap (λ (l : List LentEntry). (lent_entries new ++ lent_entries l) ++ []) empty ∙ (append-nil (lent_entries new ++ []) ∙ append-nil (lent_entries new))))
    ∙ (same [] ∙ (ap (λ (l : List Row). values_after ((lent_entries old ++ lent_entries stretch) ++ value_entries l)) (sym (drop_all i rows end)) ∙ so_far))

-- the last of each path, after they were sorted
pub last_are : (rows sorted given last : List LentEntry) → given ≡ sorted → lent_entries sorted ≡ in_order (λ (e : Entry). e.0) (lent_entries rows) → lent_entries last ≡ kept (lent_entries given)
    → lent_entries last ≡ kept (in_order (λ (e : Entry). e.0) (lent_entries rows))
last_are rows sorted given last same ordered is = is ∙ ap kept (ap lent_entries same ∙ ordered)
