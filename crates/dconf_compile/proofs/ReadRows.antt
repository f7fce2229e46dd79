-- The rows that a keyfile gives are as the rules of keyfiles want them, and their texts are no longer than a keyfile.
use Rattle.std.proofs.Common.{◌≡◌, ◌≤◌, ◌+◌, ◌-◌, ℕ, Bool, true, false, ◌&&◌, not, List, [], ◌∷◌, ◌++◌, length, take, drop, Option, Some, None, Result, Ok, Err, refl, arith, subst, cond, suc}
use Rattle.std.specs.Prelude.{IfSome, nat_lt, ◌==◌, filter_map}
use Rattle.std.specs.List.{AllByRecursion, list_any, slice_split, onto_first, last_or, suffix_len, prefix_len, position_or_len, after_first}
use Rattle.std.specs.Str.{is_utf8}
use Rattle.std.proofs.lemmas.Bool.{ltb-false}
use Rattle.std.proofs.lemmas.List.{length-take, length-drop}
use Rattle.dconf_model.specs.Causes.SettingsCause.{bad_line, bad_key_name, too_big, not_utf8}
use Rattle.dconf_model.specs.Lines.{LineReading, LineFault, put_first, read_after, lines_of, without_empty_end, unless_fault, bad_line as bad_line_of, longest_text, is_space, is_line_blank, without_start, without_end}
use Rattle.dconf_model.specs.Lines.LineReading.{nothing, found, wrong}
use Rattle.dconf_model.specs.Paths.{has_zero_byte}
use Rattle.dconf_model.specs.Keyfiles.{Row, LineKind, is_group, is_key, is_equals, ends_in, group_in, group_named, last_group, line_kind, line_read, or_bad_group, entry_in, row_of, rows_of, without_blanks}
use Rattle.dconf_model.specs.Keyfiles.LineKind.{empty, bracket, entry}
use Rattle.dconf_model.proofs.KeyfileLines.{named, read_one}
use Rattle.dconf_compile.specs.Added.{IsReadRow}

-- ---- groups

abbrev IsGroup : Option (List ℕ) → Type 0
IsGroup o = IfSome o (λ g. is_group g ≡ true)

group_inside : (s : List ℕ) → IsGroup (group_in s)
group_inside s = go (ends_in 93 s) (take (length s - 2) (drop 1 s)) (is_group (take (length s - 2) (drop 1 s))) refl
  where
    go : (a : Bool) (inside : List ℕ) (b : Bool) → is_group inside ≡ b → IsGroup (cond (a && b) (Some inside) None)
    go true inside true e = e
    go _ inside _ e = tt

group_of_line : (k : LineKind) (s : List ℕ) → IsGroup (group_named k s)
group_of_line bracket s = group_inside s
group_of_line _ s = tt

last_is_group : (o : Option (List ℕ)) (lines : List (List ℕ)) → IsGroup o → IsGroup (last_or o (filter_map named lines))
last_is_group o [] h = h
last_is_group o (l ∷ lines) h =
    go (named l) refl (group_of_line (line_kind (without_blanks l)) (without_blanks l)) (last_is_group o lines h) (λ g k. last_is_group (Some g) lines k)
  where
    go : (n : Option (List ℕ)) → named l ≡ n → IsGroup (named l) → IsGroup (last_or o (filter_map named lines)) →
        ((g : List ℕ) → is_group g ≡ true → IsGroup (last_or (Some g) (filter_map named lines))) → IsGroup (last_or o (filter_map named (l ∷ lines)))
    go None e k without with_it = rw e without
    go (Some g) e k without with_it = rw e (with_it g (subst IsGroup e k))

group_so_far : (earlier : List (List ℕ)) → IsGroup (last_group earlier)
group_so_far earlier = last_is_group None earlier tt

-- ---- lengths

start_shorter : (f : ℕ → Bool) (s : List ℕ) → length (without_start f s) ≤ length s
start_shorter f s = let n = length-drop (prefix_len f s) s in omega (arith, n)

end_shorter : (f : ℕ → Bool) (s : List ℕ) → length (without_end f s) ≤ length s
end_shorter f s = let n = length-take (length s - suffix_len f s) s in omega (arith, n)

after_shorter : (f : ℕ → Bool) (s : List ℕ) → length (after_first f s) ≤ length s
after_shorter f s = let n = length-drop (position_or_len f s + 1) s in omega (arith, n)

blanks_shorter : (line : List ℕ) → length (without_blanks line) ≤ length line
blanks_shorter line =
    let outer = start_shorter is_space (without_end is_line_blank line) in
    let inner = end_shorter is_line_blank line in
    omega (arith, outer, inner)

abbrev AreShort : ℕ → List (List ℕ) → Type 0
AreShort n parts = AllByRecursion (λ l. length l ≤ n) parts

longer : (n m : ℕ) (parts : List (List ℕ)) → n ≤ m → AreShort n parts → AreShort m parts
longer n m [] less h = tt
longer n m (l ∷ parts) less h = let a = h.0 in (omega (arith, a, less), longer n m parts less h.1)

onto : (x n : ℕ) (parts : List (List ℕ)) → AreShort n parts → AreShort (suc n) (onto_first x parts)
onto x n [] h = (omega arith, tt)
onto x n (l ∷ parts) h = let a = h.0 in (omega (arith, a), longer n (suc n) parts (omega arith) h.1)

parts_short : (s : List ℕ) → AreShort (length s) (slice_split (λ c. c == 10) s)
parts_short [] = (omega arith, tt)
parts_short (c ∷ s) = go (c == 10) (parts_short s)
  where
    go : (b : Bool) → AreShort (length s) (slice_split (λ c. c == 10) s) →
        AreShort (length (c ∷ s)) (cond b ([] ∷ slice_split (λ c. c == 10) s) (onto_first c (slice_split (λ c. c == 10) s)))
    go true h = (omega arith, longer (length s) (length (c ∷ s)) (slice_split (λ c. c == 10) s) (omega arith) h)
    go false h = onto c (length s) (slice_split (λ c. c == 10) s) h

without_end_short : (n : ℕ) (parts : List (List ℕ)) → AreShort n parts → AreShort n (without_empty_end parts)
without_end_short n [] h = tt
without_end_short n (l ∷ []) h = go (length l == 0)
  where
    go : (b : Bool) → AreShort n (cond b [] (l ∷ []))
    go true = tt
    go false = h
without_end_short n (l ∷ m ∷ parts) h = (h.0, without_end_short n (m ∷ parts) h.1)

lines_short : (s : List ℕ) → AreShort (length s) (lines_of s)
lines_short s = without_end_short (length s) (slice_split (λ c. c == 10) s) (parts_short s)

-- ---- lines

abbrev IsRowLine : LineReading Row → Type 0
IsRowLine (found r) = IsReadRow r
IsRowLine _ = Unit {0}

row_good : (line : ℕ) (g s : List ℕ) → is_group g ≡ true → length s ≤ longest_text → (b : Bool) → is_key (row_of line g s).key ≡ b →
    IsRowLine (cond b (found (row_of line g s)) (wrong bad_key_name))
row_good line g s group short true e =
    let outer = start_shorter is_space (after_first is_equals s) in
    let inner = after_shorter is_equals s in
    record { group = group; key = e; text = omega (arith, outer, inner, short) }
row_good line g s group short false e = tt

entry_good : (o : Option (List ℕ)) (line : ℕ) (s : List ℕ) → IsGroup o → length s ≤ longest_text → IsRowLine (entry_in o line s)
entry_good None line s h short = tt
entry_good (Some g) line s h short = row_good line g s h short (is_key (row_of line g s).key) refl

bracket_good : (o : Option (List ℕ)) → IsRowLine (or_bad_group o)
bracket_good None = tt
bracket_good (Some g) = tt

line_good : (k : LineKind) (earlier : List (List ℕ)) (s : List ℕ) → length s ≤ longest_text → IsRowLine (line_read k earlier s)
line_good empty earlier s short = tt
line_good bracket earlier s short = bracket_good (group_in s)
line_good entry earlier s short = go (list_any is_equals s && not (has_zero_byte s))
  where
    go : (b : Bool) → IsRowLine (cond b (entry_in (last_group earlier) (length earlier + 1) s) (wrong bad_line))
    go true = entry_good (last_group earlier) (length earlier + 1) s (group_so_far earlier) short
    go false = tt

abbrev RowsIfOk : Result (List Row) LineFault → Type 0
RowsIfOk (Ok rows) = AllByRecursion IsReadRow rows
RowsIfOk (Err f) = Unit {0}

put_good : (line : ℕ) (r : LineReading Row) (rest : Result (List Row) LineFault) → IsRowLine r → RowsIfOk rest → RowsIfOk (put_first line r rest)
put_good line nothing rest h k = k
put_good line (found row) (Ok rows) h k = (h, k)
put_good line _ _ h k = tt

lines_good : (earlier lines : List (List ℕ)) → AreShort longest_text lines → RowsIfOk (read_after read_one earlier lines)
lines_good earlier [] h = tt
lines_good earlier (l ∷ lines) h =
    let short = blanks_shorter l in
    let line = h.0 in
    put_good (length earlier + 1) (read_one earlier l) (read_after read_one (earlier ++ l ∷ []) lines)
    (line_good (line_kind (without_blanks l)) earlier (without_blanks l) (omega (arith, short, line)))
    (lines_good (earlier ++ l ∷ []) lines h.1)

file_good : (bytes : List ℕ) → RowsIfOk (rows_of bytes)
file_good bytes = go (nat_lt longest_text (length bytes)) refl (not (is_utf8 bytes))
  where
    go : (b : Bool) → nat_lt longest_text (length bytes) ≡ b → (c : Bool) →
        RowsIfOk (unless_fault (cond b (Some (record { line = 0; cause = too_big })) (cond c (Some (record { line = bad_line_of bytes; cause = not_utf8 })) None))
        (read_after read_one [] (lines_of bytes)))
    go false e false = lines_good [] (lines_of bytes) (longer (length bytes) longest_text (lines_of bytes) (ltb-false longest_text (length bytes) e) (lines_short bytes))
    go _ e _ = tt

pub rows_are_read : (bytes : List ℕ) (rows : List Row) → rows_of bytes ≡ Ok rows → AllByRecursion IsReadRow rows
rows_are_read bytes rows e = subst RowsIfOk e (file_good bytes)
