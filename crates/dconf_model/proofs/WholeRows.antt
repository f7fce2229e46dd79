-- The values that keyfiles give are values of their types: each text of a row is UTF-8, and not
-- too long.
use Rattle.std.specs.Prelude.{◌≡◌, ◌⊎◌, ◌≤◌, ℕ, suc, ◌+◌, ◌-◌, Bool, true, false, cond, not, nat_lt, ◌==◌, ◌&&◌, List, [], ◌∷◌, ◌++◌, length, drop, codes, Option, Some, None, Result, Ok, Err, refl}
use Rattle.std.specs.List.{AllByRecursion, slice_split, onto_first, position_or_len, after_first, prefix_len, suffix_len}
use Rattle.std.specs.Str.{IsUtf8, is_utf8}
use Rattle.std.proofs.Common.{sym, ap, subst, inl, inr, arith, append-nil, append_assoc}
use Rattle.std.proofs.lemmas.Bool.{eqb-true, ltb-false}
use Rattle.std.proofs.lemmas.List.{length-append, length-drop, length-take}
use Rattle.std.proofs.lemmas.Str.{IsUtf8-nil, IsUtf8-from_is_utf8}
use Rattle.gv_model.specs.Tree.{Tree}
use Rattle.dconf_model.specs.Causes.{SettingsCause}
use Rattle.dconf_model.specs.Causes.SettingsCause.{bad_line as not_a_row, bad_key_name, not_utf8, path_fault, too_large}
use Rattle.dconf_model.specs.Lines.{LineReading, LineFault, put_first, read_after, read_lines, read_file, unless_fault, bad_line, lines_of, without_empty_end, without_start, without_end, is_space, is_line_blank, longest_text}
use Rattle.dconf_model.specs.Lines.LineReading.{nothing, found, wrong}
use Rattle.dconf_model.specs.Keyfiles.{Row, rows_of, LineKind, line_kind, line_read, entry_in, row_of, or_bad_group, without_blanks, is_equals, group_in, last_group, is_key, path_of}
use Rattle.dconf_model.specs.Keyfiles.LineKind.{empty, bracket, entry}
use Rattle.dconf_model.specs.Doubles.{is_double_cause}
use Rattle.dconf_model.specs.Values.{value_of_text, if_storable, is_storable}
use Rattle.dconf_model.specs.Paths.{is_short}
use Rattle.dconf_model.specs.Paths.PathFault.{too_long}
use Rattle.dconf_model.specs.Locks.{LockLine}
use Rattle.dconf_model.specs.Sources.File.{keyfile}
use Rattle.dconf_model.specs.Sources.{Assigned, assigned, row_read, rows_read, and_rows, Loaded, leave_or_stop, take_first, rows_taken, loaded, compiled, Source, File, FileFault, and_more, in_files, taken, Given, and_locks, given}
use Rattle.dconf_model.specs.Stores.{IsLimitedValue}
use Rattle.dconf_model.proofs.AsciiParts.{utf8_beside, utf8_start, utf8_end, IsAsciiTest}
use Rattle.dconf_model.proofs.WholeTexts.{text_is_whole}

-- a text of at most so many bytes
record IsShortText (n : ℕ) (s : List ℕ) : Type 0 where
  utf8 : IsUtf8 s
  short : length s ≤ n

-- ---- the parts of a text

abbrev onto : List ℕ → List (List ℕ) → List (List ℕ)
onto before [] = before ∷ []
onto before (part ∷ parts) = (before ++ part) ∷ parts

AreShort : ℕ → List (List ℕ) → Type 0
AreShort n parts = AllByRecursion (IsShortText n) parts

feed_is_ascii : IsAsciiTest (λ c. c == 10)
feed_is_ascii c e = let same = eqb-true c 10 e in omega (arith, same)

onto_none : (n : ℕ) (parts : List (List ℕ)) → AllByRecursion (IsShortText n) (onto [] parts) → AllByRecursion (IsShortText n) parts
onto_none n [] h = tt
onto_none n (part ∷ parts) h = h

onto_byte : (before : List ℕ) (c : ℕ) (parts : List (List ℕ)) → onto (before ++ c ∷ []) parts ≡ onto before (onto_first c parts)
onto_byte before c [] = refl
onto_byte before c (part ∷ parts) = ap (λ l. l ∷ parts) (append_assoc before (c ∷ []) part)

split_short : (n : ℕ) (before text : List ℕ) → IsUtf8 (before ++ text) → length before + length text ≤ n →
    AllByRecursion (IsShortText n) (onto before (slice_split (λ c. c == 10) text))
split_short n before [] u l =
    (record { utf8 = u; short = omega (arith, l, length-append before []) }, tt)
split_short n before (c ∷ text) u l = go (c == 10) refl
    (λ text_is. split_short n [] text text_is (omega (arith, l)))
    (split_short n (before ++ c ∷ []) text (subst IsUtf8 (sym (append_assoc before (c ∷ []) text)) u) (omega (arith, l, length-append before (c ∷ []))))
  where
    go : (b : Bool) → (c == 10) ≡ b → (IsUtf8 text → AllByRecursion (IsShortText n) (onto [] (slice_split (λ c. c == 10) text))) →
        AllByRecursion (IsShortText n) (onto (before ++ c ∷ []) (slice_split (λ c. c == 10) text)) →
        AllByRecursion (IsShortText n) (onto before (cond b ([] ∷ slice_split (λ c. c == 10) text) (onto_first c (slice_split (λ c. c == 10) text))))
    go true e ends on =
        let parts = utf8_beside before c text (feed_is_ascii c e) u in (
          record { utf8 = subst IsUtf8 (sym (append-nil before)) parts.0; short = omega (arith, l, length-append before []) },
          onto_none n (slice_split (λ c. c == 10) text) (ends parts.1),
        )
    go false e ends on = subst (AllByRecursion (IsShortText n)) (onto_byte before c (slice_split (λ c. c == 10) text)) on

no_end : (n : ℕ) (parts : List (List ℕ)) → AllByRecursion (IsShortText n) parts → AllByRecursion (IsShortText n) (without_empty_end parts)
no_end n [] h = tt
no_end n (l ∷ []) h = go (length l == 0)
  where
    go : (b : Bool) → AllByRecursion (IsShortText n) (cond b [] (l ∷ []))
    go true = tt
    go false = h
no_end n (l ∷ m ∷ more) h = (h.0, no_end n (m ∷ more) h.1)

lines_short : (n : ℕ) (text : List ℕ) → IsUtf8 text → length text ≤ n → AllByRecursion (IsShortText n) (lines_of text)
lines_short n text u l =
    no_end n (slice_split (λ c. c == 10) text) (onto_none n (slice_split (λ c. c == 10) text) (split_short n [] text u (omega (arith, l))))

-- ---- a line's value

space_is_ascii : IsAsciiTest is_space
space_is_ascii c e = grind arith

blank_is_ascii : IsAsciiTest is_line_blank
blank_is_ascii c e = grind arith

equals_is_ascii : IsAsciiTest is_equals
equals_is_ascii c e = let same = eqb-true c 61 e in omega (arith, same)

start_short : (n : ℕ) (f : ℕ → Bool) → IsAsciiTest f → (s : List ℕ) → IsShortText n s → IsShortText n (without_start f s)
start_short n f ascii s h = record { utf8 = utf8_start f ascii s h.utf8; short = omega (arith, h.short, length-drop (prefix_len f s) s) }

end_short : (n : ℕ) (f : ℕ → Bool) → IsAsciiTest f → (s : List ℕ) → IsShortText n s → IsShortText n (without_end f s)
end_short n f ascii s h = record { utf8 = utf8_end f ascii s h.utf8; short = omega (arith, h.short, length-take (length s - suffix_len f s) s) }

-- what stands after the first byte of a kind
abbrev Splits : (ℕ → Bool) → List ℕ → List ℕ → Type 0
Splits f s after = (after ≡ []) ⊎ ((before : List ℕ) × (c : ℕ) × (s ≡ before ++ c ∷ after) × (f c ≡ true))

first_splits : (f : ℕ → Bool) (s : List ℕ) → Splits f s (after_first f s)
first_splits f [] = inl refl
first_splits f (c ∷ s) = go (f c) refl (first_splits f s)
  where
    go : (b : Bool) → f c ≡ b → Splits f s (after_first f s) → Splits f (c ∷ s) (drop (cond (not b) (1 + position_or_len f s) 0 + 1) (c ∷ s))
    go true e later = inr ([], c, refl, e)
    go false e later =
        let more : (1 + position_or_len f s) + 1 ≡ suc (position_or_len f s + 1) = omega arith in
        subst (λ n. Splits f (c ∷ s) (drop n (c ∷ s))) (sym more) (elim later [
          | inl none ↦ inl none
          | inr there ↦ inr (c ∷ there.0, there.1, ap (λ l. c ∷ l) there.2, there.3)
        ])

after_short : (n : ℕ) (f : ℕ → Bool) → IsAsciiTest f → (s : List ℕ) → IsShortText n s → IsShortText n (after_first f s)
after_short n f ascii s h = record {
  utf8 = elim (first_splits f s) [
    | inl none ↦ subst IsUtf8 (sym none) IsUtf8-nil
    | inr there ↦ (utf8_beside there.0 there.1 (after_first f s) (ascii there.1 there.3) (subst IsUtf8 there.2 h.utf8)).1
  ];
  short = omega (arith, h.short, length-drop (position_or_len f s + 1) s);
}

-- what is found at a line
abbrev Finds : {X : Type 0} → (X → Type 0) → LineReading X → Type 0
Finds P nothing = Unit {0}
Finds P (found x) = P x
Finds P (wrong c) = Unit {0}

abbrev Holds : {X F : Type 0} → (X → Type 0) → Result X F → Type 0
Holds P (Ok x) = P x
Holds P (Err f) = Unit {0}

put_holds : {X : Type 0} (P : X → Type 0) (line : ℕ) (r : LineReading X) (rest : Result (List X) LineFault) → Finds P r → Holds (AllByRecursion P) rest →
    Holds (AllByRecursion P) (put_first line r rest)
put_holds P line nothing rest h k = k
put_holds P line (found x) (Ok xs) h k = (h, k)
put_holds P line (found x) (Err f) h k = tt
put_holds P line (wrong c) rest h k = tt

after_holds : {X : Type 0} (P : X → Type 0) (n : ℕ) (read : List (List ℕ) → List ℕ → LineReading X) →
    ((earlier : List (List ℕ)) (line : List ℕ) → IsShortText n line → Finds P (read earlier line)) →
    (earlier lines : List (List ℕ)) → AllByRecursion (IsShortText n) lines → Holds (AllByRecursion P) (read_after read earlier lines)
after_holds P n read each earlier [] h = tt
after_holds P n read each earlier (l ∷ more) h =
    put_holds P (length earlier + 1) (read earlier l) (read_after read (earlier ++ l ∷ []) more) (each earlier l h.0)
    (after_holds P n read each (earlier ++ l ∷ []) more h.1)

-- what a file gives where its bytes are a text
file_holds : {X : Type 0} (P : X → Type 0) (read : List ℕ → Result (List X) LineFault) (bytes : List ℕ) →
    (IsUtf8 bytes → length bytes ≤ 16777216 → Holds (AllByRecursion P) (read bytes)) → Holds (AllByRecursion P) (read_file read bytes)
file_holds P read bytes h = by_length (nat_lt longest_text (length bytes)) refl
  where
    by_text : length bytes ≤ 16777216 → (b : Bool) → is_utf8 bytes ≡ b →
        Holds (AllByRecursion P) (unless_fault (cond (not b) (Some (record { line = bad_line bytes; cause = not_utf8 })) None) (read bytes))
    by_text l true e = h (IsUtf8-from_is_utf8 bytes e) l
    by_text l false e = tt

    by_length : (b : Bool) → nat_lt longest_text (length bytes) ≡ b → Holds (AllByRecursion P) (read_file read bytes)
    by_length true e = rw e tt
    by_length false e = rw e (by_text (ltb-false longest_text (length bytes) e) (is_utf8 bytes) refl)

-- ---- rows

abbrev IsShortRow : Row → Type 0
IsShortRow row = IsShortText 16777216 row.text

row_finds : (b : Bool) (row : Row) → IsShortRow row → Finds IsShortRow (cond b (found row) (wrong bad_key_name))
row_finds true row h = h
row_finds false row h = tt

entry_finds : (group : Option (List ℕ)) (line : ℕ) (s : List ℕ) → IsShortText 16777216 s → Finds IsShortRow (entry_in group line s)
entry_finds None line s h = tt
entry_finds (Some group) line s h =
    let row = row_of line group s in
    row_finds (is_key row.key) row (start_short 16777216 is_space space_is_ascii (after_first is_equals s) (after_short 16777216 is_equals equals_is_ascii s h))

line_finds : (k : LineKind) (earlier : List (List ℕ)) (s : List ℕ) → IsShortText 16777216 s → Finds IsShortRow (line_read k earlier s)
line_finds empty earlier s h = tt
line_finds bracket earlier s h = go (group_in s)
  where
    go : (group : Option (List ℕ)) → Finds IsShortRow (or_bad_group group)
    go (Some group) = tt
    go None = tt
line_finds entry earlier s h = go _
  where
    go : (b : Bool) → Finds IsShortRow (cond b (entry_in (last_group earlier) (length earlier + 1) s) (wrong not_a_row))
    go true = entry_finds (last_group earlier) (length earlier + 1) s h
    go false = tt

rows_short : (bytes : List ℕ) → Holds (AllByRecursion IsShortRow) (rows_of bytes)
rows_short bytes =
    file_holds IsShortRow (read_lines (λ earlier line. line_read (line_kind (without_blanks line)) earlier (without_blanks line))) bytes
    (λ u. λ l. after_holds IsShortRow 16777216 (λ earlier line. line_read (line_kind (without_blanks line)) earlier (without_blanks line))
    (λ earlier line h. line_finds (line_kind (without_blanks line)) earlier (without_blanks line)
    (start_short 16777216 is_space space_is_ascii (without_end is_line_blank line) (end_short 16777216 is_line_blank blank_is_ascii line h)))
    [] (lines_of bytes) (lines_short 16777216 bytes u l))

-- ---- their values

abbrev IsWholeRow : Assigned → Type 0
IsWholeRow row = IsLimitedValue row.value

abbrev ReadsWhole : (List ℕ → Result Tree SettingsCause) → Type 0
ReadsWhole read = (s : List ℕ) (v : Tree) → IsShortText 16777216 s → read s ≡ Ok v → IsLimitedValue v

assigned_finds : (p : List ℕ) (r : Result Tree SettingsCause) → ((v : Tree) → r ≡ Ok v → IsLimitedValue v) → Finds IsWholeRow (assigned p r)
assigned_finds p (Ok v) h = h v refl
assigned_finds p (Err c) h = tt

read_finds : (read : List ℕ → Result Tree SettingsCause) → ReadsWhole read → (p s : List ℕ) → IsShortText 16777216 s → (b : Bool) →
    Finds IsWholeRow (cond b (assigned p (read s)) (wrong (path_fault too_long)))
read_finds read whole p s h true = assigned_finds p (read s) (λ v e. whole s v h e)
read_finds read whole p s h false = tt

values_whole : (read : List ℕ → Result Tree SettingsCause) → ReadsWhole read → (directory : List ℕ) (rows : List Row) → AllByRecursion IsShortRow rows →
    Holds (AllByRecursion IsWholeRow) (rows_read read directory rows)
values_whole read whole directory [] h = tt
values_whole read whole directory (r ∷ more) h =
    put_holds IsWholeRow r.line (row_read read (path_of directory r) r.text) (rows_read read directory more)
    (read_finds read whole (path_of directory r) r.text h.0 (is_short (path_of directory r)))
    (values_whole read whole directory more h.1)

file_whole : (read : List ℕ → Result Tree SettingsCause) → ReadsWhole read → (directory : List ℕ) (r : Result (List Row) LineFault) → Holds (AllByRecursion IsShortRow) r →
    Holds (AllByRecursion IsWholeRow) (and_rows (rows_read read directory) r)
file_whole read whole directory (Ok rows) h = values_whole read whole directory rows h
file_whole read whole directory (Err f) h = tt

reads_whole : ReadsWhole value_of_text
reads_whole s v h e = text_is_whole s v h.utf8 h.short e

abbrev the_value : Tree → Result Tree SettingsCause
the_value v = Ok v

if_ok : (r : Result Tree SettingsCause) (v : Tree) → if_storable r ≡ the_value v → r ≡ the_value v
if_ok (Ok w) v e = go (is_storable w) e
  where
    go : (b : Bool) → cond b (the_value w) (Err too_large) ≡ the_value v → the_value w ≡ the_value v
    go true e = e
    go false e = absurd cc
if_ok (Err c) v e = absurd cc

stores_whole : ReadsWhole (λ text. if_storable (value_of_text text))
stores_whole s v h e = reads_whole s v h (if_ok (value_of_text s) v e)

holds_at : {X F : Type 0} (P : X → Type 0) (r : Result X F) (x : X) → r ≡ Ok x → Holds P r → P x
holds_at P r x e h = subst (Holds P) e h

abbrev AreWhole : Loaded → Type 0
AreWhole l = AllByRecursion IsWholeRow l.rows

left_whole : (b : Bool) (line : ℕ) (path : List ℕ) (cause : SettingsCause) (rest : Result Loaded LineFault) → Holds AreWhole rest → Holds AreWhole (leave_or_stop b line path cause rest)
left_whole true line path cause (Ok l) h = h
left_whole true line path cause (Err f) h = tt
left_whole false line path cause rest h = tt

first_whole : (skip : Bool) (line : ℕ) (path : List ℕ) (x : LineReading Assigned) (rest : Result Loaded LineFault) → Finds IsWholeRow x → Holds AreWhole rest
    → Holds AreWhole (take_first skip line path x rest)
first_whole skip line path nothing rest f h = h
first_whole skip line path (found row) (Ok l) f h = (f, h)
first_whole skip line path (found row) (Err e) f h = tt
first_whole skip line path (wrong cause) rest f h = left_whole (skip && is_double_cause cause) line path cause rest h

taken_whole : (skip : Bool) (directory : List ℕ) (rows : List Row) → AllByRecursion IsShortRow rows → Holds AreWhole (rows_taken skip directory rows)
taken_whole skip directory [] h = tt
taken_whole skip directory (r ∷ more) h =
    first_whole skip r.line (path_of directory r) (row_read value_of_text (path_of directory r) r.text) (rows_taken skip directory more)
    (read_finds value_of_text reads_whole (path_of directory r) r.text h.0 (is_short (path_of directory r)))
    (taken_whole skip directory more h.1)

pub loaded_whole : (skip : Bool) (directory bytes : List ℕ) (l : Loaded) → loaded skip directory bytes ≡ Ok l → AllByRecursion IsWholeRow l.rows
loaded_whole skip directory bytes l e = holds_at AreWhole (loaded skip directory bytes) l e (go (rows_of bytes) (rows_short bytes))
  where
    go : (r : Result (List Row) LineFault) → Holds (AllByRecursion IsShortRow) r → Holds AreWhole (and_rows (rows_taken skip directory) r)
    go (Ok rows) h = taken_whole skip directory rows h
    go (Err f) h = tt

compiled_whole : (bytes : List ℕ) → Holds (AllByRecursion IsWholeRow) (compiled bytes)
compiled_whole bytes = file_whole (λ text. if_storable (value_of_text text)) stores_whole (codes "/") (rows_of bytes) (rows_short bytes)

-- ---- of files

joined_whole : (xs ys : List Assigned) → AllByRecursion IsWholeRow xs → AllByRecursion IsWholeRow ys → AllByRecursion IsWholeRow (xs ++ ys)
joined_whole [] ys h k = k
joined_whole (x ∷ xs) ys h k = (h.0, joined_whole xs ys h.1 k)

more_whole : (file : File) (r : Result (List Assigned) LineFault) (more : Result (List Assigned) FileFault) → Holds (AllByRecursion IsWholeRow) r →
    Holds (AllByRecursion IsWholeRow) more → Holds (AllByRecursion IsWholeRow) (and_more file r more)
more_whole file (Err f) more h k = tt
more_whole file (Ok xs) (Ok ys) h k = joined_whole xs ys h k
more_whole file (Ok xs) (Err f) h k = tt

files_whole : (kind : ℕ → File) (files : List (ℕ × Source)) → Holds (AllByRecursion IsWholeRow) (in_files kind compiled files)
files_whole kind [] = tt
files_whole kind (s ∷ more) = more_whole (kind s.0) (compiled s.1.bytes) (in_files kind compiled more) (compiled_whole s.1.bytes) (files_whole kind more)

abbrev GivesWhole : Given → Type 0
GivesWhole g = AllByRecursion IsWholeRow g.values

and_whole : (values : Result (List Assigned) FileFault) (locks : Result (List LockLine) FileFault) →
    Holds (AllByRecursion IsWholeRow) values → Holds GivesWhole (and_locks values locks)
and_whole (Err f) locks h = tt
and_whole (Ok values) (Err f) h = tt
and_whole (Ok values) (Ok locks) h = h

pub given_whole : (files locks : List Source) (g : Given) → given files locks ≡ Ok g → AllByRecursion (λ row. IsLimitedValue row.value) g.values
given_whole files locks g e =
    holds_at GivesWhole (given files locks) g e (and_whole _ _ (files_whole keyfile (taken files)))
