-- The rows of a text are what its pieces between line feeds give below no group. What was read of it, and what is left, give
-- the same at each line.
use Rattle.std.proofs.Common.{◌≡◌, ℕ, ◌+◌, ◌==◌, false, List, [], ◌∷◌, ◌++◌, length, Option, Some, None, Result, Ok, Err, refl, sym, ap, ◌∙◌, arith, ◌<◌, ◌≤◌, IfSome}
use Rattle.std.specs.Prelude.{option_map}
use denote.Ref.{Bor}
use Rattle.std.specs.List.{slice_split}
use Rattle.std.proofs.lemmas.Bool.{ne_eqb}
use Rattle.std.proofs.lemmas.List.{length-append}
use Rattle.dconf_model.specs.Causes.{SettingsCause}
use Rattle.dconf_model.specs.Lines.{LineFault, lines_of, put_first, read_after, read_lines, settings_text_fault, with_first_found, without_empty_end}
use Rattle.dconf_model.specs.Lines.LineReading.{nothing, found, wrong}
use Rattle.dconf_model.specs.Keyfiles.{Row, LineKind, line_kind, last_group, line_read, without_blanks, rows_of}
use Rattle.dconf_model.specs.Keyfiles.LineKind.{empty, bracket, entry}
use Rattle.dconf_model.proofs.KeyfileLines.{group_comes, group_stays, named, read_one}
use Rattle.dconf_path.proofs.TextFaults.{reads_lines, reads_no_lines}
use Rattle.keyfile_core.specs.Feeds.{is_feed, lines_in}
use Rattle.keyfile_core.proofs.LineParts.{at_next, text_of}
use Rattle.keyfile_core.specs.Readings.{group_after, kind_meant, line_meant, or_before, read_below}

-- ---- the lines before matter by their number and their last group alone

kind_is : (k : LineKind) (earlier : List (List ℕ)) (s : List ℕ) → line_read k earlier s ≡ kind_meant k (last_group earlier) (length earlier + 1) s
kind_is empty earlier s = refl
kind_is bracket earlier s = refl
kind_is entry earlier s = refl

group_is : (earlier : List (List ℕ)) (l : List ℕ) → last_group (earlier ++ l ∷ []) ≡ group_after (last_group earlier) (without_blanks l)
group_is earlier l = go (named l) refl
  where
    go : (o : Option (List ℕ)) → named l ≡ o → last_group (earlier ++ l ∷ []) ≡ or_before (last_group earlier) (named l)
    go None e = group_stays earlier l e ∙ ap (or_before (last_group earlier)) (sym e)
    go (Some g) e = group_comes earlier l g e ∙ ap (or_before (last_group earlier)) (sym e)

read_is : (earlier ls : List (List ℕ)) → read_after read_one earlier ls ≡ read_below (last_group earlier) (length earlier) ls
read_is earlier [] = refl
read_is earlier (l ∷ more) =
    let longer : length (earlier ++ l ∷ []) ≡ length earlier + 1 = let sum = length-append earlier (l ∷ []) in omega (arith, sum) in
    let later = read_is (earlier ++ l ∷ []) more ∙ (λ i. read_below (group_is earlier l i) (longer i) more) in
    λ i. put_first (length earlier + 1) (kind_is (line_kind (without_blanks l)) earlier (without_blanks l) i) (later i)

-- ---- an empty piece at the end is no line

ends_alike : (group : Option (List ℕ)) (n : ℕ) (ls : List (List ℕ)) → read_below group n (without_empty_end ls) ≡ read_below group n ls
ends_alike group n [] = refl
ends_alike group n ([] ∷ []) = refl
ends_alike group n ((c ∷ l) ∷ []) = let some : (length (c ∷ l) == 0) ≡ false = ne_eqb (length (c ∷ l)) 0 (λ e. omega (arith, e)) in rw some refl
ends_alike group n (l ∷ m ∷ more) =
    let later = ends_alike (group_after group (without_blanks l)) (n + 1) (m ∷ more) in
    λ i. put_first (n + 1) (line_meant group (n + 1) (without_blanks l)) (later i)

-- ---- the whole file

pub rows_are : (bytes : List ℕ) → settings_text_fault bytes ≡ None → rows_of bytes ≡ read_below None 0 (slice_split is_feed bytes)
rows_are bytes none = reads_lines (read_lines read_one) bytes none ∙ (read_is [] (lines_of bytes) ∙ ends_alike None 0 (slice_split is_feed bytes))

pub rows_refused : (bytes : List ℕ) (fault : LineFault) → settings_text_fault bytes ≡ Some fault → rows_of bytes ≡ Err fault
rows_refused bytes fault some = reads_no_lines (read_lines read_one) bytes fault some

-- ---- line by line

-- rows that were read, and what the rest gives
abbrev pub with_rows : List Row → Result (List Row) LineFault → Result (List Row) LineFault
with_rows [] rest = rest
with_rows (row ∷ rows) rest = with_first_found row (with_rows rows rest)

pub with_last : (rows : List Row) (row : Row) (rest : Result (List Row) LineFault) → with_rows rows (with_first_found row rest) ≡ with_rows (rows ++ row ∷ []) rest
with_last [] row rest = refl
with_last (first ∷ rows) row rest = ap (with_first_found first) (with_last rows row rest)

pub with_none : (rows : List Row) → with_rows rows (Ok []) ≡ Ok rows
with_none [] = refl
with_none (row ∷ rows) = ap (with_first_found row) (with_none rows)

with_fault : (rows : List Row) (f : LineFault) → with_rows rows (Err f) ≡ Err f
with_fault [] f = refl
with_fault (row ∷ rows) f = ap (with_first_found row) (with_fault rows f)

module _ (rows : List Row) (group : Option (List ℕ)) (n : ℕ) (l : List ℕ) (more : List (List ℕ)) where
  abbrev later : Result (List Row) LineFault
  later = read_below (group_after group (without_blanks l)) (n + 1) more

  pub says_nothing : line_meant group (n + 1) (without_blanks l) ≡ nothing → with_rows rows (read_below group n (l ∷ more)) ≡ with_rows rows later
  says_nothing e = ap (λ r. with_rows rows (put_first (n + 1) r later)) e

  pub says_row : (row : Row) → line_meant group (n + 1) (without_blanks l) ≡ found row → with_rows rows (read_below group n (l ∷ more)) ≡ with_rows (rows ++ row ∷ []) later
  says_row row e = ap (λ r. with_rows rows (put_first (n + 1) r later)) e ∙ with_last rows row later

  pub is_wrong : (cause : SettingsCause) → line_meant group (n + 1) (without_blanks l) ≡ wrong cause → with_rows rows (read_below group n (l ∷ more)) ≡ Err (record { line = n + 1; cause = cause })
  is_wrong cause e = ap (λ r. with_rows rows (put_first (n + 1) r later)) e ∙ with_fault rows (record { line = n + 1; cause = cause })

-- the next line, and those after it
pub at_line : (rows : List Row) (group : Option (List ℕ)) (n : ℕ) (o : Option (Bor (List ℕ))) (text : Bor (List ℕ)) (l : List ℕ) (more : List (List ℕ)) →
    o ≡ Some text → slice_split is_feed text.now ≡ l ∷ more →
    with_rows rows (read_below group n (l ∷ more)) ≡ with_rows rows (read_below group n (lines_in (text_of o)))
at_line rows group n o text l more some parts = λ i. with_rows rows (read_below group n (sym (at_next o text l more some parts) i))
