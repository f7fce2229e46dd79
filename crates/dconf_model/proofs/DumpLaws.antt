-- A dump is read again as the rows that it was written of, in that order.
use Rattle.std.specs.Prelude.{◌≡◌, ℕ, ◌+◌, ◌≤◌, Bool, true, false, ◌==◌, List, [], ◌∷◌, ◌++◌, length, codes, Option, Some, None, Result, Ok, Err, refl, map, nat_lt, if◌then◌else◌}
use Rattle.std.specs.List.{AllByRecursion}
use Rattle.std.specs.Str.{bytes_eq, is_utf8}
use Rattle.std.specs.Cmp.Lexicographic.{bytes_decides}
use Rattle.std.proofs.Common.{sym, ap, subst, ◌∙◌, arith}
use Rattle.std.proofs.lemmas.Bool.{true≢false, ne_eqb, le-ltb, false_from_ne_true}
use Rattle.std.proofs.lemmas.Str.{is_utf8-from_IsUtf8}
use Rattle.dconf_model.specs.Lines.{LineFault, longest_text, read_after, put_first, with_first_found}
use Rattle.dconf_model.specs.Lines.LineReading.{nothing}
use Rattle.dconf_model.specs.Keyfiles.{Row, DumpRow, RowFault, DumpReadsBack, rows_of, setting_of, dump_row, dumped_or, first_row_fault, group_name, in_groups, text_after, last_group}
use Rattle.dconf_model.proofs.EndedLines.{ended, lines_of-ended}
use Rattle.dconf_model.proofs.KeyfileLines.{read_one, head_line, row_line, row_at, read_empty, read_head, head_comes, read_row, row_stays}
use Rattle.dconf_model.proofs.DumpedRows.{Writes, writes_all, writes_in_groups}
use Rattle.dconf_model.proofs.DumpedPaths.{setting_at, joined}
use Rattle.dconf_model.proofs.DumpLines.{head_lines, dump_lines, text_is, dump_feedless, dump_utf8}

module _ (directory : List ℕ) where
  -- what these lines give, after others, is at the settings of these rows
  abbrev pub GivesRows : List (List ℕ) → List (List ℕ) → List DumpRow → Type 0
  GivesRows earlier lines rows = (out : List Row) × (read_after read_one earlier lines ≡ Ok out) × (map (setting_of directory) out ≡ map (setting_at directory) rows)

  -- ---- a row's path

  same_path_of : (part key : List ℕ) → (part ≡ 47 ∷ [] → ⊥) →
      (if bytes_eq (group_name part) (codes "/") then key else group_name part ++ 47 ∷ key) ≡ joined part key
  same_path_of [] key apart = refl
  same_path_of (c ∷ part) key apart =
      let filled : (length (c ∷ part) == 0) ≡ false = ne_eqb (length (c ∷ part)) 0 (λ e. omega (arith, e)) in
      let other : bytes_eq (c ∷ part) (codes "/") ≡ false = false_from_ne_true _ (λ e. apart ((bytes_decides (c ∷ part) (codes "/")).0 e)) in
      rw (filled, other) refl

  same_setting : (n : ℕ) (r : DumpRow) → Writes r → setting_of directory (row_at n (group_name r.part) r.key r.text) ≡ setting_at directory r
  same_setting n r w = λ i. record { path = directory ++ same_path_of r.part r.key w.apart i; text = r.text }

  -- ---- line by line

  pub silent : (earlier : List (List ℕ)) (l : List ℕ) (lines : List (List ℕ)) (rows : List DumpRow) → read_one earlier l ≡ nothing → GivesRows (earlier ++ l ∷ []) lines rows → GivesRows earlier (l ∷ lines) rows
  silent earlier l lines rows e later =
      (later.0, ap (λ r. put_first (length earlier + 1) r (read_after read_one (earlier ++ l ∷ []) lines)) e ∙ later.1, later.2)

  row_first : (earlier : List (List ℕ)) (r : DumpRow) (lines : List (List ℕ)) (rows : List DumpRow) → Writes r → last_group earlier ≡ Some (group_name r.part) →
      GivesRows (earlier ++ row_line r.key r.text ∷ []) lines rows → GivesRows earlier (row_line r.key r.text ∷ lines) (r ∷ rows)
  row_first earlier r lines rows w same later =
      let row : Row = row_at (length earlier + 1) (group_name r.part) r.key r.text in
      let rest : Result (List Row) LineFault = read_after read_one (earlier ++ row_line r.key r.text ∷ []) lines in (
        row ∷ later.0,
        ap (λ got. put_first (length earlier + 1) got rest) (read_row earlier (group_name r.part) r.key r.text w.key w.text same) ∙ ap (with_first_found row) later.1,
        λ i. same_setting (length earlier + 1) r w i ∷ later.2 i,
      )

  -- the last group in earlier is the part of the row before
  abbrev pub Knows : Option (List ℕ) → List (List ℕ) → Type 0
  Knows None earlier = Unit {0}
  Knows (Some part) earlier = last_group earlier ≡ Some (group_name part)

  module _ (r : DumpRow) (more : List DumpRow) (w : Writes r) (later : (earlier : List (List ℕ)) → Knows (Some r.part) earlier → GivesRows earlier (dump_lines (Some r.part) more) more) where
    abbrev from_row : List (List ℕ)
    from_row = row_line r.key r.text ∷ dump_lines (Some r.part) more

    in_group : (earlier : List (List ℕ)) → Knows (Some r.part) earlier → GivesRows earlier from_row (r ∷ more)
    in_group earlier same =
        row_first earlier r (dump_lines (Some r.part) more) more w same
        (later (earlier ++ row_line r.key r.text ∷ []) (row_stays earlier r.key r.text w.key w.text ∙ same))

    at_heading : (earlier : List (List ℕ)) → GivesRows earlier (head_line (group_name r.part) ∷ from_row) (r ∷ more)
    at_heading earlier =
        silent earlier (head_line (group_name r.part)) from_row (r ∷ more) (read_head earlier (group_name r.part) w.group)
        (in_group (earlier ++ head_line (group_name r.part) ∷ []) (head_comes earlier (group_name r.part) w.group))

    at_row : (before : Option (List ℕ)) (earlier : List (List ℕ)) → Knows before earlier → GivesRows earlier (head_lines before r.part ++ from_row) (r ∷ more)
    at_row None earlier known = at_heading earlier
    at_row (Some part) earlier known = go (bytes_eq part r.part) refl
      where
        go : (b : Bool) → bytes_eq part r.part ≡ b → GivesRows earlier ((if b then [] else [] ∷ head_line (group_name r.part) ∷ []) ++ from_row) (r ∷ more)
        go true e = in_group earlier (known ∙ ap (λ p. Some (group_name p)) ((bytes_decides part r.part).0 e))
        go false e = silent earlier [] (head_line (group_name r.part) ∷ from_row) (r ∷ more) (read_empty earlier) (at_heading (earlier ++ [] ∷ []))

  pub lines_give : (rows : List DumpRow) (before : Option (List ℕ)) (earlier : List (List ℕ)) → AllByRecursion Writes rows → Knows before earlier → GivesRows earlier (dump_lines before rows) rows
  lines_give [] before earlier w known = ([], refl, refl)
  lines_give (r ∷ more) before earlier w known = at_row r more w.0 (λ earlier known. lines_give more (Some r.part) earlier w.1 known) before earlier known

  -- ---- the whole text

  rows_of_dump : (rows : List DumpRow) → AllByRecursion Writes rows → length (ended (dump_lines None rows)) ≤ longest_text → rows_of (ended (dump_lines None rows)) ≡ read_after read_one [] (dump_lines None rows)
  rows_of_dump rows w fits =
      let ls : List (List ℕ) = dump_lines None rows in
      let small : nat_lt longest_text (length (ended ls)) ≡ false = le-ltb longest_text (length (ended ls)) fits in
      let text : is_utf8 (ended ls) ≡ true = is_utf8-from_IsUtf8 (ended ls) (dump_utf8 None rows w) in
      rw (small, text) (ap (read_after read_one []) (lines_of-ended ls (dump_feedless None rows w)))

  abbrev pub ReadAgain : List DumpRow → List ℕ → Type 0
  ReadAgain rows text = (out : List Row) × (rows_of text ≡ Ok out) × (map (setting_of directory) out ≡ map (setting_at directory) rows)

  ended_again : (rows : List DumpRow) → AllByRecursion Writes rows → length (ended (dump_lines None rows)) ≤ longest_text → ReadAgain rows (ended (dump_lines None rows))
  ended_again rows w fits =
      let given = lines_give rows None [] w tt in
      (given.0, rows_of_dump rows w fits ∙ given.1, given.2)

  text_again : (rows : List DumpRow) (text : List ℕ) → AllByRecursion Writes rows → length text ≤ longest_text → text ≡ text_after None rows → ReadAgain rows text
  text_again rows text w fits e =
      let whole : text ≡ ended (dump_lines None rows) = e ∙ text_is None rows in
      subst (ReadAgain rows) (sym whole) (ended_again rows w (subst (λ t. length t ≤ longest_text) whole fits))

abbrev or_nothing : Result (List ℕ) RowFault → List ℕ
or_nothing (Ok text) = text
or_nothing (Err f) = []

abbrev is_written : Result (List ℕ) RowFault → Bool
is_written (Ok text) = true
is_written (Err f) = false

dumped_is : (o : Option RowFault) (rows : List DumpRow) (text : List ℕ) → dumped_or o rows ≡ Ok text → (o ≡ None) × (text ≡ text_after None (in_groups rows))
dumped_is (Some f) rows text e = absurd (true≢false (sym (ap is_written e)))
dumped_is None rows text e = (refl, sym (ap or_nothing e))

pub dump_reads_back : DumpReadsBack
dump_reads_back directory settings text d may apart fits e =
    let rows : List DumpRow = map (dump_row directory) settings in
    let read = dumped_is (first_row_fault 0 rows) rows text e in
    let written = writes_all directory 0 settings d may read.0 in
    text_again directory (in_groups rows) text (writes_in_groups rows written) fits read.1
