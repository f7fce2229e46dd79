-- The rows of a keyfile that are loaded, one after another: their paths, and the values that they give.
use Rattle.std.proofs.Common.{◌≡◌, ◌<◌, ◌+◌, ℕ, List, [], ◌∷◌, ◌++◌, length, map, drop, get_or, Result, Ok, Err, Bool, true, refl, sym, ap, ◌∙◌, append_assoc, subst}
use Rattle.std.specs.Prelude.{◌≤◌}
use Rattle.std.specs.List.{All, AllByRecursion}
use Rattle.std.proofs.lemmas.List.{drop_more, map-append}
use Rattle.std.proofs.lemmas.List.Elements.{All-push}
use Rattle.dconf_model.specs.Keyfiles.{Row as TheRow, path_of}
use Rattle.dconf_model.specs.Lines.{LineFault, longest_text}
use Rattle.dconf_model.specs.Lines.LineReading.{found}
use Rattle.dconf_model.specs.Paths.{is_directory_path, is_key_path, is_short}
use Rattle.dconf_model.specs.Sources.{Assigned, Loaded, rows_taken, set_first, take_first}
use Rattle.keyfile_core.specs.declared.rows.Row.{Row}
use Rattle.keyfile_core.specs.Rows.{row_meant}
use Rattle.dconf_compile.specs.Added.{IsReadRow}
use Rattle.dconf_compile.specs.PathedRows.{AtPath, IsPathed, at_path, pathed_meant, row_loaded, rows_given}
use Rattle.dconf_compile.specs.declared.load.PathedRow.{PathedRow}
use Rattle.dconf_compile.proofs.RowPaths.{key_where_short}

-- ---- paths

-- rows give by their paths what they give below the directory
pub given_by_path : (skip : Bool) (directory : List ℕ) (rows : List TheRow) → rows_given skip (map (at_path directory) rows) ≡ rows_taken skip directory rows
given_by_path skip directory [] = refl
given_by_path skip directory (r ∷ rows) =
    ap (take_first skip r.line (path_of directory r) (row_loaded (at_path directory r))) (given_by_path skip directory rows)

is_pathed : (directory : List ℕ) (row : PathedRow) (r : TheRow) → is_directory_path directory ≡ true → pathed_meant row ≡ at_path directory r → IsReadRow r → IsPathed row
is_pathed directory row r is same h =
    let path = ap (λ (x : AtPath). x.path) same in
    record {
      key = ap is_key_path path ∙ (key_where_short directory is r h ∙ sym (ap is_short path));
      short = subst (λ (t : List ℕ). length t ≤ longest_text) (sym (ap (λ (x : AtPath). x.text) same)) h.text;
    }

-- the rows that have paths, and those that are left
pub record ArePathed (directory : List ℕ) (rows : List Row) (made : List PathedRow) (left : List Row) : Type 0 where
  pub meant : map pathed_meant made ++ map (at_path directory) (map row_meant left) ≡ map (at_path directory) (map row_meant rows)
  pub pathed : All IsPathed made
  pub read : AllByRecursion IsReadRow (map row_meant left)

pub next_path : (rows : List Row) (i : ℕ) (d : Row) → i < length rows → (directory : List ℕ) → is_directory_path directory ≡ true → (made : List PathedRow) (row : PathedRow)
    → pathed_meant row ≡ at_path directory (row_meant (get_or rows i d)) → ArePathed directory rows made (drop i rows) → ArePathed directory rows (made ++ row ∷ []) (drop (i + 1) rows)
next_path rows i d inside directory is made row same h =
    let r = row_meant (get_or rows i d) in
    let rest = map (at_path directory) (map row_meant (drop (i + 1) rows)) in
    let left : AllByRecursion IsReadRow (r ∷ map row_meant (drop (i + 1) rows)) = subst (λ (l : List Row). AllByRecursion IsReadRow (map row_meant l)) (drop_more rows i d inside) h.read in
    record {
      meant = ap (λ l. l ++ rest) (map-append pathed_meant made (row ∷ [])) ∙ (append_assoc (map pathed_meant made) (pathed_meant row ∷ []) rest
          ∙ (ap (λ (x : AtPath). map pathed_meant made ++ x ∷ rest) same
          ∙ (ap (λ (l : List Row). map pathed_meant made ++ map (at_path directory) (map row_meant l)) (sym (drop_more rows i d inside)) ∙ h.meant)));
      pathed = All-push IsPathed made row h.pathed (is_pathed directory row r is same left.0);
      read = left.1;
    }

-- ---- values

-- these before what the rest gives
abbrev pub after_these : Loaded → Result Loaded LineFault → Result Loaded LineFault
after_these done (Ok l) = Ok (record { rows = done.rows ++ l.rows; left_out = done.left_out ++ l.left_out })
after_these done (Err f) = Err f

abbrev these : List Assigned → List (List ℕ) → Loaded
these rows left_out = record { rows = rows; left_out = left_out }

after_row : (done : Loaded) (v : Assigned) (r : Result Loaded LineFault) → after_these done (set_first v r) ≡ after_these (these (done.rows ++ v ∷ []) done.left_out) r
after_row done v (Ok l) = ap (λ (rows : List Assigned). Ok (these rows (done.left_out ++ l.left_out))) (sym (append_assoc done.rows (v ∷ []) l.rows))
after_row done v (Err f) = refl

module _ (skip : Bool) (rows : List PathedRow) (i : ℕ) (d : PathedRow) (inside : i < length rows) (whole : Result Loaded LineFault) (done : Loaded)
    (so_far : whole ≡ after_these done (rows_given skip (map pathed_meant (drop i rows)))) where
  abbrev this : AtPath
  this = pathed_meant (get_or rows i d)

  abbrev rest : Result Loaded LineFault
  rest = rows_given skip (map pathed_meant (drop (i + 1) rows))

  with_this : whole ≡ after_these done (take_first skip this.line this.path (row_loaded this) rest)
  with_this = so_far ∙ ap (λ (l : List PathedRow). after_these done (rows_given skip (map pathed_meant l))) (drop_more rows i d inside)

  pub next_value : (v : Assigned) → row_loaded this ≡ found v → whole ≡ after_these (these (done.rows ++ v ∷ []) done.left_out) rest
  next_value v e = with_this ∙ (ap (λ x. after_these done (take_first skip this.line this.path x rest)) e ∙ after_row done v rest)
