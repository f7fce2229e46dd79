use Rattle.std.proofs.Common.{◌≡◌, List, map, sym, ap, ◌∙◌, subst}
use Rattle.std.specs.List.{AllByRecursion}
use Rattle.dconf_model.specs.Sources.{and_rows, rows_taken}
use Rattle.dconf_path.specs.Paths.{directory_text}
use Rattle.keyfile_core.specs.declared.rows.Row.{Row}
use Rattle.keyfile_core.specs.Rows.{row_meant}
use Rattle.dconf_compile.specs.Added.{IsReadRow}
use Rattle.dconf_compile.specs.PathedRows.{at_path, rows_given}
use Rattle.dconf_compile.proofs.PathSteps.{given_by_path}
use Rattle.dconf_compile.proofs.ReadRows.{rows_are_read}
use Rattle.dconf_compile.proofs.load.RowsBelow.read.Goals as goal

pub with_paths-requires : goal.with_paths-requires
with_paths-requires c =
    subst (λ (l : List Row). AllByRecursion IsReadRow (map row_meant l)) (sym c.deref.ensures.value)
    (rows_are_read c.args.bytes.now (map row_meant c.in_ok-rows.rows.items) c.in_ok-rows.ensures.rows)

pub returns-clause-found : goal.returns-clause-found
returns-clause-found c = λ skip.
    let d = directory_text c.args.directory in
    let rows = map row_meant c.in_ok-rows.rows.items in
    let same : map (at_path d) (map row_meant c.deref.result.now) ≡ map (at_path d) rows = ap (λ (l : List Row). map (at_path d) (map row_meant l)) c.deref.ensures.value in
    ap (and_rows (rows_taken skip d)) c.in_ok-rows.ensures.rows
    ∙ (sym (given_by_path skip d rows) ∙ ap (rows_given skip) (sym (c.in_ok-rows-2.ensures.rows ∙ same)))
