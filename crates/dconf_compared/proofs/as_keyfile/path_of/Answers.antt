use Rattle.std.proofs.Common.{◌∙◌, length, refl}
use Rattle.std.proofs.lemmas.Option.{slice_get_past, slice_get_read}
use Rattle.dconf_compared.proofs.BadPaths.{no_row_path, row_path}
use Rattle.dconf_compared.proofs.as_keyfile.path_of.Goals as goal

pub returns-in-Some : goal.returns-in-Some
returns-in-Some c =
    let rows = c.args.rows.now in
    let row = c.args.row in
    let x = c.in-Some.row.now in
    c.as_str.ensures ∙ row_path rows row x (slice_get_read rows (length rows) row x refl c.in-Some.ensures.lookup.3.0 c.in-Some.ensures.lookup.1)

pub returns-in-None : goal.returns-in-None
returns-in-None c = no_row_path c.args.rows.now c.args.row (slice_get_past c.args.rows.now c.args.row c.in-None.ensures.lookup.3)
