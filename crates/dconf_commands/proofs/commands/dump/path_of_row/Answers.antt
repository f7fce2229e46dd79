use Rattle.std.proofs.Common.{◌∙◌, length, refl}
use Rattle.std.proofs.lemmas.Option.{slice_get_past, slice_get_read}
use Rattle.dconf_commands.proofs.DumpLaws.{no_row_path, row_path}
use Rattle.dconf_commands.proofs.commands.dump.path_of_row.Goals as goal

pub returns-in-Some : goal.returns-in-Some
returns-in-Some c =
    let settings = c.args.settings.now in
    let row = c.args.row in
    let x = c.in-Some.setting.now in
    c.path.ensures ∙ row_path settings row x (slice_get_read settings (length settings) row x refl c.in-Some.ensures.lookup.3.0 c.in-Some.ensures.lookup.1)

pub returns-in-None : goal.returns-in-None
returns-in-None c = no_row_path c.args.settings.now c.args.row (slice_get_past c.args.settings.now c.args.row c.in-None.ensures.lookup.3)
