use Rattle.std.proofs.Common.{◌≡◌, codes, rules, string_bytes}
use Rattle.dconf_model.specs.Keyfiles.{path_of}
use Rattle.keyfile_core.specs.Rows.{row_meant}
use Rattle.dconf_compile.proofs.RowPaths.{short_key}
use Rattle.dconf_compile.proofs.rows.add_row.Goals as goal

pub insert_text-requires : goal.insert_text-requires
insert_text-requires c =
    let same : string_bytes c.in_ok-path.path ≡ path_of (codes "/") (row_meant c.args.row.now) = search rules in
    short_key (row_meant c.args.row.now) c.requires (string_bytes c.in_ok-path.path) same (search rules)
