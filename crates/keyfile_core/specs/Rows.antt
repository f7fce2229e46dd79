-- What a row says.
use Rattle.dconf_model.specs.Keyfiles.{Row as KeyfileRow}
use Rattle.keyfile_core.specs.declared.rows.Row.{Row}

abbrev pub row_meant : Row → KeyfileRow
row_meant row = record { line = row.line; group = row.group.now; key = row.key.now; text = row.text.now }
