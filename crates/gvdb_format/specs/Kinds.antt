-- The letters of the kinds.
use Rattle.std.specs.Prelude.{ℕ}
use Rattle.dconf_model.specs.Table.{value_kind, list_kind, table_kind}
use Rattle.gvdb_format.specs.declared.kind.Kind.{Kind}
use Rattle.gvdb_format.specs.declared.kind.Kind.TheVariants.{Value, List, Table}

abbrev pub letter_of : Kind → ℕ
letter_of Value = value_kind
letter_of List = list_kind
letter_of Table = table_kind
