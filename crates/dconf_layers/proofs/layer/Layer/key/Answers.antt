use Rattle.std.proofs.Common.{◌≡◌, subst, sym, rules}
use Rattle.std.specs.Prelude.{IsUtf8}
use Rattle.gvdb_read.specs.Tables.{region}
use Rattle.dconf_model.specs.Table.{key}
use Rattle.dconf_layers.proofs.ChildLaws.{has_key, key_is, key_is_text}
use Rattle.dconf_layers.proofs.layer.Layer.key.Goals as goal

pub unwrap-key-requires : goal.unwrap-key-requires
unwrap-key-requires c = has_key c.args.self c.args.i c.unwrap.result (search rules)

pub from_utf8_unchecked-requires : goal.from_utf8_unchecked-requires
from_utf8_unchecked-requires c =
    let same : c.unwrap-key.result.now ≡ key (region c.args.self.values) c.args.i =
    key_is c.args.self c.args.i c.unwrap.result (search rules) c.unwrap-key.result c.unwrap-key.ensures in
    subst IsUtf8 (sym same) (key_is_text c.args.self c.args.i c.unwrap.result (search rules))
