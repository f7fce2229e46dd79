use Rattle.std.proofs.lemmas.Str.{IsUtf8-from_ascii}
use Rattle.dconf_path.proofs.path.KeyPath.of_bytes.Goals as goal

pub from_utf8_unchecked-text-requires : goal.from_utf8_unchecked-text-requires
from_utf8_unchecked-text-requires c = IsUtf8-from_ascii c.args.bytes.now (c.is_plain_key.ensures.ascii c.if-is_plain_key.true)
