use Rattle.std.proofs.Common.{◌≡◌, drop}
use Rattle.std.specs.Prelude.{fold}
use Rattle.std.specs.List.{list_all}
use Rattle.dconf_model.specs.Bytes.{hash_step}
use Rattle.gvdb_check.specs.PlainKey.{is_plain}
use Rattle.gvdb_check.proofs.plain_key.hash_of_few_plain.Given as goal

-- the hash so far, and what is left
abbrev pub invariant-loop-byte : goal.invariant-loop-byte
invariant-loop-byte l = record {
  hash : fold hash_step l.hash (drop l.byte-index l.bytes) ≡ fold hash_step l.fn.hash l.bytes;
  plain : list_all is_plain (drop l.byte-index l.bytes) ≡ list_all is_plain l.bytes;
}
