use Rattle.std.proofs.Common.{◌≡◌, drop}
use Rattle.std.specs.Prelude.{fold}
use Rattle.std.specs.List.{list_all}
use Rattle.dconf_model.specs.Bytes.{hash_step}
use Rattle.gvdb_check.specs.PlainKey.{is_plain}
use Rattle.gvdb_check.proofs.plain_key.hash_of_plain_fours.Given as goal

-- the hash so far, and what is left
abbrev pub invariant-loop-four : goal.invariant-loop-four
invariant-loop-four l = record {
  hash : fold (fold hash_step) l.hash (drop l.four-index l.fours) ≡ fold (fold hash_step) l.fn.hash l.fours;
  plain : list_all (list_all is_plain) (drop l.four-index l.fours) ≡ list_all (list_all is_plain) l.fours;
}
