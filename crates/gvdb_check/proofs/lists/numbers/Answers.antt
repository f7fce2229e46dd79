use Rattle.std.proofs.Common.{rules, ◌≡◌}
use Rattle.dconf_model.specs.Table.{bytes_of}
use Rattle.gvdb_format.specs.Tables.{region}
use Rattle.gvdb_check.proofs.ListNumbers.{cut_out}
use Rattle.gvdb_check.proofs.lists.numbers.Goals as goal

pub returns : goal.returns
returns c =
    let bytes : c.unwrap_or_default-bytes.result.now ≡ bytes_of (region c.args.table) c.args.i = search rules in
    cut_out (region c.args.table) c.args.i c.unwrap_or_default-bytes.result.now c.as_chunks.result.0.now c.requires.valid bytes c.as_chunks.ensures.front c.as_chunks.ensures.front_len
