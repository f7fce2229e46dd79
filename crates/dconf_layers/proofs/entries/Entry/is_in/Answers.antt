use Rattle.std.proofs.Common.{sym}
use Rattle.dconf_layers.proofs.EntryLaws.{there_too}
use Rattle.dconf_layers.proofs.entries.Entry.is_in.Goals as goal

pub returns : goal.returns
returns c found =
    let e = c.args.self in
    there_too e.layer c.args.other e.index e.bytes.now e.inside (sym e.is_value) (c.has_elsewhere.ensures found)
