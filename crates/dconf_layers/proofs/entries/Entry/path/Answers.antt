use Rattle.std.proofs.Common.{sym}
use Rattle.dconf_layers.proofs.EntryLaws.{name_given, some_name}
use Rattle.dconf_layers.proofs.entries.Entry.path.Goals as goal

pub unwrap-requires : goal.unwrap-requires
unwrap-requires c =
    let e = c.args.self in
    some_name e.layer e.index e.bytes.now (sym e.is_value) e.inside c.in_ok-name.name c.in_ok-name.ensures.none

pub returns-clause-path : goal.returns-clause-path
returns-clause-path c =
    let e = c.args.self in
    (name_given e.layer e.index e.bytes.now (sym e.is_value) c.in_ok-name.name c.in_ok-name.ensures.some c.unwrap.result c.unwrap.ensures).0

pub returns-clause-key : goal.returns-clause-key
returns-clause-key c =
    let e = c.args.self in
    (name_given e.layer e.index e.bytes.now (sym e.is_value) c.in_ok-name.name c.in_ok-name.ensures.some c.unwrap.result c.unwrap.ensures).1
