use Rattle.std.proofs.Common.{rules, ◌≡◌, None, Some}
use Rattle.dconf_model.specs.Table.{item}
use Rattle.gvdb_read.specs.Tables.{region}
use Rattle.gvdb_alike.proofs.NamedLaws.{go_by_parents, go_by_root}
use Rattle.gvdb_alike.proofs.elsewhere.has_same_name.Goals as goal

pub returns-in-None-None : goal.returns-in-None-None
returns-in-None-None c is =
    let t = region c.args.table in
    let u = region c.args.other in
    let here : (item t c.loop.at).parent ≡ None = search rules in
    let there : (item u c.loop.there).parent ≡ None = search rules in
    c.loop.invariant (go_by_root t u c.loop.at c.loop.there (c.has_same_key.ensures (search rules)) here there)

pub loop-preserved : goal.loop-preserved
loop-preserved c above =
    let t = region c.args.table in
    let u = region c.args.other in
    let here : (item t c.loop.at).parent ≡ Some c.in-Some-Some-2.up = search rules in
    let there : (item u c.loop.there).parent ≡ Some c.in-Some-Some-2.above = search rules in
    c.loop.invariant (go_by_parents t u c.loop.at c.loop.there (c.has_same_key.ensures (search rules)) c.in-Some-Some-2.up c.in-Some-Some-2.above here there above)
