use Rattle.std.proofs.Common.{◌≡◌, Some, None, arith, rules, sym, ◌∙◌}
use Rattle.dconf_model.specs.Table.{item}
use Rattle.gvdb_check.specs.NotedItems.{IsLong}
use Rattle.gvdb_format.specs.Tables.{region}
use Rattle.gvdb_check.proofs.NameLengths.{some_key, ends_here, goes_up, ends_noted, too_long}
use Rattle.gvdb_check.proofs.NotedWalks.{known_of}
use Rattle.gvdb_check.proofs.length.short_len.Goals as goal

pub loop-len-init : goal.loop-len-init
loop-len-init c = record { counted = c.requires.counted; whole = omega arith }

pub key_size_at-requires : goal.key_size_at-requires
key_size_at-requires c = c.loop-len.invariant.counted

pub parent_at-requires : goal.parent_at-requires
parent_at-requires c = c.loop-len.invariant.counted

pub returns-in_default-parent_at-clause-len : goal.returns-in_default-parent_at-clause-len
returns-in_default-parent_at-clause-len c =
    let top : (item (region c.args.table) c.loop-len.at).parent ≡ None = sym c.parent_at.ensures ∙ c.in_default-parent_at.is in
    let e = ends_here (region c.args.table) c.args.i c.loop-len.at c.loop-len.left c.key_size_at.result c.in_ok-left.left c.requires.keys c.requires.chain c.loop-len.invariant c.key_size_at.ensures (omega (arith, c.in_ok-left.ensures.0, c.in_ok-left.ensures.1)) top in
    omega (arith, e)

pub returns-in-Some-clause-len : goal.returns-in-Some-clause-len
returns-in-Some-clause-len c =
    let e = ends_noted (region c.args.table) c.args.i c.loop-len.at c.loop-len.left c.in-Some.len c.in_ok-checked_sub.field-0 c.loop-len.invariant (known_of (IsLong (region c.args.table)) _ c.loop-len.at c.in-Some.len c.requires.noted c.in-Some.ensures) (omega (arith, c.in_ok-checked_sub.ensures.0, c.in_ok-checked_sub.ensures.1)) in
    omega (arith, e)

pub loop-len-smaller : goal.loop-len-smaller
loop-len-smaller c =
    let some = some_key (region c.args.table) c.loop-len.at c.key_size_at.result c.requires.keys c.requires.chain c.loop-len.invariant.counted c.key_size_at.ensures in
    omega (arith, some, c.in_ok-left.ensures.0, c.in_ok-left.ensures.1)

pub loop-len-preserved : goal.loop-len-preserved
loop-len-preserved c =
    let up : (item (region c.args.table) c.loop-len.at).parent ≡ Some c.in-Some-parent_at.parent = sym c.parent_at.ensures ∙ c.in-Some-parent_at.is in
    goes_up (region c.args.table) c.args.i c.loop-len.at c.loop-len.left c.key_size_at.result c.in_ok-left.left c.requires.keys c.requires.chain c.loop-len.invariant c.key_size_at.ensures (omega (arith, c.in_ok-left.ensures.0, c.in_ok-left.ensures.1)) c.in-Some-parent_at.parent up

pub returns-in_err-left-clause-none : goal.returns-in_err-left-clause-none
returns-in_err-left-clause-none c =
    let long = too_long (region c.args.table) c.args.i c.loop-len.at c.loop-len.left c.key_size_at.result c.requires.keys c.requires.chain c.loop-len.invariant c.key_size_at.ensures (omega (arith, c.in_err-left.ensures)) in
    search (rules, long)
