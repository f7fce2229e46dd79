use Rattle.std.proofs.Common.{◌≡◌, ◌<◌, ℕ, List, ◌++◌, Option, Some, None, length, arith, sym, ◌∙◌, ap}
use Rattle.std.specs.Prelude.{IfNone}
use Rattle.std.proofs.lemmas.List.{length-append}
use Rattle.dconf_model.specs.Table.{key, item}
use Rattle.gvdb_format.specs.Tables.{region}
use Rattle.gvdb_format.proofs.NameWalks.{no_way, is_as_long, joined_name, leads_more}
use Rattle.gvdb_format.proofs.raw_table.RawTable.name_len.Goals as goal

if_none : {X : Type 0} (o : Option X) (P : Type 0) → P → IfNone o P
if_none None P p = p
if_none (Some x) P p = tt

key_len : (own key : List ℕ) → own ≡ key → length own ≡ length key
key_len own key e = ap (λ (l : List ℕ). length l) e

pub returns-in_err-link-clause-none : goal.returns-in_err-link-clause-none
returns-in_err-link-clause-none c =
    let walk = c.loop-link.invariant in
    if_none c.from_residual.result _ (λ name h. absurd (no_way (region c.args.self) c.args.i c.loop-link.at walk.0 name walk.1 c.in_err-link.ensures.none h))

pub returns-in_err-left-clause-none : goal.returns-in_err-left-clause-none
returns-in_err-left-clause-none c =
    let walk = c.loop-link.invariant in
    let same = key_len c.in_ok-link.link.key.now _ c.in_ok-link.ensures.some.2 in
    let long : c.loop-link.left < length c.in_ok-link.link.key.now = omega (arith, c.in_err-left.ensures) in
    if_none c.from_residual-in_err-left.result _ (λ name h.
    omega (arith, walk.2, same, long, is_as_long (region c.args.self) c.args.i c.loop-link.at walk.0 name walk.1 h))

pub returns-in_default-clause-some : goal.returns-in_default-clause-some
returns-in_default-clause-some c =
    let t = region c.args.self in
    let walk = c.loop-link.invariant in
    let some = c.in_ok-link.ensures.some in
    let orphan : (item t c.loop-link.at).parent ≡ None = sym some.1 ∙ c.in_default.is in
    let same = key_len c.in_ok-link.link.key.now _ some.2 in
    let own = key t c.loop-link.at in (
      own ++ walk.0,
      joined_name t c.args.i c.loop-link.at walk.0 walk.1 some.0.here orphan,
      omega (arith, walk.2, same, c.in_ok-left.ensures.0, c.in_ok-left.ensures.1, length-append own walk.0),
    )

pub loop-link-preserved : goal.loop-link-preserved
loop-link-preserved c =
    let t = region c.args.self in
    let walk = c.loop-link.invariant in
    let some = c.in_ok-link.ensures.some in
    let up : (item t c.loop-link.at).parent ≡ Some c.in-Some.parent = sym some.1 ∙ c.in-Some.is in
    let same = key_len c.in_ok-link.link.key.now _ some.2 in
    let own = key t c.loop-link.at in (
      own ++ walk.0,
      leads_more t c.args.i c.loop-link.at c.in-Some.parent walk.0 walk.1 some.0.here up (some.0.takes c.in-Some.parent up),
      omega (arith, walk.2, same, c.in_ok-left.ensures.0, c.in_ok-left.ensures.1, length-append own walk.0),
    )
