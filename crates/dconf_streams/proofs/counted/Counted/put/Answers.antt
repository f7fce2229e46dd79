use Rattle.std.proofs.Common.{◌∙◌, arith, rules}
use Rattle.dconf_streams.proofs.TransferLaws.{grew_by}
use Rattle.dconf_streams.proofs.Puts.{HasPut-more, HasPut-none}
use Rattle.dconf_streams.proofs.counted.Counted.put.Goals as goal

pub loop-rest-preserved : goal.loop-rest-preserved
loop-rest-preserved g c =
    let i = c.loop-rest.invariant in (
      c.in_ok-n.ensures.took (omega arith) ∙ i.0,
      HasPut-more g.W.Write.contents _ _ _ c.args.bytes.now c.loop-rest.rest.now c.in_ok-n.n i.1
          (grew_by g.W.Write.contents _ _ c.in_ok-n.n c.loop-rest.rest.now c.in_ok-n.ensures.transfer c.in_ok-n.ensures.bytes),
      λ e. let none = HasPut-none g.W.Write.contents _ _ _ _ i.1 e in let some = c.in_ok-n.ensures.bound in absurd (omega (arith, none, some)),
    )

pub returns-then-n-eq0-clause-written : goal.returns-then-n-eq0-clause-written
returns-then-n-eq0-clause-written g c = search rules

pub returns-then-n-eq0-clause-ok : goal.returns-then-n-eq0-clause-ok
returns-then-n-eq0-clause-ok g c = search rules
