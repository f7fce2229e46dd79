use Rattle.std.proofs.Common.{◌≡◌, Some, arith, sym, ◌∙◌}
use Rattle.dconf_model.specs.Table.{item}
use Rattle.dconf_model.proofs.ParentLaws.{parent_counted}
use Rattle.gvdb_check.specs.NotedItems.{Ends, IsLong}
use Rattle.gvdb_format.specs.Tables.{region}
use Rattle.gvdb_check.proofs.ChainSteps.{goes_on}
use Rattle.gvdb_check.proofs.NameLengths.{above_is}
use Rattle.gvdb_check.proofs.NotedWalks.{one_more}
use Rattle.gvdb_check.proofs.parents.note_up.Goals as goal

pub loop-preserved : goal.loop-preserved
loop-preserved c =
    let t = region c.args.table in
    let at = c.loop.at in
    let here = c.loop.invariant in
    let up : (item t at).parent ≡ Some c.in-Some.parent = sym c.parent_at.ensures ∙ c.in-Some.is in
    record {
      counted = parent_counted t at c.in-Some.parent c.requires.keys here.counted up;
      ends = goes_on t at c.in-Some.parent here.ends.0 up here.ends.1;
      noted = λ are. one_more (Ends t) c.loop.noted _ at c.loop.len c.note.ensures here.ends (here.noted are);
      lens = λ ends is are.
          let lens = here.lens ends is are in
          let above = above_is t at c.in-Some.parent _ c.requires.keys ends here.counted c.key_size_at.ensures up in (
            omega (arith, lens.0, above, c.saturating_sub-len.ensures),
            one_more (IsLong t) c.loop.noted _ at c.loop.len c.note.ensures lens.0 lens.1,
          );
    }
