use Rattle.std.proofs.Common.{◌∙◌, sym}
use Rattle.dconfdb_calls.proofs.SinceLaws.{as_key, below_answer}
use Rattle.dconfdb_calls.proofs.since.is_changed_since.Goals as goal

pub returns-then-ends_with : goal.returns-then-ends_with
returns-then-ends_with c =
    let slash = sym c.ends_with.ensures.value ∙ c.if-ends_with.true in
    below_answer _ _ c.args.paths.now c.args.path.now c.is_changed_below.result slash (c.requires slash) c.is_changed_below.ensures

pub returns-else-ends_with : goal.returns-else-ends_with
returns-else-ends_with c =
    as_key c.is_key_changed.result _ _ _ _ c.args.path.now c.new-expected.ensures c.new.ensures (sym c.ends_with.ensures.value ∙ c.if-ends_with.false) c.is_key_changed.ensures
