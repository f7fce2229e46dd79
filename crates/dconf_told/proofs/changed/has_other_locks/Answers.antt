use Rattle.std.specs.Prelude.{string_bytes}
use Rattle.std.proofs.Common.{◌∙◌, ap, map, sym}
use Rattle.dconf_layers.specs.LayerSettings.{seen_in}
use Rattle.dconf_told.proofs.ChangedLaws.{other_locks, same_locks}
use Rattle.dconf_told.proofs.changed.has_other_locks.Goals as goal

pub returns-then-have_same : goal.returns-then-have_same
returns-then-have_same c = same_locks c.args.same_others (seen_in c.args.before) (seen_in c.args.after) (sym c.have_same.ensures ∙ c.if-have_same.true)

pub returns : goal.returns
returns c =
    other_locks c.args.same_others (seen_in c.args.before) (seen_in c.args.after) (map string_bytes c.as_slice.result.now) (map string_bytes c.as_slice-2.result.now)
    c.are_same_texts.result (sym c.have_same.ensures ∙ c.if-have_same.false)
    (ap (map string_bytes) c.as_slice.ensures.value ∙ c.in_ok-one.ensures) (ap (map string_bytes) c.as_slice-2.ensures.value ∙ c.in_ok-other.ensures)
    c.are_same_texts.ensures
