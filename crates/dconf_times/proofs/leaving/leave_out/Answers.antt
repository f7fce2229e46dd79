use Rattle.std.proofs.Common.{◌≡◌, ◌==◌, ◌∙◌, IfOk, ap, map, subst, ℕ, Bool, List}
use Rattle.std.specs.List.{list_any}
use Rattle.dconf_times.specs.Leaving.{is_late}
use Rattle.dconf_times.specs.Seeing.{seen_of}
use Rattle.dconf_times.specs.Times.{note_of}
use Rattle.dconf_times.proofs.LeavingLaws.{left_all}
use Rattle.dconf_times.proofs.leaving.leave_out.Goals as goal

pub returns : goal.returns
returns c =
    let late = is_late c.args.now (map note_of c.args.notes.now) (map seen_of c.args.seen.now) in
    subst (λ (left : List Bool). IfOk c.of_changes.result (λ v. v.items ≡ left))
    (ap (λ (ns : List ℕ). map (λ e. list_any (λ n. n == e.change) ns) c.args.edits.now) (c.as_slice.ensures.value ∙ c.in_ok-late.ensures) ∙ left_all late c.args.edits.now c.args.edits.now)
    c.of_changes.ensures
