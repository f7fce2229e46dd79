use Rattle.std.proofs.Common.{◌∙◌, ap, map}
use Rattle.std.specs.Prelude.{string_bytes}
use Rattle.std.proofs.lemmas.Result.{IfOk-weaker}
use Rattle.dconf_layers.specs.LayerSettings.{seen_in}
use Rattle.dconf_told.specs.Relocking.{AreRelocked, IsSideOf}
use Rattle.dconf_told.specs.Telling.{before_in}
use Rattle.dconf_told.proofs.RelockedLaws.{relocked_list, side_before}
use Rattle.dconf_told.proofs.relocking.relocked.Goals as goal

pub returns : goal.returns
returns c =
    let same = c.args.same_others in
    let l = seen_in c.args.before in
    let m = seen_in c.args.after in
    let first : IsSideOf c.new-first.result (before_in same l m) =
    side_before same l m c.new-first.result c.have_same-has_same.result c.have_same-has_same.ensures c.new-first.ensures.writable
    (ap (map string_bytes) (c.new-first.ensures.locks ∙ c.as_slice.ensures.value) ∙ c.in_ok-locks_before.ensures) in
    let second : IsSideOf c.new-second.result m =
    record { writable = c.new-second.ensures.writable; locks = ap (map string_bytes) (c.new-second.ensures.locks ∙ c.as_slice-2.ensures.value) ∙ c.in_ok-locks_after.ensures } in
    IfOk-weaker c.between.result _ (λ paths. AreRelocked (before_in same l m) m (map string_bytes paths.items))
    (λ v e. relocked_list c.new-first.result c.new-second.result (before_in same l m) m first second (map string_bytes v.items) e) c.between.ensures
