use Rattle.std.proofs.Common.{◌∙◌, ap, map, sym}
use Rattle.std.specs.Prelude.{string_bytes}
use Rattle.dconf_layers.specs.LayerSettings.{seen_in}
use Rattle.dconf_told.specs.Relocking.{IsSideOf}
use Rattle.dconf_told.proofs.RelockedLaws.{as_side, none_beside}
use Rattle.dconf_told.proofs.sides.may_write.Goals as goal

pub returns-clause-path : goal.returns-clause-path
returns-clause-path c =
    let side : IsSideOf c.new-side.result (seen_in c.args.layers) =
    record { writable = c.new-side.ensures.writable; locks = ap (map string_bytes) (c.new-side.ensures.locks ∙ c.as_slice.ensures.value) ∙ c.in_ok-locks.ensures } in
    λ starts. c.may_write.ensures ∙ sym (as_side c.new-side.result (seen_in c.args.layers) side c.args.path.now starts)

pub returns-clause-none : goal.returns-clause-none
returns-clause-none c =
    let side : IsSideOf c.new-side.result (seen_in c.args.layers) =
    record { writable = c.new-side.ensures.writable; locks = ap (map string_bytes) (c.new-side.ensures.locks ∙ c.as_slice.ensures.value) ∙ c.in_ok-locks.ensures } in
    λ none. c.may_write.ensures ∙ (none_beside c.new-side.result (seen_in c.args.layers) side c.args.path.now none ∙ c.new-side.ensures.writable)
