-- Why bytes aren't made.
use Rattle.std.specs.Prelude.{◌<◌, ℕ}
use Rattle.refused.specs.declared.Refused.{Refused}
use Rattle.refused.specs.Faults.{OfFault}
pub use Rattle.gv_view.specs.declared.owned.TooLarge.{TooLarge}
pub use Rattle.gv_model.specs.Limits.{limit}

-- too large says why, and a growth may be refused whatever is written
abbrev pub IsUnbuildable : Type 0 → Refused TooLarge → Type 0
IsUnbuildable why fault = OfFault (λ _. why) fault

-- why so many bytes aren't made
abbrev pub IsOverLimit : ℕ → Refused TooLarge → Type 0
IsOverLimit n fault = IsUnbuildable (limit < n) fault
