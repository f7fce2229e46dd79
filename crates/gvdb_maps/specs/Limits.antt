-- What is laid in a database's bytes.
use Rattle.std.specs.Prelude.{ℕ, ◌<◌}
use Rattle.refused.specs.Faults.{OfFault, OfFaultAlone}
use Rattle.refused.specs.declared.Refused.{Refused}
use Rattle.dconf_model.specs.Settings.{Settings}
use Rattle.dconf_model.specs.Plans.{HasLength}
use Rattle.gvdb_maps.specs.declared.write_fault.TooBig.{TooBig}
pub use Rattle.gv_model.specs.Limits.{limit}

-- so many bytes are too many, or a growth was refused
abbrev pub IsOver : ℕ → Refused TooBig → Type 0
IsOver n e = OfFault (λ _. limit < n) e

-- so many bytes are too many
abbrev pub IsPast : ℕ → Refused TooBig → Type 0
IsPast n e = OfFaultAlone (λ _. limit < n) e

-- the database of the settings would be too long, or a growth was refused
abbrev pub IsRefusal : Settings → Refused TooBig → Type 0
IsRefusal s e = OfFault (λ _. (n : ℕ) × HasLength s n × (limit < n)) e
