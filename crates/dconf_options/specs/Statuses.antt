-- With which status `lint` ends. docs/MANUAL.md, "lint [FILE]..".
use Rattle.std.specs.Prelude.{ℕ, Bool, true, false, ◌≡◌, ◌||◌, not, nat_lt, if◌then◌else◌}

abbrev pub lint_status : ℕ → Bool → ℕ
lint_status found is_written = if nat_lt 0 found || not is_written then 1 else 0

-- ---- the law

-- who runs it learns by 0 that nothing was found, and that this was said as a whole
pub record IsWell (found : ℕ) (is_written : Bool) : Type 0 where
  pub none : lint_status found is_written ≡ 0 → nat_lt 0 found ≡ false
  pub whole : lint_status found is_written ≡ 0 → is_written ≡ true

abbrev pub NothingIsFoundByZero : Type 0
NothingIsFoundByZero = (found : ℕ) (is_written : Bool) → IsWell found is_written
