-- Who reads a text of a keyfile, and why it is no value that a database has.
use Rattle.std.specs.Prelude.{ℕ, Bool, true, false, ◌≡◌, not, ◌==◌, if◌then◌else◌}
use Rattle.dconf_texts.specs.declared.readings.TextCause.{TextCause}
use Rattle.dconf_texts.specs.declared.readings.TextCause.TheVariants.{Glibs, Reading, Storing}

-- a double, which is 19, DoubleText; no other text that ours refuses is one of GLib's
abbrev pub is_glibs : ℕ → Bool
is_glibs fault = fault == 19

-- GLib read all that ours could not, so its cause is the last one; else ours, which is 0 of what ours took
abbrev pub cause_of : ℕ → Bool → TextCause
cause_of fault is_refused = if is_refused then Glibs else if not (fault == 0) then Reading else Storing

abbrev pub cause_number : TextCause → ℕ
cause_number Glibs = 0
cause_number Reading = 1
cause_number Storing = 2

-- ---- the law

-- the cause that is told is one that there is
pub record IsACause (fault : ℕ) (is_refused : Bool) : Type 0 where
  pub glibs : cause_of fault is_refused ≡ Glibs → is_refused ≡ true
  pub reading : cause_of fault is_refused ≡ Reading → (fault == 0) ≡ false
  -- no value of ours is asked of a database before it was read
  pub storing : cause_of fault is_refused ≡ Storing → (fault == 0) ≡ true

abbrev pub CausesAreThere : Type 0
CausesAreThere = (fault : ℕ) (is_refused : Bool) → IsACause fault is_refused
