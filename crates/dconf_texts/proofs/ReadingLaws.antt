-- Which cause is told.
use Rattle.std.proofs.Common.{◌≡◌, Bool, true, false, not, refl}
use Rattle.std.specs.Prelude.{◌==◌, if◌then◌else◌}
use Rattle.dconf_texts.specs.declared.readings.TextCause.{TextCause}
use Rattle.dconf_texts.specs.declared.readings.TextCause.TheVariants.{Glibs, Reading, Storing}
use Rattle.dconf_texts.specs.Readings.{CausesAreThere}

abbrev by : Bool → Bool → TextCause
by refused none = if refused then Glibs else if not none then Reading else Storing

glibs : (refused none : Bool) → by refused none ≡ Glibs → refused ≡ true
glibs true none e = refl
glibs false true e = absurd (let bad : Storing ≡ Glibs = e in cc)
glibs false false e = absurd (let bad : Reading ≡ Glibs = e in cc)

reading : (refused none : Bool) → by refused none ≡ Reading → none ≡ false
reading true none e = absurd (let bad : Glibs ≡ Reading = e in cc)
reading false true e = absurd (let bad : Storing ≡ Reading = e in cc)
reading false false e = refl

storing : (refused none : Bool) → by refused none ≡ Storing → none ≡ true
storing true none e = absurd (let bad : Glibs ≡ Storing = e in cc)
storing false true e = refl
storing false false e = absurd (let bad : Reading ≡ Storing = e in cc)

pub causes_are_there : CausesAreThere
causes_are_there fault is_refused = record {
  glibs = glibs is_refused (fault == 0);
  reading = reading is_refused (fault == 0);
  storing = storing is_refused (fault == 0);
}
