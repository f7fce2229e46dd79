-- What differs is seen, wherever it stands.
use Rattle.std.proofs.Common.{◌≡◌, false, refl}
use Rattle.dconf_files.specs.declared.stamp.Sameness.{Sameness}
use Rattle.dconf_files.specs.declared.stamp.Sameness.TheVariants.{Same, Other, Unsure}
use Rattle.dconf_parts.specs.Several.{WhatDiffersIsSeen, among}
use Rattle.dconf_parts.specs.Parts.{is_other}

same : (before is : Sameness) → among before is ≡ Same → (before ≡ Same) × (is ≡ Same)
same Same is e = (refl, e)
same Other is e = cc
same Unsure Same e = cc
same Unsure Other e = cc
same Unsure Unsure e = cc

first : (before is : Sameness) → before ≡ Other → among before is ≡ Other
first Same is e = cc
first Other is e = refl
first Unsure is e = cc

last : (before is : Sameness) → is ≡ Other → among before is ≡ Other
last Same is e = e
last Other is e = refl
last Unsure Same e = cc
last Unsure Other e = refl
last Unsure Unsure e = cc

none : (before is : Sameness) → is_other before ≡ false → is_other is ≡ false → is_other (among before is) ≡ false
none Same is b i = i
none Other is b i = cc
none Unsure Same b i = refl
none Unsure Other b i = cc
none Unsure Unsure b i = refl

pub what_differs_is_seen : WhatDiffersIsSeen
what_differs_is_seen before is = record { same = same before is; first = first before is; last = last before is; none = none before is }
