-- What is known of several files at once.
use Rattle.std.specs.Prelude.{ℕ, ◌≡◌, false, if◌then◌else◌, ◌==◌}
use Rattle.dconf_files.specs.declared.stamp.Sameness.{Sameness}
use Rattle.dconf_files.specs.declared.stamp.Sameness.TheVariants.{Same, Other, Unsure}
use Rattle.dconf_parts.specs.Parts.{is_other}

abbrev pub unless_other : Sameness → Sameness
unless_other Same = Unsure
unless_other Other = Other
unless_other Unsure = Unsure

-- of those before, and of one more
abbrev pub among : Sameness → Sameness → Sameness
among Same is = is
among Other is = Other
among Unsure is = unless_other is

abbrev pub sameness_from : ℕ → Sameness
sameness_from n = if n == 0 then Same else if n == 2 then Unsure else Other

-- ---- the law

pub record OneIsOfAll (before is : Sameness) : Type 0 where
  -- they are the same only if each is
  pub same : among before is ≡ Same → (before ≡ Same) × (is ≡ Same)
  -- one that is another one makes them others, wherever it stands
  pub first : before ≡ Other → among before is ≡ Other
  pub last : is ≡ Other → among before is ≡ Other
  -- and without such a one they aren't
  pub none : is_other before ≡ false → is_other is ≡ false → is_other (among before is) ≡ false

abbrev pub WhatDiffersIsSeen : Type 0
WhatDiffersIsSeen = (before is : Sameness) → OneIsOfAll before is
