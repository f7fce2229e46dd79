-- Which texts fit, by what is wanted.
use Rattle.std.proofs.Common.{refl}
use Rattle.dconf_texts.specs.Kinds.{TheWantedFits}
use Rattle.dconf_texts.specs.declared.kinds.PathKind.TheVariants.{Key, Directory, NotAbsolute, HasNul, DoubleSlash, Absolute, NoKey, NoDirectory}

pub the_wanted_fits : TheWantedFits
the_wanted_fits Key = record { key = refl; directory = refl; any = refl }
the_wanted_fits Directory = record { key = refl; directory = refl; any = refl }
the_wanted_fits NotAbsolute = record { key = refl; directory = refl; any = refl }
the_wanted_fits HasNul = record { key = refl; directory = refl; any = refl }
the_wanted_fits DoubleSlash = record { key = refl; directory = refl; any = refl }
the_wanted_fits Absolute = record { key = refl; directory = refl; any = refl }
the_wanted_fits NoKey = record { key = refl; directory = refl; any = refl }
the_wanted_fits NoDirectory = record { key = refl; directory = refl; any = refl }
