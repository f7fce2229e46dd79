-- Which folder is taken.
use Rattle.std.proofs.Common.{◌≡◌, true, false, refl}
use Rattle.dconf_served.specs.declared.folders.Folder.TheVariants.{Places, Runtime, Cache}
use Rattle.dconf_served.specs.Folders.{ProfilesHaveAFolder}

pub profiles_have_a_folder : ProfilesHaveAFolder
profiles_have_a_folder true runtime = record {
  places = λ e. refl;
  runtime = λ e. absurd (let bad : Places ≡ Runtime = e in cc);
  cache = λ e. absurd (let bad : Places ≡ Cache = e in cc);
}
profiles_have_a_folder false true = record {
  places = λ e. absurd (let bad : Runtime ≡ Places = e in cc);
  runtime = λ e. refl;
  cache = λ e. absurd (let bad : Runtime ≡ Cache = e in cc);
}
profiles_have_a_folder false false = record {
  places = λ e. absurd (let bad : Cache ≡ Places = e in cc);
  runtime = λ e. absurd (let bad : Cache ≡ Runtime = e in cc);
  cache = λ e. (λ t. let bad : false ≡ true = t in cc, λ t. let bad : false ≡ true = t in cc);
}
