-- What C is told that a directory has: texts, a zero byte after each.
use Rattle.std.specs.Prelude.{◌≡◌, ◌++◌, ◌∷◌, ℕ, List, []}
use Rattle.std.specs.List.{flat_map}
use Rattle.dconfdb_calls.specs.declared.fault.Fault.{Fault}
use Rattle.dconfdb_calls.specs.declared.fault.Fault.TheVariants.{Memory, BadPath}
use Rattle.dconfdb_calls.specs.Given.{IsDirectory}
use Rattle.dconfdb_calls.specs.Numbers.{number_of}

abbrev pub ended : List (List ℕ) → List ℕ
ended texts = flat_map (λ text. text ++ (0 ∷ [])) texts

-- the bytes are no path of a directory, or an allocation failed
abbrev pub IsNoListing : List ℕ → Fault → Type 0
IsNoListing directory BadPath = ¬ IsDirectory directory
IsNoListing directory Memory = Unit {0}
IsNoListing directory _ = ⊥

-- the number of the fault is told
abbrev pub IsNoListingTold : List ℕ → ℕ → Type 0
IsNoListingTold directory number = (fault : Fault) × (number_of fault ≡ number) × IsNoListing directory fault
