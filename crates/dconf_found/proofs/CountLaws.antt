-- What counts of a bad database, by the fault of what was tried.
use Rattle.std.proofs.Common.{◌≡◌, ◌⊎◌, inl, inr, ℕ, List, Option, Some, None, refl, sym, ◌∙◌, ap}
use Rattle.dconf_model.specs.Databases.{IsTooBig, IsGood}
use Rattle.dconf_model.specs.Opening.{IsOpenFault, OpenFault}
use Rattle.dconf_model.specs.Opening.OpenFault.{short, bad_signature, bad_version, bad_root, bad_table}
use Rattle.dconf_model.specs.Salvaging.{IsSalvaged}
use Rattle.dconf_model.specs.Settings.{Settings}
use Rattle.dconf_model.proofs.ProgramLaws.{not_bad}
use Rattle.dconfdb_calls.specs.Keyless.{IsKeyless, IsNotKeyless}
use Rattle.dconfdb_calls.specs.Numbers.{number_of}
use Rattle.dconfdb_calls.specs.Opened.{IsToldOf, open_number}
use Rattle.dconfdb_calls.specs.Salvaged.{IsSalvageOf, IsUnsalvaged, IsUnwritten}
use Rattle.dconfdb_calls.specs.declared.fault.Fault.{Fault}
use Rattle.dconfdb_calls.specs.declared.fault.Fault.TheVariants.{Memory, TooBig, Unsound}
use Rattle.dconfdb_calls.specs.declared.opened.BadFile.{BadFile}
use Rattle.dconf_found.specs.FoundFolders.{CountsBad, IsOfNoDatabase, nothing_of, Counts}
use Rattle.dconf_found.specs.declared.bad_databases.Loss.{Loss}

pub not_keyless : (file : List ℕ) → IsNotKeyless file Unsound → (mended : List ℕ) → ¬ IsKeyless file mended
not_keyless file (inl e) = cc
not_keyless file (inr h) = h.1

no_database : (file : List ℕ) (fault : Fault) → IsUnsalvaged file fault → IsOfNoDatabase fault → (f : OpenFault) × IsOpenFault file f
no_database file fault (inl h) none = (h.0, h.1)
no_database file fault (inr (d, inl e)) none = absurd (none.0 e)
no_database file fault (inr (d, inr (s, is, inl e))) none = absurd (none.0 e)
no_database file fault (inr (d, inr (s, is, inr (e, big)))) none = absurd (none.1 e)

pub counts_salvaged : (file it : List ℕ) (lost : Loss) → IsToldOf (Some file) (number_of lost.bad.fault) lost.bad.unsound
    → ((mended : List ℕ) → ¬ IsKeyless file mended)
    → IsSalvageOf file it lost.keys lost.locks → CountsBad file (Some it) (Some lost)
counts_salvaged file it lost bad other salvaged =
    (bad.0, bad.1, inr (inl (record { it = it; lost = lost; other = other; salvaged = salvaged; counted_is = refl; loss_is = refl; told = bad })))

pub counts_nothing : (file : List ℕ) (fault : Fault) (bad_file : BadFile) (counted : Option (List ℕ)) (loss : Option Loss)
    → IsToldOf (Some file) (number_of bad_file.fault) bad_file.unsound → IsUnsalvaged file fault → IsOfNoDatabase fault → counted ≡ None → loss ≡ Some (nothing_of bad_file)
    → CountsBad file counted loss
counts_nothing file fault bad_file counted loss bad unsalvaged none c l =
    let open_fault = no_database file fault unsalvaged none in (
      bad.0,
      bad.1,
      inr (inr (record { lost = nothing_of bad_file; fault = open_fault.0; none = open_fault.1; counted_is = c; loss_is = l; keys = refl; locks = refl; told = bad })),
    )

-- a sound one counts as itself, whole
pub sound_counts_as_itself : (file : List ℕ) (counted : Option (List ℕ)) (loss : Option Loss) → IsGood (Some file) → Counts file counted loss →
    (counted ≡ Some file) × (loss ≡ None)
sound_counts_as_itself file counted loss good (inl is) = (is.1, is.2)
sound_counts_as_itself file counted loss good (inr bad) = absurd (not_bad (Some file) bad.0 good bad.1)

-- ---- what is too big

no_number : (f : OpenFault) → number_of TooBig ≡ open_number f → ⊥
no_number short e = cc
no_number bad_signature e = cc
no_number bad_version e = cc
no_number bad_root e = cc
no_number bad_table e = cc

not_memory : Memory ≡ TooBig → ⊥
not_memory e = let bad : number_of Memory ≡ number_of TooBig = ap number_of e in cc

unwritten_is_too_big : (s : Settings) (fault : Fault) → IsUnwritten s fault → fault ≡ TooBig → IsTooBig s
unwritten_is_too_big s fault (inl m) e = absurd (not_memory (sym m ∙ e))
unwritten_is_too_big s fault (inr h) e = h.1

salvaged_is_too_big : (file : List ℕ) (fault : Fault) → ((fault ≡ Memory) ⊎ ((s : Settings) × IsSalvaged file s × IsUnwritten s fault))
    → fault ≡ TooBig → (s : Settings) × IsSalvaged file s × IsTooBig s
salvaged_is_too_big file fault (inl m) e = absurd (not_memory (sym m ∙ e))
salvaged_is_too_big file fault (inr h) e = (h.0, h.1, unwritten_is_too_big h.0 fault h.2 e)

pub salvage_is_too_big : (file : List ℕ) (fault : Fault) → IsUnsalvaged file fault → fault ≡ TooBig → (s : Settings) × IsSalvaged file s × IsTooBig s
salvage_is_too_big file fault (inl h) e = absurd (no_number h.0 (ap number_of (sym e) ∙ h.2))
salvage_is_too_big file fault (inr h) e = salvaged_is_too_big file fault h.1 e
