-- Which causes say that a growth was refused.
use Rattle.std.proofs.Common.{◌≡◌, true, false, refl, sym}
use Rattle.std.specs.Prelude.{is_none}
use Rattle.std.proofs.lemmas.Bool.{true≢false}
use Rattle.dconf_compile.specs.CompileFaults.{cause_of}
use Rattle.dconf_compile.specs.declared.fault.CompileCause.{CompileCause}
use Rattle.dconf_compile.specs.declared.fault.CompileCause.TheVariants.{Memory}

-- `Memory` alone
pub only_memory : (cause : CompileCause) → is_none (cause_of cause) ≡ true → cause ≡ Memory
only_memory Memory e = refl
only_memory _ e = absurd (true≢false (sym e))

-- every other cause is one of the files
pub is_of_files : (cause : CompileCause) → (cause ≡ Memory → ⊥) → is_none (cause_of cause) ≡ false
is_of_files Memory other = absurd (other refl)
is_of_files _ other = refl
