-- What is kept of a file that isn't sound, by the fault of what was tried.
use Rattle.std.proofs.Common.{◌≡◌, inl, inr, ℕ, List, [], refl, sym, subst}
use Rattle.dconf_model.specs.Salvaging.{IsSalvaged}
use Rattle.dconf_model.specs.Settings.{Settings}
use Rattle.dconfdb_calls.specs.Keyless.{IsKeyless, IsNotKeyless}
use Rattle.dconfdb_calls.specs.Salvaged.{IsUnsalvaged, IsUnwritten}
use Rattle.dconfdb_calls.specs.declared.fault.Fault.{Fault}
use Rattle.dconfdb_calls.specs.declared.fault.Fault.TheVariants.{Memory, Unsound}
use Rattle.dconf_mended.specs.Mending.{HasNothing, IsMended, MendedOpens}
use Rattle.dconf_mended.specs.declared.mended.Standing.{Standing}
use Rattle.dconf_mended.specs.declared.mended.Standing.TheVariants.{Whole, Saved, Nothing}

pub not_keyless : (file : List ℕ) → IsNotKeyless file Unsound → (mended : List ℕ) → ¬ IsKeyless file mended
not_keyless file (inl e) = cc
not_keyless file (inr h) = h.1

too_big : (file : List ℕ) (fault : Fault) (s : Settings) → IsSalvaged file s → IsUnwritten s fault → (fault ≡ Memory → ⊥) → HasNothing file
too_big file fault s is (inl e) other = absurd (other e)
too_big file fault s is (inr h) other = inr (s, is, h.1)

-- any other fault than a want of memory is the file's
pub has_nothing : (file : List ℕ) (fault : Fault) → IsUnsalvaged file fault → (fault ≡ Memory → ⊥) → HasNothing file
has_nothing file fault (inl h) other = inl (h.0, h.1)
has_nothing file fault (inr (d, inl e)) other = absurd (other e)
has_nothing file fault (inr (d, inr h)) other = too_big file fault h.0 h.1 h.2 other

pub as_nothing : (file bytes : List ℕ) (standing : Standing) (keys locks : ℕ) (fault : Fault) → ((mended : List ℕ) → ¬ IsKeyless file mended) → IsUnsalvaged file fault →
    (fault ≡ Memory → ⊥) → standing ≡ Nothing → bytes ≡ [] → keys ≡ 0 → locks ≡ 0 → IsMended file standing bytes keys locks
as_nothing file bytes standing keys locks fault keyless un other is empty no_keys no_locks =
    subst (λ (s : Standing). IsMended file s bytes keys locks) (sym is) (keyless, has_nothing file fault un other, empty, no_keys, no_locks)

pub mended_opens : MendedOpens
mended_opens file bytes Whole keys locks h other = h.0.good
mended_opens file bytes Saved keys locks h other = (h.1.written.file_is.opens, h.1.written.file_is.sound)
mended_opens file bytes Nothing keys locks h other = absurd (other refl)
