-- What differs of what two ways to see layers show.
use Rattle.std.specs.Prelude.{◌↔◌, IsTrue, drop, filter}
use Rattle.std.proofs.Common.{◌≡◌, ◌≢◌, ◌⊎◌, ◌||◌, ◌∷◌, ℕ, Bool, true, false, List, sym, refl, not, inl, inr}
use Rattle.dconf_model.specs.Layers.{Layers, is_locked, visible}
use Rattle.dconf_model.specs.Order.{listing}
use Rattle.dconf_model.proofs.PathMaps.{no_truth, same_bool}
use Rattle.dconf_model.specs.Settings.{Settings}
use Rattle.dconf_differences.specs.Differing.{AreDiffering, Differs, differs, same_truth, with_first, same_value}
use Rattle.dconf_differences.proofs.SameValueLaws.{values_told}

truths_told : (a b : Bool) → IsTrue (not (same_truth a b)) ↔ (a ≢ b)
truths_told true true = (λ e. absurd (no_truth e), λ other. absurd (other refl))
truths_told true false = (λ e same. no_truth (sym same), λ other. refl)
truths_told false true = (λ e same. no_truth same, λ other. refl)
truths_told false false = (λ e. absurd (no_truth e), λ other. absurd (other refl))

either_told : (a b : Bool) (A B : Type 0) → IsTrue a ↔ A → IsTrue b ↔ B → IsTrue (a || b) ↔ (A ⊎ B)
either_told true b A B f g = (λ e. inl (f.0 refl), λ h. refl)
either_told false b A B f g = (λ e. inr (g.0 e), λ h. elim h [ inl x ↦ absurd (no_truth (f.1 x)) | inr y ↦ g.1 y ])

pub differs_told : (l m : Layers) (path : List ℕ) → IsTrue (differs l m path) ↔ Differs l m path
differs_told l m path =
    either_told (not (same_truth (is_locked l path) (is_locked m path))) (not (same_value (visible l path) (visible m path))) _ _
    (truths_told (is_locked l path) (is_locked m path)) (values_told (visible l path) (visible m path))

pub are_differing : (l m : Layers) (keys paths : List (List ℕ)) → paths ≡ listing (filter (differs l m) keys) → AreDiffering l m keys paths
are_differing l m keys paths e = record { test = differs l m; tells = differs_told l m; are = e }

-- layers that have these
pub other_first : (m l : Layers) (s : Settings) → m.layers ≡ s ∷ drop 1 l.layers → m.writable ≡ l.writable → m ≡ with_first l s
other_first m l s layers writable = same_layers m.layers (s ∷ drop 1 l.layers) m.writable l.writable layers writable
  where
    same_layers : (a b : List Settings) (v w : Bool) → a ≡ b → v ≡ w → (let one : Layers = record { layers = a; writable = v } in one) ≡ record { layers = b; writable = w }
    same_layers a b v w d e = cc

-- an answer, computed
pub told_differing : (l m : Layers) (path : List ℕ) (is : Bool) → IsTrue is ↔ Differs l m path → is ≡ differs l m path
told_differing l m path is h = same_bool is (differs l m path) (λ e. (differs_told l m path).1 (h.0 e)) (λ e. h.1 ((differs_told l m path).0 e))
