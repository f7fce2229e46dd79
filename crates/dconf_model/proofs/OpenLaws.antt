-- A file opens, or has one fault.
use Rattle.std.proofs.Common.{ℕ, List, ◌≡◌, refl}
use Rattle.dconf_model.specs.Opening.{OpenFault, IsOpenFault, IsDatabase}
use Rattle.dconf_model.specs.Opening.OpenFault.{short, bad_signature, bad_version, bad_root, bad_table}

pub no_database : (file : List ℕ) (f : OpenFault) → IsOpenFault file f → ¬ IsDatabase file
no_database file short h d = h d.header
no_database file bad_signature h d = h.1 d.signature
no_database file bad_version h d = h.2 d.version
no_database file bad_root h d = h.3 d.root
no_database file bad_table h d = h.4 d.table

pub one_fault : (file : List ℕ) (f g : OpenFault) → IsOpenFault file f → IsOpenFault file g → f ≡ g
one_fault file short short h k = refl
one_fault file short bad_signature h k = absurd (h k.0)
one_fault file short bad_version h k = absurd (h k.0)
one_fault file short bad_root h k = absurd (h k.0)
one_fault file short bad_table h k = absurd (h k.0)
one_fault file bad_signature short h k = absurd (k h.0)
one_fault file bad_signature bad_signature h k = refl
one_fault file bad_signature bad_version h k = absurd (h.1 k.1)
one_fault file bad_signature bad_root h k = absurd (h.1 k.1)
one_fault file bad_signature bad_table h k = absurd (h.1 k.1)
one_fault file bad_version short h k = absurd (k h.0)
one_fault file bad_version bad_signature h k = absurd (k.1 h.1)
one_fault file bad_version bad_version h k = refl
one_fault file bad_version bad_root h k = absurd (h.2 k.2)
one_fault file bad_version bad_table h k = absurd (h.2 k.2)
one_fault file bad_root short h k = absurd (k h.0)
one_fault file bad_root bad_signature h k = absurd (k.1 h.1)
one_fault file bad_root bad_version h k = absurd (k.2 h.2)
one_fault file bad_root bad_root h k = refl
one_fault file bad_root bad_table h k = absurd (h.3 k.3)
one_fault file bad_table short h k = absurd (k h.0)
one_fault file bad_table bad_signature h k = absurd (k.1 h.1)
one_fault file bad_table bad_version h k = absurd (k.2 h.2)
one_fault file bad_table bad_root h k = absurd (k.3 h.3)
one_fault file bad_table bad_table h k = refl
