-- What a line of a lock file gives.
use Rattle.std.proofs.Common.{◌≡◌, ℕ, ◌+◌, Bool, true, false, List, [], length, refl, sym, ◌∙◌}
use Rattle.std.specs.Prelude.{if◌then◌else◌}
use Rattle.dconf_model.specs.Causes.SettingsCause.{lock_not_key}
use Rattle.dconf_model.specs.Lines.LineReading.{nothing, found, wrong}
use Rattle.dconf_model.specs.Locks.{lock_line}
use Rattle.dconf_model.specs.Paths.{starts_with_slash, is_path}

pub empty_line : (earlier : List (List ℕ)) → lock_line earlier [] ≡ nothing
empty_line earlier = refl

module _ {X : Type 0} (a b : Bool) (x y z : X) where
  abbrev picked : X
  picked = if a then (if b then x else y) else z

  first_picked : a ≡ true → b ≡ true → picked ≡ x
  first_picked e f = rw (e, f) refl

  second_picked : a ≡ true → b ≡ false → picked ≡ y
  second_picked e f = rw (e, f) refl

-- a test whose truth is refuted
pub refuted : (b : Bool) → (b ≡ true → false ≡ true) → b ≡ false
refuted true h = sym (h refl)
refuted false h = refl

pub no_lock : (earlier : List (List ℕ)) (line : List ℕ) → starts_with_slash line ≡ false → lock_line earlier line ≡ nothing
no_lock earlier line starts = rw starts refl

pub no_path : (earlier : List (List ℕ)) (line : List ℕ) → starts_with_slash line ≡ true → is_path line ≡ false → lock_line earlier line ≡ wrong lock_not_key
no_path earlier line starts none =
    second_picked (starts_with_slash line) (is_path line) (found (record { path = line; line = length earlier + 1 })) (wrong lock_not_key) nothing starts none

pub a_lock : (earlier : List (List ℕ)) (line path : List ℕ) (number : ℕ) → starts_with_slash line ≡ true → is_path line ≡ true
    → path ≡ line → number ≡ length earlier + 1 → lock_line earlier line ≡ found (record { path = path; line = number })
a_lock earlier line path number starts is same counted =
    first_picked (starts_with_slash line) (is_path line) (found (record { path = line; line = length earlier + 1 })) (wrong lock_not_key) nothing starts is
    ∙ sym (rw (same, counted) refl)
