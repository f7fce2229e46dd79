-- The item of `/`, and what is sound with it.
use Rattle.std.specs.Prelude.{◌≡◌, ◌≤◌, ◌<◌, ◌+◌, ◌*◌, ◌-◌, ◌/◌, ℕ, List, length, Some, slice_range}
use Rattle.std.proofs.Common.{inl, inr, sym, ap, ◌∙◌, subst, arith}
use Rattle.std.proofs.lemmas.Bool.{cases_order}
use Rattle.byteorder.specs.Endian.{little_number}
use Rattle.dconf_model.specs.Bytes.{u32_at}
use Rattle.dconf_model.specs.Databases.{IsBad, IsGood, Verdict}
use Rattle.dconf_model.specs.Databases.Verdict.{no_database, sound, unsound}
use Rattle.dconf_model.specs.Opening.{IsDatabase, root_of}
use Rattle.dconf_model.specs.Table.{Table, item_count, items_start}
use Rattle.dconf_model.proofs.OpenLaws as opens
use Rattle.dconf_model.proofs.SoundLaws.{sound_has_no_fault}
use Rattle.gvdb_format.proofs.Numbers.{number_there}
use Rattle.dconfdb_calls.specs.Keyless.{IsFirstRoot, IsKeyless, IsRootPlace, with_empty_list}

pub not_bad : (file : List ℕ) (v : Verdict) → IsGood (Some file) → IsBad (Some file) v → ⊥
not_bad file sound h k = k
not_bad file (no_database f) h k = opens.no_database file f k h.0
not_bad file (unsound rule at) h k = sound_has_no_fault (root_of file) rule at h.1 k.1

-- there is one first item of `/`
one_first : (t : Table) (i j : ℕ) → IsFirstRoot t i → IsFirstRoot t j → i ≡ j
one_first t i j h k = elim (cases_order i j) [
  | inl same ↦ same
  | inr apart ↦ elim apart [
    | inl less ↦ absurd (k.earlier i less h.is_root)
    | inr more ↦ absurd (h.earlier j more k.is_root)
  ]
]

one_place : (file : List ℕ) (p q : ℕ) → IsRootPlace file p → IsRootPlace file q → p ≡ q
one_place file p q h k =
    h.place_is ∙ (ap (λ (i : ℕ). u32_at file 20 - 24 * (item_count (root_of file) - i)) (one_first (root_of file) h.index k.index h.first k.first) ∙ sym k.place_is)

-- what is not sound at the place is not sound at all
pub not_keyless : (file : List ℕ) (place : ℕ) (bytes mended : List ℕ) → IsRootPlace file place → bytes ≡ with_empty_list file place → (IsGood (Some bytes) → ⊥) → IsKeyless file mended → ⊥
not_keyless file place bytes mended at is bad h =
    let same : mended ≡ bytes = h.mended_is ∙ (ap (λ (p : ℕ). with_empty_list file p) (one_place file h.place place h.is_place at) ∙ sym is) in
    bad (subst (λ (b : List ℕ). IsGood (Some b)) same h.good)

-- ---- from the end of the root table back to an item

pub end_of : (file : List ℕ) (n : ℕ) → 24 ≤ length file → n ≡ little_number 4 (slice_range file 20 24) → n ≡ u32_at file 20
unfolding u32_at
end_of file n inside is = is ∙ number_there file 20 4 inside

all_below : (s e : ℕ) → s ≤ e → 24 * ((e - s) / 24) ≤ e
all_below s e fit = omega arith

rest_below : (e n at : ℕ) → 24 * n ≤ e → 24 * (n - at) ≤ e
rest_below e n at h = omega arith

rest_inside : (e n at len : ℕ) → at < n → 24 * n ≤ e → e ≤ len → e - 24 * (n - at) + 24 ≤ len
rest_inside e n at len less below within = omega arith

items_below : (file : List ℕ) (e n : ℕ) → IsDatabase file → e ≡ u32_at file 20 → n ≡ item_count (root_of file) → 24 * n ≤ e
items_below file e n opens end count =
    let below : 24 * item_count (root_of file) ≤ u32_at file 20 = all_below (items_start (root_of file)) (u32_at file 20) opens.table.fit in
    subst (λ (k : ℕ). 24 * k ≤ e) (sym count) (subst (λ (k : ℕ). 24 * item_count (root_of file) ≤ k) (sym end) below)

pub below_end : (file : List ℕ) (e n at : ℕ) → IsDatabase file → e ≡ u32_at file 20 → n ≡ item_count (root_of file) → 24 * (n - at) ≤ e
below_end file e n at opens end count = rest_below e n at (items_below file e n opens end count)

pub inside_file : (file : List ℕ) (e n at : ℕ) → IsDatabase file → e ≡ u32_at file 20 → n ≡ item_count (root_of file) → at < n → e - 24 * (n - at) + 24 ≤ length file
inside_file file e n at opens end count less =
    rest_inside e n at (length file) less (items_below file e n opens end count) (subst (λ (k : ℕ). k ≤ length file) (sym end) opens.root.inside)
