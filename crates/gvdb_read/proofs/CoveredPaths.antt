-- What covers a path: the path itself, and each prefix of it that ends in a slash.
use Rattle.std.specs.Prelude.{slice_index, IsTrue}
use Rattle.std.proofs.Common.{◌≡◌, ◌⊎◌, ◌+◌, ◌-◌, ◌<◌, ◌≤◌, ℕ, suc, true, false, List, [], ◌∷◌, ◌++◌, ◌||◌, ◌&&◌, length, take, drop, get_or, refl, sym, ap, ◌∙◌, arith, inl, inr, append_assoc, length-append, subst, ⊎_elim, Bool, ◌↔◌}
use Rattle.std.specs.Str.{bytes_eq}
use Rattle.dconf_model.specs.Bytes.{hash_of, hash_step}
use Rattle.dconf_model.proofs.HashSteps.{hash_of_last}
use Rattle.dconf_model.proofs.PathMaps.{no_truth}
use Rattle.std.proofs.Math.Seq.{take-append_seam, get_or-append_seam}
use Rattle.std.proofs.lemmas.Bool.{and_parts, cases_lt}
use Rattle.std.proofs.lemmas.Bool.Decides.{Decides-eqb}
use Rattle.std.proofs.lemmas.List.{length-take-le, take_all, take_more, take-append-drop}
use Rattle.std.proofs.lemmas.Slice.Eq.{starts_is, ends_is}
use Rattle.dconf_model.specs.Locks.{covers, is_below}
use Rattle.dconf_model.specs.Paths.{ends_with_slash}
use Rattle.dconf_model.proofs.ParentLaws.{by_bool}
use Rattle.dconf_model.proofs.PathLaws.{ends_in}
use Rattle.dconf_model.proofs.SameBytes.{same_path, itself}

-- the path's prefix up to and with the slash at a place
pub record IsPrefixAt (path name : List ℕ) (k : ℕ) : Type 0 where
  pub within : k < length path
  pub slash : slice_index path k ≡ 47
  pub whole : name ≡ take (k + 1) path

parts : (path name front rest : List ℕ) → name ≡ front ++ 47 ∷ [] → path ≡ name ++ rest → IsPrefixAt path name (length front)
parts path name front rest ends starts =
    let whole : path ≡ front ++ 47 ∷ rest = starts ∙ (ap (λ (n : List ℕ). n ++ rest) ends ∙ append_assoc front (47 ∷ []) rest) in
    let n : length name ≡ length front + 1 = ap length ends ∙ length-append front (47 ∷ []) in
    let m : length path ≡ length front + suc (length rest) = ap length whole ∙ length-append front (47 ∷ rest) in
    record {
      within = omega (arith, m);
      slash = ap (λ (p : List ℕ). get_or p (length front) 0) whole ∙ get_or-append_seam front 47 rest 0;
      whole = sym (ap (λ k. take k path) (sym n) ∙ (ap (take (length name)) starts ∙ take-append_seam name rest));
    }

prefix : (path name : List ℕ) → ends_with_slash name ≡ true → is_below path name ≡ true → (k : ℕ) × IsPrefixAt path name k
prefix path name ends below = (
  length (take (length name - 1) name),
  parts path name (take (length name - 1) name) (drop (length name) path)
      ((ends_is Decides-eqb name (47 ∷ []) (ends_with_slash name) refl).0 ends)
      ((starts_is Decides-eqb path name (is_below path name) refl).0 below),
)

pub covering : (path name : List ℕ) → covers name path ≡ true → (name ≡ path) ⊎ ((k : ℕ) × IsPrefixAt path name k)
covering path name e =
    by_bool (bytes_eq name path) ((name ≡ path) ⊎ ((k : ℕ) × IsPrefixAt path name k))
    (λ same. inl (same_path name path same))
    (λ other. let both : (ends_with_slash name && is_below path name) ≡ true = sym (ap (λ b. b || (ends_with_slash name && is_below path name)) other) ∙ e in
    let p = and_parts (ends_with_slash name) (is_below path name) both in inr (prefix path name p.0 p.1))

pub covers_itself : (path : List ℕ) → covers path path ≡ true
covers_itself path = ap (λ b. b || (ends_with_slash path && is_below path path)) (itself path)

or_true : (b : _) → (b || true) ≡ true
or_true true = refl
or_true false = refl

pub prefix_covers : (path : List ℕ) (k : ℕ) → k < length path → slice_index path k ≡ 47 → covers (take (k + 1) path) path ≡ true
prefix_covers path k within slash =
    let name = take (k + 1) path in
    let ends : ends_with_slash name ≡ true = ends_in name (take k path) (take_more path k 0 within ∙ ap (λ b. take k path ++ b ∷ []) slash) in
    let below : is_below path name ≡ true = (starts_is Decides-eqb path name (is_below path name) refl).1 (drop (k + 1) path) (sym (take-append-drop (k + 1) path)) in
    ap (λ b. bytes_eq name path || (b && is_below path name)) ends ∙ (ap (λ b. bytes_eq name path || b) below ∙ or_true (bytes_eq name path))

-- ---- a walk along the path

pub hash_goes_on : (path : List ℕ) (i hash next : ℕ) → i < length path → hash ≡ hash_of (take i path) → next ≡ hash_step hash (get_or path i 0) → next ≡ hash_of (take (i + 1) path)
hash_goes_on path i hash next within e step =
    step ∙ (ap (λ h. hash_step h (get_or path i 0)) e
    ∙ (sym (hash_of_last (take i path) (get_or path i 0)) ∙ ap hash_of (sym (take_more path i 0 within))))

-- no prefix before a place has P
abbrev pub NoneBefore : (List ℕ → Type 0) → List ℕ → ℕ → Type 0
NoneBefore P path i = (k : ℕ) → k < i → slice_index path k ≡ 47 → ¬ P (take (k + 1) path)

pub none_up_to : (P : List ℕ → Type 0) (path : List ℕ) (i : ℕ) → NoneBefore P path i → ((slice_index path i ≡ 47) → ¬ P (take (i + 1) path)) → NoneBefore P path (i + 1)
none_up_to P path i earlier here k less slash =
    ⊎_elim (λ (l : k < i). earlier k l slash)
    (λ (g : i ≤ k). let same : k ≡ i = omega (arith, less, g) in λ p. here (subst (λ j. slice_index path j ≡ 47) same slash) (subst (λ j. P (take (j + 1) path)) same p))
    (cases_lt k i)

-- a name that covers the path and has P
abbrev pub HasCovering : (List ℕ → Type 0) → List ℕ → Type 0
HasCovering P path = (name : List ℕ) × IsTrue (covers name path) × P name

pub none_covers : (P : List ℕ → Type 0) (path : List ℕ) (i : ℕ) → length path ≤ i → NoneBefore P path i → ¬ P path → ¬ HasCovering P path
none_covers P path i whole none other h =
    ⊎_elim (λ (same : h.0 ≡ path). other (subst P same h.2))
    (λ (at : (k : ℕ) × IsPrefixAt path h.0 k). let less = at.1.within in none at.0 (omega (arith, less, whole)) at.1.slash (subst P at.1.whole h.2))
    (covering path h.0 h.1)

pub whole_covers : (P : List ℕ → Type 0) (path : List ℕ) (i : ℕ) (b : Bool) → length path ≤ i → NoneBefore P path i → (IsTrue b ↔ P path) → IsTrue b ↔ HasCovering P path
whole_covers P path i true whole none iff = (λ t. (path, covers_itself path, iff.0 t), λ h. refl)
whole_covers P path i false whole none iff = (λ t. absurd (no_truth t), λ h. absurd (none_covers P path i whole none (λ p. no_truth (iff.1 p)) h))

-- ---- the starts that cover a path

-- what covers the path is the whole of it, or ends in a slash
pub covering_start : (path : List ℕ) (n : ℕ) → 0 < n → n ≤ length path → covers (take n path) path ≡ true → (n ≡ length path) ⊎ (slice_index path (n - 1) ≡ 47)
covering_start path n some within e =
    ⊎_elim (λ (same : take n path ≡ path). inl (sym (length-take-le n path within) ∙ ap length same))
    (λ (at : (k : ℕ) × IsPrefixAt path (take n path) k).
    let less = at.1.within in
    let whole : n ≡ at.0 + 1 = sym (length-take-le n path within) ∙ (ap length at.1.whole ∙ length-take-le (at.0 + 1) path (omega (arith, less))) in
    let place : n - 1 ≡ at.0 = omega (arith, whole) in
    inr (ap (λ k. slice_index path k) place ∙ at.1.slash))
    (covering path (take n path) e)

pub all_covers : (path : List ℕ) (n : ℕ) → n ≡ length path → covers (take n path) path ≡ true
all_covers path n whole = subst (λ p. covers p path ≡ true) (sym (take_all n path (omega (arith, whole)))) (covers_itself path)
