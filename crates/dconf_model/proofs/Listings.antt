-- A listing names what is listed: in order and once each it has the same members.
use Rattle.std.specs.Prelude.{◌≡◌, ◌⊎◌, ℕ, zero, suc, true, List, [], ◌∷◌, ◌++◌, length, take, drop, refl, Contains}
use Rattle.std.proofs.Common.{ap, sym, ◌∙◌, inl, inr, arith}
use Rattle.std.specs.Str.{bytes_eq}
use Rattle.std.specs.Cmp.{decided}
use Rattle.std.proofs.lemmas.Slice.Eq.{bytes_eq-Decides}
use Rattle.std.proofs.lemmas.List.Kept.{Contains-dedup, Contains-from_dedup}
use Rattle.std.proofs.lemmas.List.{take-append-drop}
use Rattle.std.proofs.Math.Seq.{take-append_seam, drop-append_seam}
use Rattle.std.proofs.lemmas.List.Elements.{Contains-append_right}
use Rattle.dconf_model.specs.Paths.{first_part}
use Rattle.dconf_model.proofs.ParentLaws.{by_bool}
use Rattle.dconf_model.specs.Locks.{is_below}
use Rattle.dconf_model.specs.Order.{put_by, in_order, listing, is_at_most}
use Rattle.dconf_model.specs.Layers.{parts_below}
use Rattle.dconf_model.proofs.SameBytes.{same_path, path_itself}

-- ---- members

abbrev pub Texts : Type 0
Texts = List (List ℕ)

pub has_first : (t : List ℕ) (ts : Texts) → Contains (t ∷ ts) t
has_first t ts = (0, omega arith, refl)

pub has_later : (u : List ℕ) (ts : Texts) (t : List ℕ) → Contains ts t → Contains (u ∷ ts) t
has_later u ts t h = Contains-append_right (u ∷ []) ts t h

pub none_of_none : (t : List ℕ) → Contains {X = List ℕ} [] t → ⊥
none_of_none t h = absurd (omega (arith, h.1))

pub first_or_later : (u : List ℕ) (ts : Texts) (t : List ℕ) → Contains (u ∷ ts) t → (u ≡ t) ⊎ Contains ts t
first_or_later u ts t (zero, less, e) = inl e
first_or_later u ts t (suc k, less, e) = inr (k, omega (arith, less), e)

-- ---- a listing

put_has : (t : List ℕ) (ts : Texts) (u : List ℕ) → (t ≡ u) ⊎ Contains ts u → Contains (put_by (λ t. t) t ts) u
put_has t [] u (inl e) = (0, omega arith, e)
put_has t [] u (inr h) = absurd (none_of_none u h)
put_has t (y ∷ ts) u h =
    by_bool (is_at_most t y) (Contains (put_by (λ t. t) t (y ∷ ts)) u)
    (λ yes. rw yes (elim h [ inl e ↦ (0, omega arith, e) | inr k ↦ has_later t (y ∷ ts) u k ]))
    (λ other. rw other (elim h [
      | inl e ↦ has_later y (put_by (λ t. t) t ts) u (put_has t ts u (inl e))
      | inr k ↦ elim (first_or_later y ts u k) [
        | inl e ↦ (0, omega arith, e)
        | inr k ↦ has_later y (put_by (λ t. t) t ts) u (put_has t ts u (inr k))
      ]
    ]))

put_from : (t : List ℕ) (ts : Texts) (u : List ℕ) → Contains (put_by (λ t. t) t ts) u → (t ≡ u) ⊎ Contains ts u
put_from t [] u h = first_or_later t [] u h
put_from t (y ∷ ts) u h =
    by_bool (is_at_most t y) ((t ≡ u) ⊎ Contains (y ∷ ts) u)
    (λ yes. first_or_later t (y ∷ ts) u (rw yes at h))
    (λ other. elim (first_or_later y (put_by (λ t. t) t ts) u (rw other at h)) [
      | inl e ↦ inr (0, omega arith, e)
      | inr k ↦ elim (put_from t ts u k) [ inl e ↦ inl e | inr k ↦ inr (has_later y ts u k) ]
    ])

order_has : (ts : Texts) (u : List ℕ) → Contains ts u → Contains (in_order (λ t. t) ts) u
order_has [] u h = h
order_has (t ∷ ts) u h = put_has t (in_order (λ t. t) ts) u (elim (first_or_later t ts u h) [ inl e ↦ inl e | inr k ↦ inr (order_has ts u k) ])

order_from : (ts : Texts) (u : List ℕ) → Contains (in_order (λ t. t) ts) u → Contains ts u
order_from [] u h = h
order_from (t ∷ ts) u h = elim (put_from t (in_order (λ t. t) ts) u h) [ inl e ↦ (0, omega arith, e) | inr k ↦ has_later t ts u (order_from ts u k) ]

pub listing_has : (ts : Texts) (u : List ℕ) → Contains ts u → Contains (listing ts) u
listing_has ts u h = Contains-dedup (decided bytes_eq bytes_eq-Decides) same_path (in_order (λ t. t) ts) u (order_has ts u h)

pub listing_from : (ts : Texts) (u : List ℕ) → Contains (listing ts) u → Contains ts u
listing_from ts u h = order_from ts u (Contains-from_dedup bytes_eq (in_order (λ t. t) ts) u h)

-- ---- below a directory

pub below_itself : (directory rest : List ℕ) → is_below (directory ++ rest) directory ≡ true
below_itself directory rest = path_itself directory (take (length directory) (directory ++ rest)) (sym (take-append_seam directory rest))

pub below_cut : (directory path : List ℕ) → is_below path directory ≡ true → directory ++ drop (length directory) path ≡ path
below_cut directory path e =
    ap (λ (earlier : List ℕ). earlier ++ drop (length directory) path) (same_path directory (take (length directory) path) e)
    ∙ take-append-drop (length directory) path

pub part_here : (directory rest path : List ℕ) → path ≡ directory ++ rest → first_part (drop (length directory) path) ≡ first_part rest
part_here directory rest path e = ap (λ (p : List ℕ). first_part (drop (length directory) p)) e ∙ ap first_part (drop-append_seam directory rest)

pub part_of_path : (directory rest : List ℕ) (paths : Texts) → Contains paths (directory ++ rest) → Contains (parts_below directory paths) (first_part rest)
part_of_path directory rest [] h = absurd (none_of_none (directory ++ rest) h)
part_of_path directory rest (p ∷ paths) h =
    elim (first_or_later p paths (directory ++ rest) h) [
      | inl e ↦ (let below : is_below p directory ≡ true = ap (λ (q : List ℕ). is_below q directory) e ∙ below_itself directory rest in
          rw below (0, omega arith, part_here directory rest p e))
      | inr k ↦ by_bool (is_below p directory) (Contains (parts_below directory (p ∷ paths)) (first_part rest))
          (λ yes. rw yes (has_later (first_part (drop (length directory) p)) (parts_below directory paths) (first_part rest) (part_of_path directory rest paths k)))
          (λ other. rw other (part_of_path directory rest paths k))
    ]

-- a path that has the part
abbrev pub PathOf : List ℕ → Texts → List ℕ → Type 0
PathOf directory paths part = (rest : List ℕ) × Contains paths (directory ++ rest) × (part ≡ first_part rest)

later_path : (directory p : List ℕ) (paths : Texts) (part : List ℕ) → PathOf directory paths part → PathOf directory (p ∷ paths) part
later_path directory p paths part h = (h.0, has_later p paths (directory ++ h.0) h.1, h.2)

pub path_of_part : (directory : List ℕ) (paths : Texts) (part : List ℕ) → Contains (parts_below directory paths) part → PathOf directory paths part
path_of_part directory [] part h = absurd (none_of_none part h)
path_of_part directory (p ∷ paths) part h =
    by_bool (is_below p directory) (PathOf directory (p ∷ paths) part)
    (λ yes. elim (first_or_later (first_part (drop (length directory) p)) (parts_below directory paths) part (rw yes at h)) [
      | inl e ↦ (drop (length directory) p, (0, omega arith, sym (below_cut directory p yes)), sym e)
      | inr k ↦ later_path directory p paths part (path_of_part directory paths part k)
    ])
    (λ other. later_path directory p paths part (path_of_part directory paths part (rw other at h)))
