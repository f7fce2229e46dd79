-- A name that ends in a slash is found only where the key of a value's item does.
use Rattle.std.specs.Prelude.{IsTrue}
use Rattle.std.proofs.Common.{◌≡◌, ◌↔◌, ℕ, ◌+◌, ◌-◌, ◌<◌, Bool, true, List, [], ◌∷◌, ◌++◌, length, get_or, take, refl, sym, ap, ◌∙◌, arith, subst, length-append, get_or-append-add, ⊎_elim}
use Rattle.std.proofs.Math.Seq.{get_or-append_seam}
use Rattle.std.proofs.lemmas.Bool.Decides.{Decides-eqb}
use Rattle.std.proofs.lemmas.List.{take_more, take_all}
use Rattle.std.proofs.lemmas.Slice.Eq.{ends_is}
use Rattle.dconf_model.specs.Names.{HasParents, IsItem, joined}
use Rattle.dconf_model.specs.Paths.{ends_with_slash}
use Rattle.dconf_model.specs.Table.{Table as Region}
use Rattle.dconf_model.specs.Table.{key, value_kind}
use Rattle.dconf_model.proofs.PathLaws.{ends_in}
use Rattle.gvdb_read.specs.Lookups.{HasDirectoryValue, IsFound}
use Rattle.gvdb_read.proofs.CoveredPaths.{IsPrefixAt, HasCovering, covering, covers_itself}

-- the last byte is a slash
abbrev pub EndsAt : List ℕ → Type 0
EndsAt text = (0 < length text) × (get_or text (length text - 1) 0 ≡ 47)

ends_at : (text : List ℕ) → ends_with_slash text ≡ true → EndsAt text
ends_at text e =
    let prefix = take (length text - 1) text in
    let whole : text ≡ prefix ++ 47 ∷ [] = (ends_is Decides-eqb text (47 ∷ []) (ends_with_slash text) refl).0 e in
    let n : length text ≡ length prefix + 1 = ap length whole ∙ length-append prefix (47 ∷ []) in
    let at : length text - 1 ≡ length prefix = omega (arith, n) in
    (omega (arith, n), ap (λ k. get_or text k 0) at ∙ (ap (λ (t : List ℕ). get_or t (length prefix) 0) whole ∙ get_or-append_seam prefix 47 [] 0))

at_ends : (text : List ℕ) → EndsAt text → ends_with_slash text ≡ true
at_ends text e =
    let k = length text - 1 in
    ends_in text (take k text)
    (sym (take_all (k + 1) text (omega (arith, e.0))) ∙ (take_more text k 0 (omega (arith, e.0)) ∙ ap (λ b. take k text ++ b ∷ []) e.1))

own_ends : (above own : List ℕ) → 0 < length own → ends_with_slash (above ++ own) ≡ true → ends_with_slash own ≡ true
own_ends above own some e =
    let h = ends_at (above ++ own) e in
    let n : length (above ++ own) ≡ length above + length own = length-append above own in
    let at : length (above ++ own) - 1 ≡ length above + (length own - 1) = omega (arith, n, some) in
    at_ends own (some, sym (get_or-append-add above own (length own - 1) 0) ∙ (ap (λ k. get_or (above ++ own) k 0) (sym at) ∙ h.1))

key_ends : (t : Region) (i : ℕ) (parents : List ℕ) → HasParents t i parents → ends_with_slash (joined t i parents) ≡ true → IsItem t i × (ends_with_slash (key t i) ≡ true)
key_ends t i [] chain ends = (chain.0, ends)
key_ends t i (p ∷ ps) chain ends = (chain.0, own_ends (joined t p ps) (key t i) chain.2 ends)

found_ends : (t : Region) (name : List ℕ) → IsFound t name value_kind → ends_with_slash name ≡ true → HasDirectoryValue t
found_ends t name found ends =
    let wanted = found.1.0.fits.wanted in
    let h = key_ends t found.0 wanted.named.parents wanted.named.chain (ap ends_with_slash wanted.named.spelled ∙ ends) in
    (found.0, record { is_item = h.0; of_kind = wanted.of_kind; ends = h.1 })

prefix_ends : (path name : List ℕ) (k : ℕ) → IsPrefixAt path name k → ends_with_slash name ≡ true
prefix_ends path name k at = ends_in name (take k path) (at.whole ∙ (take_more path k 0 at.within ∙ ap (λ b. take k path ++ b ∷ []) at.slash))

-- where no name ends in a slash, a path is covered by itself alone
pub itself_alone : (t : Region) (path : List ℕ) (b : Bool) → ¬ HasDirectoryValue t → (IsTrue b ↔ IsFound t path value_kind) → IsTrue b ↔ HasCovering (λ name. IsFound t name value_kind) path
itself_alone t path b none iff = (
  λ e. (path, covers_itself path, iff.0 e),
  λ h. ⊎_elim (λ (same : h.0 ≡ path). iff.1 (subst (λ name. IsFound t name value_kind) same h.2))
      (λ (at : (k : ℕ) × IsPrefixAt path h.0 k). absurd (none (found_ends t h.0 h.2 (prefix_ends path h.0 at.0 at.1))))
      (covering path h.0 h.1),
)
