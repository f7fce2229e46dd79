-- One part of a body: it lies behind what comes before exactly where it is written there.
use Rattle.std.proofs.Common.{ℕ, ◌+◌, ◌-◌, ◌<◌, ◌≤◌, ◌≡◌, List, ◌∷◌, ◌++◌, length, slice_range, refl, sym, ap, ap₂, ◌∙◌, arith, append_assoc, length-append}
use Rattle.gv_model.specs.Ty.{Ty}
use Rattle.gv_model.specs.Layout.{alignment, round_up}
use Rattle.gv_model.specs.Parts.{Part}
use Rattle.gv_model.specs.Encode.{zeros, start_after, end_after, body_from}
use Rattle.gv_model.proofs.NumberBytes.{slice_mid, le-round_up}
use Rattle.gv_model.proofs.LayoutLaws.{alignment_pos}
use Rattle.gv_model.proofs.PlacedParts.{le-start_after, length-zeros}
use Rattle.gv_layout.proofs.Sizes.{alignment_most, round_up_near}
use Rattle.gv_normal.specs.InPlace.{LiesAfter}
use Rattle.gv_normal.proofs.Pieces.{pieces, length-piece}

-- where a part begins that is aligned behind others
pub begins_after : (t : Ty) (p s : ℕ) → s ≡ round_up (alignment t) p → (p ≤ s) × (s < p + 8)
begins_after t p s e =
    let near = round_up_near (alignment t) p (alignment_pos t) in
    (omega (arith, e, near.0), omega (arith, e, near.1, alignment_most t))

pub ends_there : (b : List ℕ) (t : Ty) (p e : ℕ) → LiesAfter b p (round_up (alignment t) p) e → end_after p (t, slice_range b (round_up (alignment t) p) e) ≡ e
ends_there b t p e h = omega (arith, length-piece b (round_up (alignment t) p) e h.within, h.rises)

-- with the parts behind it
pub joined_there : (b : List ℕ) (t : Ty) (p e q : ℕ) (xs : List Part) → LiesAfter b p (round_up (alignment t) p) e → e ≤ q → body_from e xs ≡ slice_range b e q
    → body_from p ((t, slice_range b (round_up (alignment t) p) e) ∷ xs) ≡ slice_range b p q
unfolding body_from
joined_there b t p e q xs h g rest =
    let s = round_up (alignment t) p in
    let low : p ≤ s = le-round_up (alignment t) p (alignment_pos t) in
    ap₂ ◌++◌ (sym h.padding) (ap (λ (n : ℕ). slice_range b s e ++ body_from n xs) (ends_there b t p e h) ∙ (ap (λ (r : List ℕ). slice_range b s e ++ r) rest ∙ sym (pieces b s e q h.rises g)))
    ∙ sym (pieces b p s q low (omega (arith, h.rises)))

-- a part that was written behind a front of p bytes
pub record IsWrittenAfter (b : List ℕ) (p : ℕ) (x : Part) (rest : List ℕ) : Type 0 where
  pub lies : LiesAfter b p (start_after p x) (end_after p x)
  pub piece : slice_range b (start_after p x) (end_after p x) ≡ x.1
  pub front : List ℕ
  pub size : length front ≡ end_after p x
  pub whole : b ≡ front ++ rest

regroup : (f z x r : List ℕ) → f ++ (z ++ (x ++ r)) ≡ ((f ++ z) ++ x) ++ r
regroup f z x r = simp append_assoc

regroup_one : (f z x r : List ℕ) → f ++ (z ++ (x ++ r)) ≡ (f ++ z) ++ (x ++ r)
regroup_one f z x r = simp append_assoc

pub written_after : (b front rest : List ℕ) (p : ℕ) (x : Part) → length front ≡ p → b ≡ front ++ (zeros (start_after p x - p) ++ (x.1 ++ rest)) → IsWrittenAfter b p x rest
written_after b front rest p x h whole =
    let z = zeros (start_after p x - p) in
    let low = le-start_after p x in
    let start : length (front ++ z) ≡ start_after p x = omega (arith, length-append front z, length-zeros (start_after p x - p)) in
    let one : b ≡ (front ++ z) ++ (x.1 ++ rest) = whole ∙ regroup_one front z x.1 rest in
    let size : length b ≡ start_after p x + (length x.1 + length rest) = ap length one ∙ (length-append (front ++ z) (x.1 ++ rest) ∙ ap₂ ◌+◌ start (length-append x.1 rest)) in
    record {
      lies = record {
        rises = omega arith;
        within = omega arith;
        padding = ap (λ (c : List ℕ). slice_range c p (start_after p x)) whole ∙ slice_mid front z (x.1 ++ rest) p (start_after p x) h (omega (arith, length-zeros (start_after p x - p)));
      };
      piece = ap (λ (c : List ℕ). slice_range c (start_after p x) (end_after p x)) one ∙ slice_mid (front ++ z) x.1 rest (start_after p x) (end_after p x) start refl;
      front = (front ++ z) ++ x.1;
      size = length-append (front ++ z) x.1 ∙ ap (λ (n : ℕ). n + length x.1) start;
      whole = whole ∙ regroup front z x.1 rest;
    }
