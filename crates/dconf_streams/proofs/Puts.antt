-- Writing bytes piece by piece.
use Rattle.std.proofs.Common.{◌≡◌, ◌+◌, ◌-◌, ℕ, List, [], length, take, drop, sym, ap, subst, ◌∙◌, Option, arith, length-drop, take-add}
use Rattle.std.proofs.lemmas.List.{drop-drop, take_all}
use Rattle.dconf_streams.specs.declared.counted.Counted.{Counted}
use Rattle.dconf_streams.specs.Counted.{Grew}
use Rattle.dconf_streams.proofs.TransferLaws.{Grew-trans}

module _ {W : Type 0} (contents : W → Option (List ℕ)) where
  -- the first n of the bytes were written, and the others are left
  pub record HasPut (old new : Counted W) (bytes rest : List ℕ) : Type 0 where
    pub n : ℕ
    pub left : rest ≡ drop n bytes
    pub grown : Grew contents old new (take n bytes)

  -- the first n of the rest were written, too
  pub HasPut-more : (old mid new : Counted W) (bytes rest : List ℕ) (n : ℕ) → HasPut old mid bytes rest
      → Grew contents mid new (take n rest) → HasPut old new bytes (take (length rest - n) (drop n rest))
  HasPut-more old mid new bytes rest n h more =
      let after : Grew contents mid new (take n (drop h.n bytes)) = subst (λ (l : List ℕ). Grew contents mid new (take n l)) h.left more in
      let whole : take (length rest - n) (drop n rest) ≡ drop n rest = take_all (length rest - n) (drop n rest) (omega (arith, length-drop n rest)) in
      record {
        n = h.n + n;
        left = whole ∙ ap (drop n) h.left ∙ drop-drop n h.n bytes;
        grown = subst (Grew contents old new) (sym (take-add h.n n bytes)) (Grew-trans contents old mid new (take h.n bytes) (take n (drop h.n bytes)) h.grown after);
      }

  -- of nothing there is no rest
  pub HasPut-none : (old new : Counted W) (bytes rest : List ℕ) → HasPut old new bytes rest → bytes ≡ [] → length rest ≡ 0
  HasPut-none old new bytes rest h e =
      let left = ap length h.left in
      let dropped = length-drop h.n bytes in
      let none = ap length e in
      omega (arith, left, dropped, none)
