-- Places past the end of the bytes are all alike.
use Rattle.std.proofs.Common.{◌≡◌, ◌⊎◌, inl, inr, ℕ, ◌<◌, ◌≤◌, Bool, true, false, nat_le, refl, ap, arith}
use Rattle.gv_model.specs.Ty.{Ty}
use Rattle.gv_model.specs.Layout.{round_up}
use Rattle.gv_model.specs.Children.{Child}
use Rattle.gv_layout.specs.Places.{clamp}
use Rattle.gv_layout.proofs.Sizes.{round_up_near}

abbrev pub child : Ty → ℕ → ℕ → Child
child t from to = record { type = t; from = from; to = to }

alike : (n p q : ℕ) → clamp n p ≡ clamp n q → (p ≡ q) ⊎ ((n < p) × (n < q))
alike n p q e = go (nat_le p n) refl
  where
    go : (c : Bool) → nat_le p n ≡ c → (p ≡ q) ⊎ ((n < p) × (n < q))
    go true h = let within : p ≤ n = grind arith in inl (omega arith)
    go false h = let past : n < p = grind arith in inr (omega arith, omega arith)

pub alike_round_up : (n a p q : ℕ) → 0 < a → clamp n p ≡ clamp n q → clamp n (round_up a p) ≡ clamp n (round_up a q)
alike_round_up n a p q h e = go (alike n p q e)
  where
    go : (p ≡ q) ⊎ ((n < p) × (n < q)) → clamp n (round_up a p) ≡ clamp n (round_up a q)
    go (inl same) = ap (λ x. clamp n (round_up a x)) same
    go (inr past) = omega (arith, (round_up_near a p h).0, (round_up_near a q h).0)
