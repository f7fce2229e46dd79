-- Up to the last slash.
use Rattle.std.proofs.Common.{◌≡◌, ◌≢◌, ℕ, ◌+◌, ◌-◌, ◌<◌, ◌≤◌, List, [], true, false, length, get_or, take, not, ◌==◌, ap, ◌∙◌, arith}
use Rattle.std.proofs.lemmas.Bool.{ne_eqb}
use Rattle.std.proofs.lemmas.List.Sums.{suffix_len_is}
use Rattle.dconf_by_name.specs.Completions.{directory_of}

module _ (bs : List ℕ) where
  pub at_slash : (k : ℕ) → k < length bs → get_or bs k 0 ≡ 47 → ((i : ℕ) → k < i → i < length bs → get_or bs i 0 ≢ 47) → directory_of bs ≡ take (k + 1) bs
  at_slash k inside is later =
      let passes : (i : ℕ) → k + 1 ≤ i → i < length bs → not (get_or bs i 0 == 47) ≡ true = λ i from to. ap not (ne_eqb (get_or bs i 0) 47 (later i (omega (arith, from)) to)) in
      let here : k + 1 - 1 ≡ k = omega arith in
      let stops : not (get_or bs (k + 1 - 1) 0 == 47) ≡ false = ap (λ j. not (get_or bs j 0 == 47)) here ∙ ap (λ c. not (c == 47)) is in
      let rest = suffix_len_is (λ c. not (c == 47)) bs (k + 1) 0 (omega (arith, inside)) passes (λ some. stops) in
      let cut : length bs - (length bs - (k + 1)) ≡ k + 1 = omega (arith, inside) in
      ap (λ n. take (length bs - n) bs) rest ∙ ap (λ n. take n bs) cut

  pub without_slash : ((i : ℕ) → i < length bs → get_or bs i 0 ≢ 47) → directory_of bs ≡ []
  without_slash none =
      let passes : (i : ℕ) → 0 ≤ i → i < length bs → not (get_or bs i 0 == 47) ≡ true = λ i from to. ap not (ne_eqb (get_or bs i 0) 47 (none i to)) in
      let rest = suffix_len_is (λ c. not (c == 47)) bs 0 0 (omega arith) passes (λ some. absurd (omega (arith, some))) in
      let cut : length bs - (length bs - 0) ≡ 0 = omega arith in
      ap (λ n. take (length bs - n) bs) rest ∙ ap (λ n. take n bs) cut
