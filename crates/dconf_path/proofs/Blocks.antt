-- What the masks of a block of sixteen bytes say of these.
use Rattle.std.proofs.Common.{◌≡◌, ◌≢◌, ℕ, ◌+◌, ◌-◌, ◌%◌, ◌^◌, ◌<◌, ◌≤◌, List, Bool, true, false, cond, eqb, leb, length, get_or, map, replicate, sym, ap, ◌∙◌, arith, w8, subst}
use Rattle.std.specs.Simd.Lanes.{zip2, sel_l, mask_l, top, chunk}
use Rattle.std.proofs.lemmas.Simd.{none_from_empty_mask, bitmask_splat, tops_compared, mask_l-mod, zip2_splat_left, length-chunk, get_or-chunk, length-zip2, get_or-zip2, length-sel_l, get_or-sel_l, get_or-replicate}
use Rattle.std.proofs.lemmas.Bool.{leb-false, eqb-false, eq-eqb, eqb-true}
use Rattle.std.proofs.lemmas.List.{length-map, take_all}

abbrev pub in_mask : (ℕ → ℕ → Bool) → ℕ → ℕ → ℕ
in_mask t a b = cond (t a b) 255 0

module _ (bytes : List ℕ) (i : ℕ) (room : i + 16 ≤ length bytes) where
  long : length (chunk i 16 bytes) ≡ 16
  long = length-chunk i 16 bytes room

  -- no byte of the block is at least 128
  pub none_high : eqb (mask_l (map (top 7) (zip2 (in_mask leb) (replicate 16 128) (chunk i 16 bytes))) % 2 ^ 64) 0 ≡ true → (k : ℕ) → i ≤ k → k < i + 16 → get_or bytes k 0 < 128
  none_high e k from to =
      let tops = tops_compared w8 leb (replicate 16 128) (chunk i 16 bytes) ∙ zip2_splat_left leb 128 16 (chunk i 16 bytes) long in
      let small = mask_l-mod (map (leb 128) (chunk i 16 bytes)) 64 (omega (arith, length-map (chunk i 16 bytes) (leb 128), long)) in
      let empty = sym (ap (λ ms. mask_l ms % 2 ^ 64) tops ∙ small) ∙ eqb-true _ _ e in
      leb-false _ _ (none_from_empty_mask (leb 128) bytes i 16 0 room empty k from to)

  -- none is equal to that one
  pub none_equal : (y : ℕ) → eqb (mask_l (map (top 7) (zip2 (in_mask eqb) (chunk i 16 bytes) (replicate 16 y))) % 2 ^ 64) 0 ≡ true → (k : ℕ) → i ≤ k → k < i + 16 → get_or bytes k 0 ≢ y
  none_equal y e k from to =
      let empty = sym (bitmask_splat w8 eqb (chunk i 16 bytes) 16 y long (omega arith)) ∙ eqb-true _ _ e in
      eqb-false _ _ (none_from_empty_mask (λ x. eqb x y) bytes i 16 0 room empty k from to)

-- of two blocks: those of the second where the first has a slash, and zero elsewhere
abbrev pub after_slash : List ℕ → List ℕ → List ℕ
after_slash xs ys = sel_l (map (top 7) (zip2 (in_mask eqb) xs (replicate 16 47))) ys (replicate 16 0)

module _ (xs ys : List ℕ) (p : length xs ≡ 16) (q : length ys ≡ 16) where
  tops : map (top 7) (zip2 (in_mask eqb) xs (replicate 16 47)) ≡ zip2 eqb xs (replicate 16 47)
  tops = tops_compared w8 eqb xs (replicate 16 47)

  tops_long : length (zip2 eqb xs (replicate 16 47)) ≡ 16
  tops_long = length-zip2 eqb xs (replicate 16 47) p ∙ p

  pub after_slash_long : length (after_slash xs ys) ≡ 16
  after_slash_long =
      ap (λ ms. length (sel_l ms ys (replicate 16 0))) tops ∙ (length-sel_l _ ys (replicate 16 0) (tops_long ∙ sym q) tops_long ∙ tops_long)

  pub after_slash_at : (k : ℕ) → k < 16 → get_or (after_slash xs ys) k 0 ≡ cond (eqb (get_or xs k 0) 47) (get_or ys k 0) 0
  after_slash_at k lt =
      ap (λ ms. get_or (sel_l ms ys (replicate 16 0)) k 0) tops
      ∙ (get_or-sel_l _ ys (replicate 16 0) k 0 (omega (arith, tops_long)) (omega (arith, q)) lt
      ∙ (λ j. cond ((get_or-zip2 eqb xs (replicate 16 47) k 0 0 false (omega (arith, p)) lt ∙ ap (eqb (get_or xs k 0)) (get_or-replicate 16 k 47 0 lt)) j) (get_or ys k 0) (get_or-replicate 16 k 0 0 lt j)))

module _ (bytes : List ℕ) (i : ℕ) (room : i + 16 < length bytes) where
  first : List ℕ
  first = chunk i 16 bytes

  first_long : length (chunk i 16 bytes) ≡ 16
  first_long = length-chunk i 16 bytes (omega (arith, room))

  second_long : length (chunk (i + 1) 16 bytes) ≡ 16
  second_long = length-chunk (i + 1) 16 bytes (omega (arith, room))

  chosen_long : length (after_slash (chunk i 16 bytes) (chunk (i + 1) 16 bytes)) ≡ 16
  chosen_long = after_slash_long (chunk i 16 bytes) (chunk (i + 1) 16 bytes) first_long second_long

  chosen_at : (k : ℕ) → k < 16 → get_or bytes (i + k) 0 ≡ 47 → get_or (after_slash (chunk i 16 bytes) (chunk (i + 1) 16 bytes)) k 0 ≡ get_or bytes (i + k + 1) 0
  chosen_at k lt slash =
      after_slash_at (chunk i 16 bytes) (chunk (i + 1) 16 bytes) first_long second_long k lt
      ∙ (ap (λ b. cond b (get_or (chunk (i + 1) 16 bytes) k 0) 0) (eq-eqb _ _ (get_or-chunk i 16 bytes k 0 lt ∙ slash))
      ∙ (get_or-chunk (i + 1) 16 bytes k 0 lt ∙ ap (λ n. get_or bytes n 0) (omega arith)))

  -- none is a slash before a slash
  pub none_twice : eqb (mask_l (map (top 7) (zip2 (in_mask eqb) (after_slash (chunk i 16 bytes) (chunk (i + 1) 16 bytes)) (replicate 16 47))) % 2 ^ 64) 0 ≡ true
      → (k : ℕ) → i ≤ k → k < i + 16 → get_or bytes k 0 ≡ 47 → get_or bytes (k + 1) 0 ≢ 47
  none_twice e k from to slash other =
      let v = after_slash (chunk i 16 bytes) (chunk (i + 1) 16 bytes) in
      let back : i + (k - i) ≡ k = omega (arith, from) in
      let whole : mask_l (map (λ x. eqb x 47) (chunk 0 16 v)) ≡ 0 =
      ap (λ l. mask_l (map (λ x. eqb x 47) l)) (take_all 16 v (omega (arith, chosen_long)))
      ∙ (sym (bitmask_splat w8 eqb v 16 47 chosen_long (omega arith)) ∙ eqb-true _ _ e) in
      let none = none_from_empty_mask (λ x. eqb x 47) v 0 16 0 (omega (arith, chosen_long)) whole (k - i) (omega arith) (omega (arith, from, to)) in
      let here = subst (λ n. get_or bytes n 0 ≡ 47) (sym back) slash in
      let is : get_or v (k - i) 0 ≡ 47 = chosen_at (k - i) (omega (arith, from, to)) here ∙ (ap (λ n. get_or bytes (n + 1) 0) back ∙ other) in
      eqb-false _ _ none is
