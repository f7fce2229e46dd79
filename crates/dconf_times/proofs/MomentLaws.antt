-- What holds of the times of moments.
use Rattle.std.specs.Prelude.{◌≡◌, ◌≤◌, ◌<◌, ◌-◌, ◌%◌, ℕ, true, false, nat_le, nat_lt, refl, ◌&&◌, if◌then◌else◌}
use Rattle.std.proofs.Common.{sym, ap, subst, arith}
use Rattle.std.proofs.lemmas.Bool.{leb-true, leb-false, ltb-true, ltb-false}
use Rattle.dconf_model.proofs.ParentLaws.{by_bool}
use Rattle.dconf_times.specs.Leaving.{is_guess}
use Rattle.dconf_times.specs.Moments.{IsGuessed, IsOneClock, IsTimed, MomentsAreTimed, by_clock, even, time_of_file}

-- ---- even numbers

even_below : (t : ℕ) → even t ≤ t
even_below t = omega arith

even_order : (a b : ℕ) → a ≤ b → even a ≤ even b
even_order a b le = omega arith

even_rest : (t : ℕ) → even t % 2 ≡ 0
even_rest t = omega arith

no_guess_at : (t : ℕ) → t % 2 ≡ 0 → is_guess t ≡ false
no_guess_at t is = rw is refl

guess_at : (t : ℕ) → t % 2 ≡ 1 → is_guess t ≡ true
guess_at t is = rw is refl

-- ---- moments

by_clock_past : (now boot moment : ℕ) → by_clock now boot moment ≤ now
by_clock_past now boot moment = let h = even_below (now - (boot - moment)) in omega (arith, h)

by_clock_order : (now boot moment later : ℕ) → moment ≤ later → by_clock now boot moment ≤ by_clock now boot later
by_clock_order now boot moment later le = even_order (now - (boot - moment)) (now - (boot - later)) (omega arith)

-- either it is raised, or it is the clock's
abbrev raised : ℕ → ℕ → ℕ → ℕ
raised now noted time = if nat_lt time noted && nat_le noted now then noted else time

by_raise : (now noted time : ℕ) (P : ℕ → Type 0) → (time < noted → noted ≤ now → P noted) → (((time < noted) → (now < noted)) → P time) → P (raised now noted time)
by_raise now noted time P up as_is = by_bool (nat_lt time noted) (P (raised now noted time))
    (λ is. by_bool (nat_le noted now) (P (raised now noted time))
    (λ le. subst P (sym (rw is (rw le refl))) (up (ltb-true time noted is) (leb-true noted now le)))
    (λ gt. subst P (sym (rw is (rw gt refl))) (as_is (λ _. leb-false noted now gt))))
    (λ is_not. subst P (sym (rw is_not refl)) (as_is (λ lt. absurd (let h = ltb-false time noted is_not in let bad : ⊥ = omega arith in bad))))

timed : (now boot noted : ℕ) → IsTimed now boot noted
timed now boot noted = record {
  past = λ moment. by_raise now noted (by_clock now boot moment) (λ t. t ≤ now) (λ lt le. le) (λ _. by_clock_past now boot moment);
  in_order = λ moment later le.
      let first = by_clock now boot moment in
      let second = by_clock now boot later in
      let order = by_clock_order now boot moment later le in
      by_raise now noted first (λ t. t ≤ raised now noted second)
      (λ lt past. by_raise now noted second (λ t. noted ≤ t) (λ _ _. omega arith) (λ so. by_bool (nat_lt second noted) (noted ≤ second) (λ is. let bad = so (ltb-true second noted is) in omega arith) (λ is_not. ltb-false second noted is_not)))
      (λ _. by_raise now noted second (λ t. first ≤ t) (λ lt past. omega (arith, order, lt)) (λ _. order));
  own = λ moment past. by_raise now noted (by_clock now boot moment) (λ t. noted ≤ t) (λ _ _. omega arith)
      (λ so. by_bool (nat_lt (by_clock now boot moment) noted) (noted ≤ by_clock now boot moment) (λ is. let bad = so (ltb-true (by_clock now boot moment) noted is) in absurd (let b : ⊥ = omega arith in b)) (λ is_not. ltb-false (by_clock now boot moment) noted is_not));
  put_back = λ moment lt. by_raise now noted (by_clock now boot moment) (λ t. t ≡ by_clock now boot moment) (λ _ le. absurd (let bad : ⊥ = omega arith in bad)) (λ _. refl);
  no_guess = λ moment even_one. by_raise now noted (by_clock now boot moment) (λ t. is_guess t ≡ false) (λ _ _. even_one) (λ _. no_guess_at (by_clock now boot moment) (even_rest (now - (boot - moment))));
}

one_clock : IsOneClock
one_clock now boot other_now other_boot moment same before other_before young = ap even (omega arith)

guessed : (written touched : ℕ) → IsGuessed written touched
guessed written touched = record {
  guess = guess_at (time_of_file written touched) (omega arith);
  later = (omega arith, omega arith);
  hardly = omega arith;
}

pub are_timed : MomentsAreTimed
are_timed = record { timed = timed; one_clock = one_clock; guessed = guessed }
