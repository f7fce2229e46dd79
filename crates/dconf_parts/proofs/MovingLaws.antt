-- Each byte is moved once.
use Rattle.std.proofs.Common.{ℕ, ◌≡◌, ◌⊎◌, inl, inr, ◌+◌, ◌-◌, ◌≤◌, ◌<◌, Bool, true, false, not, min, max, refl, arith, eqb-true}
use Rattle.std.specs.Prelude.{if◌then◌else◌, ◌==◌, nat_le, nat_lt}
use Rattle.std.proofs.lemmas.Bool.{eqb-false, leb-true, leb-false, ltb-false}
use Rattle.dconf_parts.specs.declared.moving.NextMove.{NextMove}
use Rattle.dconf_parts.specs.declared.moving.NextMove.TheVariants.{On, All, End, Failed}
use Rattle.dconf_parts.specs.Moving.{EachByteIsMoved, IsMovedWell, moved, moved_to}

-- ---- how many

abbrev by_fault : Bool → ℕ → ℕ → ℕ → ℕ
by_fault done wanted at count = if done then at + min count (wanted - at) else at

kept : (done : Bool) (wanted at count : ℕ) → at ≤ by_fault done wanted at count
kept true wanted at count = omega arith
kept false wanted at count = omega arith

within : (done : Bool) (wanted at count : ℕ) → at ≤ wanted → by_fault done wanted at count ≤ wanted
within true wanted at count h = omega (arith, h)
within false wanted at count h = h

-- ---- what comes next

abbrev next : Bool → Bool → Bool → Bool → NextMove
next again done full none = if again then On else if not done then Failed else if full then All else if none then End else On

full_by : (again done full none : Bool) → next again done full none ≡ All → full ≡ true
full_by true done full none e = cc
full_by false false full none e = cc
full_by false true true none e = refl
full_by false true false true e = cc
full_by false true false false e = cc

on_by : (again done full none : Bool) → next again done full none ≡ On → (again ≡ true) ⊎ ((done ≡ true) × ((full ≡ false) × (none ≡ false)))
on_by true done full none e = inl refl
on_by false false full none e = cc
on_by false true true none e = cc
on_by false true false true e = cc
on_by false true false false e = inr (refl, (refl, refl))

fault_by : (again done full none : Bool) → done ≡ false → again ≡ false → next again done full none ≡ Failed
fault_by true done full none d a = cc
fault_by false true full none d a = cc
fault_by false false full none d a = refl

nearer : (done : Bool) (wanted at count : ℕ) → done ≡ true → nat_le wanted (by_fault done wanted at count) ≡ false → (count == 0) ≡ false → at < by_fault done wanted at count
nearer false wanted at count d f n = cc
nearer true wanted at count d f n =
    let less = leb-false wanted (at + min count (wanted - at)) f in
    let some = eqb-false count 0 n in
    omega (arith, less, some)

goes_on : (wanted at errno count : ℕ) → (errno == 4 ≡ true) ⊎ ((errno == 0 ≡ true) × ((nat_le wanted (moved_to wanted at errno count) ≡ false) × (count == 0 ≡ false)))
    → (errno ≡ 4) ⊎ (at < moved_to wanted at errno count)
goes_on wanted at errno count (inl e) = inl (eqb-true errno 4 e)
goes_on wanted at errno count (inr h) = inr (nearer (errno == 0) wanted at count h.0 h.1.0 h.1.1)

all_moved : (wanted at errno count : ℕ) → at ≤ wanted → moved wanted at errno count ≡ All → moved_to wanted at errno count ≡ wanted
all_moved wanted at errno count h e =
    let above = leb-true wanted (moved_to wanted at errno count) (full_by (errno == 4) (errno == 0) (nat_le wanted (moved_to wanted at errno count)) (count == 0) e) in
    let below = within (errno == 0) wanted at count h in
    omega (arith, above, below)

-- ---- what stands behind

cut_by : (cuts : Bool) (stood written : ℕ) → nat_lt written stood ≡ cuts → (if cuts then written else max stood written) ≡ written
cut_by true stood written e = refl
cut_by false stood written e = let h = ltb-false written stood e in omega (arith, h)

pub each_byte_is_moved : EachByteIsMoved
each_byte_is_moved = record {
  moved = λ wanted at errno count. record {
    kept = kept (errno == 0) wanted at count;
    within = within (errno == 0) wanted at count;
    all = all_moved wanted at errno count;
    on = λ e. goes_on wanted at errno count (on_by (errno == 4) (errno == 0) (nat_le wanted (moved_to wanted at errno count)) (count == 0) e);
    fault = λ done again. fault_by (errno == 4) (errno == 0) (nat_le wanted (moved_to wanted at errno count)) (count == 0) done again;
  };
  cut = λ stood written. cut_by (nat_lt written stood) stood written refl;
}
