-- A fault is said once, as long as it is there; and reads are as new as that is promised.
use Rattle.std.proofs.Common.{ℕ, ◌≡◌, Bool, true, false, not, cond, refl, sym, subst, arith}
use Rattle.std.specs.Prelude.{◌&&◌, ◌||◌, if◌then◌else◌, nat_le}
use Rattle.std.proofs.lemmas.Bool.{le-leb}
use Rattle.dconf_waiting.specs.declared.failing.Word.{Word}
use Rattle.dconf_waiting.specs.declared.failing.Word.TheVariants.{Nothing, Say, Said, Over}
use Rattle.dconf_waiting.specs.Faults.{lasts, longest, since_of, is_said_after, is_word, EachFaultIsSaidOnce}
use Rattle.dconf_waiting.specs.Patiences.{later_by}

abbrev by : Bool → Bool → Bool → Bool → Word
by there was lasting said = if not there then (if was then Over else Nothing) else if not lasting then Nothing else if said then Said else Say

minded_by : (there was lasting said : Bool) → is_word (by there was lasting said) ≡ (there && lasting)
minded_by false true lasting said = refl
minded_by false false lasting said = refl
minded_by true was false said = refl
minded_by true was true true = refl
minded_by true was true false = refl

once_by : (there was lasting said : Bool) → by there was lasting said ≡ Say → (said ≡ false) × (there ≡ true) × (lasting ≡ true)
once_by false true lasting said e = absurd (let bad : Over ≡ Say = e in cc)
once_by false false lasting said e = absurd (let bad : Nothing ≡ Say = e in cc)
once_by true was false said e = absurd (let bad : Nothing ≡ Say = e in cc)
once_by true was true true e = absurd (let bad : Said ≡ Say = e in cc)
once_by true was true false e = (refl, refl, refl)

or_left : (a b : Bool) → a ≡ true → a || b ≡ true
or_left true b e = refl
or_left false b e = absurd (let bad : false ≡ true = e in cc)

or_right : (a b : Bool) → b ≡ true → a || b ≡ true
or_right true b e = refl
or_right false b e = e

chosen : (b : Bool) (x y : ℕ) → b ≡ true → cond b x y ≡ x
chosen true x y e = refl
chosen false x y e = absurd (let bad : false ≡ true = e in cc)

left : (b : Bool) (x y : ℕ) → b ≡ false → cond b x y ≡ y
left true x y e = absurd (let bad : true ≡ false = e in cc)
left false x y e = refl

-- it lasts from that moment on
from_then : (tries : Bool) (moment due : ℕ) → due ≡ moment → (not tries || nat_le moment due) ≡ true
from_then tries moment due e = or_right (not tries) (nat_le moment due) (subst (λ d. nat_le moment d ≡ true) (sym e) (le-leb moment moment (omega arith)))

pub each_fault_is_said_once : EachFaultIsSaidOnce
each_fault_is_said_once f true m t now =
    let l : Bool = lasts f m t now in
    record {
      minded = minded_by true f.is_there l f.is_said;
      once = λ e. let o : (f.is_said ≡ false) × (true ≡ true) × (l ≡ true) = once_by true f.is_there l f.is_said e in (o.0, or_right f.is_said l o.2);
      kept = λ s t. or_left f.is_said l s;
      over = λ e. absurd (let bad : true ≡ false = e in cc);
      failed = λ t e. chosen l f.tries f.failed e;
      woken = λ is e.
          let moment : ℕ = later_by (since_of f now) (longest m) in
          from_then t moment (cond (is_said_after f m t now) 0 moment) (left (is_said_after f m t now) 0 moment e);
      due = λ is e.
          let moment : ℕ = later_by (since_of f now) (longest m) in
          from_then t moment (cond (is_said_after f m t now) 0 moment) (left (is_said_after f m t now) 0 moment e);
    }
each_fault_is_said_once f false m t now =
    record {
      minded = minded_by false f.is_there (lasts f m t now) f.is_said;
      once = λ e. absurd (let o : (f.is_said ≡ false) × (false ≡ true) × (lasts f m t now ≡ true) = once_by false f.is_there (lasts f m t now) f.is_said e in let bad : false ≡ true = o.1 in cc);
      kept = λ s t. absurd (let bad : false ≡ true = t in cc);
      over = λ e. refl;
      failed = λ t e. absurd (let bad : false ≡ true = t in cc);
      woken = λ t e. absurd (let bad : false ≡ true = t in cc);
      due = λ t e. absurd (let bad : false ≡ true = t in cc);
    }
