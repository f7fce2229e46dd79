-- What becomes of a change that waits, whatever is known of it; the order in which they wait, and how many no longer do.
use Rattle.std.proofs.Common.{ℕ, ◌≡◌, ◌+◌, ◌<◌, ◌≤◌, Bool, true, false, cond, List, [], ◌∷◌, map, length, get_or, refl, sym, subst, arith}
use Rattle.std.specs.Prelude.{◌&&◌, ◌||◌, ◌↔◌, if◌then◌else◌, ◌==◌, nat_lt, filter}
use Rattle.std.proofs.lemmas.Bool.{ltb-true, le-ltb}
use Rattle.std.proofs.lemmas.List.{length-map, get_or-map}
use Rattle.std.proofs.lemmas.List.Sums.{sum_by-cons}
use Rattle.std.proofs.lemmas.List.Kept.{IsNonDecreasingBy-filter}
use Rattle.dconf_waiting.specs.declared.fate.Fate.{Fate}
use Rattle.dconf_waiting.specs.declared.fate.Fate.TheVariants.{Waits, Written, Refused, Overtaken}
use Rattle.dconf_waiting.specs.declared.fate.Waiter.{Waiter}
use Rattle.dconf_waiting.specs.Fates.{IsInTurn, fate_number, fate_of, has_fate, is_made, is_overtaken, marked, more, so_many, waits}
use Rattle.dconf_waiting.specs.WaitingLaws.{EachIsCountedOnce, NothingIsLost, WhatWaitsIsInOrder}

-- ---- one change

abbrev by : Bool → Bool → Bool → Bool → Fate
by refused made taken over = if refused then Refused else if made then Written else if taken && over then Overtaken else Waits

written_by : (r m t o : Bool) → (by r m t o ≡ Written) ↔ ((m ≡ true) × (r ≡ false))
written_by true m t o = ((λ e. absurd (let bad : Refused ≡ Written = e in cc)), (λ p. absurd (let bad : true ≡ false = p.1 in cc)))
written_by false true t o = ((λ e. (refl, refl)), (λ p. refl))
written_by false false true true = ((λ e. absurd (let bad : Overtaken ≡ Written = e in cc)), (λ p. absurd (let bad : false ≡ true = p.0 in cc)))
written_by false false true false = ((λ e. absurd (let bad : Waits ≡ Written = e in cc)), (λ p. absurd (let bad : false ≡ true = p.0 in cc)))
written_by false false false o = ((λ e. absurd (let bad : Waits ≡ Written = e in cc)), (λ p. absurd (let bad : false ≡ true = p.0 in cc)))

refused_by : (r m t o : Bool) → (by r m t o ≡ Refused) ↔ (r ≡ true)
refused_by true m t o = ((λ e. refl), (λ p. refl))
refused_by false true t o = ((λ e. absurd (let bad : Written ≡ Refused = e in cc)), (λ p. absurd (let bad : false ≡ true = p in cc)))
refused_by false false true true = ((λ e. absurd (let bad : Overtaken ≡ Refused = e in cc)), (λ p. absurd (let bad : false ≡ true = p in cc)))
refused_by false false true false = ((λ e. absurd (let bad : Waits ≡ Refused = e in cc)), (λ p. absurd (let bad : false ≡ true = p in cc)))
refused_by false false false o = ((λ e. absurd (let bad : Waits ≡ Refused = e in cc)), (λ p. absurd (let bad : false ≡ true = p in cc)))

overtaken_by : (r m t o : Bool) → by r m t o ≡ Overtaken → o ≡ true
overtaken_by true m t o e = absurd (let bad : Refused ≡ Overtaken = e in cc)
overtaken_by false true t o e = absurd (let bad : Written ≡ Overtaken = e in cc)
overtaken_by false false true true e = refl
overtaken_by false false true false e = absurd (let bad : Waits ≡ Overtaken = e in cc)
overtaken_by false false false o e = absurd (let bad : Waits ≡ Overtaken = e in cc)

waits_by : (r m t o : Bool) → r ≡ false → m ≡ false → (t && o) ≡ false → by r m t o ≡ Waits
waits_by true m t o p q s = absurd (let bad : true ≡ false = p in cc)
waits_by false true t o p q s = absurd (let bad : true ≡ false = q in cc)
waits_by false false true true p q s = absurd (let bad : true ≡ false = s in cc)
waits_by false false true false p q s = refl
waits_by false false false o p q s = refl

made_by : (taken wrote asks there : Bool) → taken ≡ false → (asks && there) ≡ false → ((taken && wrote) || (asks && there)) ≡ false
made_by true wrote asks there p q = absurd (let bad : true ≡ false = p in cc)
made_by false wrote asks there p q = q

and_left : (a b : Bool) → a && b ≡ true → a ≡ true
and_left true b e = refl
and_left false b e = e

and_right : (a b : Bool) → a && b ≡ true → b ≡ true
and_right true b e = e
and_right false b e = absurd (let bad : false ≡ true = e in cc)

not_and : (t a b o : Bool) → o ≡ false → (t && (a && (b && o))) ≡ false
not_and true true true o e = e
not_and true true false o e = refl
not_and true false b o e = refl
not_and false a b o e = refl

untaken : (t o : Bool) → t ≡ false → (t && o) ≡ false
untaken true o e = absurd (let bad : true ≡ false = e in cc)
untaken false o e = refl

of_itself : (a : Bool) (n : ℕ) → (a && (a && nat_lt n n)) ≡ false
of_itself true n = le-ltb n n (omega arith)
of_itself false n = refl

there_by : (r wrote taken asks x y o : Bool) → asks ≡ false → by r ((taken && wrote) || (asks && x)) taken o ≡ by r ((taken && wrote) || (asks && y)) taken o
there_by r wrote taken false x y o e = refl
there_by r wrote taken true x y o e = absurd (let bad : true ≡ false = e in cc)

pub nothing_is_lost : NothingIsLost
nothing_is_lost is_written w =
    let m : Bool = is_made is_written w in
    let o : Bool = is_overtaken w.edit w.newest in
    let l : Bool = nat_lt w.edit.number w.newest.number in
    record {
      written = written_by w.is_refused m w.is_tried o;
      refused = refused_by w.is_refused m w.is_tried o;
      overtaken = λ e.
          let is : o ≡ true = overtaken_by w.is_refused m w.is_tried o e in
          let rest : (w.newest.is_alone && l) ≡ true = and_right w.edit.is_alone (w.newest.is_alone && l) is in (
            ltb-true w.edit.number w.newest.number (and_right w.newest.is_alone l rest),
            and_left w.edit.is_alone (w.newest.is_alone && l) is,
            and_left w.newest.is_alone l rest,
            of_itself w.newest.is_alone w.newest.number,
          );
      there = λ is. there_by w.is_refused is_written w.is_tried w.asks is w.is_there o;
      untried = λ t r a. waits_by w.is_refused m w.is_tried o r (made_by w.is_tried is_written w.asks w.is_there t a) (untaken w.is_tried o t);
      stays = λ made r le.
          waits_by w.is_refused m w.is_tried o r made
          (not_and w.is_tried w.edit.is_alone w.newest.is_alone l (le-ltb w.edit.number w.newest.number le));
    }

-- ---- the line

turn_of_map : (is_written : Bool) (line : List Waiter) → IsInTurn line → IsInTurn (map (marked is_written) line)
turn_of_map is_written line ordered = λ i j d le lt.
    let m : Waiter → Waiter = marked is_written in
    let inside : j < length line = subst (λ n. j < n) (length-map line m) lt in
    let before : i < length line = omega arith in
    subst (λ (x : Waiter). x.set ≤ (get_or (map m line) j d).set) (sym (get_or-map m line i d d before))
    (subst (λ (y : Waiter). (get_or line i d).set ≤ y.set) (sym (get_or-map m line j d d inside)) (ordered i j d le inside))

pub what_waits_is_in_order : WhatWaitsIsInOrder
what_waits_is_in_order is_written line now h =
    subst (λ (l : List Waiter). IsInTurn l) (sym h.still)
    (IsNonDecreasingBy-filter (λ (w : Waiter). w.set) waits (map (marked is_written) h.turns) (turn_of_map is_written h.turns h.in_turn))

-- ---- how many are settled

-- one more of one fate, in the line and in the counts
abbrev one_of : Fate → ℕ → ℕ
one_of fate n = cond (fate_number fate == n) 1 0

fate_is_one : (fate : Fate) → one_of fate 1 + (one_of fate 2 + (one_of fate 3 + one_of fate 0)) ≡ 1
fate_is_one Waits = refl
fate_is_one Written = refl
fate_is_one Refused = refl
fate_is_one Overtaken = refl

more_of : (fate : ℕ) (w : Waiter) (line : List Waiter) → so_many fate (w ∷ line) ≡ cond (has_fate fate w) 1 0 + so_many fate line
more_of fate w line = sum_by-cons (λ (x : Waiter). cond (has_fate fate x) 1 0) w line

one_longer : (b : Bool) (w : Waiter) (l : List Waiter) → length (cond b (w ∷ l) l) ≡ cond b 1 0 + length l
one_longer true w l = omega arith
one_longer false w l = omega arith

abbrev still_in : Bool → List Waiter → ℕ
still_in is_written line = length (filter waits (map (marked is_written) line))

abbrev of_fate : Bool → ℕ → List Waiter → ℕ
of_fate is_written fate line = so_many fate (map (marked is_written) line)

each_has_one : (is_written : Bool) (line : List Waiter)
    → of_fate is_written 1 line + (of_fate is_written 2 line + (of_fate is_written 3 line + still_in is_written line)) ≡ length line
each_has_one is_written [] = refl
each_has_one is_written (w ∷ line) =
    let fate : Fate = fate_of is_written w in
    let rest : of_fate is_written 1 line + (of_fate is_written 2 line + (of_fate is_written 3 line + still_in is_written line)) ≡ length line = each_has_one is_written line in
    let first : of_fate is_written 1 (w ∷ line) ≡ one_of fate 1 + of_fate is_written 1 line = more_of 1 (marked is_written w) (map (marked is_written) line) in
    let second : of_fate is_written 2 (w ∷ line) ≡ one_of fate 2 + of_fate is_written 2 line = more_of 2 (marked is_written w) (map (marked is_written) line) in
    let third : of_fate is_written 3 (w ∷ line) ≡ one_of fate 3 + of_fate is_written 3 line = more_of 3 (marked is_written w) (map (marked is_written) line) in
    let longer : still_in is_written (w ∷ line) ≡ one_of fate 0 + still_in is_written line =
    one_longer (fate_number fate == 0) (marked is_written w) (filter waits (map (marked is_written) line)) in
    let one : one_of fate 1 + (one_of fate 2 + (one_of fate 3 + one_of fate 0)) ≡ 1 = fate_is_one fate in
    omega (arith, first, second, third, longer, one, rest)

counted_by : (is_written : Bool) (s o one two three waiting long : ℕ) → one + (two + (three + waiting)) ≡ long → s + (o + long) < 18446744073709551616 →
    (cond is_written (more (more (more (more s one) two) o) three) (more (more s one) two) + (cond is_written 0 (more o three) + waiting)) ≡ s + (o + long)
counted_by true s o one two three waiting long e f = omega arith
counted_by false s o one two three waiting long e f = omega arith

pub each_is_counted_once : EachIsCountedOnce
each_is_counted_once true line t f =
    counted_by true t.settled t.overtaken (of_fate true 1 line) (of_fate true 2 line) (of_fate true 3 line) (still_in true line) (length line) (each_has_one true line) f
each_is_counted_once false line t f =
    counted_by false t.settled t.overtaken (of_fate false 1 line) (of_fate false 2 line) (of_fate false 3 line) (still_in false line) (length line) (each_has_one false line) f
