-- Each fault of a call has one answer.
use Rattle.std.proofs.Common.{◌≡◌, ◌⊎◌, ◌↔◌, ◌∙◌, sym, ap, Bool, true, false, refl, inl, inr}
use Rattle.dconf_verdicts.specs.declared.faults.FaultKind.{FaultKind}
use Rattle.dconf_verdicts.specs.declared.faults.FaultKind.TheVariants.{Rights, ReadOnly, Name, Kind, Damage, Scarce, Moment, Full, Disk, Missing, Unsupported, Wait, Other}
use Rattle.dconf_verdicts.specs.declared.answers.FileCall.{FileCall}
use Rattle.dconf_verdicts.specs.declared.answers.FileCall.TheVariants.{Open, Lock, SetAside, Place}
use Rattle.dconf_verdicts.specs.declared.answers.FaultAnswer.{FaultAnswer}
use Rattle.dconf_verdicts.specs.declared.answers.FaultAnswer.TheVariants.{Own, Soon, Later, Leased, Taken, Nameless, Nothing, Unsure}
use Rattle.dconf_verdicts.specs.Answers.{opening, locking, setting_aside, placing, answer_of, IsAgain, GoesOn, may_be_done, EachHasOneAnswer}

one_of : (a : FaultAnswer) → ((a ≡ Own) ⊎ IsAgain a) ⊎ (GoesOn a ⊎ (a ≡ Unsure))
one_of Own = inl (inl refl)
one_of Soon = inl (inr tt)
one_of Later = inl (inr tt)
one_of Leased = inl (inr tt)
one_of Taken = inl (inr tt)
one_of Nameless = inr (inl tt)
one_of Nothing = inr (inl tt)
one_of Unsure = inr (inr refl)

not_both : (a : FaultAnswer) → a ≡ Own → IsAgain a → ⊥
not_both Own e p = p
not_both Soon e p = cc
not_both Later e p = cc
not_both Taken e p = cc
not_both Leased e p = cc
not_both Nameless e p = p
not_both Nothing e p = p
not_both Unsure e p = p

by_kind : (P : FaultKind → Type 0) → P Rights → P ReadOnly → P Name → P Kind → P Damage → P Scarce → P Moment → P Full → P Disk → P Missing → P Unsupported → P Wait → P Other
    → (k : FaultKind) → P k
by_kind P a b c d e f g h i j l m n Rights = a
by_kind P a b c d e f g h i j l m n ReadOnly = b
by_kind P a b c d e f g h i j l m n Name = c
by_kind P a b c d e f g h i j l m n Kind = d
by_kind P a b c d e f g h i j l m n Damage = e
by_kind P a b c d e f g h i j l m n Scarce = f
by_kind P a b c d e f g h i j l m n Moment = g
by_kind P a b c d e f g h i j l m n Full = h
by_kind P a b c d e f g h i j l m n Disk = i
by_kind P a b c d e f g h i j l m n Missing = j
by_kind P a b c d e f g h i j l m n Unsupported = l
by_kind P a b c d e f g h i j l m n Wait = m
by_kind P a b c d e f g h i j l m n Other = n

abbrev is_unsure : FaultAnswer → Bool
is_unsure Unsure = true
is_unsure _ = false

abbrev is_taken : FaultAnswer → Bool
is_taken Taken = true
is_taken _ = false

abbrev is_leased : FaultAnswer → Bool
is_leased Leased = true
is_leased _ = false

true_or_false : {b : Bool} → b ≡ true → b ≡ false → ⊥
true_or_false e f = let bad : true ≡ false = sym e ∙ f in cc

-- who knows, and who found no lock and no lease
abbrev IsPlain : FaultAnswer → Type 0
IsPlain a = (is_unsure a ≡ false) × ((is_taken a ≡ false) × (is_leased a ≡ false))

setting_plain : (k : FaultKind) → IsPlain (setting_aside k)
setting_plain = by_kind (λ k. IsPlain (setting_aside k)) (refl, (refl, refl)) (refl, (refl, refl)) (refl, (refl, refl)) (refl, (refl, refl)) (refl, (refl, refl)) (refl, (refl, refl)) (refl, (refl, refl)) (refl, (refl, refl)) (refl, (refl, refl)) (refl, (refl, refl)) (refl, (refl, refl)) (refl, (refl, refl)) (refl, (refl, refl))

opening_knows : (k : FaultKind) → (is_unsure (opening k) ≡ false) × (is_taken (opening k) ≡ false)
opening_knows = by_kind (λ k. (is_unsure (opening k) ≡ false) × (is_taken (opening k) ≡ false)) (refl, refl) (refl, refl) (refl, refl) (refl, refl) (refl, refl) (refl, refl) (refl, refl) (refl, refl) (refl, refl) (refl, refl) (refl, refl) (refl, refl) (refl, refl)

locking_knows : (k : FaultKind) → (is_unsure (locking k) ≡ false) × (is_leased (locking k) ≡ false)
locking_knows = by_kind (λ k. (is_unsure (locking k) ≡ false) × (is_leased (locking k) ≡ false)) (refl, refl) (refl, refl) (refl, refl) (refl, refl) (refl, refl) (refl, refl) (refl, refl) (refl, refl) (refl, refl) (refl, refl) (refl, refl) (refl, refl) (refl, refl)

placing_finds : (k : FaultKind) → (is_taken (placing k) ≡ false) × (is_leased (placing k) ≡ false)
placing_finds = by_kind (λ k. (is_taken (placing k) ≡ false) × (is_leased (placing k) ≡ false)) (refl, refl) (refl, refl) (refl, refl) (refl, refl) (refl, refl) (refl, refl) (refl, refl) (refl, refl) (refl, refl) (refl, refl) (refl, refl) (refl, refl) (refl, refl)

placing_unsure : (k : FaultKind) → is_unsure (placing k) ≡ may_be_done k
placing_unsure = by_kind (λ k. is_unsure (placing k) ≡ may_be_done k) refl refl refl refl refl refl refl refl refl refl refl refl refl

of_unsure : (a : FaultAnswer) → is_unsure a ≡ true → a ≡ Unsure
of_unsure Unsure e = refl
of_unsure Own e = cc
of_unsure Soon e = cc
of_unsure Later e = cc
of_unsure Taken e = cc
of_unsure Leased e = cc
of_unsure Nameless e = cc
of_unsure Nothing e = cc

record OnlyThere (call : FileCall) (k : FaultKind) : Type 0 where
  unsure : (answer_of call k ≡ Unsure) ↔ ((call ≡ Place) × (may_be_done k ≡ true))
  taken : answer_of call k ≡ Taken → call ≡ Lock
  leased : answer_of call k ≡ Leased → call ≡ Open

plainly : (call : FileCall) (k : FaultKind) → (call ≡ Place → ⊥) → IsPlain (answer_of call k) → OnlyThere call k
plainly call k not_there it = record {
  unsure = (λ e. absurd (true_or_false (ap is_unsure e) it.0), λ p. absurd (not_there p.0));
  taken = λ e. absurd (true_or_false (ap is_taken e) it.1.0);
  leased = λ e. absurd (true_or_false (ap is_leased e) it.1.1);
}

only_there : (call : FileCall) (k : FaultKind) → OnlyThere call k
only_there SetAside k = plainly SetAside k (λ e. cc) (setting_plain k)
only_there Open k = record {
  unsure = (λ e. absurd (true_or_false (ap is_unsure e) (opening_knows k).0), λ p. absurd (let bad : Open ≡ Place = p.0 in cc));
  taken = λ e. absurd (true_or_false (ap is_taken e) (opening_knows k).1);
  leased = λ e. refl;
}
only_there Lock k = record {
  unsure = (λ e. absurd (true_or_false (ap is_unsure e) (locking_knows k).0), λ p. absurd (let bad : Lock ≡ Place = p.0 in cc));
  taken = λ e. refl;
  leased = λ e. absurd (true_or_false (ap is_leased e) (locking_knows k).1);
}
only_there Place k = record {
  unsure = (λ e. (refl, sym (placing_unsure k) ∙ ap is_unsure e), λ p. of_unsure (placing k) (placing_unsure k ∙ p.1));
  taken = λ e. absurd (true_or_false (ap is_taken e) (placing_finds k).0);
  leased = λ e. absurd (true_or_false (ap is_leased e) (placing_finds k).1);
}

pub each_has_one : EachHasOneAnswer
each_has_one call k = record {
  one = one_of (answer_of call k);
  own = not_both (answer_of call k);
  unsure = (only_there call k).unsure;
  taken = (only_there call k).taken;
  leased = (only_there call k).leased;
}
