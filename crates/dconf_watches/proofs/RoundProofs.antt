-- What holds of the rounds.
use Rattle.std.proofs.Common.{◌≡◌, Bool, true, false, refl}
use Rattle.std.proofs.lemmas.Bool.{le-ltb}
use Rattle.std.specs.Prelude.{nat_lt, ◌&&◌, ◌||◌, if◌then◌else◌}
use Rattle.dconf_watches.specs.declared.rounds.AfterRound.TheVariants.{Again, Whole, Partly}
use Rattle.dconf_watches.specs.Rounds.{RoundsEnd, most_rounds}

whole_by : (more under missed : Bool) → (if more && under then Again else if more || missed then Partly else Whole) ≡ Whole →
    (missed ≡ false) × (more ≡ false)
whole_by true true missed e = absurd (let bad : Again ≡ Whole = e in cc)
whole_by true false missed e = absurd (let bad : Partly ≡ Whole = e in cc)
whole_by false under true e = absurd (let bad : Partly ≡ Whole = e in cc)
whole_by false under false e = (refl, refl)

again_by : (more under missed : Bool) → under ≡ false → (if more && under then Again else if more || missed then Partly else Whole) ≡ Again → ⊥
again_by more true missed f e = let bad : true ≡ false = f in cc
again_by true false missed f e = let bad : Partly ≡ Again = e in cc
again_by false false true f e = let bad : Partly ≡ Again = e in cc
again_by false false false f e = let bad : Whole ≡ Again = e in cc

pub rounds_end : RoundsEnd
rounds_end r = record {
  whole = whole_by r.more (nat_lt r.count most_rounds) r.missed;
  ends = λ f. again_by r.more (nat_lt r.count most_rounds) r.missed (le-ltb r.count most_rounds f);
}
