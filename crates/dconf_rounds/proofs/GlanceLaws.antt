-- What holds of a look at the files, whatever is known.
use Rattle.std.proofs.Common.{◌≡◌, ◌≢◌, ◌⊎◌, inl, inr, Bool, true, false, not, refl, ap, sym, ◌∙◌}
use Rattle.std.specs.Prelude.{◌&&◌, ◌||◌, if◌then◌else◌, nat_lt, ◌==◌}
use Rattle.dconf_rounds.specs.declared.glances.Glance.{Glance}
use Rattle.dconf_rounds.specs.declared.glances.Glance.TheVariants.{Refresh, Open, OpenAgain, Hand, Heed, Watch, Settle, Again, Seen, Failed}
use Rattle.dconf_rounds.specs.Glances.{are_as_read, refreshes, opens, hands, heeds, settles, watches_anew, glance_after, is_told, NothingNewIsMissed}

abbrev begin_by : Bool → Bool → Glance
begin_by kept opens = if kept then Refresh else if opens then Open else OpenAgain

abbrev by : Bool → Bool → Bool → Bool → Bool → Bool → Bool → Bool → Glance
by begins kept opens handing heeding watching settling is_done =
    if begins then begin_by kept opens else if handing then Hand else if heeding then Heed else if watching then Watch else if settling then Settle else
    if is_done then Seen else Failed

over_by : (b k o h e w t d : Bool) → is_told (by b k o h e w t d) ≡ not (b || (h || (e || (w || t))))
over_by true true o h e w t d = refl
over_by true false true h e w t d = refl
over_by true false false h e w t d = refl
over_by false k o true e w t d = refl
over_by false k o false true w t d = refl
over_by false k o false false true t d = refl
over_by false k o false false false true d = refl
over_by false k o false false false false true = refl
over_by false k o false false false false false = refl

seen_by : (b k o h e w t d : Bool) → by b k o h e w t d ≡ Seen → d ≡ true
seen_by true true o h e w t d s = absurd (let bad : Refresh ≡ Seen = s in cc)
seen_by true false true h e w t d s = absurd (let bad : Open ≡ Seen = s in cc)
seen_by true false false h e w t d s = absurd (let bad : OpenAgain ≡ Seen = s in cc)
seen_by false k o true e w t d s = absurd (let bad : Hand ≡ Seen = s in cc)
seen_by false k o false true w t d s = absurd (let bad : Heed ≡ Seen = s in cc)
seen_by false k o false false true t d s = absurd (let bad : Watch ≡ Seen = s in cc)
seen_by false k o false false false true d s = absurd (let bad : Settle ≡ Seen = s in cc)
seen_by false k o false false false false true s = refl
seen_by false k o false false false false false s = absurd (let bad : Failed ≡ Seen = s in cc)

failed_by : (b k o h e w t d : Bool) → by b k o h e w t d ≡ Failed → d ≡ false
failed_by true true o h e w t d s = absurd (let bad : Refresh ≡ Failed = s in cc)
failed_by true false true h e w t d s = absurd (let bad : Open ≡ Failed = s in cc)
failed_by true false false h e w t d s = absurd (let bad : OpenAgain ≡ Failed = s in cc)
failed_by false k o true e w t d s = absurd (let bad : Hand ≡ Failed = s in cc)
failed_by false k o false true w t d s = absurd (let bad : Heed ≡ Failed = s in cc)
failed_by false k o false false true t d s = absurd (let bad : Watch ≡ Failed = s in cc)
failed_by false k o false false false true d s = absurd (let bad : Settle ≡ Failed = s in cc)
failed_by false k o false false false false true s = absurd (let bad : Seen ≡ Failed = s in cc)
failed_by false k o false false false false false s = refl

kept_by : (b k o h e w t d : Bool) → by b k o h e w t d ≡ Refresh → k ≡ true
kept_by true true o h e w t d s = refl
kept_by true false true h e w t d s = absurd (let bad : Open ≡ Refresh = s in cc)
kept_by true false false h e w t d s = absurd (let bad : OpenAgain ≡ Refresh = s in cc)
kept_by false k o true e w t d s = absurd (let bad : Hand ≡ Refresh = s in cc)
kept_by false k o false true w t d s = absurd (let bad : Heed ≡ Refresh = s in cc)
kept_by false k o false false true t d s = absurd (let bad : Watch ≡ Refresh = s in cc)
kept_by false k o false false false true d s = absurd (let bad : Settle ≡ Refresh = s in cc)
kept_by false k o false false false false true s = absurd (let bad : Seen ≡ Refresh = s in cc)
kept_by false k o false false false false false s = absurd (let bad : Failed ≡ Refresh = s in cc)

-- what is due is told by what it is due to
settled_by : (b k o h e w t d : Bool) → by b k o h e w t d ≡ Settle → t ≡ true
settled_by true true o h e w t d s = absurd (let bad : Refresh ≡ Settle = s in cc)
settled_by true false true h e w t d s = absurd (let bad : Open ≡ Settle = s in cc)
settled_by true false false h e w t d s = absurd (let bad : OpenAgain ≡ Settle = s in cc)
settled_by false k o true e w t d s = absurd (let bad : Hand ≡ Settle = s in cc)
settled_by false k o false true w t d s = absurd (let bad : Heed ≡ Settle = s in cc)
settled_by false k o false false true t d s = absurd (let bad : Watch ≡ Settle = s in cc)
settled_by false k o false false false true d s = refl
settled_by false k o false false false false true s = absurd (let bad : Seen ≡ Settle = s in cc)
settled_by false k o false false false false false s = absurd (let bad : Failed ≡ Settle = s in cc)

is_read : (soon done settle : Bool) → soon && (done && settle) ≡ true → done ≡ true
is_read true true settle e = refl
is_read true false settle e = absurd (let bad : false ≡ true = e in cc)
is_read false done settle e = absurd (let bad : false ≡ true = e in cc)

-- where the profile counts as it was read the store is kept
kept_once : (is keeps same o : Bool) → is ≡ true → keeps ≡ true → begin_by (is && (keeps || same)) o ≡ Refresh
kept_once true true same o p q = refl
kept_once true false same o p q = absurd (let bad : false ≡ true = q in cc)
kept_once false keeps same o p q = absurd (let bad : false ≡ true = p in cc)

-- ---- who has no turn to look

abbrev barred : Bool → Bool → Bool → Bool → Glance
barred amid handed shown late = if amid then (if handed || shown then Seen else Hand) else if late then Failed else Again

handed_by : (a h w l : Bool) → is_told (barred a h w l) ≡ false → ((barred a h w l ≡ Hand) × (w ≡ false)) ⊎ (barred a h w l ≡ Again)
handed_by false h w true e = absurd (let bad : true ≡ false = e in cc)
handed_by false h w false e = inr refl
handed_by true true w l e = absurd (let bad : true ≡ false = e in cc)
handed_by true false true l e = absurd (let bad : true ≡ false = e in cc)
handed_by true false false l e = inl (refl, refl)

shown_by : (a h w l : Bool) → barred a h w l ≡ Seen → a ≡ true
shown_by false h w true e = absurd (let bad : Failed ≡ Seen = e in cc)
shown_by false h w false e = absurd (let bad : Again ≡ Seen = e in cc)
shown_by true h w l e = refl

later_by : (a h w l : Bool) → a ≡ false → barred a h w l ≡ (if l then Failed else Again)
later_by false h w l e = refl
later_by true h w l e = absurd (let bad : true ≡ false = e in cc)

-- who has the turn never asks for it again
mine_ends : (b k o h e w t d : Bool) → by b k o h e w t d ≢ Again
mine_ends true true o h e w t d s = let bad : Refresh ≡ Again = s in cc
mine_ends true false true h e w t d s = let bad : Open ≡ Again = s in cc
mine_ends true false false h e w t d s = let bad : OpenAgain ≡ Again = s in cc
mine_ends false k o true e w t d s = let bad : Hand ≡ Again = s in cc
mine_ends false k o false true w t d s = let bad : Heed ≡ Again = s in cc
mine_ends false k o false false true t d s = let bad : Watch ≡ Again = s in cc
mine_ends false k o false false false true d s = let bad : Settle ≡ Again = s in cc
mine_ends false k o false false false false true s = let bad : Seen ≡ Again = s in cc
mine_ends false k o false false false false false s = let bad : Failed ≡ Again = s in cc

never_again : (y a h w l r : Bool) (mine : Glance) → mine ≢ Again → r ≡ true → (if y then barred a h w (l || r) else mine) ≢ Again
never_again false a h w l r mine n e s = n s
never_again true true true w l r mine n e s = let bad : Seen ≡ Again = s in cc
never_again true true false true l r mine n e s = let bad : Seen ≡ Again = s in cc
never_again true true false false l r mine n e s = let bad : Hand ≡ Again = s in cc
never_again true false h w true r mine n e s = let bad : Failed ≡ Again = s in cc
never_again true false h w false true mine n e s = let bad : Failed ≡ Again = s in cc
never_again true false h w false false mine n e s = let bad : false ≡ true = e in cc

free : (b : Bool) (x y : Glance) → b ≡ false → (if b then x else y) ≡ y
free true x y e = absurd (let bad : true ≡ false = e in cc)
free false x y e = refl

held : (b : Bool) (x y : Glance) → b ≡ true → (if b then x else y) ≡ x
held true x y e = refl
held false x y e = absurd (let bad : false ≡ true = e in cc)

seen_in : (here there : Glance) (w : Bool) → here ≡ there → ((there ≡ Hand) × (w ≡ false)) ⊎ (there ≡ Again) → ((here ≡ Hand) × (w ≡ false)) ⊎ (here ≡ Again)
seen_in here there w e (inl x) = inl (e ∙ x.0, x.1)
seen_in here there w e (inr x) = inr (e ∙ x)

-- ---- the law

pub nothing_new_is_missed : NothingNewIsMissed
nothing_new_is_missed done k =
    let b : Bool = nat_lt done 1 in
    let o : Bool = opens k in
    let h : Bool = nat_lt done 4 && hands k in
    let e : Bool = nat_lt done 5 && heeds k in
    let w : Bool = nat_lt done 6 && watches_anew k in
    let t : Bool = nat_lt done 7 && settles k in
    let c : Bool = done == 4 in
    let mine : Glance = by b (refreshes k) o h e w t k.is_done in
    let late : Bool = k.is_late || k.is_reading in
    let other : Glance = barred k.is_amid c k.is_shown late in
    let is_mine : k.is_barred ≡ false → glance_after done k ≡ mine = free k.is_barred other mine in
    let is_other : k.is_barred ≡ true → glance_after done k ≡ other = held k.is_barred other mine in
    record {
      over = λ f. ap is_told (is_mine f) ∙ over_by b (refreshes k) o h e w t k.is_done;
      seen = λ f s. seen_by b (refreshes k) o h e w t k.is_done (sym (is_mine f) ∙ s);
      failed = λ f s. failed_by b (refreshes k) o h e w t k.is_done (sym (is_mine f) ∙ s);
      kept = λ f s. kept_by b (refreshes k) o h e w t k.is_done (sym (is_mine f) ∙ s);
      once = λ f p q. free k.is_barred (barred k.is_amid false k.is_shown late) (begin_by (refreshes k) o) f ∙ kept_once k.is_open k.keeps_profile (are_as_read k) o p q;
      settled = λ f s. is_read (nat_lt done 7) k.is_done k.is_to_settle (settled_by b (refreshes k) o h e w t k.is_done (sym (is_mine f) ∙ s));
      handed = λ y n. seen_in (glance_after done k) other k.is_shown (is_other y) (handed_by k.is_amid c k.is_shown late (sym (ap is_told (is_other y)) ∙ n));
      shown = λ y n. shown_by k.is_amid c k.is_shown late (sym (is_other y) ∙ n);
      later = λ y n. is_other y ∙ later_by k.is_amid c k.is_shown late n;
      read = λ r s. never_again k.is_barred k.is_amid c k.is_shown k.is_late k.is_reading mine (mine_ends b (refreshes k) o h e w t k.is_done) r s;
    }
