-- Who is told of what, whatever is known.
use Rattle.std.proofs.Common.{◌≡◌, ◌<◌, ◌⊎◌, inl, inr, ℕ, Bool, true, false, not, refl, ap, sym, ◌∙◌, arith}
use Rattle.std.proofs.lemmas.Bool.{eqb-false, ltb-true, ltb-false, ne_eqb}
use Rattle.std.specs.Prelude.{◌&&◌, ◌||◌, if◌then◌else◌, nat_lt, ◌==◌}
use Rattle.dconf_rounds.specs.declared.telling.Telling.{Telling}
use Rattle.dconf_rounds.specs.declared.telling.Telling.TheVariants.{Nothing, Take, TellAndTake, Tell, All, CatchUp, Rights, Values, Warn, Print, Over}
use Rattle.dconf_rounds.specs.declared.telling.PathsHanded.TheVariants as handing
use Rattle.dconf_rounds.specs.declared.telling.TellKnown.{TellKnown}
use Rattle.dconf_rounds.specs.Telling.{is_all, is_news, is_sent, is_silent, is_taken, tell_next, IsGoodTelling, IsGoodOrder, IsToldEnough, WhatIsHeardIsTold, WhatIsNotAskedIsNotTold, WhatIsNotHandedOutIsKept}

-- ---- the lists

abbrev list_by : Bool → Bool → Bool → Bool → Bool → Telling
list_by catches rights values faults ends =
    if catches then CatchUp else if rights then Rights else if values then Values else if faults then (if ends then Print else Warn) else Over

-- ---- the paths of one

abbrev path_by : Bool → Bool → Bool → Bool → Bool → Bool → Telling
path_by silent found listened path none few =
    if silent then Nothing else if not found then All else if not listened then Nothing else if not path then (if none then Nothing else Tell) else
    if few then Take else TellAndTake

heard_by : (s f l p n w : Bool) → is_taken (path_by s f l p n w) ≡ (not s && (f && (l && p)))
heard_by true f l p n w = refl
heard_by false false l p n w = refl
heard_by false true false p n w = refl
heard_by false true true false true w = refl
heard_by false true true false false w = refl
heard_by false true true true n true = refl
heard_by false true true true n false = refl

lost_by : (s f l p n w : Bool) → is_all (path_by s f l p n w) ≡ (not s && not f)
lost_by true f l p n w = refl
lost_by false false l p n w = refl
lost_by false true false p n w = refl
lost_by false true true false true w = refl
lost_by false true true false false w = refl
lost_by false true true true n true = refl
lost_by false true true true n false = refl

rest_by : (s f l p n w : Bool) → s ≡ false → f ≡ true → l ≡ true → p ≡ false → n ≡ false → path_by s f l p n w ≡ Tell
rest_by false true true false false w a b c d e = refl
rest_by true f l p n w a b c d e = absurd (let bad : true ≡ false = a in cc)
rest_by false false l p n w a b c d e = absurd (let bad : false ≡ true = b in cc)
rest_by false true false p n w a b c d e = absurd (let bad : false ≡ true = c in cc)
rest_by false true true true n w a b c d e = absurd (let bad : true ≡ false = d in cc)
rest_by false true true false true w a b c d e = absurd (let bad : true ≡ false = e in cc)

-- ---- of either: what is sent, and what is taken

abbrev any_by : Bool → Telling → Bool → Bool → Bool → Bool → Bool → Bool → Telling
any_by between list s f l p n w = if between then list else path_by s f l p n w

no_list : (c r v x e : Bool) → is_sent (list_by c r v x e) ≡ false
no_list true r v x e = refl
no_list false true v x e = refl
no_list false false true x e = refl
no_list false false false true true = refl
no_list false false false true false = refl
no_list false false false false e = refl

takes_none : (c r v x e : Bool) → is_taken (list_by c r v x e) ≡ false
takes_none true r v x e = refl
takes_none false true v x e = refl
takes_none false false true x e = refl
takes_none false false false true true = refl
takes_none false false false true false = refl
takes_none false false false false e = refl

sent_by : (b : Bool) (list : Telling) (s f l p n w : Bool) → is_sent list ≡ false → is_sent (any_by b list s f l p n w) ≡ true → (n ≡ false) ⊎ (w ≡ false)
sent_by true list s f l p n w none e = absurd (let bad : false ≡ true = sym none ∙ e in cc)
sent_by false list true f l p n w none e = absurd (let bad : false ≡ true = e in cc)
sent_by false list false false l p n w none e = absurd (let bad : false ≡ true = e in cc)
sent_by false list false true false p n w none e = absurd (let bad : false ≡ true = e in cc)
sent_by false list false true true false true w none e = absurd (let bad : false ≡ true = e in cc)
sent_by false list false true true false false w none e = inl refl
sent_by false list false true true true n true none e = absurd (let bad : false ≡ true = e in cc)
sent_by false list false true true true n false none e = inr refl

few_by : (b : Bool) (list : Telling) (s f l p n w : Bool) → is_taken list ≡ false → any_by b list s f l p n w ≡ Take → w ≡ true
few_by true list s f l p n w none e = absurd (let bad : false ≡ true = sym none ∙ ap is_taken e in cc)
few_by false list true f l p n w none e = absurd (let bad : Nothing ≡ Take = e in cc)
few_by false list false false l p n w none e = absurd (let bad : All ≡ Take = e in cc)
few_by false list false true false p n w none e = absurd (let bad : Nothing ≡ Take = e in cc)
few_by false list false true true false true w none e = absurd (let bad : Nothing ≡ Take = e in cc)
few_by false list false true true false false w none e = absurd (let bad : Tell ≡ Take = e in cc)
few_by false list false true true true n true none e = refl
few_by false list false true true true n false none e = absurd (let bad : TellAndTake ≡ Take = e in cc)

some_taken : (taken : ℕ) → ((taken == 0) ≡ false) ⊎ (nat_lt taken 255 ≡ false) → 0 < taken
some_taken taken (inl some) = omega (arith, eqb-false taken 0 some)
some_taken taken (inr many) = omega (arith, ltb-false taken 255 many)

is_some : (taken : ℕ) → 0 < taken → (taken == 0) ≡ false
is_some taken some = ne_eqb taken 0 (λ e. omega (arith, some, e))

free : (b : Bool) (x y : Telling) → b ≡ false → (if b then x else y) ≡ y
free true x y e = absurd (let bad : true ≡ false = e in cc)
free false x y e = refl

-- ---- the order of lists

first_by : (s of r f e : Bool) → s ≡ false → of ≡ true → list_by (of && not s) (r && not s) (not s) f e ≡ CatchUp
first_by false true r f e a b = refl
first_by true of r f e a b = absurd (let bad : true ≡ false = a in cc)
first_by false false r f e a b = absurd (let bad : false ≡ true = b in cc)

own_by : (s of r f e : Bool) → of ≡ false → list_by (of && not s) (r && not s) (not s) f e ≡ list_by false (r && not s) (not s) f e
own_by s false r f e a = refl
own_by s true r f e a = absurd (let bad : true ≡ false = a in cc)

rights_by : (s r f e : Bool) → s ≡ false → r ≡ true → list_by false (r && not s) (not s) f e ≡ Rights
rights_by false true f e a b = refl
rights_by true r f e a b = absurd (let bad : true ≡ false = a in cc)
rights_by false false f e a b = absurd (let bad : false ≡ true = b in cc)

values_by : (s r f e : Bool) → s ≡ false → r ≡ false → list_by false (r && not s) (not s) f e ≡ Values
values_by false false f e a b = refl
values_by true r f e a b = absurd (let bad : true ≡ false = a in cc)
values_by false true f e a b = absurd (let bad : true ≡ false = b in cc)

after_by : (s f e : Bool) → s ≡ false → list_by false false (not s) f e ≡ Values
after_by false f e a = refl
after_by true f e a = absurd (let bad : true ≡ false = a in cc)

silent_by : (s of r f e : Bool) → s ≡ true → list_by (of && not s) (r && not s) (not s) f e ≡ list_by false false false f e
silent_by true true true f e a = refl
silent_by true true false f e a = refl
silent_by true false true f e a = refl
silent_by true false false f e a = refl
silent_by false of r f e a = absurd (let bad : false ≡ true = a in cc)

faults_by : (f e : Bool) → f ≡ true → list_by false false false f e ≡ (if e then Print else Warn)
faults_by true e a = refl
faults_by false e a = absurd (let bad : false ≡ true = a in cc)

none_by : (f e : Bool) → f ≡ false → list_by false false false f e ≡ Over
none_by false e a = refl
none_by true e a = absurd (let bad : true ≡ false = a in cc)

-- ---- the law

good_telling : (k : TellKnown) → IsGoodTelling k
good_telling k =
    let s : Bool = is_silent k in
    let n : Bool = k.taken == 0 in
    let w : Bool = nat_lt k.taken 255 in
    let c : Bool = nat_lt k.list 5 && (k.is_of_files && not s) in
    let r : Bool = nat_lt k.list 6 && (k.has_rights && not s) in
    let v : Bool = nat_lt k.list 7 && not s in
    let x : Bool = nat_lt k.list 8 && k.has_faults in
    let list : Telling = list_by c r v x k.ends in
    let path : Telling = path_by s k.is_found k.is_listened k.has_path n w in
    let is_path : k.is_between ≡ false → tell_next k ≡ path = free k.is_between list path in
    record {
      heard = λ b. ap is_taken (is_path b) ∙ heard_by s k.is_found k.is_listened k.has_path n w;
      lost = λ b. ap is_all (is_path b) ∙ lost_by s k.is_found k.is_listened k.has_path n w;
      some = λ e. some_taken k.taken (sent_by k.is_between list s k.is_found k.is_listened k.has_path n w (no_list c r v x k.ends) e);
      short = λ e. ltb-true k.taken 255 (few_by k.is_between list s k.is_found k.is_listened k.has_path n w (takes_none c r v x k.ends) e);
      rest = λ b o f l p t. is_path b ∙ rest_by s k.is_found k.is_listened k.has_path n w o f l p (is_some k.taken t);
    }

good_order : (k : TellKnown) → IsGoodOrder k
good_order k =
    let s : Bool = is_silent k in
    record {
      first = first_by s k.is_of_files k.has_rights k.has_faults k.ends;
      own = own_by s k.is_of_files k.has_rights k.has_faults k.ends;
      rights = rights_by s k.has_rights k.has_faults k.ends;
      values = values_by s k.has_rights k.has_faults k.ends;
      after = after_by s k.has_faults k.ends;
      silent = silent_by s k.is_of_files k.has_rights k.has_faults k.ends;
      faults = faults_by k.has_faults k.ends;
      none = none_by k.has_faults k.ends;
      warned = refl;
      printed = refl;
    }

pub what_is_heard_is_told : WhatIsHeardIsTold
what_is_heard_is_told k = (good_telling k, good_order k)

-- ---- what needn't be asked

none_taken : (b s f p n w x y : Bool) (list : Telling) → b ≡ false → p ≡ false → n ≡ true → any_by b list s f x p n w ≡ any_by b list s f y p n w
none_taken true s f p n w x y list b h k = absurd (let bad : true ≡ false = b in cc)
none_taken false true f p n w x y list b h k = refl
none_taken false false false p n w x y list b h k = refl
none_taken false false true true n w x y list b h k = absurd (let bad : true ≡ false = h in cc)
none_taken false false true false false w x y list b h k = absurd (let bad : false ≡ true = k in cc)
none_taken false false true false true w true true list b h k = refl
none_taken false false true false true w true false list b h k = refl
none_taken false false true false true w false true list b h k = refl
none_taken false false true false true w false false list b h k = refl

-- a list that is over if the program goes on: nothing is told, and no fault is there
none : (a : Bool) → (a && false) ≡ false
none true = refl
none false = refl

never : (a b : Bool) → (a && (b && false)) ≡ false
never false b = refl
never true true = refl
never true false = refl

quiet : (c of d r g x e : Bool) → x ≡ false → list_by (c && (of && false)) (d && (r && false)) (g && false) x e ≡ Over
quiet c of d r g x e h = rw (never c of, never d r, none g, h) refl

no_fault : (c r v x : Bool) → list_by c r v x false ≡ Over → x ≡ false
no_fault true r v x e = absurd (let bad : CatchUp ≡ Over = e in cc)
no_fault false true v x e = absurd (let bad : Rights ≡ Over = e in cc)
no_fault false false true x e = absurd (let bad : Values ≡ Over = e in cc)
no_fault false false false true e = absurd (let bad : Warn ≡ Over = e in cc)
no_fault false false false false e = refl

over_by : (first q c of d r g x e : Bool) →
    list_by (c && (of && not (first || (false || q)))) (d && (r && not (first || (false || q)))) (g && not (first || (false || q))) x false ≡ Over →
    list_by (c && (of && not (first || (e || q)))) (d && (r && not (first || (e || q)))) (g && not (first || (e || q))) x e ≡ Over
over_by first q c of d r g x false is = is
over_by true q c of d r g x true is = quiet c of d r g x true (no_fault (c && (of && false)) (d && (r && false)) (g && false) x is)
over_by false q c of d r g x true is = quiet c of d r g x true (no_fault (c && (of && not q)) (d && (r && not q)) (g && not q) x is)

held : (b : Bool) (x y : Telling) → b ≡ true → (if b then x else y) ≡ x
held true x y e = refl
held false x y e = absurd (let bad : false ≡ true = e in cc)

-- when no list is over, by whether the program ends
abbrev list_if : TellKnown → Bool → Telling
list_if k e = list_by (nat_lt k.list 5 && (k.is_of_files && not (k.is_first || (e || not (is_news k || k.has_edits)))))
    (nat_lt k.list 6 && (k.has_rights && not (k.is_first || (e || not (is_news k || k.has_edits)))))
    (nat_lt k.list 7 && not (k.is_first || (e || not (is_news k || k.has_edits)))) (nat_lt k.list 8 && k.has_faults) e

abbrev path_if : TellKnown → Bool → Telling
path_if k e = path_by (k.is_first || (e || not (is_news k || k.has_edits))) k.is_found k.is_listened k.has_path (k.taken == 0) (nat_lt k.taken 255)

told_enough : (k : TellKnown) (answer : Bool) → IsToldEnough k answer
told_enough k answer = record {
  listened = λ b p t. none_taken k.is_between (is_silent k) k.is_found k.has_path (k.taken == 0) (nat_lt k.taken 255) answer k.is_listened (list_if k k.ends) b p
      (let z : (k.taken == 0) ≡ true = rw t refl in z);
  ends = λ b is. held k.is_between (list_if k answer) (path_if k answer) b ∙
      over_by k.is_first (not (is_news k || k.has_edits)) (nat_lt k.list 5) k.is_of_files (nat_lt k.list 6) k.has_rights (nat_lt k.list 7)
      (nat_lt k.list 8 && k.has_faults) answer (sym (held k.is_between (list_if k false) (path_if k false) b) ∙ is);
}

pub what_is_not_asked_is_not_told : WhatIsNotAskedIsNotTold
what_is_not_asked_is_not_told = told_enough

-- ---- what counts as told

pub what_is_not_handed_out_is_kept : WhatIsNotHandedOutIsKept
what_is_not_handed_out_is_kept false looked = record {
  kept = λ e. refl;
  told = λ e. absurd (let bad : false ≡ true = e in cc);
  whole = λ e. absurd (let bad : handing.Not ≡ handing.Whole = e in cc);
}
what_is_not_handed_out_is_kept true true = record {
  kept = λ e. absurd (let bad : true ≡ false = e in cc);
  told = λ e n. let bad : handing.Whole ≡ handing.Not = n in cc;
  whole = λ e. (refl, refl);
}
what_is_not_handed_out_is_kept true false = record {
  kept = λ e. absurd (let bad : true ≡ false = e in cc);
  told = λ e n. let bad : handing.Partly ≡ handing.Not = n in cc;
  whole = λ e. absurd (let bad : handing.Partly ≡ handing.Whole = e in cc);
}
