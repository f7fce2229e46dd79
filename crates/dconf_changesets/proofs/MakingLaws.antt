-- What is said to who waits until a change is made.
use Rattle.std.proofs.Common.{◌≡◌, ◌≢◌, ◌<◌, ◌⊎◌, inl, inr, ℕ, zero, suc, Bool, true, false, not, refl, sym, ◌∙◌, arith}
use Rattle.std.specs.Prelude.{if◌then◌else◌, ◌||◌, ◌==◌}
use Rattle.dconf_changesets.specs.declared.making.ChangeKnown.{ChangeKnown}
use Rattle.dconf_changesets.specs.declared.making.ChangeTask.{ChangeTask}
use Rattle.dconf_changesets.specs.declared.making.ChangeTask.TheVariants.{Before, Settle, Put, Others, Tell, GiveUp, Made, Refused, Failed}
use Rattle.dconf_changesets.specs.declared.making.Tried.{Tried}
use Rattle.dconf_changesets.specs.declared.making.TriedAsk.{TriedAsk}
use Rattle.dconf_changesets.specs.declared.making.TriedAsk.TheVariants as asking
use Rattle.dconf_changesets.specs.Making.{Answers, IsAskedEnough, IsSo, IsToldInOrder, MadeMeansOnTheDisk, OthersAreToldFirst, WhatIsLostIsToldAgain, WhatIsNotAskedDoesNotCount, closed_by, fails_by, given_up, has_place, is_enough, is_made, is_said, is_unmade, puts, refuses, said_at_last, stopped_by}

abbrev answers : Bool → Bool → Bool → Answers
answers before settled put = record { before = before; settled = settled; put = put }

abbrev known : Bool → Bool → Bool → Bool → Bool → Bool → Bool → Bool → Bool → ChangeKnown
known is_empty is_refused has_store has_user is_there is_left is_news is_watched is_barred = record {
  is_empty = is_empty;
  is_refused = is_refused;
  has_store = has_store;
  has_user = has_user;
  is_there = is_there;
  is_left = is_left;
  is_news = is_news;
  is_watched = is_watched;
  is_barred = is_barred;
}

abbrev said_of : ChangeKnown → Answers → ChangeTask
said_of k a =
    if k.is_empty then Made else if refuses k then Refused else if not a.before then stopped_by k else
    if not (has_place k) then closed_by k else if is_made a k then Made else fails_by k

-- what is known, and what the tasks answer
said_by : (e r h u t l n w v b s p : Bool) →
    said_at_last (answers b s p) (known e r h u t l n w v) ≡ said_of (known e r h u t l n w v) (answers b s p)
said_by true r h u t l n w v b s p = refl
said_by false true true u t l n w v b s p = refl
said_by false r false u t l n w v false s p = refl
said_by false r false u t l n w v true s p = refl
said_by false false true true t l n w v false s p = refl
said_by false false true false t l n w v false s p = refl
said_by false false true false t l n w v true s p = refl
said_by false false true true false false false w v true s p = refl
said_by false false true true false false true false v true s p = refl
said_by false false true true false false true true v true s p = refl
said_by false false true true false true n w true true s false = refl
said_by false false true true false true n w false true s false = refl
said_by false false true true false true false w v true s true = refl
said_by false false true true false true true false v true s true = refl
said_by false false true true false true true true v true s true = refl
said_by false false true true true false false w v true true p = refl
said_by false false true true true false true false v true true p = refl
said_by false false true true true false true true v true true p = refl
said_by false false true true true true false w v true true p = refl
said_by false false true true true true true false v true true p = refl
said_by false false true true true true true true v true true p = refl
said_by false false true true true false false w v true false p = refl
said_by false false true true true false true false v true false p = refl
said_by false false true true true false true true v true false p = refl
said_by false false true true true true n w true true false false = refl
said_by false false true true true true n w false true false false = refl
said_by false false true true true true false w v true false true = refl
said_by false false true true true true true false v true false true = refl
said_by false false true true true true true true v true false true = refl

pub made_means_on_the_disk : MadeMeansOnTheDisk
made_means_on_the_disk a k =
    said_by k.is_empty k.is_refused k.has_store k.has_user k.is_there k.is_left k.is_news k.is_watched k.is_barred a.before a.settled a.put

-- ---- what is told first

abbrev is_tell : ChangeTask → Bool
is_tell Tell = true
is_tell _ = false

-- how a change fails, is stopped, or finds no place
fails : (is_barred : Bool) → is_tell (if is_barred then Refused else Failed) ≡ false
fails true = refl
fails false = refl

stops : (place has_store : Bool) → is_tell (if place then Failed else if has_store then Refused else Failed) ≡ false
stops true has_store = refl
stops false has_store = fails has_store

gives_up : (place has_store refused : Bool) →
    is_tell (if place then (if refused then Refused else Failed) else if has_store then Refused else Failed) ≡ false
gives_up true has_store refused = fails refused
gives_up false has_store refused = fails has_store

-- what comes next once all is written that was asked for before, and once what is there was settled
abbrev begun : Bool → Bool → Bool → ChangeTask
begun place there put = if not place then GiveUp else if there then Settle else if put then Put else Others

begun_untold : (place there put : Bool) → is_tell (begun place there put) ≡ false
begun_untold false there put = refl
begun_untold true true put = refl
begun_untold true false true = refl
begun_untold true false false = refl

begun_unsaid : (place there put : Bool) → is_said (begun place there put) ≡ false
begun_unsaid false there put = refl
begun_unsaid true true put = refl
begun_unsaid true false true = refl
begun_unsaid true false false = refl

abbrev settled : Bool → ChangeTask
settled put = if put then Put else Others

settled_untold : (put : Bool) → is_tell (settled put) ≡ false
settled_untold true = refl
settled_untold false = refl

settled_unsaid : (put : Bool) → is_said (settled put) ≡ false
settled_unsaid true = refl
settled_unsaid false = refl

differ : (b : Bool) → b ≡ false → b ≢ true
differ b f t = let bad : true ≡ false = sym t ∙ f in cc

untold : (x : ChangeTask) → is_tell x ≡ false → x ≢ Tell
untold Before f e = let bad : Before ≡ Tell = e in cc
untold Settle f e = let bad : Settle ≡ Tell = e in cc
untold Put f e = let bad : Put ≡ Tell = e in cc
untold Others f e = let bad : Others ≡ Tell = e in cc
untold Tell f e = let bad : true ≡ false = f in cc
untold GiveUp f e = let bad : GiveUp ≡ Tell = e in cc
untold Made f e = let bad : Made ≡ Tell = e in cc
untold Refused f e = let bad : Refused ≡ Tell = e in cc
untold Failed f e = let bad : Failed ≡ Tell = e in cc

in_order : (task : ChangeTask) (is_so : Bool) (k : ChangeKnown) → IsToldInOrder task is_so k
in_order Before false k = record {
  new = λ e. absurd (untold (stopped_by k) (stops (has_place k) k.has_store) e);
  own = λ e. refl;
  over = λ e. refl;
}
in_order Before true k = record {
  new = λ e. absurd (untold (begun (has_place k) k.is_there (puts 1 true k)) (begun_untold (has_place k) k.is_there (puts 1 true k)) e);
  own = λ e. refl;
  over = λ e. absurd (differ (is_said (begun (has_place k) k.is_there (puts 1 true k))) (begun_unsaid (has_place k) k.is_there (puts 1 true k)) e);
}
in_order Settle is_so k = record {
  new = λ e. absurd (untold (settled (puts 2 is_so k)) (settled_untold (puts 2 is_so k)) e);
  own = λ e. refl;
  over = λ e. absurd (differ (is_said (settled (puts 2 is_so k))) (settled_unsaid (puts 2 is_so k)) e);
}
in_order Put true k = record {
  new = λ e. absurd (let bad : Others ≡ Tell = e in cc);
  own = λ e. refl;
  over = λ e. absurd (let bad : false ≡ true = e in cc);
}
in_order Put false k = record {
  new = λ e. absurd (let bad : GiveUp ≡ Tell = e in cc);
  own = λ e. absurd (let bad : GiveUp ≡ Others = e in cc);
  over = λ e. absurd (let bad : false ≡ true = e in cc);
}
in_order Others is_so k = record { new = λ e. refl; own = λ e. refl; over = λ e. refl }
in_order Tell is_so k = record { new = λ e. absurd (let bad : Made ≡ Tell = e in cc); own = λ e. refl; over = λ e. refl }
in_order GiveUp is_so k = record {
  new = λ e. absurd (untold (given_up k) (gives_up (has_place k) k.has_store k.is_barred) e);
  own = λ e. refl;
  over = λ e. refl;
}
in_order Made is_so k = record { new = λ e. absurd (let bad : Made ≡ Tell = e in cc); own = λ e. refl; over = λ e. refl }
in_order Refused is_so k = record { new = λ e. absurd (let bad : Made ≡ Tell = e in cc); own = λ e. refl; over = λ e. refl }
in_order Failed is_so k = record { new = λ e. absurd (let bad : Made ≡ Tell = e in cc); own = λ e. refl; over = λ e. refl }

pub others_are_told_first : OthersAreToldFirst
others_are_told_first = in_order

-- ---- what is told again

abbrev tried : Bool → Bool → Bool → Bool → Bool → Bool → Tried
tried written refused left now there again =
    record { is_written = written; is_refused = refused; is_left_out = left; is_now = now; is_there = there; is_again = again }

so : (w r l n t a : Bool) → is_unmade (tried w r l n t a) ≡ false → IsSo (tried w r l n t a)
so w true l n t a e = absurd (let bad : true ≡ false = e in cc)
so w false true n t a e = absurd (let bad : true ≡ false = e in cc)
so false false false n t a e = record { refused = refl; left = refl; made = λ is. absurd (let bad : false ≡ true = is in cc) }
so true false false true t a e = record { refused = refl; left = refl; made = λ is. refl }
so true false false false t true e = record { refused = refl; left = refl; made = λ is. refl }
so true false false false true false e = record { refused = refl; left = refl; made = λ is. refl }
so true false false false false false e = absurd (let bad : true ≡ false = e in cc)

pub what_is_lost_is_told_again : WhatIsLostIsToldAgain
what_is_lost_is_told_again t e = so t.is_written t.is_refused t.is_left_out t.is_now t.is_there t.is_again e

-- ---- what is asked

spared_by : (w r l n t a again there : Bool) → (not w || (r || (l || (n || a)))) ≡ true → is_unmade (tried w r l n (t || there) (a || again)) ≡ is_unmade (tried w r l n t a)
spared_by w true l n t a again there e = refl
spared_by w false true n t a again there e = refl
spared_by false false false n t a again there e = refl
spared_by true false false true t a again there e = refl
spared_by true false false false t true again there e = refl
spared_by true false false false t false again there e = absurd (let bad : false ≡ true = e in cc)

asked_by : (b c d e : Bool) → c ≡ true ⊎ (d ≡ true ⊎ e ≡ true) →
    (if b then asking.Nothing else if c then asking.Again else if d then asking.Above else if e then asking.There else asking.Nothing) ≡ asking.Nothing → b ≡ true
asked_by true c d e some is = refl
asked_by false true d e some is = absurd (let bad : asking.Again ≡ asking.Nothing = is in cc)
asked_by false false true e some is = absurd (let bad : asking.Above ≡ asking.Nothing = is in cc)
asked_by false false false true some is = absurd (let bad : asking.There ≡ asking.Nothing = is in cc)
asked_by false false false false some is = elim some [
  | inl x ↦ absurd (let bad : false ≡ true = x in cc)
  | inr y ↦ elim y [
    | inl x ↦ absurd (let bad : false ≡ true = x in cc)
    | inr x ↦ absurd (let bad : false ≡ true = x in cc)
  ]
]

asks_by : (b : Bool) (x : TriedAsk) → b ≡ false → (if b then asking.Nothing else x) ≡ x
asks_by false x e = refl
asks_by true x e = absurd (let bad : true ≡ false = e in cc)

one_of_three : (done : ℕ) → done < 3 → (done == 0) ≡ true ⊎ ((done == 1) ≡ true ⊎ (done == 2) ≡ true)
one_of_three zero h = inl refl
one_of_three (suc zero) h = inr (inl refl)
one_of_three (suc (suc zero)) h = inr (inr refl)
one_of_three (suc (suc (suc n))) h = absurd (omega (arith, h))

over_by : (b : Bool) → (if b then asking.Nothing else asking.Nothing) ≡ asking.Nothing
over_by true = refl
over_by false = refl

asked_enough : (t : Tried) → IsAskedEnough t
asked_enough t = record {
  spared = λ done h e again there. spared_by t.is_written t.is_refused t.is_left_out t.is_now t.is_there t.is_again again there
      (asked_by (is_enough t) (done == 0) (done == 1) (done == 2) (one_of_three done h) e);
  again = λ e. asks_by (is_enough t) asking.Again e;
  above = λ e. asks_by (is_enough t) asking.Above e;
  there = λ e. asks_by (is_enough t) asking.There e;
  over = over_by (is_enough t);
}

pub what_is_not_asked_does_not_count : WhatIsNotAskedDoesNotCount
what_is_not_asked_does_not_count = asked_enough
