-- What is done about what waits, whatever is known.
use Rattle.std.proofs.Common.{◌≡◌, Bool, true, false, not, refl}
use Rattle.std.specs.Prelude.{◌&&◌, ◌||◌, if◌then◌else◌, ◌==◌, nat_lt, nat_le}
use Rattle.dconf_rounds.specs.declared.writers.NeedTask.{NeedTask}
use Rattle.dconf_rounds.specs.declared.writers.NeedTask.TheVariants as need
use Rattle.dconf_rounds.specs.declared.writers.LineTask.{LineTask}
use Rattle.dconf_rounds.specs.declared.writers.LineTask.TheVariants as line
use Rattle.dconf_rounds.specs.declared.syncs.SyncTask.{SyncTask}
use Rattle.dconf_rounds.specs.declared.syncs.SyncTask.TheVariants as sync
use Rattle.dconf_rounds.specs.Syncs.{sync_after}
use Rattle.dconf_rounds.specs.declared.writers.EndTask.TheVariants as end
use Rattle.dconf_rounds.specs.Writers.{EndAnswers, Facts, answered, begins, does, end_after, goes_on, is_left, is_new, says, wants, WhatWaitsIsWrittenOrTold}

-- ---- what is new

abbrev need_by : Bool → Bool → Bool → Bool → NeedTask
need_by makes begun woken here = if makes then need.MakeWake else if begun then need.Begin else if woken then need.Wake else if here then need.Here else need.Over

is_begun : (m b w h : Bool) → need_by m b w h ≡ need.Begin → b ≡ true
is_begun true b w h e = absurd (let bad : need.MakeWake ≡ need.Begin = e in cc)
is_begun false true w h e = refl
is_begun false false true h e = absurd (let bad : need.Wake ≡ need.Begin = e in cc)
is_begun false false false true e = absurd (let bad : need.Here ≡ need.Begin = e in cc)
is_begun false false false false e = absurd (let bad : need.Over ≡ need.Begin = e in cc)

-- begun where it is wanted: what else is so
may_begin : (soon wanted thread ended own wake : Bool) → soon && ((wanted && (not thread && (not ended && own))) && wake) ≡ true
    → (thread ≡ false) × (ended ≡ false) × (own ≡ true)
may_begin true true false false true wake e = (refl, refl, refl)
may_begin false wanted thread ended own wake e = absurd (let bad : false ≡ true = e in cc)
may_begin true false thread ended own wake e = absurd (let bad : false ≡ true = e in cc)
may_begin true true true ended own wake e = absurd (let bad : false ≡ true = e in cc)
may_begin true true false true own wake e = absurd (let bad : false ≡ true = e in cc)
may_begin true true false false false wake e = absurd (let bad : false ≡ true = e in cc)

-- what begins to wait
is_first : (news adds waits turned : Bool) → adds ≡ true → waits ≡ false → news || ((adds && not waits) || turned) ≡ true
is_first true adds waits turned a w = refl
is_first false true false turned a w = refl
is_first false true true turned a w = absurd (let bad : true ≡ false = w in cc)
is_first false false waits turned a w = absurd (let bad : false ≡ true = a in cc)

-- not in a child
does_none : (thread ended own : Bool) → own ≡ false → thread && (not ended && own) ≡ false
does_none false ended own e = refl
does_none true true own e = refl
does_none true false false e = refl
does_none true false true e = absurd (let bad : true ≡ false = e in cc)

woken_by : (d n o : Bool) → d ≡ true → n ≡ true → need_by false false (d && n) (o && not d) ≡ need.Wake
woken_by true true o p q = refl
woken_by true false o p q = absurd (let bad : false ≡ true = q in cc)
woken_by false n o p q = absurd (let bad : false ≡ true = p in cc)

here_by : (d n o : Bool) → d ≡ false → o ≡ true → need_by false false (d && n) (o && not d) ≡ need.Here
here_by false n true p q = refl
here_by false n false p q = absurd (let bad : false ≡ true = q in cc)
here_by true n o p q = absurd (let bad : true ≡ false = p in cc)

-- ---- the turn

abbrev asked_by : Bool → Bool → LineTask
asked_by thread has_line = if not thread then line.Wait else if has_line then line.Await else line.Try

is_kept : (thread has_line : Bool) → thread ≡ true → has_line ≡ true → asked_by thread has_line ≡ line.Await
is_kept true true t e = refl
is_kept true false t e = absurd (let bad : false ≡ true = e in cc)
is_kept false has_line t e = absurd (let bad : false ≡ true = t in cc)

waits_itself : (thread has_line : Bool) → thread ≡ false → asked_by thread has_line ≡ line.Wait
waits_itself false has_line t = refl
waits_itself true has_line t = absurd (let bad : true ≡ false = t in cc)

-- ---- a sync in a child

none_waits : (own : Bool) (next : SyncTask) → own ≡ false → (if own then next else sync.Yes) ≡ sync.Yes
none_waits false next e = refl
none_waits true next e = absurd (let bad : true ≡ false = e in cc)

-- ---- the end

abbrev answers : Bool → Bool → Bool → EndAnswers
answers marked over counted = record { marked = marked; over = over; counted = counted }

abbrev of : Bool → Bool → Bool → Bool → Bool → Bool → Facts
of exits own thread this let_go settled = record { exits = exits; own = own; thread = thread; this = this; let_go = let_go; settled = settled }

ends_by : (exits own marked thread this let_go over counted settled : Bool)
    → goes_on 6 (answers marked over counted) (of exits own thread this let_go settled) (end_after 0 true (of exits own thread this let_go settled)) ≡ (if is_left (answers marked over counted) (of exits own thread this let_go settled) then end.Left else end.Done)
ends_by true true true true true let_go over true true = refl
ends_by true true true true true let_go over true false = refl
ends_by true true true true true let_go over false settled = refl
ends_by true true true true false true over true true = refl
ends_by true true true true false true over true false = refl
ends_by true true true true false true over false settled = refl
ends_by true true true true false false over true true = refl
ends_by true true true true false false over true false = refl
ends_by true true true true false false over false settled = refl
ends_by true true true false this let_go over true true = refl
ends_by true true true false this let_go over true false = refl
ends_by true true true false this let_go over false settled = refl
ends_by true true false thread this let_go over true true = refl
ends_by true true false thread this let_go over true false = refl
ends_by true true false thread this let_go over false settled = refl
ends_by true false marked thread this let_go over counted settled = refl
ends_by false true true true true let_go over counted settled = refl
ends_by false true true true false let_go true true true = refl
ends_by false true true true false let_go true true false = refl
ends_by false true true true false let_go true false settled = refl
ends_by false true true true false let_go false counted settled = refl
ends_by false true true false this let_go over true true = refl
ends_by false true true false this let_go over true false = refl
ends_by false true true false this let_go over false settled = refl
ends_by false true false thread this let_go over true true = refl
ends_by false true false thread this let_go over true false = refl
ends_by false true false thread this let_go over false settled = refl
ends_by false false marked thread this let_go over counted settled = refl

told_by : (exits own marked thread this let_go over counted settled : Bool)
    → says 6 (answers marked over counted) (of exits own thread this let_go settled) (end_after 0 true (of exits own thread this let_go settled)) ≡ (own && (not (is_left (answers marked over counted) (of exits own thread this let_go settled)) && not (counted && settled)))
told_by true true true true true let_go over true true = refl
told_by true true true true true let_go over true false = refl
told_by true true true true true let_go over false settled = refl
told_by true true true true false true over true true = refl
told_by true true true true false true over true false = refl
told_by true true true true false true over false settled = refl
told_by true true true true false false over true true = refl
told_by true true true true false false over true false = refl
told_by true true true true false false over false settled = refl
told_by true true true false this let_go over true true = refl
told_by true true true false this let_go over true false = refl
told_by true true true false this let_go over false settled = refl
told_by true true false thread this let_go over true true = refl
told_by true true false thread this let_go over true false = refl
told_by true true false thread this let_go over false settled = refl
told_by true false marked thread this let_go over counted settled = refl
told_by false true true true true let_go over counted settled = refl
told_by false true true true false let_go true true true = refl
told_by false true true true false let_go true true false = refl
told_by false true true true false let_go true false settled = refl
told_by false true true true false let_go false counted settled = refl
told_by false true true false this let_go over true true = refl
told_by false true true false this let_go over true false = refl
told_by false true true false this let_go over false settled = refl
told_by false true false thread this let_go over true true = refl
told_by false true false thread this let_go over true false = refl
told_by false true false thread this let_go over false settled = refl
told_by false false marked thread this let_go over counted settled = refl

-- ---- the law

pub what_waits_is_written_or_told : WhatWaitsIsWrittenOrTold
what_waits_is_written_or_told a k =
    record {
      need =
          record {
            begun = λ done e.
                let makes : Bool = nat_lt done 1 && (begins k && not k.has_wake) in
                let begun : Bool = nat_lt done 2 && (begins k && k.has_wake) in
                may_begin (nat_lt done 2) (wants k) k.has_thread k.has_ended (k.begun_in == k.process) k.has_wake
                (is_begun makes begun (nat_lt done 3 && (does k && is_new k)) (nat_lt done 4 && (k.is_owed && not (does k))) e);
            woken = λ d n. woken_by (does k) (is_new k) k.is_owed d n;
            first = λ a w. is_first k.is_news k.adds k.waits (k.listens && k.has_turned) a w;
            here = λ d o. here_by (does k) (is_new k) k.is_owed d o;
            child = λ e. does_none k.has_thread k.has_ended (k.begun_in == k.process) e;
          };
      line =
          record {
            place = λ t e. is_kept k.is_thread k.has_line t e;
            waits = refl;
            line = refl;
            other = λ t. waits_itself k.is_thread k.has_line t;
            alone = refl;
          };
      end =
          record {
            ends = ends_by k.exits (k.begun_in == k.process) a.marked k.has_thread k.is_thread k.is_let_go a.over a.counted (nat_le k.added k.settled);
            told = told_by k.exits (k.begun_in == k.process) a.marked k.has_thread k.is_thread k.is_let_go a.over a.counted (nat_le k.added k.settled);
          };
      child = λ done is_so e. none_waits (k.begun_in == k.process) (sync_after done (answered done is_so k) k.sync) e;
    }
