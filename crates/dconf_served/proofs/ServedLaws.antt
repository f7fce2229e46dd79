-- What holds of each answer, whatever is known.
use Rattle.std.proofs.Common.{◌≡◌, ◌≢◌, ◌⊎◌, inl, inr, arith, Bool, true, false, not, refl, sym, ◌∙◌}
use Rattle.std.specs.Prelude.{ℕ, ◌&&◌, ◌||◌, ◌==◌, if◌then◌else◌, nat_lt, nat_le}
use Rattle.dconf_served.specs.declared.served.Served.{Served}
use Rattle.dconf_served.specs.declared.served.Served.TheVariants.{GoesOn, Acknowledged, Failed, Closed, Odd, TooLarge, TooMuch, TooManyNames, Late, Later, Profiles, Alone, Ends, PassedOver, LeftOut, Replaces, Unsupported}
use Rattle.dconf_served.specs.Served.{has_room, came, is_odd, is_path, lasts, NothingIsAnsweredUnwritten, WhatCameFirstIsFirst, WhatIsAskedIsSaid, WhatIsMadeIsTold, WhatIsSentCounts, WhatWaitsIsBounded, WhoWaitsIsToldAtTheEnd, LocksCountWhereTheyAreKnown}

-- ---- what was tried, by whether it is written, lasts, is at its end, is odd, has edits, and is closed

abbrev by : Bool → Bool → Bool → Bool → Bool → Bool → Served
by written last ends odd edits closed =
    if not (written || (last || ends)) then GoesOn else if odd then Odd else if not edits then Acknowledged else
    if not written then Failed else if closed then Closed else Acknowledged

-- the rest, once it is settled
abbrev rest : Bool → Bool → Bool → Bool → Served
rest written odd edits closed = if odd then Odd else if not edits then Acknowledged else if not written then Failed else if closed then Closed else Acknowledged

rest_answers : (w o e c : Bool) → rest w o e c ≢ GoesOn
rest_answers w true e c a = let bad : Odd ≡ GoesOn = a in cc
rest_answers w false false c a = let bad : Acknowledged ≡ GoesOn = a in cc
rest_answers false false true c a = let bad : Failed ≡ GoesOn = a in cc
rest_answers true false true true a = let bad : Closed ≡ GoesOn = a in cc
rest_answers true false true false a = let bad : Acknowledged ≡ GoesOn = a in cc

rest_acknowledged : (w o e c : Bool) → rest w o e c ≡ Acknowledged → (o ≡ false) × ((e ≡ false) ⊎ ((w ≡ true) × (c ≡ false)))
rest_acknowledged w true e c a = absurd (let bad : Odd ≡ Acknowledged = a in cc)
rest_acknowledged w false false c a = (refl, inl refl)
rest_acknowledged false false true c a = absurd (let bad : Failed ≡ Acknowledged = a in cc)
rest_acknowledged true false true true a = absurd (let bad : Closed ≡ Acknowledged = a in cc)
rest_acknowledged true false true false a = (refl, inr (refl, refl))

acknowledged : (w l s o e c : Bool) → by w l s o e c ≡ Acknowledged → (o ≡ false) × ((e ≡ false) ⊎ ((w ≡ true) × (c ≡ false)))
acknowledged false false false o e c a = absurd (let bad : GoesOn ≡ Acknowledged = a in cc)
acknowledged false false true o e c a = rest_acknowledged false o e c a
acknowledged false true s o e c a = rest_acknowledged false o e c a
acknowledged true l s o e c a = rest_acknowledged true o e c a

waits : (w l s o e c : Bool) → by w l s o e c ≡ GoesOn → (w ≡ false) × (l ≡ false) × (s ≡ false)
waits false false false o e c a = (refl, refl, refl)
waits false false true o e c a = absurd (rest_answers false o e c a)
waits false true s o e c a = absurd (rest_answers false o e c a)
waits true l s o e c a = absurd (rest_answers true o e c a)

-- ---- what came, by whether it is of such a database, large, of one name too many, and has room

abbrev came_by : Bool → Bool → Bool → Bool → Served
came_by other large many room = if other then Unsupported else if large then TooLarge else if many then TooManyNames else if room then GoesOn else TooMuch

goes_on : (other large many room : Bool) → came_by other large many room ≡ GoesOn → (large ≡ false) × (many ≡ false) × (room ≡ true)
goes_on true large many room e = absurd (let bad : Unsupported ≡ GoesOn = e in cc)
goes_on false true many room e = absurd (let bad : TooLarge ≡ GoesOn = e in cc)
goes_on false false true room e = absurd (let bad : TooManyNames ≡ GoesOn = e in cc)
goes_on false false false true e = (refl, refl, refl)
goes_on false false false false e = absurd (let bad : TooMuch ≡ GoesOn = e in cc)

is_ours : (other large many room : Bool) → came_by other large many room ≡ GoesOn → other ≡ false
is_ours true large many room e = absurd (let bad : Unsupported ≡ GoesOn = e in cc)
is_ours false large many room e = refl

unacknowledged : (other large many room : Bool) → came_by other large many room ≢ Acknowledged
unacknowledged true large many room e = let bad : Unsupported ≡ Acknowledged = e in cc
unacknowledged false true many room e = let bad : TooLarge ≡ Acknowledged = e in cc
unacknowledged false false true room e = let bad : TooManyNames ≡ Acknowledged = e in cc
unacknowledged false false false true e = let bad : GoesOn ≡ Acknowledged = e in cc
unacknowledged false false false false e = let bad : TooMuch ≡ Acknowledged = e in cc

unread : (odd : Bool) → (if odd then Odd else GoesOn) ≢ Acknowledged
unread true e = let bad : Odd ≡ Acknowledged = e in cc
unread false e = let bad : GoesOn ≡ Acknowledged = e in cc

named : (large : Bool) → (if large then TooLarge else GoesOn) ≡ GoesOn → large ≡ false
named true e = absurd (let bad : TooLarge ≡ GoesOn = e in cc)
named false e = refl

both : (a b : Bool) → a && b ≡ true → (a ≡ true) × (b ≡ true)
both true b e = (refl, e)
both false b e = absurd (let bad : false ≡ true = e in cc)

unused : (used many : Bool) → not used && many ≡ false → used ≡ false → many ≡ false
unused true many e u = absurd (let bad : true ≡ false = u in cc)
unused false many e u = e

is_not : (b : Bool) → b ≡ true → b ≢ false
is_not b t f = let bad : true ≡ false = sym t ∙ f in cc

-- ---- at the end, and where

late : (amid : Bool) → amid ≡ false → (if amid then GoesOn else Late) ≡ Late
late false e = refl
late true e = absurd (let bad : true ≡ false = e in cc)

zero_if : (n : ℕ) → (n == 0) ≡ true → n ≡ 0
zero_if n e = grind arith

abbrev left_by : Bool → Bool → Served
left_by none some = if none then GoesOn else if some then Late else Ends

is_so : (none some : Bool) → left_by none some ≡ GoesOn → none ≡ true
is_so true some e = refl
is_so false true e = absurd (let bad : Late ≡ GoesOn = e in cc)
is_so false false e = absurd (let bad : Ends ≡ GoesOn = e in cc)

rests : (waiting : ℕ) (some : Bool) → left_by (waiting == 0) some ≡ GoesOn → waiting ≡ 0
rests waiting some e = zero_if waiting (is_so (waiting == 0) some e)

silent : (none some : Bool) → left_by none some ≡ Ends → some ≡ false
silent true some e = absurd (let bad : GoesOn ≡ Ends = e in cc)
silent false true e = absurd (let bad : Late ≡ Ends = e in cc)
silent false false e = refl

said : (none some : Bool) → left_by none some ≡ Late → some ≡ true
said true some e = absurd (let bad : GoesOn ≡ Late = e in cc)
said false true e = refl
said false false e = absurd (let bad : Ends ≡ Late = e in cc)

abbrev placed_by : Bool → Bool → Bool → Served
placed_by one profile same = if not one || not profile then Failed else if same then Profiles else Alone

locked : (one profile same : Bool) → same ≡ true → placed_by one profile same ≢ Alone
locked false p same s e = let bad : Failed ≡ Alone = e in cc
locked true false same s e = let bad : Failed ≡ Alone = e in cc
locked true true true s e = let bad : Profiles ≡ Alone = e in cc
locked true true false s e = let bad : false ≡ true = s in cc

unknown : (one profile same : Bool) → profile ≡ false → placed_by one profile same ≡ Failed
unknown false p same e = refl
unknown true false same e = refl
unknown true true same e = absurd (let bad : true ≡ false = e in cc)

others : (one profile same : Bool) → placed_by one profile same ≡ Profiles → same ≡ true
others false p same e = absurd (let bad : Failed ≡ Profiles = e in cc)
others true false same e = absurd (let bad : Failed ≡ Profiles = e in cc)
others true true true e = refl
others true true false e = absurd (let bad : Alone ≡ Profiles = e in cc)

-- ---- what it says

abbrev entered_by : Bool → Bool → Served
entered_by path short = if not path then PassedOver else if short then GoesOn else LeftOut

path_counts : (path short : Bool) → path ≡ true → entered_by path short ≢ PassedOver
path_counts false short h e = let bad : false ≡ true = h in cc
path_counts true true h e = let bad : GoesOn ≡ PassedOver = e in cc
path_counts true false h e = let bad : LeftOut ≡ PassedOver = e in cc

made : (path short : Bool) → entered_by path short ≡ GoesOn → (path ≡ true) × (short ≡ true)
made false short e = absurd (let bad : PassedOver ≡ GoesOn = e in cc)
made true true e = (refl, refl)
made true false e = absurd (let bad : LeftOut ≡ GoesOn = e in cc)

abbrev ordered_by : Bool → Bool → Bool → Served
ordered_by again covered sets = if again then Replaces else if covered && not sets then PassedOver else GoesOn

set_stays : (again covered sets : Bool) → sets ≡ true → again ≡ false → ordered_by again covered sets ≡ GoesOn
set_stays true covered sets s a = absurd (let bad : true ≡ false = a in cc)
set_stays false false sets s a = refl
set_stays false true true s a = refl
set_stays false true false s a = absurd (let bad : false ≡ true = s in cc)

passed_over : (again covered sets : Bool) → ordered_by again covered sets ≡ PassedOver → (covered ≡ true) × (sets ≡ false)
passed_over true covered sets e = absurd (let bad : Replaces ≡ PassedOver = e in cc)
passed_over false false sets e = absurd (let bad : GoesOn ≡ PassedOver = e in cc)
passed_over false true true e = absurd (let bad : GoesOn ≡ PassedOver = e in cc)
passed_over false true false e = (refl, refl)

once : (again covered sets : Bool) → again ≡ true → ordered_by again covered sets ≡ Replaces
once true covered sets a = refl
once false covered sets a = absurd (let bad : false ≡ true = a in cc)

goes_if : (is : Bool) → (if is then GoesOn else PassedOver) ≡ GoesOn → is ≡ true
goes_if true e = refl
goes_if false e = absurd (let bad : PassedOver ≡ GoesOn = e in cc)

form : (normal turned : Bool) → (if normal && not turned then GoesOn else Replaces) ≡ GoesOn → (normal ≡ true) × (turned ≡ false)
form true false e = (refl, refl)
form true true e = absurd (let bad : Replaces ≡ GoesOn = e in cc)
form false turned e = absurd (let bad : Replaces ≡ GoesOn = e in cc)

key_if : (key directory sets : Bool) → key || (directory && not sets) ≡ true → sets ≡ true → key ≡ true
key_if true directory sets e s = refl
key_if false true true e s = absurd (let bad : false ≡ true = e in cc)
key_if false true false e s = absurd (let bad : false ≡ true = s in cc)
key_if false false sets e s = absurd (let bad : false ≡ true = e in cc)

is_open : (is : Bool) → (if is then GoesOn else Failed) ≡ GoesOn → is ≡ true
is_open true e = refl
is_open false e = absurd (let bad : Failed ≡ GoesOn = e in cc)

abbrev told_by : Bool → Bool → Served
told_by written unmade = if not written then PassedOver else if unmade then LeftOut else GoesOn

told_made : (written unmade : Bool) → told_by written unmade ≡ GoesOn → (written ≡ true) × (unmade ≡ false)
told_made false unmade e = absurd (let bad : PassedOver ≡ GoesOn = e in cc)
told_made true true e = absurd (let bad : LeftOut ≡ GoesOn = e in cc)
told_made true false e = (refl, refl)

told_left : (written unmade : Bool) → written ≡ true → unmade ≡ true → told_by written unmade ≡ LeftOut
told_left false unmade w u = absurd (let bad : false ≡ true = w in cc)
told_left true false w u = absurd (let bad : false ≡ true = u in cc)
told_left true true w u = refl

untold : (written unmade : Bool) → written ≡ false → told_by written unmade ≡ PassedOver
untold false unmade w = refl
untold true unmade w = absurd (let bad : true ≡ false = w in cc)

-- ---- who waits for it, by whether it is large; and by whether it resets directories, and has many edits

at_once : (large : Bool) → (if large then Later else GoesOn) ≡ GoesOn → large ≡ false
at_once true e = absurd (let bad : Later ≡ GoesOn = e in cc)
at_once false e = refl

in_turn : (resets many : Bool) → (if resets || many then Later else GoesOn) ≡ GoesOn → (resets ≡ false) × (many ≡ false)
in_turn true many e = absurd (let bad : Later ≡ GoesOn = e in cc)
in_turn false true e = absurd (let bad : Later ≡ GoesOn = e in cc)
in_turn false false e = (refl, refl)

-- ---- the laws

pub nothing_is_answered_unwritten : NothingIsAnsweredUnwritten
nothing_is_answered_unwritten k = record {
  acknowledged = acknowledged k.is_written (lasts k) k.ends (is_odd k) k.has_edits k.is_closed;
  waits = waits k.is_written (lasts k) k.ends (is_odd k) k.has_edits k.is_closed;
  written = λ w e. is_not k.is_written w (waits k.is_written (lasts k) k.ends (is_odd k) k.has_edits k.is_closed e).0;
  lasting = λ l e. is_not (lasts k) l (waits k.is_written (lasts k) k.ends (is_odd k) k.has_edits k.is_closed e).1;
  before = (unacknowledged k.is_service_db (nat_lt 67108864 k.size) (not k.is_used && nat_le 64 k.names) (has_room k), unread (is_odd k));
}

pub what_waits_is_bounded : WhatWaitsIsBounded
what_waits_is_bounded k = record {
  size = λ e. (goes_on k.is_service_db (nat_lt 67108864 k.size) (not k.is_used && nat_le 64 k.names) (has_room k) e).0;
  waiting = λ e. both (nat_lt k.waiting 10000) (nat_lt k.waiting_size 268435456) (goes_on k.is_service_db (nat_lt 67108864 k.size) (not k.is_used && nat_le 64 k.names) (has_room k) e).2;
  names = λ e u. unused k.is_used (nat_le 64 k.names) (goes_on k.is_service_db (nat_lt 67108864 k.size) (not k.is_used && nat_le 64 k.names) (has_room k) e).1 u;
  told = named (nat_lt 16777216 k.size);
  kind = is_ours k.is_service_db (nat_lt 67108864 k.size) (not k.is_used && nat_le 64 k.names) (has_room k);
  reads = at_once (nat_lt 4096 k.size);
  turn = in_turn (nat_lt 0 k.resets) (nat_lt 16 k.edits);
}

at_the_end : (amid : Bool) (w l s o e c : Bool) → ((if amid then GoesOn else Late) ≡ Late) ⊎ ((amid ≡ true) × (s ≡ true → by w l s o e c ≢ GoesOn))
at_the_end false w l s o e c = inl refl
at_the_end true w l s o e c = inr (refl, λ t g. is_not s t (waits w l s o e c g).2)

pub who_waits_is_told_at_the_end : WhoWaitsIsToldAtTheEnd
who_waits_is_told_at_the_end k last = record {
  told = at_the_end k.is_amid last.is_written (lasts last) last.ends (is_odd last) last.has_edits last.is_closed;
  unwritten = late k.is_amid;
  rests = rests k.waiting (nat_lt k.answered k.waiting);
  silent = silent (k.waiting == 0) (nat_lt k.answered k.waiting);
  said = said (k.waiting == 0) (nat_lt k.answered k.waiting);
}

says_so : (says : Bool) → (if says then PassedOver else GoesOn) ≡ PassedOver → says ≡ true
says_so true e = refl
says_so false e = absurd (let bad : GoesOn ≡ PassedOver = e in cc)

pub locks_count_where_they_are_known : LocksCountWhereTheyAreKnown
locks_count_where_they_are_known k = record {
  locked = locked k.is_open k.is_profile_open k.has_same_file;
  unknown = unknown k.is_open k.is_profile_open k.has_same_file;
  others = others k.is_open k.is_profile_open k.has_same_file;
  profile = says_so k.has_profile;
  opened = is_open k.is_open;
}

pub what_is_sent_counts : WhatIsSentCounts
what_is_sent_counts k = record {
  path = path_counts (is_path k) k.is_short;
  made = made (is_path k) k.is_short;
  key = λ e s. zero_if k.kind (key_if (k.kind == 0) (k.kind == 1) k.sets (made (is_path k) k.is_short e).0 s);
  form = form k.is_normal k.is_turned;
  set = set_stays k.is_again k.is_covered k.sets;
  covered = passed_over k.is_again k.is_covered k.sets;
  once = once k.is_again k.is_covered k.sets;
  own = λ e. both k.is_users k.is_first (goes_if (k.is_users && k.is_first) e);
}

pub what_is_made_is_told : WhatIsMadeIsTold
what_is_made_is_told k = record {
  made = told_made k.is_written k.is_unmade;
  left_out = told_left k.is_written k.is_unmade;
  unwritten = untold k.is_written k.is_unmade;
  alone = refl;
}

-- ---- beside the main thread, by whether its database is in use, it is behind another, the service ends, and calls are noted

abbrev passed_by : Bool → Bool → Bool → Bool → Served → Served
passed_by used behind ends noted came = if not used || (behind || (ends || noted)) then Later else came

waits_behind : (used behind ends noted : Bool) (came : Served) → behind ≡ true → passed_by used behind ends noted came ≡ Later
waits_behind false behind ends noted came b = refl
waits_behind true true ends noted came b = refl
waits_behind true false ends noted came b = absurd (let bad : false ≡ true = b in cc)

waits_at_the_end : (used behind ends noted : Bool) (came : Served) → ends ≡ true → passed_by used behind ends noted came ≡ Later
waits_at_the_end false behind ends noted came e = refl
waits_at_the_end true true ends noted came e = refl
waits_at_the_end true false true noted came e = refl
waits_at_the_end true false false noted came e = absurd (let bad : false ≡ true = e in cc)

waits_to_be_noted : (used behind ends noted : Bool) (came : Served) → noted ≡ true → passed_by used behind ends noted came ≡ Later
waits_to_be_noted false behind ends noted came n = refl
waits_to_be_noted true true ends noted came n = refl
waits_to_be_noted true false true noted came n = refl
waits_to_be_noted true false false true came n = refl
waits_to_be_noted true false false false came n = absurd (let bad : false ≡ true = n in cc)

waits_to_be_open : (used behind ends noted : Bool) (came : Served) → used ≡ false → passed_by used behind ends noted came ≡ Later
waits_to_be_open false behind ends noted came u = refl
waits_to_be_open true behind ends noted came u = absurd (let bad : true ≡ false = u in cc)

fits_by : (used behind ends noted : Bool) (came : Served) → passed_by used behind ends noted came ≡ GoesOn → came ≡ GoesOn
fits_by false behind ends noted came g = absurd (let bad : Later ≡ GoesOn = g in cc)
fits_by true true ends noted came g = absurd (let bad : Later ≡ GoesOn = g in cc)
fits_by true false true noted came g = absurd (let bad : Later ≡ GoesOn = g in cc)
fits_by true false false true came g = absurd (let bad : Later ≡ GoesOn = g in cc)
fits_by true false false false came g = g

pub what_came_first_is_first : WhatCameFirstIsFirst
what_came_first_is_first k = record {
  behind = waits_behind k.is_used k.is_behind k.ends k.is_noted (came k);
  ends = waits_at_the_end k.is_used k.is_behind k.ends k.is_noted (came k);
  noted = waits_to_be_noted k.is_used k.is_behind k.ends k.is_noted (came k);
  used = waits_to_be_open k.is_used k.is_behind k.ends k.is_noted (came k);
  fits = fits_by k.is_used k.is_behind k.ends k.is_noted (came k);
}

wants_none : (none : Bool) → none ≡ true → (if none then PassedOver else GoesOn) ≡ PassedOver
wants_none true e = refl
wants_none false e = absurd (let bad : false ≡ true = e in cc)

pub what_is_asked_is_said : WhatIsAskedIsSaid
what_is_asked_is_said k = record {
  answer = says_so k.wants_none;
  wanted = wants_none k.wants_none;
  noted = goes_if k.is_noted;
}
