-- Who is told that something is seen otherwise than before, list by list, and path by path.
use Rattle.std.specs.Prelude.{ℕ, ◌≡◌, ◌≢◌, ◌<◌, Bool, true, false, not, ◌&&◌, ◌||◌, if◌then◌else◌, ◌==◌, nat_lt}
use Rattle.dconf_seen.specs.declared.seen.Word.{Word}
use Rattle.dconf_seen.specs.Reading.{found_by, found_number}
use Rattle.dconf_rounds.specs.declared.telling.PathsHanded.{PathsHanded}
use Rattle.dconf_rounds.specs.declared.telling.PathsHanded.TheVariants as handing
use Rattle.dconf_rounds.specs.declared.telling.TellKnown.{TellKnown}
use Rattle.dconf_rounds.specs.declared.telling.Telling.{Telling}
use Rattle.dconf_rounds.specs.declared.telling.Telling.TheVariants.{Nothing, Take, TellAndTake, Tell, All, CatchUp, Rights, Values, Warn, Print, Over}

-- there is something that is the newest, and is another than before
abbrev pub is_news : TellKnown → Bool
is_news k = k.is_other && not k.is_unseen

-- nobody has seen anything before, or the program ends, or nothing can be seen otherwise
abbrev pub is_silent : TellKnown → Bool
is_silent k = k.is_first || (k.ends || not (is_news k || k.has_edits))

-- whoever else tells of the files looks at them first; what may be written is told before what is seen; and faults are told whoever is told of that
abbrev pub list_after : TellKnown → Telling
list_after k =
    if nat_lt k.list 5 && (k.is_of_files && not (is_silent k)) then CatchUp else if nat_lt k.list 6 && (k.has_rights && not (is_silent k)) then Rights else
    if nat_lt k.list 7 && not (is_silent k) then Values else if nat_lt k.list 8 && k.has_faults then (if k.ends then Print else Warn) else Over

-- at most 255 paths are in one notice, and only those that somebody listens to; and without memory all are told
abbrev pub tell_next : TellKnown → Telling
tell_next k =
    if k.is_between then list_after k else if is_silent k then Nothing else if not k.is_found then All else if not k.is_listened then Nothing else
    if not k.has_path then (if k.taken == 0 then Nothing else Tell) else if nat_lt k.taken 255 then Take else TellAndTake

abbrev pub telling_number : Telling → ℕ
telling_number Nothing = 0
telling_number Take = 1
telling_number TellAndTake = 2
telling_number Tell = 3
telling_number All = 4
telling_number CatchUp = 5
telling_number Rights = 6
telling_number Values = 7
telling_number Warn = 8
telling_number Print = 9
telling_number Over = 10

-- ---- which keys are asked for by their type

-- who asks for the setting by a type finds it elsewhere than who asks for any; who asks for anything else passes over nothing
abbrev pub passes_over : Bool → Bool → Word → Bool → Bool → Bool → Bool → Bool
passes_over user default word writable may edit stored =
    not (user || default) &&
    not (found_number (found_by false false word writable may edit stored) == found_number (found_by false false word writable may true true))

-- ---- the law

abbrev pub is_taken : Telling → Bool
is_taken Take = true
is_taken TellAndTake = true
is_taken _ = false

abbrev pub is_sent : Telling → Bool
is_sent Tell = true
is_sent TellAndTake = true
is_sent _ = false

abbrev pub is_all : Telling → Bool
is_all All = true
is_all _ = false

pub record IsGoodTelling (k : TellKnown) : Type 0 where
  -- each path that somebody listens to is told, unless nobody is told of anything
  pub heard : k.is_between ≡ false → is_taken (tell_next k) ≡ (not (is_silent k) && (k.is_found && (k.is_listened && k.has_path)))
  -- and nothing is left out because nobody knows what it is
  pub lost : k.is_between ≡ false → is_all (tell_next k) ≡ (not (is_silent k) && not k.is_found)
  -- no notice is empty, or has more than 255
  pub some : is_sent (tell_next k) ≡ true → 0 < k.taken
  pub short : tell_next k ≡ Take → k.taken < 255
  -- what was taken is told at last
  pub rest : k.is_between ≡ false → is_silent k ≡ false → k.is_found ≡ true → k.is_listened ≡ true → k.has_path ≡ false → 0 < k.taken → tell_next k ≡ Tell

-- which list comes behind that one
abbrev pub next_list : TellKnown → ℕ → Telling
next_list k last = list_after (record k { list = last })

-- What needn't be asked: whether somebody listens to what all begin with, where nothing was taken; and whether the program ends, where nothing is told if it
-- doesn't.
pub record IsToldEnough (k : TellKnown) (answer : Bool) : Type 0 where
  pub listened : k.is_between ≡ false → k.has_path ≡ false → k.taken ≡ 0 → tell_next (record k { is_listened = answer }) ≡ tell_next k
  pub ends : k.is_between ≡ true → tell_next (record k { ends = false }) ≡ Over → tell_next (record k { ends = answer }) ≡ Over

pub record IsGoodOrder (k : TellKnown) : Type 0 where
  -- what stands in files is told after whoever else tells of them has looked
  pub first : is_silent k ≡ false → k.is_of_files ≡ true → next_list k 0 ≡ CatchUp
  pub own : k.is_of_files ≡ false → next_list k 0 ≡ next_list k (telling_number CatchUp)
  -- both lists are told, what may be written first, and each once
  pub rights : is_silent k ≡ false → k.has_rights ≡ true → next_list k (telling_number CatchUp) ≡ Rights
  pub values : is_silent k ≡ false → k.has_rights ≡ false → next_list k (telling_number CatchUp) ≡ Values
  pub after : is_silent k ≡ false → next_list k (telling_number Rights) ≡ Values
  -- and none if nobody is told of anything
  pub silent : is_silent k ≡ true → next_list k 0 ≡ next_list k (telling_number Values)
  -- but faults always are, at last, and once; at the program's end where nobody takes warnings any more
  pub faults : k.has_faults ≡ true → next_list k (telling_number Values) ≡ (if k.ends then Print else Warn)
  pub none : k.has_faults ≡ false → next_list k (telling_number Values) ≡ Over
  pub warned : next_list k (telling_number Warn) ≡ Over
  pub printed : next_list k (telling_number Print) ≡ Over

abbrev pub WhatIsHeardIsTold : Type 0
WhatIsHeardIsTold = (k : TellKnown) → IsGoodTelling k × IsGoodOrder k

abbrev pub WhatIsNotAskedIsNotTold : Type 0
WhatIsNotAskedIsNotTold = (k : TellKnown) (answer : Bool) → IsToldEnough k answer

-- ---- what counts as told

abbrev pub handed : Bool → Bool → PathsHanded
handed has_paths has_looked = if not has_paths then handing.Not else if has_looked then handing.Whole else handing.Partly

abbrev pub handed_number : PathsHanded → ℕ
handed_number handing.Not = 0
handed_number handing.Partly = 1
handed_number handing.Whole = 2

-- law: nothing counts as told that wasn't handed out, and what was handed out isn't told again; and the files count as looked at only if they were
pub record IsHandedOut (has_paths has_looked : Bool) : Type 0 where
  pub kept : has_paths ≡ false → handed has_paths has_looked ≡ handing.Not
  pub told : has_paths ≡ true → handed has_paths has_looked ≢ handing.Not
  pub whole : handed has_paths has_looked ≡ handing.Whole → (has_paths ≡ true) × (has_looked ≡ true)

abbrev pub WhatIsNotHandedOutIsKept : Type 0
WhatIsNotHandedOutIsKept = (has_paths has_looked : Bool) → IsHandedOut has_paths has_looked

-- who only gets and sets runs no main loop: a main context of one who listens says whether it turns, and that is asked of each once, until one does
abbrev pub asks_context : Bool → Bool → Bool
asks_context has_turned is_asked = not (has_turned || is_asked)
