-- At which subcommands a walk over words stops.
use Rattle.std.proofs.Common.{◌≡◌, ◌∷◌, ◌&&◌, ◌∙◌, ℕ, Bool, true, false, List, [], refl, sym, Option, Some, None, is_some, if◌then◌else◌, codes}
use Rattle.std.specs.Prelude.{◌≢◌, ⊤, IfSome, fold}
use Rattle.std.specs.Str.{bytes_eq}
use Rattle.std.proofs.lemmas.Bool.{cond_both}
use Rattle.std.proofs.lemmas.Slice.Eq.{bytes_eq-Decides}
use Rattle.clap.specs.Kinds.{Kinds, or_else}
use Rattle.clap.specs.Simple.{Shape}
use Rattle.clap.specs.Faults.{other_fault, walk_fault}
use Rattle.clap.specs.Lexer.{long_of, short_of}
use Rattle.clap.specs.Walk.{Held, Names, Outcome, Rule, Step, Text, Waiting, Walk, done, waits, plain, refused, idle, option, positional, next, trailing, subcommand, value}
use Rattle.clap.specs.Walk.{after_flag, after_step, arg_by_index, arg_by_long, bundle, long_met, long_or_other, plain_word, short_or_plain, subcommand_met, subcommand_or_other, to_positional, walk_from, walked, walked_from, word_met}
use Rattle.clap.specs.declared.error.kind.ErrorKind.TheVariants as kind

pub or_else_nil : (a b : Kinds) → or_else a b ≡ [] → (a ≡ []) × (b ≡ [])
or_else_nil [] b e = (refl, e)
or_else_nil (k ∷ ks) b e = cc

-- the step is into no subcommand
abbrev StaysHere : Step → Type 0
StaysHere (next waiting) = ⊤
StaysHere (trailing place) = ⊤
StaysHere (subcommand name) = ⊥
StaysHere value = ⊤

module _ (c : List Rule) (word : Text) where
  plain_word_stays : (waiting : Waiting) (h : Held) → StaysHere (plain_word c waiting word h).1
  plain_word_stays idle h = tt
  plain_word_stays (option id) h = tt
  plain_word_stays positional h = tt

  after_flag_stays : (waiting : Waiting) (h : Held) (o : Outcome) → StaysHere (after_flag c waiting word h o).1
  after_flag_stays waiting h done = tt
  after_flag_stays waiting h (waits id) = tt
  after_flag_stays waiting h plain = plain_word_stays waiting h
  after_flag_stays waiting h refused = plain_word_stays waiting h

  short_or_plain_stays : (waiting : Waiting) (flags : Option Text) (h : Held) → StaysHere (short_or_plain c waiting word flags h).1
  short_or_plain_stays waiting None h = plain_word_stays waiting h
  short_or_plain_stays waiting (Some flags) h = after_flag_stays waiting (bundle c flags h).0 (bundle c flags h).1

  long_or_other_stays : (waiting : Waiting) (p : Option (Text × Option Text)) (h : Held) → StaysHere (long_or_other c waiting word p h).1
  long_or_other_stays waiting None h = short_or_plain_stays waiting (short_of word) h
  long_or_other_stays waiting (Some p) h = after_flag_stays waiting (long_met c (arg_by_long c p.0) p.1 h).0 (long_met c (arg_by_long c p.0) p.1 h).1

-- the step is into none but these subcommands
abbrev Passes : (Text → Type 0) → Step → Type 0
Passes P (next waiting) = ⊤
Passes P (trailing place) = ⊤
Passes P (subcommand name) = P name
Passes P value = ⊤

stays_passes : (P : Text → Type 0) (step : Step) → StaysHere step → Passes P step
stays_passes P (next waiting) h = tt
stays_passes P (trailing place) h = tt
stays_passes P (subcommand name) h = absurd h
stays_passes P value h = tt

-- where a walk stopped it is at one of these
abbrev pub StopsAt : (Text → Type 0) → Option (Text × List Text) → Type 0
StopsAt P stop = IfSome stop (λ p. P p.0)

-- a walk that goes on meets no others at a word
abbrev pub Meets : (Text → Type 0) → Names → Walk → Text → Type 0
Meets P names w word = w.stopped ≡ None → w.is_trailing ≡ false → IfSome (subcommand_met names w.waiting word) P

module _ (P : Text → Type 0) (c : List Rule) (names : Names) where
  other_passes : (name : Option Text) (waiting : Waiting) (place : ℕ) (word : Text) (h : Held) → IfSome name P
      → Passes P (subcommand_or_other c name waiting place word h).1
  other_passes None waiting place word h met =
      cond_both (bytes_eq word (45 ∷ 45 ∷ [])) (h, trailing place) (long_or_other c waiting word (long_of word) h) (λ (met : Held × Step). Passes P met.1)
      (λ dashes. tt) (λ other. stays_passes P _ (long_or_other_stays c word waiting (long_of word) h))
  other_passes (Some name) waiting place word h met = met

  word_passes : (is_trailing : Bool) (waiting : Waiting) (place : ℕ) (word : Text) (h : Held)
      → (is_trailing ≡ false → IfSome (subcommand_met names waiting word) P) → Passes P (word_met c names is_trailing waiting place word h).1
  word_passes true waiting place word h met = tt
  word_passes false waiting place word h met = other_passes (subcommand_met names waiting word) waiting place word h (met refl)

  to_positional_stops : (a : Option Rule) (word : Text) (w : Walk) (h : Held) → StopsAt P w.stopped → StopsAt P (to_positional c a word w h).stopped
  to_positional_stops None word w h i = i
  to_positional_stops (Some a) word w h i = tt

  after_step_stops : (word : Text) (w : Walk) (h : Held) (step : Step) → StopsAt P w.stopped → Passes P step
      → StopsAt P (after_step c word w h step).stopped
  after_step_stops word w h (next waiting) i p = i
  after_step_stops word w h (trailing place) i p = i
  after_step_stops word w h (subcommand name) i p = p
  after_step_stops word w h value i p = to_positional_stops (arg_by_index c w.position) word w h i

  walked_from_stops : (stop : Option (Text × List Text)) (w : Walk) (word : Text) → StopsAt P w.stopped → StopsAt P stop
      → (stop ≡ None → w.is_trailing ≡ false → IfSome (subcommand_met names w.waiting word) P) → StopsAt P (walked_from c names stop w word).stopped
  walked_from_stops None w word i j met =
      let step = word_met c names w.is_trailing w.waiting w.position word w.held in
      after_step_stops word w step.0 step.1 i (word_passes w.is_trailing w.waiting w.position word w.held (met refl))
  walked_from_stops (Some p) w word i j met = j

  -- the walk stops at these, if it meets no others at each word
  pub fold_stops : (Fine : Walk → List Text → Type 0)
      → ((w : Walk) (word : Text) (rest : List Text) → Fine w (word ∷ rest) → Meets P names w word × Fine (walked c names w word) rest)
      → (words : List Text) (w : Walk) → StopsAt P w.stopped → Fine w words → StopsAt P (fold (walked c names) w words).stopped
  unfolding walked
  fold_stops Fine each [] w i f = i
  fold_stops Fine each (word ∷ rest) w i f =
      let met = each w word rest f in fold_stops Fine each rest (walked c names w word) (walked_from_stops w.stopped w word i i met.0) met.1

no_help : (name : Text) (same : Bool) → bytes_eq name (codes "help") ≡ same
    → (if same && true then kind.DisplayHelp ∷ kind.InvalidSubcommand ∷ [] else []) ≡ [] → name ≢ codes "help"
no_help name true is e = cc
no_help name false is e = λ help. let other : true ≡ false = sym ((bytes_eq-Decides name (codes "help")).1 help) ∙ is in cc

abbrev pub IsNotHelp : Text → Type 0
IsNotHelp name = name ≢ codes "help"

module _ (s : Shape) (names : Names) (offers : s.disable_help_subcommand ≡ false) where
  turn_not_help : (stop : Option (Text × List Text)) (is_trailing : Bool) (met : Option Text) (word : Text) (h : Held) (later : Kinds)
      → (if is_some stop then [] else or_else (if is_trailing then [] else other_fault s met word h) later) ≡ []
      → stop ≡ None → is_trailing ≡ false → IfSome met IsNotHelp
  turn_not_help (Some p) is_trailing met word h later e going near = cc
  turn_not_help None true met word h later e going near = cc
  turn_not_help None false None word h later e going near = tt
  turn_not_help None false (Some name) word h later e going near =
      no_help name (bytes_eq name (codes "help")) refl (rw offers at (or_else_nil (other_fault s (Some name) word h) later e).0)

  each_not_help : (w : Walk) (word : Text) (rest : List Text) → walk_fault s names w (word ∷ rest) ≡ []
      → Meets IsNotHelp names w word × (walk_fault s names (walked s.rules names w word) rest ≡ [])
  unfolding walk_fault
  each_not_help w word rest e =
      let parts = or_else_nil _ _ e in (turn_not_help w.stopped w.is_trailing (subcommand_met names w.waiting word) word w.held _ parts.0, parts.1)

  -- the words are without a fault, so the walk over them didn't stop at `help`
  pub walk_not_help : (h : Held) (words : List Text) → walk_fault s names (walk_from h) words ≡ []
      → StopsAt IsNotHelp (fold (walked s.rules names) (walk_from h) words).stopped
  walk_not_help h words e = fold_stops IsNotHelp s.rules names (λ w rest. walk_fault s names w rest ≡ []) each_not_help words (walk_from h) tt e
