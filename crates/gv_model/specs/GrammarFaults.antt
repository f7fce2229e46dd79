-- Where tokens that are no syntax tree's go wrong first: at the end of the longest prefix that begins some tree's tokens.
-- A token has a place: its number here, or its bytes in the text.
use Rattle.std.specs.Prelude.{ℕ, suc, List, [], ◌∷◌, ◌++◌, length, Option, Some, None, Result, Ok, Err, nat_le, if◌then◌else◌}
use Rattle.gv_model.specs.Tokens.{Mark, Token}
use Rattle.gv_model.specs.TextFault.{Cause}
use Rattle.gv_model.specs.Tokens.Mark.{open_tuple, close_tuple, open_list, close_list, open_brace, close_brace, open_box, close_box, comma, colon}
use Rattle.gv_model.specs.Tokens.Word.{truth as truth_word, just as just_word, nothing as nothing_word, type_word}
use Rattle.gv_model.specs.Tokens.Token.{mark, string_token, byte_string, integer_token, type_token, word}
use Rattle.gv_model.specs.TextFault.Cause.{unclosed, unexpected, too_deep}

-- how far a bracket has come
pub data Stage : Type 0 where
  list_start list_more : Stage
  tuple_start tuple_one tuple_two tuple_more : Stage
  brace_start brace_first pair_more pair_colon lone_end : Stage
  box_end : Stage

-- What is wanted next: a value so deep; or the rest of a bracket, whose values are so deep and which was opened at
-- that place.
pub data Want (P : Type 0) : Type 0 where
  a_value : ℕ → Want P
  inside : Stage → ℕ → P → Want P

-- where a value may occur at a stage, the stage after it
abbrev pub after_value : Stage → Option Stage
after_value list_start = Some list_more
after_value tuple_start = Some tuple_one
after_value tuple_two = Some tuple_more
after_value brace_start = Some brace_first
after_value _ = None

pub data Next : Type 0 where
  -- the bracket is closed
  closed : Next
  goes_on : Stage → Next
  -- a value, and then that stage
  value_then : Stage → Next
  wrong : Next

-- what comes after a mark that doesn't begin a value
abbrev pub after_mark : Stage → Mark → Next
after_mark list_start close_list = closed
after_mark list_more close_list = closed
after_mark list_more comma = value_then list_more
after_mark tuple_start close_tuple = closed
after_mark tuple_one comma = goes_on tuple_two
after_mark tuple_two close_tuple = closed
after_mark tuple_more comma = value_then tuple_more
after_mark tuple_more close_tuple = closed
after_mark brace_start close_brace = closed
after_mark brace_first colon = value_then pair_more
after_mark brace_first comma = value_then lone_end
after_mark pair_more comma = value_then pair_colon
after_mark pair_more close_brace = closed
after_mark pair_colon colon = value_then pair_more
after_mark lone_end close_brace = closed
after_mark box_end close_box = closed
after_mark _ _ = wrong

-- a fault and the place of its token; or that of the end of the text
abbrev pub FaultAt : Type 0 → Type 0
FaultAt P = Cause × P

-- what a token leaves wanted, or its fault
abbrev pub Left : Type 0 → Type 0
Left P = Result (List (Want P)) (FaultAt P)

-- what is wanted after a token that begins a value so deep
abbrev pub begun_wants : {P : Type 0} → ℕ → P → Token → Option (List (Want P))
begun_wants d p (mark open_list) = Some (inside list_start (suc d) p ∷ [])
begun_wants d p (mark open_tuple) = Some (inside tuple_start (suc d) p ∷ [])
begun_wants d p (mark open_brace) = Some (inside brace_start (suc d) p ∷ [])
begun_wants d p (mark open_box) = Some (a_value (suc d) ∷ inside box_end (suc d) p ∷ [])
begun_wants d p (mark _) = None
begun_wants d p (string_token s) = Some []
begun_wants d p (byte_string s) = Some []
begun_wants d p (integer_token negative m) = Some []
begun_wants d p (type_token t) = Some (a_value (suc d) ∷ [])
begun_wants d p (word (truth_word b)) = Some []
begun_wants d p (word nothing_word) = Some []
begun_wants d p (word just_word) = Some (a_value (suc d) ∷ [])
begun_wants d p (word (type_word k)) = Some (a_value (suc d) ∷ [])

-- what a token leaves wanted, where there may be so many levels
abbrev pub begun : {P : Type 0} → ℕ → ℕ → P → List (Want P) → Option (List (Want P)) → Left P
begun l d p rest None = Err (unexpected, p)
begun l d p rest (Some wants) = if nat_le d l then Ok (wants ++ rest) else Err (too_deep, p)

abbrev pub stage_or_value : {P : Type 0} → ℕ → ℕ → P → P → Token → Option Stage → Left P
stage_or_value l d at p t None = Err (unexpected, p)
stage_or_value l d at p t (Some s) = begun l d p (inside s d at ∷ []) (begun_wants d p t)

abbrev pub after_next : {P : Type 0} → ℕ → Stage → ℕ → P → P → Token → Next → Left P
after_next l s d at p t closed = Ok []
after_next l s d at p t (goes_on r) = Ok (inside r d at ∷ [])
after_next l s d at p t (value_then r) = Ok (a_value d ∷ inside r d at ∷ [])
after_next l s d at p t wrong = stage_or_value l d at p t (after_value s)

abbrev pub step : {P : Type 0} → ℕ → Want P → P → Token → Left P
step l (a_value d) p t = begun l d p [] (begun_wants d p t)
step l (inside s d at) p (mark m) = after_next l s d at p (mark m) (after_mark s m)
step l (inside s d at) p t = stage_or_value l d at p t (after_value s)

-- at the end: the innermost open bracket, or else a value that is missing at the end
abbrev pub at_end : {P : Type 0} → P → List (Want P) → FaultAt P
at_end end [] = (unexpected, end)
at_end end (inside s d at ∷ wants) = (unclosed, at)
at_end end (a_value d ∷ wants) = at_end end wants

abbrev pub wants_of : {P : Type 0} → Left P → List (Want P)
wants_of (Ok wants) = wants
wants_of (Err e) = []

abbrev pub or_fault : {P : Type 0} → Left P → Option (FaultAt P) → Option (FaultAt P)
or_fault (Ok wants) later = later
or_fault (Err e) later = Some e

-- the first fault of tokens, each with its place, where these things are wanted in this order and the text ends there
unfoldable pub first_fault : {P : Type 0} → P → List (Want P) → List (P × Token) → Option (FaultAt P)
first_fault end [] [] = None
first_fault end (w ∷ wants) [] = Some (at_end end (w ∷ wants))
first_fault end [] (t ∷ ts) = Some (unexpected, t.0)
first_fault end (w ∷ wants) (t ∷ ts) = or_fault (step 128 w t.0 t.1) (first_fault end (wants_of (step 128 w t.0 t.1) ++ wants) ts)

-- tokens with their numbers, the first having that one
abbrev pub numbered : ℕ → List Token → List (ℕ × Token)
numbered n [] = []
numbered n (t ∷ ts) = (n, t) ∷ numbered (suc n) ts

-- a fault and the number of its token; the number past the last is the end of the text
abbrev pub NumberedFault : Type 0
NumberedFault = FaultAt ℕ

-- the first fault of the tokens of a text
abbrev pub grammar_fault : List Token → Option NumberedFault
grammar_fault ts = first_fault (length ts) (a_value 1 ∷ []) (numbered 0 ts)
