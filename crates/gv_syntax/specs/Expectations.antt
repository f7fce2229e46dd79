-- Where the tokens of a text are no syntax tree's: the model's first fault of tokens, with their spans as places.
use Rattle.std.specs.Prelude.{ℕ, ◌≡◌, ◌⊎◌, List, [], ◌∷◌, ◌++◌, Bool, true, false, Option, Some, Result, Ok, Err, map, option_map, unwrap_or}
use Rattle.std.specs.Global.{Global}
use Rattle.std.specs.declared.vec.IntoIter.{IntoIter}
use Rattle.std.specs.Vec.Iter.{into_iter_items}
use Rattle.gv_model.specs.TextFault.{Cause}
use Rattle.gv_model.specs.TextFault.Cause.{bad_token, unclosed, bad_escape, double_text, unexpected, too_deep}
use Rattle.gv_model.specs.Tokens.{Mark as TheMark, Token as TheToken}
use Rattle.gv_model.specs.Tokens.Mark.{comma}
use Rattle.gv_model.specs.Tokens.Token.{mark}
use Rattle.gv_model.specs.GrammarFaults.{Stage, Want as WantAt, FaultAt, begun_wants, at_end as end_fault, first_fault as first_fault_at}
use Rattle.gv_model.specs.GrammarFaults.Stage.{list_more, tuple_more, pair_more, pair_colon, lone_end, box_end}
use Rattle.gv_syntax.specs.declared.token.Mark.{Mark}
use Rattle.gv_syntax.specs.declared.token.Mark.TheVariants.{CloseArray, CloseTuple, CloseBrace, CloseVariant, Colon}
use Rattle.gv_syntax.specs.declared.token.Span.{Span}
use Rattle.gv_syntax.specs.declared.token.Token.{Token}
use Rattle.gv_syntax.specs.declared.fault.TextCause.{TextCause}
use Rattle.gv_syntax.specs.declared.fault.TextCause.TheVariants.{BadToken, Unclosed, BadEscape, DoubleText, Unexpected, TooDeep}
use Rattle.refused.specs.declared.Refused.{Refused}
use Rattle.refused.specs.declared.Refused.TheVariants.{Fault}
use Rattle.refused.specs.Faults.{OfFault}
use Rattle.gv_syntax.specs.declared.fault.TextFlaw.{TextFlaw}
use Rattle.gv_syntax.specs.ModelTokens.{token_of}

abbrev pub cause_as : Cause → TextCause
cause_as bad_token = BadToken
cause_as unclosed = Unclosed
cause_as bad_escape = BadEscape
cause_as double_text = DoubleText
cause_as unexpected = Unexpected
cause_as too_deep = TooDeep

-- the fault that the caller gets
abbrev pub refused : TextCause → Span → Refused TextFlaw
refused cause span = Fault (record { cause = cause; span = span })

abbrev pub fault_as : FaultAt Span → Refused TextFlaw
fault_as f = refused (cause_as f.0) f.1

abbrev pub Want : Type 0
Want = WantAt Span

abbrev pub at_spans : List Token → List (Span × TheToken)
at_spans ts = map (λ t. (t.span, token_of t.kind)) ts

-- the fault where the text ends there and these things are wanted
abbrev pub at_end : Span → List Want → Refused TextFlaw
at_end end wants = fault_as (end_fault end wants)

-- the first fault of tokens where these things are wanted in this order and the text ends there
unfoldable pub first_fault : Span → List Want → List Token → Option (Refused TextFlaw)
first_fault end wants ts = option_map fault_as (first_fault_at end wants (at_spans ts))

abbrev pub kinds_of : List Token → List TheToken
kinds_of ts = map (λ t. token_of t.kind) ts

-- the tokens that an iterator has left
abbrev pub left : IntoIter Token Global → List Token
left rest = into_iter_items rest

-- what is wanted after a token that begins a value
abbrev pub wants_after : ℕ → Span → TheToken → List Want
wants_after d s t = unwrap_or (begun_wants d s t) []

-- these tokens hold what is wanted first, and there is nothing amiss up to those that are left
abbrev pub Passes : List Want → List Token → List Token → Type 0
Passes ws old new = (end : Span) (more : List Want) → first_fault end (ws ++ more) old ≡ first_fault end more new

-- this fault is in them, where the text's end would be that one
abbrev pub StopsWith : Refused TextFlaw → List Want → List Token → Refused TextFlaw → Type 0
StopsWith ended ws old fault = OfFault (λ f. (end : Span) (more : List Want) → at_end end more ≡ ended → first_fault end (ws ++ more) old ≡ Some (Fault f)) fault

-- this fault is in them, whatever follows
abbrev pub Stops : List Want → List Token → Refused TextFlaw → Type 0
Stops ws old fault = OfFault (λ f. (end : Span) (more : List Want) → first_fault end (ws ++ more) old ≡ Some (Fault f)) fault

-- the first token is this one
pub record Taken (t : TheToken) (old new : List Token) : Type 0 where
  pub first : Token
  pub tokens : old ≡ first ∷ new
  pub kind : token_of first.kind ≡ t

-- no token is left in the bracket that was opened there, or else one that is other than it should be
pub record OneOther (IsRight : TheToken → Type 0) (old : List Token) (f : Refused TextFlaw) : Type 0 where
  pub first : Token
  pub later : List Token
  pub tokens : old ≡ first ∷ later
  pub kind : IsRight (token_of first.kind) → ⊥
  pub fault : f ≡ refused Unexpected first.span

abbrev pub NotTaken : (TheToken → Type 0) → Span → List Token → Refused TextFlaw → Type 0
NotTaken IsRight opened old f = ((old ≡ []) × (f ≡ refused Unclosed opened)) ⊎ OneOther IsRight old f

abbrev pub TakesMark : TheMark → Span → List Token → List Token → Result (Unit {0}) (Refused TextFlaw) → Type 0
TakesMark m opened old new (Ok x) = Taken (mark m) old new
TakesMark m opened old new (Err f) = NotTaken (λ t. t ≡ mark m) opened old f

abbrev pub TakesSeparator : TheMark → Span → List Token → List Token → Result Bool (Refused TextFlaw) → Type 0
TakesSeparator m opened old new (Ok true) = Taken (mark comma) old new
TakesSeparator m opened old new (Ok false) = Taken (mark m) old new
TakesSeparator m opened old new (Err f) = NotTaken (λ t. (t ≡ mark comma) ⊎ (t ≡ mark m)) opened old f

-- the stage of a bracket in which a `,` or the mark that closes it is
abbrev pub more_stage : Mark → Stage
more_stage CloseArray = list_more
more_stage CloseTuple = tuple_more
more_stage _ = pair_more

-- marks that come after one value, and the stage of a bracket in which each is
abbrev pub EndsValue : Mark → Type 0
EndsValue Colon = Unit {0}
EndsValue CloseBrace = Unit {0}
EndsValue CloseVariant = Unit {0}
EndsValue _ = ⊥

abbrev pub end_stage : Mark → Stage
end_stage Colon = pair_colon
end_stage CloseBrace = lone_end
end_stage _ = box_end

-- marks that close values with `,` between
abbrev pub ClosesValues : Mark → Type 0
ClosesValues CloseArray = Unit {0}
ClosesValues CloseTuple = Unit {0}
ClosesValues _ = ⊥
