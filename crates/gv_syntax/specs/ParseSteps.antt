-- What the parts of reading a value take from the tokens.
use Rattle.std.specs.Prelude.{ℕ, ◌≡◌, ◌≤◌, ◌+◌, List, [], ◌∷◌, ◌++◌, Some, None, Result, Ok, Err, IsSome, option_map}
use Rattle.gv_model.specs.Syntax.{Syntax as Value, levels, greatest_levels, pairs_levels}
use Rattle.gv_model.specs.Tokens.{Mark as TheMark, Token as TheToken}
use Rattle.gv_model.specs.Tokens.Mark.{open_brace, close_list, close_tuple, close_brace, comma, colon}
use Rattle.gv_model.specs.Tokens.Token.{mark}
use Rattle.gv_model.specs.Grammar.{tokens_of, commas, members_tokens, pairs_tokens}
use Rattle.gv_model.specs.GrammarFaults.{begun_wants, begun, or_fault}
use Rattle.gv_model.specs.GrammarFaults.Want.{a_value, inside}
use Rattle.gv_model.specs.GrammarFaults.Stage.{list_start, tuple_start, brace_start, lone_end, pair_more}
use Rattle.gv_syntax.specs.declared.token.Mark.{Mark}
use Rattle.gv_syntax.specs.declared.token.Span.{Span}
use Rattle.gv_syntax.specs.declared.token.Token.{Token}
use Rattle.refused.specs.declared.Refused.{Refused}
use Rattle.gv_syntax.specs.declared.fault.TextFlaw.{TextFlaw}
use Rattle.gv_syntax.specs.declared.syntax.SyntaxKind.{SyntaxKind}
use Rattle.gv_syntax.specs.SyntaxNodes.{nodes_of, pairs_of, syntax_of}
use Rattle.gv_syntax.specs.ModelTokens.{token_of, mark_of}
use Rattle.gv_syntax.specs.Expectations.{Taken, fault_as, wants_after, kinds_of, Passes, more_stage}

-- a value so deep
pub record IsValue (d : ℕ) (old new : List Token) (x : Value) : Type 0 where
  pub tokens : kinds_of old ≡ tokens_of x ++ kinds_of new
  pub passes : Passes (a_value d ∷ []) old new
  pub levels : levels x + d ≤ 129

-- a value so deep and the mark after it
pub record IsValueBefore (m : TheMark) (d : ℕ) (old new : List Token) (x : Value) : Type 0 where
  pub between : List Token
  pub value : IsValue d old between x
  pub taken : Taken (mark m) between new

-- what a value is, after its first token
pub record IsAfter (d : ℕ) (s : Span) (t : TheToken) (old new : List Token) (k : SyntaxKind) : Type 0 where
  pub tokens : t ∷ kinds_of old ≡ tokens_of (syntax_of k) ++ kinds_of new
  pub passes : Passes (wants_after d s t) old new
  pub levels : levels (syntax_of k) + d ≤ 129

-- whether a value so deep may begin with a token
abbrev pub BeginsValue : ℕ → Token → Result (Unit {0}) (Refused TextFlaw) → Type 0
BeginsValue d t (Ok x) = IsSome (begun_wants d t.span (token_of t.kind)) × (d ≤ 128)
BeginsValue d t (Err f) = option_map fault_as (or_fault (begun 128 d t.span [] (begun_wants d t.span (token_of t.kind))) None) ≡ Some f

pub record AreElements (d : ℕ) (opened : Span) (old new : List Token) (xs : List Value) : Type 0 where
  pub tokens : kinds_of old ≡ commas (nodes_of xs) ++ mark close_list ∷ kinds_of new
  pub passes : Passes (inside list_start d opened ∷ []) old new
  pub levels : greatest_levels (nodes_of xs) + d ≤ 129

pub record AreMembers (d : ℕ) (opened : Span) (old new : List Token) (xs : List Value) : Type 0 where
  pub tokens : kinds_of old ≡ members_tokens (nodes_of xs) ++ mark close_tuple ∷ kinds_of new
  pub passes : Passes (inside tuple_start d opened ∷ []) old new
  pub levels : greatest_levels (nodes_of xs) + d ≤ 129

-- values after others, up to the mark that closes them
pub record AreMore (close : Mark) (d : ℕ) (opened : Span) (old new : List Token) (before all : List Value) : Type 0 where
  pub values : List Value
  pub joined : all ≡ before ++ values
  pub tokens : kinds_of old ≡ commas (nodes_of values) ++ mark (mark_of close) ∷ kinds_of new
  pub passes : Passes (a_value d ∷ inside (more_stage close) d opened ∷ []) old new
  pub levels : greatest_levels (nodes_of values) + d ≤ 129

-- a dictionary or an entry, after its `{`, with parts so deep
pub record IsBraced (d : ℕ) (opened : Span) (old new : List Token) (k : SyntaxKind) : Type 0 where
  pub tokens : mark open_brace ∷ kinds_of old ≡ tokens_of (syntax_of k) ++ kinds_of new
  pub passes : Passes (inside brace_start d opened ∷ []) old new
  pub levels : levels (syntax_of k) + d ≤ 130

-- an entry by itself, after its key and the `,`
pub record IsEntryAfter (key : Value) (d : ℕ) (opened : Span) (old new : List Token) (k : SyntaxKind) : Type 0 where
  pub tokens : mark open_brace ∷ (tokens_of key ++ mark comma ∷ kinds_of old) ≡ tokens_of (syntax_of k) ++ kinds_of new
  pub passes : Passes (a_value d ∷ inside lone_end d opened ∷ []) old new
  pub levels : levels key + d ≤ 129 → levels (syntax_of k) + d ≤ 130

-- one pair more, which has that key
pub record HasPair (key : Value) (d : ℕ) (old new : List Token) (before after : List (Value × Value)) : Type 0 where
  pub value : Value
  pub joined : after ≡ before ++ (key, value) ∷ []
  pub read : IsValue d old new value

-- a dictionary's pairs, after the first key and its `:`
pub record ArePairs (first : Value) (d : ℕ) (opened : Span) (old new : List Token) (ps : List (Value × Value)) : Type 0 where
  pub tokens : tokens_of first ++ mark colon ∷ kinds_of old ≡ pairs_tokens (pairs_of ps) ++ mark close_brace ∷ kinds_of new
  pub passes : Passes (a_value d ∷ inside pair_more d opened ∷ []) old new
  pub levels : levels first + d ≤ 129 → pairs_levels (pairs_of ps) + d ≤ 129
