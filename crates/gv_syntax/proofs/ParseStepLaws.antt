-- What each kind of value takes from the tokens, of its parts.
use Rattle.std.proofs.Common.{arith, ◌≡◌, ◌≤◌, ◌+◌, ℕ, List, [], ◌∷◌, ◌++◌, refl, sym, ap, ◌∙◌, append_assoc, add-one, Bool, Box, Global, Vec, String}
use Rattle.std.specs.Prelude.{IsSome, string_bytes, ◌⊎◌, true, false, Result, Ok, Err, IfOk, IfErr}
use Rattle.gv_model.specs.GrammarFaults.{begun_wants}
use Rattle.gv_model.specs.GrammarFaults.Want.{a_value, inside}
use Rattle.gv_model.specs.GrammarFaults.Stage.{list_start, list_more, tuple_start, tuple_more, box_end}
use Rattle.gv_model.specs.Syntax.{Syntax as Value, levels}
use Rattle.gv_model.specs.Tokens.{Mark as TheMark}
use Rattle.gv_model.specs.Tokens.Mark.{open_tuple, open_list, open_brace, open_box, close_tuple, close_list, close_box, comma}
use Rattle.gv_model.specs.Tokens.Word.{truth as truth_word, just as just_word, nothing as nothing_word, type_word}
use Rattle.gv_model.specs.Tokens.Token.{mark, word, type_token, integer_token, string_token, byte_string}
use Rattle.gv_model.specs.Grammar.{tokens_of, commas, members_tokens}
use Rattle.gv_types.specs.Classes.{basic_of}
use Rattle.gv_types.specs.declared.class.BasicType.{BasicType}
use Rattle.gv_syntax.specs.TypeTexts.{type_of_owned}
use Rattle.gv_syntax.specs.declared.type_text.TypeText.{TypeText}
use Rattle.gv_syntax.specs.declared.token.Mark.{Mark}
use Rattle.gv_syntax.specs.declared.token.Mark.TheVariants.{CloseArray, CloseTuple}
use Rattle.gv_syntax.specs.declared.token.Span.{Span}
use Rattle.gv_syntax.specs.declared.token.Token.{Token}
use Rattle.refused.specs.declared.Refused.{Refused}
use Rattle.gv_syntax.specs.declared.fault.TextFlaw.{TextFlaw}
use Rattle.gv_syntax.specs.declared.syntax.SyntaxNode.{SyntaxNode}
use Rattle.gv_syntax.specs.declared.syntax.SyntaxKind.{SyntaxKind}
use Rattle.gv_syntax.specs.declared.syntax.SyntaxKind.TheVariants.{Array, Tuple, Truth, Integer, Text, ByteString, Variant, Just, Nothing, OfType, Keyword}
use Rattle.gv_syntax.specs.SyntaxNodes.{nodes_of, syntax_of}
use Rattle.gv_syntax.specs.ModelTokens.{token_of, mark_of}
use Rattle.gv_syntax.specs.Expectations.{Want, first_fault, kinds_of, Taken, NotTaken, TakesSeparator, Stops, Passes, more_stage, ClosesValues}
use Rattle.gv_syntax.specs.ParseSteps.{IsValue, IsAfter, IsBraced, AreElements, AreMembers, AreMore}
use Rattle.gv_syntax.proofs.ExpectationLaws.{begins, taken, taken_tokens, not_taken, list_wants, tuple_wants, Either}
use Rattle.gv_syntax.proofs.SequenceLaws.{MoreSoFar, commas_more, levels_more}

-- after a first token that begins it, a value is whole
pub whole_value : (d : ℕ) (t : Token) (old new : List Token) (k : SyntaxKind) → IsSome (begun_wants d t.span (token_of t.kind)) → d ≤ 128 → IsAfter d t.span (token_of t.kind) old new k → IsValue d (t ∷ old) new (syntax_of k)
whole_value d t old new k s l h = record {
  tokens = h.tokens;
  passes = λ e more. begins d t old s l e more ∙ h.passes e more;
  levels = h.levels;
}

pub is_truth : (b : Bool) (d : ℕ) (s : Span) (old : List Token) → d ≤ 128 → IsAfter d s (word (truth_word b)) old old (Truth b)
unfolding tokens_of levels
is_truth b d s old l = record { tokens = refl; passes = λ e more. refl; levels = omega (arith, l) }

pub is_integer : (b : Bool) (n d : ℕ) (s : Span) (old : List Token) → d ≤ 128 → IsAfter d s (integer_token b n) old old (Integer b n)
unfolding tokens_of levels
is_integer b n d s old l = record { tokens = refl; passes = λ e more. refl; levels = omega (arith, l) }

pub is_text : (x : String Global) (d : ℕ) (s : Span) (old : List Token) → d ≤ 128 → IsAfter d s (string_token (string_bytes x)) old old (Text x)
unfolding tokens_of levels
is_text x d s old l = record { tokens = refl; passes = λ e more. refl; levels = omega (arith, l) }

pub is_bytes : (x : Vec ℕ Global) (d : ℕ) (s : Span) (old : List Token) → d ≤ 128 → IsAfter d s (byte_string x.items) old old (ByteString x)
unfolding tokens_of levels
is_bytes x d s old l = record { tokens = refl; passes = λ e more. refl; levels = omega (arith, l) }

pub is_nothing : (d : ℕ) (s : Span) (old : List Token) → d ≤ 128 → IsAfter d s (word nothing_word) old old Nothing
unfolding tokens_of levels
is_nothing d s old l = record { tokens = refl; passes = λ e more. refl; levels = omega (arith, l) }

pub is_just : (d : ℕ) (s : Span) (old new : List Token) (x : Box SyntaxNode Global) → IsValue (d + 1) old new x.value → IsAfter d s (word just_word) old new (Just x)
unfolding tokens_of levels
is_just d s old new x h = record { tokens = ap (λ ts. word just_word ∷ ts) h.tokens; passes = rw add-one at h.passes; levels = omega (arith, h.levels) }

pub is_keyword : (k : BasicType) (d : ℕ) (s : Span) (old new : List Token) (x : Box SyntaxNode Global) → IsValue (d + 1) old new x.value → IsAfter d s (word (type_word (basic_of k))) old new (Keyword k x)
unfolding tokens_of levels
is_keyword k d s old new x h = record { tokens = ap (λ ts. word (type_word (basic_of k)) ∷ ts) h.tokens; passes = rw add-one at h.passes; levels = omega (arith, h.levels) }

pub is_of_type : (t : TypeText) (d : ℕ) (s : Span) (old new : List Token) (x : Box SyntaxNode Global) → IsValue (d + 1) old new x.value → IsAfter d s (type_token (type_of_owned t)) old new (OfType t x)
unfolding tokens_of levels
is_of_type t d s old new x h = record { tokens = ap (λ ts. type_token (type_of_owned t) ∷ ts) h.tokens; passes = rw add-one at h.passes; levels = omega (arith, h.levels) }

pub is_array : (d : ℕ) (s : Span) (old new : List Token) (xs : Vec SyntaxNode Global) → AreElements (d + 1) s old new xs.items → IsAfter d s (mark open_list) old new (Array xs)
unfolding tokens_of levels
is_array d s old new xs h = record {
  tokens = ap (λ ts. mark open_list ∷ ts) (h.tokens ∙ sym (append_assoc (commas (nodes_of xs.items)) (mark close_list ∷ []) (kinds_of new)));
  passes = rw add-one at h.passes;
  levels = omega (arith, h.levels);
}

pub is_tuple : (d : ℕ) (s : Span) (old new : List Token) (xs : Vec SyntaxNode Global) → AreMembers (d + 1) s old new xs.items → IsAfter d s (mark open_tuple) old new (Tuple xs)
unfolding tokens_of levels
is_tuple d s old new xs h = record {
  tokens = ap (λ ts. mark open_tuple ∷ ts) (h.tokens ∙ sym (append_assoc (members_tokens (nodes_of xs.items)) (mark close_tuple ∷ []) (kinds_of new)));
  passes = rw add-one at h.passes;
  levels = omega (arith, h.levels);
}

pub is_braced : (d : ℕ) (s : Span) (old new : List Token) (k : SyntaxKind) → IsBraced (d + 1) s old new k → IsAfter d s (mark open_brace) old new k
is_braced d s old new k h = record { tokens = h.tokens; passes = rw add-one at h.passes; levels = omega (arith, h.levels) }

boxed_passes : (d : ℕ) (s : Span) (old mid new : List Token) (x : Value) → IsValue d old mid x → Taken (mark close_box) mid new → Passes (a_value d ∷ inside box_end d s ∷ []) old new
boxed_passes d s old mid new x h t e more = h.passes e (inside box_end d s ∷ more) ∙ taken close_box box_end d s [] mid new t (λ p. refl) e more

pub is_boxed : (d : ℕ) (s : Span) (old mid new : List Token) (x : Box SyntaxNode Global) → IsValue (d + 1) old mid x.value → Taken (mark close_box) mid new → IsAfter d s (mark open_box) old new (Variant x)
unfolding tokens_of levels
is_boxed d s old mid new x h t = record {
  tokens = ap (λ ts. mark open_box ∷ ts) (h.tokens ∙ (ap (λ ts. tokens_of x.value ++ ts) (taken_tokens (mark close_box) mid new t) ∙ sym (append_assoc (tokens_of x.value) (mark close_box ∷ []) (kinds_of new))));
  passes = rw add-one at (boxed_passes (d + 1) s old mid new x.value h t);
  levels = omega (arith, h.levels);
}

pub if_ok : {X E : Type 0} {P Q : X → Type 0} (r : Result X E) → ((x : X) → P x → Q x) → IfOk r P → IfOk r Q
if_ok (Ok x) f h = f x h
if_ok (Err e) f h = tt

pub if_err : {X E : Type 0} {P Q : E → Type 0} (r : Result X E) → ((e : E) → P e → Q e) → IfErr r P → IfErr r Q
if_err (Ok x) f h = tt
if_err (Err e) f h = f e h

pub no_elements : (d : ℕ) (at : Span) (old new : List Token) → d ≤ 129 → Taken (mark close_list) old new → AreElements d at old new []
unfolding tokens_of levels
no_elements d at old new l t = record {
  tokens = taken_tokens (mark close_list) old new t;
  passes = λ e more. taken close_list list_start d at [] old new t (λ p. refl) e more;
  levels = omega (arith, l);
}

pub elements_of : (d : ℕ) (at : Span) (old new mid : List Token) (before xs : List Value) → before ≡ [] → old ≡ mid
    → ((e : Span) (more : List Want) → first_fault e (inside list_start d at ∷ more) old ≡ first_fault e (a_value d ∷ inside list_more d at ∷ more) mid)
    → AreMore CloseArray d at mid new before xs → AreElements d at old new xs
elements_of d at old new mid before xs none same enter h = rw (h.joined, none) (record {
  tokens = ap kinds_of same ∙ h.tokens;
  passes = λ e more. enter e more ∙ h.passes e more;
  levels = h.levels;
})

pub no_members : (d : ℕ) (at : Span) (old new : List Token) → d ≤ 129 → Taken (mark close_tuple) old new → AreMembers d at old new []
unfolding tokens_of levels
no_members d at old new l t = record {
  tokens = taken_tokens (mark close_tuple) old new t;
  passes = λ e more. taken close_tuple tuple_start d at [] old new t (λ p. refl) e more;
  levels = omega (arith, l);
}

pub took_comma : (m : TheMark) (at : Span) (old new : List Token) (b : Bool) → b ≡ true → TakesSeparator m at old new (Ok b) → Taken (mark comma) old new
took_comma m at old new true e h = h
took_comma m at old new false e h = absurd cc

pub took_close : (m : TheMark) (at : Span) (old new : List Token) (b : Bool) → b ≡ false → TakesSeparator m at old new (Ok b) → Taken (mark m) old new
took_close m at old new false e h = h
took_close m at old new true e h = absurd cc

pub not_separated : (close : Mark) (d : ℕ) (at : Span) (old : List Token) (f : Refused TextFlaw) → ClosesValues close → NotTaken (λ t. (t ≡ mark comma) ⊎ (t ≡ mark (mark_of close))) at old f → Stops (inside (more_stage close) d at ∷ []) old f
not_separated CloseArray d at old f c h = not_taken list_more (Either close_list) d at [] old f list_wants h
not_separated CloseTuple d at old f c h = not_taken tuple_more (Either close_tuple) d at [] old f tuple_wants h
not_separated _ d at old f c h = absurd c

pub separated : (close : Mark) (d : ℕ) (at : Span) (old new : List Token) → ClosesValues close → Taken (mark comma) old new → (e : Span) (more : List Want) → first_fault e (inside (more_stage close) d at ∷ more) old ≡ first_fault e (a_value d ∷ inside (more_stage close) d at ∷ more) new
separated CloseArray d at old new c t = taken comma list_more d at (a_value d ∷ inside list_more d at ∷ []) old new t (λ p. refl)
separated CloseTuple d at old new c t = taken comma tuple_more d at (a_value d ∷ inside tuple_more d at ∷ []) old new t (λ p. refl)
separated _ d at old new c t = absurd c

pub closed_by : (close : Mark) (d : ℕ) (at : Span) (old new : List Token) → ClosesValues close → Taken (mark (mark_of close)) old new → (e : Span) (more : List Want) → first_fault e (inside (more_stage close) d at ∷ more) old ≡ first_fault e more new
closed_by CloseArray d at old new c t = taken close_list list_more d at [] old new t (λ p. refl)
closed_by CloseTuple d at old new c t = taken close_tuple tuple_more d at [] old new t (λ p. refl)
closed_by _ d at old new c t = absurd c

pub one_value : (close : Mark) (d : ℕ) (at : Span) (start rest : List Token) (before all : List Value) (x : Value) → all ≡ before ++ x ∷ [] → IsValue d start rest x → MoreSoFar close d at start rest before all
unfolding tokens_of levels
one_value close d at start rest before all x j h = record {
  first = x;
  others = [];
  joined = j;
  tokens = h.tokens;
  passes = λ e more. h.passes e (inside (more_stage close) d at ∷ more);
  levels = omega (arith, h.levels);
}

pub one_more : (close : Mark) (d : ℕ) (at : Span) (start rest mid new : List Token) (before all both : List Value) (x : Value) → ClosesValues close
    → MoreSoFar close d at start rest before all → Taken (mark comma) rest mid → IsValue d mid new x → both ≡ all ++ x ∷ [] → MoreSoFar close d at start new before both
unfolding levels
one_more close d at start rest mid new before all both x c h t v j = record {
  first = h.first;
  others = h.others ++ x ∷ [];
  joined = j ∙ (ap (λ ys. ys ++ x ∷ []) h.joined ∙ append_assoc before (h.first ∷ h.others) (x ∷ []));
  tokens = h.tokens ∙ (ap (λ ts. commas (nodes_of (h.first ∷ h.others)) ++ ts) (taken_tokens (mark comma) rest mid t ∙ ap (λ ts. mark comma ∷ ts) v.tokens) ∙ sym (commas_more h.first h.others x (kinds_of new)));
  passes = λ e more. h.passes e more ∙ (separated close d at rest mid c t e more ∙ v.passes e (inside (more_stage close) d at ∷ more));
  levels = omega (arith, h.levels, v.levels, levels_more (h.first ∷ h.others) x);
}

pub all_values : (close : Mark) (d : ℕ) (at : Span) (start rest new : List Token) (before all : List Value) → ClosesValues close → MoreSoFar close d at start rest before all → Taken (mark (mark_of close)) rest new → AreMore close d at start new before all
all_values close d at start rest new before all c h t = record {
  values = h.first ∷ h.others;
  joined = h.joined;
  tokens = h.tokens ∙ ap (λ ts. commas (nodes_of (h.first ∷ h.others)) ++ ts) (taken_tokens (mark (mark_of close)) rest new t);
  passes = λ e more. h.passes e more ∙ closed_by close d at rest new c t e more;
  levels = h.levels;
}
