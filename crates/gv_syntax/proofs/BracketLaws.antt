-- What occurs in a tuple and in braces, part by part.
use Rattle.std.proofs.Common.{arith, length, ◌≡◌, ◌≤◌, ◌<◌, ◌+◌, ℕ, List, [], ◌∷◌, ◌++◌, refl, sym, ap, ◌∙◌, append_assoc, Box, Global, Vec}
use Rattle.std.specs.Prelude.{◌⊎◌, Result, Ok, Err, IfOk, IfErr}
use Rattle.std.specs.Result.{result_and}
use mathlib.Core.Logic.{inl, inr}
use Rattle.gv_model.specs.Syntax.{Syntax as Value, levels, pairs_levels}
use Rattle.gv_model.specs.Tokens.{Mark as TheMark, Token as TheToken}
use Rattle.gv_model.specs.Tokens.Mark.{open_brace, close_tuple, close_brace, close_box, comma, colon}
use Rattle.gv_model.specs.Tokens.Token.{mark}
use Rattle.gv_model.specs.Grammar.{tokens_of, commas, members_tokens, pairs_tokens}
use Rattle.gv_model.specs.GrammarFaults.{Stage}
use Rattle.gv_model.specs.GrammarFaults.Want.{a_value, inside}
use Rattle.gv_model.specs.GrammarFaults.Stage.{tuple_start, tuple_one, tuple_two, tuple_more, brace_start, brace_first, pair_more, pair_colon, lone_end, box_end}
use Rattle.gv_syntax.specs.declared.token.Mark.{Mark}
use Rattle.gv_syntax.specs.declared.token.Mark.TheVariants.{CloseTuple, CloseBrace, CloseVariant, Colon}
use Rattle.gv_syntax.specs.declared.token.Span.{Span}
use Rattle.gv_syntax.specs.declared.token.Token.{Token}
use Rattle.gv_syntax.specs.declared.fault.TextCause.TheVariants.{Unclosed}
use Rattle.refused.specs.declared.Refused.{Refused}
use Rattle.gv_syntax.specs.declared.fault.TextFlaw.{TextFlaw}
use Rattle.gv_syntax.specs.declared.syntax.SyntaxNode.{SyntaxNode}
use Rattle.gv_syntax.specs.declared.syntax.SyntaxKind.{SyntaxKind}
use Rattle.gv_syntax.specs.declared.syntax.SyntaxKind.TheVariants.{Dictionary, Entry}
use Rattle.gv_syntax.specs.SyntaxNodes.{nodes_of, pairs_of}
use Rattle.gv_syntax.specs.ModelTokens.{token_of, mark_of}
use Rattle.gv_syntax.specs.Expectations.{Want, refused, first_fault, kinds_of, Taken, NotTaken, TakesMark, Stops, StopsWith, EndsValue, end_stage}
use Rattle.gv_syntax.specs.ParseSteps.{IsValue, IsValueBefore, IsBraced, IsEntryAfter, ArePairs, AreMembers, AreMore}
use Rattle.gv_syntax.proofs.ExpectationLaws.{Opens, Refuses, carried_in, carried_out, entered, taken, taken_tokens, not_taken, second_opens, wants_colon, wants_brace, wants_box}
use Rattle.gv_syntax.proofs.SequenceLaws.{PairsSoFar, pairs_more, pairs_levels_more, members_of, no_longer}

-- from these tokens, where the first things are wanted, to those, where the second are
abbrev pub Reaches : List Want → List Token → List Want → List Token → Type 0
Reaches ws old vs mid = (e : Span) (more : List Want) → first_fault e (ws ++ more) old ≡ first_fault e (vs ++ more) mid

pub stops_after : (ws vs : List Want) (old mid : List Token) (f : Refused TextFlaw) → Reaches ws old vs mid → Stops vs mid f → Stops ws old f
stops_after ws vs old mid f g h = carried_out f ws vs old mid h (λ e more. (more, g e more))

-- a fault in a value that occurs in a bracket
pub stops_in_value : (ws : List Want) (q : Stage) (d : ℕ) (at : Span) (old mid : List Token) (f ended : Refused TextFlaw) → ended ≡ refused Unclosed at → Reaches ws old (a_value d ∷ inside q d at ∷ []) mid → StopsWith ended (a_value d ∷ []) mid f → Stops ws old f
stops_in_value ws q d at old mid f ended i g h = carried_in f ended ws (a_value d ∷ []) old mid h (λ e more. (inside q d at ∷ more, g e more, sym i))

-- a bracket's first value
pub record HoldsFirst (r q : Stage) (d : ℕ) (at : Span) (old mid : List Token) (x : Value) : Type 0 where
  pub tokens : kinds_of old ≡ tokens_of x ++ kinds_of mid
  pub reaches : Reaches (inside r d at ∷ []) old (inside q d at ∷ []) mid
  pub levels : levels x + d ≤ 129

pub holds_first : (r q : Stage) (m : TheMark) (d : ℕ) (at : Span) (t : Token) (ts old mid : List Token) (x : Value) → Opens r q m → old ≡ t ∷ ts → (token_of t.kind ≡ mark m → ⊥) → IsValue d (t ∷ ts) mid x → HoldsFirst r q d at old mid x
holds_first r q m d at t ts old mid x o h k v = record {
  tokens = ap kinds_of h ∙ v.tokens;
  reaches = λ e more. entered r q m d at t ts old o h k e more ∙ v.passes e (inside q d at ∷ more);
  levels = v.levels;
}

-- A value and the one mark that comes after it

pub value_read : (m : TheMark) (d : ℕ) (at : Span) (old mid new : List Token) (r : Result (Unit {0}) (Refused TextFlaw)) (x : Value) → IsValue d old mid x → TakesMark m at mid new r → IfOk (result_and r (Ok x)) (IsValueBefore m d old new)
value_read m d at old mid new (Ok u) x v t = record { between = mid; value = v; taken = t }
value_read m d at old mid new (Err f) x v t = tt

no_end : (m : Mark) (d : ℕ) (at : Span) (old : List Token) (f : Refused TextFlaw) → EndsValue m → NotTaken (λ t. t ≡ mark (mark_of m)) at old f → Stops (inside (end_stage m) d at ∷ []) old f
no_end Colon d at old f c h = not_taken pair_colon (λ t. t ≡ mark colon) d at [] old f wants_colon h
no_end CloseBrace d at old f c h = not_taken lone_end (λ t. t ≡ mark close_brace) d at [] old f wants_brace h
no_end CloseVariant d at old f c h = not_taken box_end (λ t. t ≡ mark close_box) d at [] old f wants_box h
no_end _ d at old f c h = absurd c

pub not_ended : (m : Mark) (d : ℕ) (at : Span) (old mid new : List Token) (r : Result (Unit {0}) (Refused TextFlaw)) (x : Value) → EndsValue m → IsValue d old mid x → TakesMark (mark_of m) at mid new r
    → IfErr (result_and r (Ok x)) (Stops (a_value d ∷ inside (end_stage m) d at ∷ []) old)
not_ended m d at old mid new (Ok u) x c v t = tt
not_ended m d at old mid new (Err f) x c v t =
    stops_after (a_value d ∷ inside (end_stage m) d at ∷ []) (inside (end_stage m) d at ∷ []) old mid f (λ e more. v.passes e (inside (end_stage m) d at ∷ more)) (no_end m d at mid f c t)

-- Tuples

-- a tuple's first member and the `,` after it
pub record FirstMember (d : ℕ) (at : Span) (old mid : List Token) (x : Value) : Type 0 where
  pub tokens : kinds_of old ≡ tokens_of x ++ mark comma ∷ kinds_of mid
  pub reaches : Reaches (inside tuple_start d at ∷ []) old (inside tuple_two d at ∷ []) mid
  pub levels : levels x + d ≤ 129

pub first_member : (d : ℕ) (at : Span) (old mid new : List Token) (x : Value) → HoldsFirst tuple_start tuple_one d at old mid x → Taken (mark comma) mid new → FirstMember d at old new x
first_member d at old mid new x h t = record {
  tokens = h.tokens ∙ ap (λ ts. tokens_of x ++ ts) (taken_tokens (mark comma) mid new t);
  reaches = λ e more. h.reaches e more ∙ taken comma tuple_one d at (inside tuple_two d at ∷ []) mid new t (λ p. refl) e more;
  levels = h.levels;
}

member_tokens : (x : Value) (xs : List Value) (ts : List TheToken) → members_tokens (nodes_of (x ∷ xs)) ++ ts ≡ tokens_of x ++ mark comma ∷ (commas (nodes_of xs) ++ ts)
member_tokens x xs ts = ap (λ us. us ++ ts) (members_of x xs) ∙ append_assoc (tokens_of x) (mark comma ∷ commas (nodes_of xs)) ts

pub one_member : (d : ℕ) (at : Span) (old mid new : List Token) (x : Value) (all : List Value) → FirstMember d at old mid x → Taken (mark close_tuple) mid new → all ≡ x ∷ [] → AreMembers d at old new all
unfolding tokens_of levels
one_member d at old mid new x all h t j = rw j (record {
  tokens = h.tokens ∙ (ap (λ ts. tokens_of x ++ mark comma ∷ ts) (taken_tokens (mark close_tuple) mid new t) ∙ sym (member_tokens x [] (mark close_tuple ∷ kinds_of new)));
  passes = λ e more. h.reaches e more ∙ taken close_tuple tuple_two d at [] mid new t (λ p. refl) e more;
  levels = omega (arith, h.levels);
})

pub second_reached : (d : ℕ) (at : Span) (t : Token) (ts old mid : List Token) (x : Value) → FirstMember d at old mid x → mid ≡ t ∷ ts → (token_of t.kind ≡ mark close_tuple → ⊥) → Reaches (inside tuple_start d at ∷ []) old (a_value d ∷ inside tuple_more d at ∷ []) (t ∷ ts)
second_reached d at t ts old mid x h s k e more = h.reaches e more ∙ entered tuple_two tuple_more close_tuple d at t ts mid second_opens s k e more

pub more_members : (d : ℕ) (at : Span) (t : Token) (ts old mid new : List Token) (x : Value) (before all : List Value) → FirstMember d at old mid x → mid ≡ t ∷ ts
    → (token_of t.kind ≡ mark close_tuple → ⊥) → before ≡ x ∷ [] → AreMore CloseTuple d at (t ∷ ts) new before all → AreMembers d at old new all
unfolding levels
more_members d at t ts old mid new x before all h s k b m = rw (m.joined, b) (record {
  tokens = h.tokens ∙ (ap (λ us. tokens_of x ++ mark comma ∷ us) (ap kinds_of s ∙ m.tokens) ∙ sym (member_tokens x m.values (mark close_tuple ∷ kinds_of new)));
  passes = λ e more. second_reached d at t ts old mid x h s k e more ∙ m.passes e more;
  levels = omega (arith, h.levels, m.levels);
})

-- Braces

pub first_wants : Refuses brace_first (λ t. (t ≡ mark comma) ⊎ (t ≡ mark colon))
first_wants d at s (mark comma) h = absurd (h (inl refl))
first_wants d at s (mark colon) h = absurd (h (inr refl))
first_wants d at s (mark _) h = refl
first_wants d at s _ h = refl

pub neither : (A B : Type 0) → (A → ⊥) → (B → ⊥) → A ⊎ B → ⊥
neither A B f g (inl x) = f x
neither A B f g (inr x) = g x

pub no_pairs : (d : ℕ) (at : Span) (old new : List Token) (ps : Vec (Value × Value) Global) → d ≤ 129 → ps.items ≡ [] → Taken (mark close_brace) old new → IsBraced d at old new (Dictionary ps)
unfolding tokens_of levels
no_pairs d at old new ps l i t = record {
  tokens = ap (λ ts. mark open_brace ∷ ts) (taken_tokens (mark close_brace) old new t) ∙ sym (ap (λ qs. mark open_brace ∷ ((pairs_tokens (pairs_of qs) ++ mark close_brace ∷ []) ++ kinds_of new)) i);
  passes = λ e more. taken close_brace brace_start d at [] old new t (λ p. refl) e more;
  levels = omega (arith, l, ap (λ qs. pairs_levels (pairs_of qs)) i);
}

pub pairs_reached : (d : ℕ) (at : Span) (old mid rest : List Token) (k : Value) → HoldsFirst brace_start brace_first d at old mid k → Taken (mark colon) mid rest → Reaches (inside brace_start d at ∷ []) old (a_value d ∷ inside pair_more d at ∷ []) rest
pairs_reached d at old mid rest k h t e more = h.reaches e more ∙ taken colon brace_first d at (a_value d ∷ inside pair_more d at ∷ []) mid rest t (λ p. refl) e more

pub some_pairs : (d : ℕ) (at : Span) (old mid rest new : List Token) (k : Value) (ps : Vec (Value × Value) Global) → HoldsFirst brace_start brace_first d at old mid k → Taken (mark colon) mid rest → ArePairs k d at rest new ps.items → IsBraced d at old new (Dictionary ps)
unfolding tokens_of levels
some_pairs d at old mid rest new k ps h t g = record {
  tokens = ap (λ ts. mark open_brace ∷ ts) (h.tokens ∙ (ap (λ ts. tokens_of k ++ ts) (taken_tokens (mark colon) mid rest t) ∙ (g.tokens ∙ sym (append_assoc (pairs_tokens (pairs_of ps.items)) (mark close_brace ∷ []) (kinds_of new)))));
  passes = λ e more. pairs_reached d at old mid rest k h t e more ∙ g.passes e more;
  levels = omega (arith, g.levels h.levels);
}

pub lone_reached : (d : ℕ) (at : Span) (old mid rest : List Token) (k : Value) → HoldsFirst brace_start brace_first d at old mid k → Taken (mark comma) mid rest → Reaches (inside brace_start d at ∷ []) old (a_value d ∷ inside lone_end d at ∷ []) rest
lone_reached d at old mid rest k h t e more = h.reaches e more ∙ taken comma brace_first d at (a_value d ∷ inside lone_end d at ∷ []) mid rest t (λ p. refl) e more

-- an entry from after its `,` on
pub entry_after : (d : ℕ) (at : Span) (rest new : List Token) (k v : Box SyntaxNode Global) → IsValueBefore close_brace d rest new v.value → IsEntryAfter k.value d at rest new (Entry k v)
unfolding tokens_of levels
entry_after d at rest new k v w = record {
  tokens = ap (λ ts. mark open_brace ∷ ts) (
      ap (λ ts. tokens_of k.value ++ mark comma ∷ ts) (w.value.tokens ∙ (ap (λ ts. tokens_of v.value ++ ts) (taken_tokens (mark close_brace) w.between new w.taken) ∙ sym (append_assoc (tokens_of v.value) (mark close_brace ∷ []) (kinds_of new))))
      ∙ sym (append_assoc (tokens_of k.value) (mark comma ∷ (tokens_of v.value ++ mark close_brace ∷ [])) (kinds_of new)));
  passes = λ e more. w.value.passes e (inside lone_end d at ∷ more) ∙ taken close_brace lone_end d at [] w.between new w.taken (λ p. refl) e more;
  levels = λ l. omega (arith, l, w.value.levels);
}

pub is_entry : (d : ℕ) (at : Span) (old mid rest new : List Token) (key : Value) (k : SyntaxKind) → HoldsFirst brace_start brace_first d at old mid key → Taken (mark comma) mid rest → IsEntryAfter key d at rest new k → IsBraced d at old new k
is_entry d at old mid rest new key k h t g = record {
  tokens = ap (λ ts. mark open_brace ∷ ts) (h.tokens ∙ ap (λ ts. tokens_of key ++ ts) (taken_tokens (mark comma) mid rest t)) ∙ g.tokens;
  passes = λ e more. lone_reached d at old mid rest key h t e more ∙ g.passes e more;
  levels = g.levels h.levels;
}

-- Pairs

pub one_pair : (key v : Value) (d : ℕ) (at : Span) (start rest : List Token) (ps : List (Value × Value)) → ps ≡ (key, v) ∷ [] → IsValue d start rest v → PairsSoFar key d at start rest ps
unfolding tokens_of levels
one_pair key v d at start rest ps j w = record {
  first = (key, v);
  others = [];
  joined = j;
  tokens = ap (λ ts. tokens_of key ++ mark colon ∷ ts) w.tokens ∙ sym (append_assoc (tokens_of key) (mark colon ∷ tokens_of v) (kinds_of rest));
  passes = λ e more. w.passes e (inside pair_more d at ∷ more);
  levels = λ l. omega (arith, l, w.levels);
}

-- one pair more, from its `,` on
pub key_reached : (key : Value) (d : ℕ) (at : Span) (start rest mid : List Token) (ps : List (Value × Value)) → PairsSoFar key d at start rest ps → Taken (mark comma) rest mid → Reaches (a_value d ∷ inside pair_more d at ∷ []) start (a_value d ∷ inside pair_colon d at ∷ []) mid
key_reached key d at start rest mid ps h t e more = h.passes e more ∙ taken comma pair_more d at (a_value d ∷ inside pair_colon d at ∷ []) rest mid t (λ p. refl) e more

pub colon_reached : (key k : Value) (d : ℕ) (at : Span) (start rest mid last : List Token) (ps : List (Value × Value)) → PairsSoFar key d at start rest ps → Taken (mark comma) rest mid → IsValue d mid last k → Reaches (a_value d ∷ inside pair_more d at ∷ []) start (inside pair_colon d at ∷ []) last
colon_reached key k d at start rest mid last ps h t w e more = key_reached key d at start rest mid ps h t e more ∙ w.passes e (inside pair_colon d at ∷ more)

pub value_reached : (key k : Value) (d : ℕ) (at : Span) (start rest mid last later : List Token) (ps : List (Value × Value)) → PairsSoFar key d at start rest ps
    → Taken (mark comma) rest mid → IsValue d mid last k → Taken (mark colon) last later
    → Reaches (a_value d ∷ inside pair_more d at ∷ []) start (a_value d ∷ inside pair_more d at ∷ []) later
value_reached key k d at start rest mid last later ps h t w u e more = colon_reached key k d at start rest mid last ps h t w e more ∙ taken colon pair_colon d at (a_value d ∷ inside pair_more d at ∷ []) last later u (λ p. refl) e more

-- the tokens of one pair more
pub pair_tokens : (k v : Value) (rest mid last later new : List Token) (d : ℕ) → Taken (mark comma) rest mid → IsValue d mid last k → Taken (mark colon) last later → IsValue d later new v → kinds_of rest ≡ mark comma ∷ (tokens_of k ++ mark colon ∷ (tokens_of v ++ kinds_of new))
pair_tokens k v rest mid last later new d t w u x =
    taken_tokens (mark comma) rest mid t
    ∙ ap (λ ts. mark comma ∷ ts) (w.tokens ∙ ap (λ ts. tokens_of k ++ ts) (taken_tokens (mark colon) last later u ∙ ap (λ ts. mark colon ∷ ts) x.tokens))

pub shorter : (k v : Value) (rest mid last later new : List Token) (d : ℕ) → Taken (mark comma) rest mid → IsValue d mid last k → Taken (mark colon) last later → IsValue d later new v → length new < length rest
shorter k v rest mid last later new d t w u x =
    omega (arith, ap length t.tokens, ap length u.tokens, no_longer (tokens_of k) mid last w.tokens, no_longer (tokens_of v) later new x.tokens)

pub pair_more_read : (key k v : Value) (d : ℕ) (at : Span) (start rest mid last later new : List Token) (ps both : List (Value × Value))
    → PairsSoFar key d at start rest ps → Taken (mark comma) rest mid → IsValue d mid last k → Taken (mark colon) last later → IsValue d later new v
    → both ≡ ps ++ (k, v) ∷ [] → PairsSoFar key d at start new both
unfolding levels
pair_more_read key k v d at start rest mid last later new ps both h t w u x j = record {
  first = h.first;
  others = h.others ++ (k, v) ∷ [];
  joined = j ∙ ap (λ qs. qs ++ (k, v) ∷ []) h.joined;
  tokens = h.tokens ∙ (ap (λ ts. pairs_tokens (pairs_of (h.first ∷ h.others)) ++ ts) (pair_tokens k v rest mid last later new d t w u x) ∙ sym (pairs_more h.first h.others k v (kinds_of new)));
  passes = λ e more. value_reached key k d at start rest mid last later ps h t w u e more ∙ x.passes e (inside pair_more d at ∷ more);
  levels = λ l. omega (arith, h.levels l, w.levels, x.levels, pairs_levels_more (h.first ∷ h.others) k v);
}

pub all_pairs : (key : Value) (d : ℕ) (at : Span) (start rest new : List Token) (ps : List (Value × Value)) → PairsSoFar key d at start rest ps → Taken (mark close_brace) rest new → ArePairs key d at start new ps
all_pairs key d at start rest new ps h t = rw h.joined (record {
  tokens = h.tokens ∙ ap (λ ts. pairs_tokens (pairs_of (h.first ∷ h.others)) ++ ts) (taken_tokens (mark close_brace) rest new t);
  passes = λ e more. h.passes e more ∙ taken close_brace pair_more d at [] rest new t (λ p. refl) e more;
  levels = h.levels;
})
