-- Steps of reading: what a token does to the things that are wanted.
use Rattle.std.proofs.Common.{arith, ◌≡◌, ◌≤◌, ℕ, true, List, [], ◌∷◌, ◌++◌, Option, Some, None, Ok, Err, refl, sym, ap, ◌∙◌, subst, nat_le, append_assoc, append-nil}
use Rattle.std.specs.Prelude.{IsSome, cond, option_map, unwrap_or, ◌⊎◌, Bool, false}
use mathlib.Core.Logic.{inl, inr}
use Rattle.gv_model.specs.Tokens.{Mark as TheMark, Token as TheToken}
use Rattle.gv_model.specs.Tokens.Mark.{close_tuple, close_list, close_brace, close_box, comma, colon}
use Rattle.gv_model.specs.Tokens.Token.{mark}
use Rattle.gv_model.specs.TextFault.Cause.{unexpected, too_deep}
use Rattle.gv_model.specs.GrammarFaults.{Stage, FaultAt, Left, begun_wants, begun, step, wants_of, or_fault, first_fault as first_fault_at}
use Rattle.gv_model.specs.GrammarFaults.Want.{a_value, inside}
use Rattle.gv_model.specs.GrammarFaults.Stage.{list_start, list_more, tuple_start, tuple_one, tuple_two, tuple_more, brace_start, brace_first, pair_more, pair_colon, lone_end, box_end}
use Rattle.gv_syntax.specs.declared.token.Span.{Span}
use Rattle.gv_syntax.specs.declared.token.Token.{Token}
use Rattle.gv_syntax.specs.declared.fault.TextCause.TheVariants.{Unclosed, Unexpected}
use Rattle.refused.specs.declared.Refused.{Refused}
use Rattle.refused.specs.declared.Refused.TheVariants.{Fault, Memory}
use Rattle.refused.proofs.Faults.{OfFault-weaker}
use Rattle.gv_syntax.specs.declared.fault.TextFlaw.{TextFlaw}
use Rattle.gv_syntax.specs.ModelTokens.{token_of}
use Rattle.gv_syntax.specs.Expectations.{Want, refused, fault_as, at_spans, wants_after, at_end, first_fault, kinds_of, Stops, StopsWith, Taken, NotTaken}

-- the first fault after a step
abbrev stepped : Span → List Want → List Token → Left Span → Option (Refused TextFlaw)
stepped e more ts r = option_map fault_as (or_fault r (first_fault_at e (wants_of r ++ more) (at_spans ts)))

-- one token, which goes on to these wants, or is the fault
pub goes : (w : Want) (vs : List Want) (t : Token) (ts : List Token) → step 128 w t.span (token_of t.kind) ≡ Ok vs → (e : Span) (more : List Want) → first_fault e (w ∷ more) (t ∷ ts) ≡ first_fault e (vs ++ more) ts
unfolding first_fault first_fault_at
goes w vs t ts h e more = ap (stepped e more ts) h

pub halts : (w : Want) (f : FaultAt Span) (t : Token) (ts : List Token) → step 128 w t.span (token_of t.kind) ≡ Err f → (e : Span) (more : List Want) → first_fault e (w ∷ more) (t ∷ ts) ≡ Some (fault_as f)
unfolding first_fault first_fault_at
halts w f t ts h e more = ap (stepped e more ts) h

pub ends : (w : Want) (e : Span) (more : List Want) → first_fault e (w ∷ more) [] ≡ Some (at_end e (w ∷ more))
unfolding first_fault first_fault_at
ends w e more = refl

-- a fault after a part that passes
pub carried : (f ended inner : Refused TextFlaw) (ws vs : List Want) (old mid : List Token) → StopsWith inner vs mid f
    → ((e : Span) (more : List Want) → at_end e more ≡ ended → (rest : List Want) × (first_fault e (ws ++ more) old ≡ first_fault e (vs ++ rest) mid) × (at_end e rest ≡ inner))
    → StopsWith ended ws old f
carried f ended inner ws vs old mid h g = OfFault-weaker _ _ (λ x stop e more q. let k = g e more q in k.1 ∙ stop e k.0 k.2) f h

-- the same where the fault is in a bracket
pub carried_in : (f inner : Refused TextFlaw) (ws vs : List Want) (old mid : List Token) → StopsWith inner vs mid f
    → ((e : Span) (more : List Want) → (rest : List Want) × (first_fault e (ws ++ more) old ≡ first_fault e (vs ++ rest) mid) × (at_end e rest ≡ inner))
    → Stops ws old f
carried_in f inner ws vs old mid h g = OfFault-weaker _ _ (λ x stop e more. let k = g e more in k.1 ∙ stop e k.0 k.2) f h

pub carried_out : (f : Refused TextFlaw) (ws vs : List Want) (old mid : List Token) → Stops vs mid f
    → ((e : Span) (more : List Want) → (rest : List Want) × (first_fault e (ws ++ more) old ≡ first_fault e (vs ++ rest) mid))
    → Stops ws old f
carried_out f ws vs old mid h g = OfFault-weaker _ _ (λ x stop e more. let k = g e more in k.1 ∙ stop e k.0) f h

pub always : (f ended : Refused TextFlaw) (ws : List Want) (old : List Token) → Stops ws old f → StopsWith ended ws old f
always f ended ws old h = OfFault-weaker _ _ (λ x stop e more q. stop e more) f h

-- the end of the tokens in a bracket
pub unclosed : (r : Stage) (d : ℕ) (at : Span) (ws : List Want) (f : Refused TextFlaw) (old : List Token) → old ≡ [] → f ≡ refused Unclosed at → Stops (inside r d at ∷ ws) old f
unclosed r d at ws f old h g = subst (λ ts. Stops (inside r d at ∷ ws) ts f) (sym h) (subst (λ x. Stops (inside r d at ∷ ws) [] x) (sym g) (λ e more. ends (inside r d at) e (ws ++ more)))

pub other : (w : Want) (ws : List Want) (f : Refused TextFlaw) (t : Token) (ts old : List Token) → old ≡ t ∷ ts → f ≡ refused Unexpected t.span → step 128 w t.span (token_of t.kind) ≡ Err (unexpected, t.span) → Stops (w ∷ ws) old f
other w ws f t ts old h g k = subst (λ us. Stops (w ∷ ws) us f) (sym h) (subst (λ x. Stops (w ∷ ws) (t ∷ ts) x) (sym g) (λ e more. halts w (unexpected, t.span) t ts k e (ws ++ more)))

-- Where a bracket wants one mark alone, another token can't occur
abbrev pub Refuses : Stage → (TheToken → Type 0) → Type 0
Refuses r IsRight = (d : ℕ) (at s : Span) (t : TheToken) → (IsRight t → ⊥) → step 128 (inside r d at) s t ≡ Err (unexpected, s)

pub wants_comma : Refuses tuple_one (λ t. t ≡ mark comma)
wants_comma d at s (mark comma) h = absurd (h refl)
wants_comma d at s (mark _) h = refl
wants_comma d at s _ h = refl

pub wants_colon : Refuses pair_colon (λ t. t ≡ mark colon)
wants_colon d at s (mark colon) h = absurd (h refl)
wants_colon d at s (mark _) h = refl
wants_colon d at s _ h = refl

pub wants_brace : Refuses lone_end (λ t. t ≡ mark close_brace)
wants_brace d at s (mark close_brace) h = absurd (h refl)
wants_brace d at s (mark _) h = refl
wants_brace d at s _ h = refl

pub wants_box : Refuses box_end (λ t. t ≡ mark close_box)
wants_box d at s (mark close_box) h = absurd (h refl)
wants_box d at s (mark _) h = refl
wants_box d at s _ h = refl

abbrev pub Either : TheMark → TheToken → Type 0
Either m t = (t ≡ mark comma) ⊎ (t ≡ mark m)

pub list_wants : Refuses list_more (Either close_list)
list_wants d at s (mark comma) h = absurd (h (inl refl))
list_wants d at s (mark close_list) h = absurd (h (inr refl))
list_wants d at s (mark _) h = refl
list_wants d at s _ h = refl

pub tuple_wants : Refuses tuple_more (Either close_tuple)
tuple_wants d at s (mark comma) h = absurd (h (inl refl))
tuple_wants d at s (mark close_tuple) h = absurd (h (inr refl))
tuple_wants d at s (mark _) h = refl
tuple_wants d at s _ h = refl

pub pair_wants : Refuses pair_more (Either close_brace)
pair_wants d at s (mark comma) h = absurd (h (inl refl))
pair_wants d at s (mark close_brace) h = absurd (h (inr refl))
pair_wants d at s (mark _) h = refl
pair_wants d at s _ h = refl

-- a mark that is wanted and isn't there
pub not_taken : (r : Stage) (IsRight : TheToken → Type 0) (d : ℕ) (at : Span) (ws : List Want) (old : List Token) (f : Refused TextFlaw) → Refuses r IsRight → NotTaken IsRight at old f → Stops (inside r d at ∷ ws) old f
not_taken r IsRight d at ws old f k (inl h) = unclosed r d at ws f old h.0 h.1
not_taken r IsRight d at ws old f k (inr o) = other (inside r d at) ws f o.first o.later old o.tokens o.fault (k d at o.first.span (token_of o.first.kind) o.kind)

-- a mark that is wanted and is there
pub taken : (m : TheMark) (r : Stage) (d : ℕ) (at : Span) (vs : List Want) (old new : List Token) → Taken (mark m) old new → ((s : Span) → step 128 (inside r d at) s (mark m) ≡ Ok vs) → (e : Span) (more : List Want) → first_fault e (inside r d at ∷ more) old ≡ first_fault e (vs ++ more) new
taken m r d at vs old new h k e more =
    ap (first_fault e (inside r d at ∷ more)) h.tokens
    ∙ goes (inside r d at) vs h.first new (ap (step 128 (inside r d at) h.first.span) h.kind ∙ k h.first.span) e more

pub taken_tokens : (t : TheToken) (old new : List Token) → Taken t old new → kinds_of old ≡ t ∷ kinds_of new
taken_tokens t old new h = ap kinds_of h.tokens ∙ ap (λ x. x ∷ kinds_of new) h.kind

-- A value where a bracket wants one
begun_then : (d : ℕ) (s : Span) (w : Want) (o : Option (List Want)) (e : Span) (more : List Want) (ts : List Token) → stepped e more ts (begun 128 d s (w ∷ []) o) ≡ stepped e (w ∷ more) ts (begun 128 d s [] o)
begun_then d s w None e more ts = refl
begun_then d s w (Some vs) e more ts = go (nat_le d 128)
  where
    go : (b : Bool) → stepped e more ts (cond b (Ok (vs ++ w ∷ [])) (Err (too_deep, s))) ≡ stepped e (w ∷ more) ts (cond b (Ok (vs ++ [])) (Err (too_deep, s)))
    go true = ap (λ us. option_map fault_as (first_fault_at e us (at_spans ts))) (append_assoc vs (w ∷ []) more ∙ sym (ap (λ us. us ++ (w ∷ more)) (append-nil vs)))
    go false = refl

pub enters : (r q : Stage) (d : ℕ) (at : Span) (t : Token) (ts : List Token) → step 128 (inside r d at) t.span (token_of t.kind) ≡ begun 128 d t.span
    (inside q d at ∷ []) (begun_wants d t.span (token_of t.kind)) → (e : Span) (more : List Want) → first_fault e (inside r d at ∷ more) (t ∷ ts) ≡ first_fault e
    (a_value d ∷ inside q d at ∷ more) (t ∷ ts)
unfolding first_fault first_fault_at
enters r q d at t ts h e more = ap (stepped e more ts) h ∙ begun_then d t.span (inside q d at) (begun_wants d t.span (token_of t.kind)) e more ts

abbrev pub Opens : Stage → Stage → TheMark → Type 0
Opens r q m = (d : ℕ) (at s : Span) (t : TheToken) → (t ≡ mark m → ⊥) → step 128 (inside r d at) s t ≡ begun 128 d s (inside q d at ∷ []) (begun_wants d s t)

pub list_opens : Opens list_start list_more close_list
list_opens d at s (mark close_list) h = absurd (h refl)
list_opens d at s (mark _) h = refl
list_opens d at s _ h = refl

pub tuple_opens : Opens tuple_start tuple_one close_tuple
tuple_opens d at s (mark close_tuple) h = absurd (h refl)
tuple_opens d at s (mark _) h = refl
tuple_opens d at s _ h = refl

pub second_opens : Opens tuple_two tuple_more close_tuple
second_opens d at s (mark close_tuple) h = absurd (h refl)
second_opens d at s (mark _) h = refl
second_opens d at s _ h = refl

pub brace_opens : Opens brace_start brace_first close_brace
brace_opens d at s (mark close_brace) h = absurd (h refl)
brace_opens d at s (mark _) h = refl
brace_opens d at s _ h = refl

-- the first token of a value within the depth
pub begins : (d : ℕ) (t : Token) (ts : List Token) → IsSome (begun_wants d t.span (token_of t.kind)) → d ≤ 128 → (e : Span) (more : List Want) → first_fault e (a_value d ∷ more) (t ∷ ts) ≡ first_fault e (wants_after d t.span (token_of t.kind) ++ more) ts
begins d t ts h l e more = goes (a_value d) (wants_after d t.span (token_of t.kind)) t ts (go (begun_wants d t.span (token_of t.kind)) h) e more
  where
    low : nat_le d 128 ≡ true
    low = grind arith

    go : (o : Option (List Want)) → IsSome o → begun 128 d t.span [] o ≡ Ok (unwrap_or o [])
    go (Some vs) i = rw low (ap Ok (append-nil vs))
    go None i = absurd cc

-- a token that doesn't, or is too deep
pub does_not_begin : (d : ℕ) (t : Token) (ts : List Token) (f : Refused TextFlaw) → option_map fault_as (or_fault (begun 128 d t.span [] (begun_wants d t.span (token_of t.kind))) None) ≡ Some f → Stops (a_value d ∷ []) (t ∷ ts) f
does_not_begin d t ts Memory h = tt
does_not_begin d t ts (Fault x) h = λ e more. go (begun 128 d t.span [] (begun_wants d t.span (token_of t.kind))) refl h e more
  where
    go : (r : Left Span) → step 128 (a_value d) t.span (token_of t.kind) ≡ r → option_map fault_as (or_fault r None) ≡ Some (Fault x) → (e : Span) (more : List Want) → first_fault e (a_value d ∷ more) (t ∷ ts) ≡ Some (Fault x)
    go (Ok vs) q g = absurd cc
    go (Err f) q g = λ e more. halts (a_value d) f t ts q e more ∙ g

-- a bracket's first token, which doesn't close it
pub entered : (r q : Stage) (m : TheMark) (d : ℕ) (at : Span) (t : Token) (ts old : List Token) → Opens r q m → old ≡ t ∷ ts → (token_of t.kind ≡ mark m → ⊥) → (e : Span) (more : List Want) → first_fault e (inside r d at ∷ more) old ≡ first_fault e (a_value d ∷ inside q d at ∷ more) (t ∷ ts)
entered r q m d at t ts old o h k e more = ap (first_fault e (inside r d at ∷ more)) h ∙ enters r q d at t ts (o d at t.span (token_of t.kind) k) e more

-- no token where a value is wanted
pub missing : (d : ℕ) (f ended : Refused TextFlaw) (old : List Token) → old ≡ [] → f ≡ ended → StopsWith ended (a_value d ∷ []) old f
missing d f ended old h g = go f g
  where
    go : (x : Refused TextFlaw) → x ≡ ended → StopsWith ended (a_value d ∷ []) old x
    go Memory i = tt
    go (Fault x) i = λ e more q. ap (first_fault e (a_value d ∷ more)) h ∙ (ends (a_value d) e more ∙ ap Some (q ∙ sym i))
