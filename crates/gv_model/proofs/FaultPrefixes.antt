-- What the fault of tokens says of the tokens before it.
use Rattle.std.proofs.Common.{◌≡◌, ◌≤◌, ◌<◌, ◌⊎◌, ℕ, suc, ◌+◌, Bool, true, false, cond, List, [], ◌∷◌, ◌++◌, length, take, Option, Some, None, Ok, Err, refl, sym, ap, ◌∙◌, subst, arith, nat_le, append_assoc, append-nil, ◌-◌}
use Rattle.std.proofs.Math.Seq.{take-append_seam, take-append-add}
use Rattle.std.proofs.lemmas.List.{length-append}
use Rattle.std.proofs.lemmas.Option.{none-some, same_Some}
use mathlib.Core.Logic.{inl, inr}
use Rattle.gv_model.specs.TextFault.Cause.{unclosed, unexpected, too_deep}
use Rattle.gv_model.specs.Tokens.{Token, Mark}
use Rattle.gv_model.specs.Tokens.Mark.{open_tuple, open_list, open_brace, open_box, close_tuple, close_list, close_brace, close_box, comma, colon}
use Rattle.gv_model.specs.Tokens.Word.{truth, just, nothing, type_word}
use Rattle.gv_model.specs.Tokens.Token.{mark, string_token, byte_string, integer_token, type_token, word}
use Rattle.gv_model.specs.GrammarFaults.{Stage, Want, Next, Left, NumberedFault, after_value, after_mark, begun_wants, begun, stage_or_value, after_next, step, at_end, wants_of, or_fault, grammar_fault}
use Rattle.gv_model.specs.GrammarFaults.Stage.{list_start, list_more, tuple_start, tuple_one, tuple_two, tuple_more, brace_start, brace_first, pair_more, pair_colon, lone_end, box_end}
use Rattle.gv_model.specs.GrammarFaults.Want.{a_value, inside}
use Rattle.gv_model.specs.GrammarFaults.Next.{closed, goes_on, value_then, wrong}
use Rattle.gv_model.specs.TextLaws.{after_bracket, open_brackets, BeginsWithin, BeginsTree, IsShallow, IsUnfinished, EndsPrefix}
use Rattle.gv_model.proofs.LevelLimits.{fault_to, fault_128}
use Rattle.gv_model.proofs.FirstFaults.{AfterTokens, after_tokens, after_step, StepIs, one_more, one_wrong, one_value, prefix_begins, no_tree_begins, no_tree_at_all, no_tree_whole, Shallow, ShallowAfter, after_shallow, SameAfter, after_higher}
use Rattle.gv_model.proofs.ShallowPrefixes.{without_fault, alike_deep, apart}
use Rattle.gv_model.proofs.FirstFaults.AfterTokens.{stays, left}

-- Where a step goes wrong

abbrev StepFault : ℕ → NumberedFault → Type 0
StepFault n f = (f ≡ (unexpected, n)) ⊎ (f ≡ (too_deep, n))

abbrev GoesWrong : ℕ → Left ℕ → Type 0
GoesWrong n (Ok wants) = Unit {0}
GoesWrong n (Err f) = StepFault n f

begun_wrong : (l d n : ℕ) (rest : List (Want ℕ)) (o : Option (List (Want ℕ))) → GoesWrong n (begun l d n rest o)
begun_wrong l d n rest None = inl refl
begun_wrong l d n rest (Some wants) = go (nat_le d l)
  where
    go : (b : Bool) → GoesWrong n (cond b (Ok (wants ++ rest)) (Err (too_deep, n)))
    go true = tt
    go false = inr refl

stage_wrong : (l d at n : ℕ) (t : Token) (o : Option Stage) → GoesWrong n (stage_or_value l d at n t o)
stage_wrong l d at n t None = inl refl
stage_wrong l d at n t (Some s) = begun_wrong l d n (inside s d at ∷ []) (begun_wants d n t)

next_wrong : (l : ℕ) (s : Stage) (d at n : ℕ) (t : Token) (x : Next) → GoesWrong n (after_next l s d at n t x)
next_wrong l s d at n t closed = tt
next_wrong l s d at n t (goes_on r) = tt
next_wrong l s d at n t (value_then r) = tt
next_wrong l s d at n t wrong = stage_wrong l d at n t (after_value s)

step_wrong : (l : ℕ) (w : Want ℕ) (n : ℕ) (t : Token) → GoesWrong n (step l w n t)
step_wrong l (a_value d) n t = begun_wrong l d n [] (begun_wants d n t)
step_wrong l (inside s d at) n (mark x) = next_wrong l s d at n (mark x) (after_mark s x)
step_wrong l (inside s d at) n (string_token x) = stage_wrong l d at n (string_token x) (after_value s)
step_wrong l (inside s d at) n (byte_string x) = stage_wrong l d at n (byte_string x) (after_value s)
step_wrong l (inside s d at) n (integer_token b i) = stage_wrong l d at n (integer_token b i) (after_value s)
step_wrong l (inside s d at) n (type_token x) = stage_wrong l d at n (type_token x) (after_value s)
step_wrong l (inside s d at) n (word x) = stage_wrong l d at n (word x) (after_value s)

-- The fault is at a token, or at the end

pub record Stopped (l n : ℕ) (ws : List (Want ℕ)) (ts : List Token) (f : NumberedFault) : Type 0 where
  pub before : List Token
  pub token : Token
  pub after : List Token
  pub parts : ts ≡ before ++ token ∷ after
  pub wants : List (Want ℕ)
  pub prefix : after_tokens l n ws before ≡ left (n + length before) wants
  pub fault : StepIs l wants (n + length before) token f

pub record Ended (l n : ℕ) (ws : List (Want ℕ)) (ts : List Token) (f : NumberedFault) : Type 0 where
  pub want : Want ℕ
  pub wants : List (Want ℕ)
  pub prefix : after_tokens l n ws ts ≡ left (n + length ts) (want ∷ wants)
  pub fault : f ≡ at_end (n + length ts) (want ∷ wants)

stopped_later : (l n : ℕ) (w : Want ℕ) (ws vs : List (Want ℕ)) (t : Token) (ts : List Token) (f : NumberedFault) → step l w n t ≡ Ok vs → Stopped l (suc n) (vs ++ ws) ts f → Stopped l n (w ∷ ws) (t ∷ ts) f
unfolding after_tokens
stopped_later l n w ws vs t ts f e s =
    let place : suc n + length s.before ≡ n + length (t ∷ s.before) = omega arith in record {
      before = t ∷ s.before;
      token = s.token;
      after = s.after;
      parts = ap (λ r. t ∷ r) s.parts;
      wants = s.wants;
      prefix = rw e (s.prefix ∙ ap (λ k. left k s.wants) place);
      fault = subst (λ (k : ℕ). StepIs l s.wants k s.token f) place s.fault;
    }

ended_later : (l n : ℕ) (w : Want ℕ) (ws vs : List (Want ℕ)) (t : Token) (ts : List Token) (f : NumberedFault) → step l w n t ≡ Ok vs → Ended l (suc n) (vs ++ ws) ts f → Ended l n (w ∷ ws) (t ∷ ts) f
unfolding after_tokens
ended_later l n w ws vs t ts f e s =
    let place : suc n + length ts ≡ n + length (t ∷ ts) = omega arith in record {
      want = s.want;
      wants = s.wants;
      prefix = rw e (s.prefix ∙ ap (λ k. left k (s.want ∷ s.wants)) place);
      fault = s.fault ∙ ap (λ k. at_end k (s.want ∷ s.wants)) place;
    }

-- the fault is at the first token
stopped_here : (l n : ℕ) (ws : List (Want ℕ)) (t : Token) (ts : List Token) (f : NumberedFault) → StepIs l ws n t f → Stopped l n ws (t ∷ ts) f
unfolding after_tokens
stopped_here l n ws t ts f h =
    let place : n ≡ n + 0 = omega arith in record {
      before = [];
      token = t;
      after = ts;
      parts = refl;
      wants = ws;
      prefix = ap (λ k. left k ws) place;
      fault = subst (λ (k : ℕ). StepIs l ws k t f) place h;
    }

found : (l : ℕ) (ts : List Token) (n : ℕ) (ws : List (Want ℕ)) (f : NumberedFault) → fault_to l n ws ts ≡ Some f → Stopped l n ws ts f ⊎ Ended l n ws ts f
unfolding fault_to after_tokens
found l [] n [] f h = absurd (none-some f h)
found l [] n (w ∷ ws) f h =
    let place : n ≡ n + 0 = omega arith in
    inr (record { want = w; wants = ws; prefix = ap (λ k. left k (w ∷ ws)) place; fault = sym (same_Some _ f h) ∙ ap (λ k. at_end k (w ∷ ws)) place })
found l (t ∷ ts) n [] f h = inl (stopped_here l n [] t ts f (sym (same_Some (unexpected, n) f h)))
found l (t ∷ ts) n (w ∷ ws) f h = go (step l w n t) refl h (λ vs g. found l ts (suc n) (vs ++ ws) f g)
  where
    later : (vs : List (Want ℕ)) → step l w n t ≡ Ok vs → Stopped l (suc n) (vs ++ ws) ts f ⊎ Ended l (suc n) (vs ++ ws) ts f → Stopped l n (w ∷ ws) (t ∷ ts) f ⊎ Ended l n (w ∷ ws) (t ∷ ts) f
    later vs e (inl s) = inl (stopped_later l n w ws vs t ts f e s)
    later vs e (inr s) = inr (ended_later l n w ws vs t ts f e s)

    go : (r : Left ℕ) → step l w n t ≡ r → or_fault r (fault_to l (suc n) (wants_of r ++ ws) ts) ≡ Some f
        → ((vs : List (Want ℕ)) → fault_to l (suc n) (vs ++ ws) ts ≡ Some f → Stopped l (suc n) (vs ++ ws) ts f ⊎ Ended l (suc n) (vs ++ ws) ts f)
        → Stopped l n (w ∷ ws) (t ∷ ts) f ⊎ Ended l n (w ∷ ws) (t ∷ ts) f
    go (Ok vs) e g h = later vs e (h vs g)
    go (Err d) e g h = inl (stopped_here l n (w ∷ ws) t ts f (e ∙ ap Err (same_Some d f g)))

-- A level more makes room for what was too deep

abbrev HasRoom : ℕ → ℕ → Left ℕ → Left ℕ → Type 0
HasRoom m k (Err (too_deep, n)) r = (wants : List (Want ℕ)) × (r ≡ Ok wants)
HasRoom m k r s = Unit {0}

room : (l d n : ℕ) (rest : List (Want ℕ)) (o : Option (List (Want ℕ))) → d ≤ suc l → HasRoom l n (begun l d n rest o) (begun (suc l) d n rest o)
room l d n rest None h = tt
room l d n rest (Some wants) h = go (nat_le d l)
  where
    fits : nat_le d (suc l) ≡ true
    fits = (let g = h in grind arith)

    go : (b : Bool) → HasRoom l n (cond b (Ok (wants ++ rest)) (Err (too_deep, n))) (begun (suc l) d n rest (Some wants))
    go true = tt
    go false = (wants ++ rest, rw fits refl)

stage_room : (l d at n : ℕ) (t : Token) (o : Option Stage) → d ≤ suc l → HasRoom l n (stage_or_value l d at n t o) (stage_or_value (suc l) d at n t o)
stage_room l d at n t None h = tt
stage_room l d at n t (Some s) h = room l d n (inside s d at ∷ []) (begun_wants d n t) h

next_room : (l : ℕ) (s : Stage) (d at n : ℕ) (t : Token) (x : Next) → d ≤ suc l → HasRoom l n (after_next l s d at n t x) (after_next (suc l) s d at n t x)
next_room l s d at n t closed h = tt
next_room l s d at n t (goes_on r) h = tt
next_room l s d at n t (value_then r) h = tt
next_room l s d at n t wrong h = stage_room l d at n t (after_value s) h

step_room : (l : ℕ) (w : Want ℕ) (n : ℕ) (t : Token) (ws : List (Want ℕ)) → Shallow (suc l) (w ∷ ws) → HasRoom l n (step l w n t) (step (suc l) w n t)
step_room l (a_value d) n t ws h = room l d n [] (begun_wants d n t) h.0
step_room l (inside s d at) n (mark x) ws h = next_room l s d at n (mark x) (after_mark s x) h.0
step_room l (inside s d at) n (string_token x) ws h = stage_room l d at n (string_token x) (after_value s) h.0
step_room l (inside s d at) n (byte_string x) ws h = stage_room l d at n (byte_string x) (after_value s) h.0
step_room l (inside s d at) n (integer_token b i) ws h = stage_room l d at n (integer_token b i) (after_value s) h.0
step_room l (inside s d at) n (type_token x) ws h = stage_room l d at n (type_token x) (after_value s) h.0
step_room l (inside s d at) n (word x) ws h = stage_room l d at n (word x) (after_value s) h.0

-- Open brackets

abbrev opened : List (Want ℕ) → List ℕ
opened [] = []
opened (a_value d ∷ ws) = opened ws
opened (inside s d at ∷ ws) = at ∷ opened ws

abbrev OpenStep : List ℕ → List (Want ℕ) → Left ℕ → Type 0
OpenStep opens ws (Ok wants) = opened (wants ++ ws) ≡ opens
OpenStep opens ws (Err e) = Unit {0}

abbrev OpenFirst : List ℕ → List (Want ℕ) → Option (List (Want ℕ)) → Type 0
OpenFirst opens ws None = Unit {0}
OpenFirst opens ws (Some wants) = opened (wants ++ ws) ≡ opens

first_open : (d n : ℕ) (t : Token) (ws : List (Want ℕ)) → OpenFirst (after_bracket n (opened ws) t) ws (begun_wants d n t)
first_open d n (string_token s) ws = refl
first_open d n (byte_string s) ws = refl
first_open d n (integer_token b i) ws = refl
first_open d n (type_token t) ws = refl
first_open d n (word (truth b)) ws = refl
first_open d n (word nothing) ws = refl
first_open d n (word just) ws = refl
first_open d n (word (type_word k)) ws = refl
first_open d n (mark open_list) ws = refl
first_open d n (mark open_tuple) ws = refl
first_open d n (mark open_brace) ws = refl
first_open d n (mark open_box) ws = refl
first_open d n (mark _) ws = tt

begun_open : (l d n : ℕ) (rest ws : List (Want ℕ)) (opens : List ℕ) (o : Option (List (Want ℕ))) → OpenFirst opens (rest ++ ws) o → OpenStep opens ws (begun l d n rest o)
begun_open l d n rest ws opens None h = tt
begun_open l d n rest ws opens (Some wants) h = go (nat_le d l)
  where
    go : (b : Bool) → OpenStep opens ws (cond b (Ok (wants ++ rest)) (Err (too_deep, n)))
    go true = ap opened (append_assoc wants rest ws) ∙ h
    go false = tt

stage_open : (l : ℕ) (d at n : ℕ) (t : Token) (ws : List (Want ℕ)) (o : Option Stage) → OpenStep (after_bracket n (at ∷ opened ws) t) ws (stage_or_value l d at n t o)
stage_open l d at n t ws None = tt
stage_open l d at n t ws (Some r) = begun_open l d n (inside r d at ∷ []) ws (after_bracket n (at ∷ opened ws) t) (begun_wants d n t) (first_open d n t (inside r d at ∷ ws))

mark_open : (l : ℕ) (s : Stage) (m : Mark) (d at n : ℕ) (ws : List (Want ℕ)) → OpenStep (after_bracket n (at ∷ opened ws) (mark m)) ws (after_next l s d at n (mark m) (after_mark s m))
mark_open l list_start close_list d at n ws = refl
mark_open l list_more close_list d at n ws = refl
mark_open l list_more comma d at n ws = refl
mark_open l tuple_start close_tuple d at n ws = refl
mark_open l tuple_one comma d at n ws = refl
mark_open l tuple_two close_tuple d at n ws = refl
mark_open l tuple_more comma d at n ws = refl
mark_open l tuple_more close_tuple d at n ws = refl
mark_open l brace_start close_brace d at n ws = refl
mark_open l brace_first colon d at n ws = refl
mark_open l brace_first comma d at n ws = refl
mark_open l pair_more comma d at n ws = refl
mark_open l pair_more close_brace d at n ws = refl
mark_open l pair_colon colon d at n ws = refl
mark_open l lone_end close_brace d at n ws = refl
mark_open l box_end close_box d at n ws = refl
mark_open l s m d at n ws = stage_open l d at n (mark m) ws (after_value s)

step_open : (l : ℕ) (w : Want ℕ) (n : ℕ) (t : Token) (ws : List (Want ℕ)) → OpenStep (after_bracket n (opened (w ∷ ws)) t) ws (step l w n t)
step_open l (a_value d) n t ws = begun_open l d n [] ws (after_bracket n (opened ws) t) (begun_wants d n t) (first_open d n t ws)
step_open l (inside s d at) n (mark x) ws = mark_open l s x d at n ws
step_open l (inside s d at) n (string_token x) ws = stage_open l d at n (string_token x) ws (after_value s)
step_open l (inside s d at) n (byte_string x) ws = stage_open l d at n (byte_string x) ws (after_value s)
step_open l (inside s d at) n (integer_token b i) ws = stage_open l d at n (integer_token b i) ws (after_value s)
step_open l (inside s d at) n (type_token x) ws = stage_open l d at n (type_token x) ws (after_value s)
step_open l (inside s d at) n (word x) ws = stage_open l d at n (word x) ws (after_value s)

abbrev OpenAfter : List ℕ → AfterTokens → Type 0
OpenAfter opens (left n ws) = opened ws ≡ opens
OpenAfter opens (stays e) = Unit {0}

after_open : (l : ℕ) (ts : List Token) (n : ℕ) (ws : List (Want ℕ)) → OpenAfter (open_brackets n (opened ws) ts) (after_tokens l n ws ts)
unfolding after_tokens open_brackets
after_open l [] n ws = refl
after_open l (t ∷ ts) n [] = tt
after_open l (t ∷ ts) n (w ∷ ws) = go (step l w n t) (step_open l w n t ws) (λ vs. after_open l ts (suc n) (vs ++ ws))
  where
    go : (r : Left ℕ) → OpenStep (after_bracket n (opened (w ∷ ws)) t) ws r
        → ((vs : List (Want ℕ)) → OpenAfter (open_brackets (suc n) (opened (vs ++ ws)) ts) (after_tokens l (suc n) (vs ++ ws) ts))
        → OpenAfter (open_brackets (suc n) (after_bracket n (opened (w ∷ ws)) t) ts) (after_step r (after_tokens l (suc n) (wants_of r ++ ws) ts))
    go (Ok vs) e later = subst (λ (opens : List ℕ). OpenAfter (open_brackets (suc n) opens ts) (after_tokens l (suc n) (vs ++ ws) ts)) e (later vs)
    go (Err f) e later = tt

-- at the end: no bracket is opens, or the innermost is the fault's
abbrev AtEnd : ℕ → List ℕ → NumberedFault → Type 0
AtEnd n [] f = f ≡ (unexpected, n)
AtEnd n (at ∷ outer) f = f ≡ (unclosed, at)

end_open : (n : ℕ) (ws : List (Want ℕ)) → AtEnd n (opened ws) (at_end n ws)
end_open n [] = refl
end_open n (a_value d ∷ ws) = end_open n ws
end_open n (inside s d at ∷ ws) = refl

-- The law

start : List (Want ℕ)
start = a_value 1 ∷ []

begins_any : (l : ℕ) (ts : List Token) → BeginsWithin l ts → BeginsTree ts
begins_any l ts h = (h.0, h.1, h.2)

before_token : (before : List Token) (t : Token) (after : List Token) → take (length before) (before ++ t ∷ after) ≡ before
before_token before t after = take-append_seam before (t ∷ after)

with_token : (before : List Token) (t : Token) (after : List Token) → take (suc (length before)) (before ++ t ∷ after) ≡ before ++ t ∷ []
with_token before t after = (let z : suc (length before) ≡ length before + 1 = omega arith in ap (λ k. take k (before ++ t ∷ after)) z) ∙ take-append-add before (t ∷ after) 1

stopped_number : (l n : ℕ) (ws : List (Want ℕ)) (t : Token) (f : NumberedFault) → StepIs l ws n t f → StepFault n f
stopped_number l n [] t f h = inl h
stopped_number l n (w ∷ ws) t f h = subst (λ (r : Left ℕ). GoesWrong n r) h (step_wrong l w n t)

room_after : (before : List Token) (t : Token) (ws : List (Want ℕ)) (n : ℕ) → after_tokens 128 0 (a_value 1 ∷ []) before ≡ left n ws → StepIs 128 ws n t (too_deep, n) → BeginsTree (before ++ t ∷ [])
room_after before t [] n e h = absurd (apart too_deep refl (ap (λ (p : NumberedFault). p.0) h))
room_after before t (w ∷ ws) n e h =
    let shallow : Shallow 129 (w ∷ ws) = subst (λ b. ShallowAfter 129 b) e (after_shallow 128 before 0 (a_value 1 ∷ []) (omega arith, tt)) in
    let more : (wants : List (Want ℕ)) × (step 129 w n t ≡ Ok wants) = subst (λ (r : Left ℕ). HasRoom 128 n r (step 129 w n t)) h (step_room 128 w n t ws shallow) in
    let same : after_tokens 129 0 (a_value 1 ∷ []) before ≡ left n (w ∷ ws) = subst (λ b. SameAfter b (after_tokens 129 0 (a_value 1 ∷ []) before)) e (after_higher 128 129 before 0 (a_value 1 ∷ []) (omega arith)) in
    begins_any 130 (before ++ t ∷ []) (prefix_begins 129 (before ++ t ∷ []) (suc n) (more.0 ++ ws) (omega arith) (one_more 129 before t 0 n (a_value 1 ∷ []) w ws more.0 same more.1))

at_token : (ts : List Token) (f : NumberedFault) → Stopped 128 0 (a_value 1 ∷ []) ts f → EndsPrefix ts f
at_token ts f s = go f wrong_here (stopped_number 128 (length s.before) s.wants s.token f wrong_here)
  where
    place : 0 + length s.before ≡ length s.before
    place = omega arith

    so_far : after_tokens 128 0 (a_value 1 ∷ []) s.before ≡ left (length s.before) s.wants
    so_far = s.prefix ∙ ap (λ k. left k s.wants) place

    wrong_here : StepIs 128 s.wants (length s.before) s.token f
    wrong_here = subst (λ (k : ℕ). StepIs 128 s.wants k s.token f) place s.fault

    short : length s.before < length ts
    short = omega (arith, ap length s.parts, length-append s.before (s.token ∷ s.after))

    prefix : take (length s.before) ts ≡ s.before
    prefix = ap (take (length s.before)) s.parts ∙ before_token s.before s.token s.after

    with_it : take (suc (length s.before)) ts ≡ s.before ++ s.token ∷ []
    with_it = ap (take (suc (length s.before))) s.parts ∙ with_token s.before s.token s.after

    shallow : IsShallow ts (length s.before)
    shallow = without_fault ts s.before (s.token ∷ s.after) (length s.before) s.wants s.parts so_far

    go : (g : NumberedFault) → StepIs 128 s.wants (length s.before) s.token g → StepFault (length s.before) g → EndsPrefix ts g
    go g h (inl e) =
        let h' : StepIs 128 s.wants (length s.before) s.token (unexpected, length s.before) = subst (λ (d : NumberedFault). StepIs 128 s.wants (length s.before) s.token d) e h in
        let stop = one_wrong 128 s.before s.token 0 (length s.before) (a_value 1 ∷ []) s.wants (unexpected, length s.before) so_far h' in
        let none : BeginsTree (take (suc (length s.before)) ts) → ⊥ = (λ b. no_tree_at_all 128 (s.before ++ s.token ∷ []) (length s.before) stop b.0 b.1 (b.2 ∙ ap (λ us. us ++ b.1) with_it)) in
        subst (λ (d : NumberedFault). EndsPrefix ts d) (sym e) (inl (short, shallow, none))
    go g h (inr e) =
        let h' : StepIs 128 s.wants (length s.before) s.token (too_deep, length s.before) = subst (λ (d : NumberedFault). StepIs 128 s.wants (length s.before) s.token d) e h in
        let stop = one_wrong 128 s.before s.token 0 (length s.before) (a_value 1 ∷ []) s.wants (too_deep, length s.before) so_far h' in
        let instead = one_wrong 128 s.before one_value 0 (length s.before) (a_value 1 ∷ []) s.wants (too_deep, length s.before) so_far (alike_deep 128 s.wants (length s.before) s.token h') in
        let but_one : take (suc (length s.before) - 1) ts ≡ s.before = (let z : suc (length s.before) - 1 ≡ length s.before = omega arith in ap (λ k. take k ts) z ∙ prefix) in
        let none : IsShallow ts (suc (length s.before)) → ⊥ = (λ g. elim g.1 [
          | inl b ↦ no_tree_begins 128 (s.before ++ s.token ∷ []) (too_deep, length s.before) stop b.0 b.1 b.3 (b.2 ∙ ap (λ us. us ++ b.1) with_it)
          | inr b ↦ no_tree_begins 128 (s.before ++ one_value ∷ []) (too_deep, length s.before) instead b.0 b.1 b.3 (b.2 ∙ ap (λ us. (us ++ one_value ∷ []) ++ b.1) but_one)
        ]) in
        let deep : BeginsTree (take (suc (length s.before)) ts) = subst (λ (us : List Token). BeginsTree us) (sym with_it) (room_after s.before s.token s.wants (length s.before) so_far h') in
        subst (λ (d : NumberedFault). EndsPrefix ts d) (sym e) (short, shallow, deep, none)

at_the_end : (ts : List Token) (f : NumberedFault) → Ended 128 0 (a_value 1 ∷ []) ts f → EndsPrefix ts f
at_the_end ts f s = subst (λ (g : NumberedFault). EndsPrefix ts g) (sym at_last) (go (opened (s.want ∷ s.wants)) opens (at_end (length ts) (s.want ∷ s.wants)) (end_open (length ts) (s.want ∷ s.wants)))
  where
    place : 0 + length ts ≡ length ts
    place = omega arith

    so_far : after_tokens 128 0 (a_value 1 ∷ []) ts ≡ left (length ts) (s.want ∷ s.wants)
    so_far = s.prefix ∙ ap (λ k. left k (s.want ∷ s.wants)) place

    at_last : f ≡ at_end (length ts) (s.want ∷ s.wants)
    at_last = s.fault ∙ ap (λ k. at_end k (s.want ∷ s.wants)) place

    opens : opened (s.want ∷ s.wants) ≡ open_brackets 0 [] ts
    opens = subst (λ b. OpenAfter (open_brackets 0 [] ts) b) s.prefix (after_open 128 ts 0 (a_value 1 ∷ []))

    unfinished : IsUnfinished ts
    unfinished = (
      without_fault ts ts [] (length ts) (s.want ∷ s.wants) (sym (append-nil ts)) so_far,
      no_tree_whole 128 ts (length ts) s.want s.wants so_far,
    )

    go : (os : List ℕ) → os ≡ open_brackets 0 [] ts → (g : NumberedFault) → AtEnd (length ts) os g → EndsPrefix ts g
    go [] o g e = subst (λ (d : NumberedFault). EndsPrefix ts d) (sym e) (inr (refl, unfinished, sym o))
    go (at ∷ outer) o g e = subst (λ (d : NumberedFault). EndsPrefix ts d) (sym e) (unfinished, (outer, sym o))

pub fault_ends_prefix : (ts : List Token) (f : NumberedFault) → grammar_fault ts ≡ Some f → EndsPrefix ts f
fault_ends_prefix ts f h = go (found 128 ts 0 (a_value 1 ∷ []) f (fault_128 ts ∙ h))
  where
    go : Stopped 128 0 (a_value 1 ∷ []) ts f ⊎ Ended 128 0 (a_value 1 ∷ []) ts f → EndsPrefix ts f
    go (inl s) = at_token ts f s
    go (inr s) = at_the_end ts f s
