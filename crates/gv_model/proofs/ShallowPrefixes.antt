-- Tokens without a fault are shallow: where the last of them wants a value too deep, with `nothing` in its place they don't.
use Rattle.std.proofs.Common.{◌≡◌, ◌≤◌, ◌⊎◌, ℕ, suc, ◌-◌, Bool, true, false, cond, List, [], ◌∷◌, ◌++◌, length, take, Option, Some, None, Ok, Err, refl, sym, ap, ◌∙◌, subst, arith, nat_le, append_assoc, inl, inr}
use Rattle.std.proofs.Math.Seq.{take-append_seam}
use Rattle.std.proofs.lemmas.List.{length-append}
use Rattle.gv_model.specs.TextFault.{Cause}
use Rattle.gv_model.specs.TextFault.Cause.{unexpected, too_deep}
use Rattle.gv_model.specs.Tokens.{Token, Mark}
use Rattle.gv_model.specs.Tokens.Mark.{open_tuple, open_list, open_brace, open_box, close_tuple, close_list, close_brace, close_box, comma, colon}
use Rattle.gv_model.specs.Tokens.Word.{truth, just, nothing, type_word}
use Rattle.gv_model.specs.Tokens.Token.{mark, string_token, byte_string, integer_token, type_token, word}
use Rattle.gv_model.specs.GrammarFaults.{Stage, Want, Next, Left, NumberedFault, after_value, after_mark, begun_wants, begun, stage_or_value, after_next, step, wants_of}
use Rattle.gv_model.specs.GrammarFaults.Stage.{list_start, list_more, tuple_start, tuple_one, tuple_two, tuple_more, brace_start, brace_first, pair_more, pair_colon, lone_end, box_end}
use Rattle.gv_model.specs.GrammarFaults.Want.{a_value, inside}
use Rattle.gv_model.specs.GrammarFaults.Next.{closed, goes_on, value_then, wrong}
use Rattle.gv_model.specs.TextLaws.{BeginsWithin, BeginsTree, IsShallow}
use Rattle.gv_model.proofs.FirstFaults.{AfterTokens, after_tokens, after_step, after_then, after_both, StepIs, one_more, one_value, AllSettled, Settled, inside_settled, settled_begins, prefix_begins, le_of}
use Rattle.gv_model.proofs.FirstFaults.AfterTokens.{stays, left}

-- all wants are settled, but for a value that is wanted first
abbrev Loose : ℕ → List (Want ℕ) → Type 0
Loose m [] = Unit {0}
Loose m (a_value d ∷ ws) = AllSettled m ws
Loose m (inside s d at ∷ ws) = AllSettled m (inside s d at ∷ ws)

settled_loose : (m : ℕ) (ws : List (Want ℕ)) → AllSettled m ws → Loose m ws
settled_loose m [] h = tt
settled_loose m (a_value d ∷ ws) h = h.1
settled_loose m (inside s d at ∷ ws) h = h

-- One token: what it leaves is settled, or what `nothing` leaves in its place is

abbrev IsInstead : ℕ → List (Want ℕ) → List (Want ℕ) → Left ℕ → Type 0
IsInstead m ws wants instead = Loose m (wants ++ ws) × ((us : List (Want ℕ)) × (instead ≡ Ok us) × AllSettled m (us ++ ws))

abbrev SettledStep : ℕ → List (Want ℕ) → Left ℕ → Left ℕ → Type 0
SettledStep m ws (Err e) instead = Unit {0}
SettledStep m ws (Ok wants) instead = AllSettled m (wants ++ ws) ⊎ IsInstead m ws wants instead

chosen_settled : (l d n : ℕ) (rest ws wants : List (Want ℕ))
    → (d ≤ l → AllSettled l ((wants ++ rest) ++ ws) ⊎ IsInstead l ws (wants ++ rest) (Ok rest)) → (b : Bool) → nat_le d l ≡ b
    → SettledStep l ws (cond b (Ok (wants ++ rest)) (Err (too_deep, n))) (cond b (Ok rest) (Err (too_deep, n)))
chosen_settled l d n rest ws wants h true e = h (le_of d l e)
chosen_settled l d n rest ws wants h false e = tt

begun_settled : (l d n : ℕ) (t : Token) (rest ws : List (Want ℕ)) → (d ≤ l → AllSettled l (rest ++ ws))
    → SettledStep l ws (begun l d n rest (begun_wants d n t)) (begun l d n rest (begun_wants d n one_value))
begun_settled l d n t rest ws g = go t
  where
    one : (wants : List (Want ℕ)) → (d ≤ l → AllSettled l ((wants ++ rest) ++ ws) ⊎ IsInstead l ws (wants ++ rest) (Ok rest))
        → SettledStep l ws (begun l d n rest (Some wants)) (begun l d n rest (Some []))
    one wants h = chosen_settled l d n rest ws wants h (nat_le d l) refl

    go : (t : Token) → SettledStep l ws (begun l d n rest (begun_wants d n t)) (begun l d n rest (begun_wants d n one_value))
    go (string_token s) = one [] (λ h. inl (g h))
    go (byte_string s) = one [] (λ h. inl (g h))
    go (integer_token b i) = one [] (λ h. inl (g h))
    go (type_token t) = one (a_value (suc d) ∷ []) (λ h. inr (g h, (rest, refl, g h)))
    go (word (truth b)) = one [] (λ h. inl (g h))
    go (word nothing) = one [] (λ h. inl (g h))
    go (word just) = one (a_value (suc d) ∷ []) (λ h. inr (g h, (rest, refl, g h)))
    go (word (type_word k)) = one (a_value (suc d) ∷ []) (λ h. inr (g h, (rest, refl, g h)))
    go (mark open_list) = one (inside list_start (suc d) n ∷ []) (λ h. inl (tt, g h))
    go (mark open_tuple) = one (inside tuple_start (suc d) n ∷ []) (λ h. inl (tt, g h))
    go (mark open_brace) = one (inside brace_start (suc d) n ∷ []) (λ h. inl (tt, g h))
    go (mark open_box) = one (a_value (suc d) ∷ inside box_end (suc d) n ∷ []) (λ h. inr ((tt, g h), (rest, refl, g h)))
    go (mark _) = tt

stage_settled : (l d at n : ℕ) (t : Token) (ws : List (Want ℕ)) (o : Option Stage) → AllSettled l ws
    → SettledStep l ws (stage_or_value l d at n t o) (stage_or_value l d at n one_value o)
stage_settled l d at n t ws None g = tt
stage_settled l d at n t ws (Some r) g = begun_settled l d n t (inside r d at ∷ []) ws (λ h. (inside_settled l r d at h, g))

mark_settled : (l : ℕ) (s : Stage) (m : Mark) (d at n : ℕ) (ws : List (Want ℕ)) → Settled l (inside s d at) → AllSettled l ws
    → SettledStep l ws (after_next l s d at n (mark m) (after_mark s m)) (stage_or_value l d at n one_value (after_value s))
mark_settled l list_start close_list d at n ws h g = inl g
mark_settled l list_more close_list d at n ws h g = inl g
mark_settled l list_more comma d at n ws h g = inl (h, (h, g))
mark_settled l tuple_start close_tuple d at n ws h g = inl g
mark_settled l tuple_one comma d at n ws h g = inl (h, g)
mark_settled l tuple_two close_tuple d at n ws h g = inl g
mark_settled l tuple_more comma d at n ws h g = inl (h, (h, g))
mark_settled l tuple_more close_tuple d at n ws h g = inl g
mark_settled l brace_start close_brace d at n ws h g = inl g
mark_settled l brace_first colon d at n ws h g = inl (h, (h, g))
mark_settled l brace_first comma d at n ws h g = inl (h, (h, g))
mark_settled l pair_more comma d at n ws h g = inl (h, (h, g))
mark_settled l pair_more close_brace d at n ws h g = inl g
mark_settled l pair_colon colon d at n ws h g = inl (h, (h, g))
mark_settled l lone_end close_brace d at n ws h g = inl g
mark_settled l box_end close_box d at n ws h g = inl g
mark_settled l s m d at n ws h g = stage_settled l d at n (mark m) ws (after_value s) g

step_settled : (l : ℕ) (w : Want ℕ) (n : ℕ) (t : Token) (ws : List (Want ℕ)) → Loose l (w ∷ ws) → SettledStep l ws (step l w n t) (step l w n one_value)
step_settled l (a_value d) n t ws g = begun_settled l d n t [] ws (λ h. g)
step_settled l (inside s d at) n (mark x) ws g = mark_settled l s x d at n ws g.0 g.1
step_settled l (inside s d at) n (string_token x) ws g = stage_settled l d at n (string_token x) ws (after_value s) g.1
step_settled l (inside s d at) n (byte_string x) ws g = stage_settled l d at n (byte_string x) ws (after_value s) g.1
step_settled l (inside s d at) n (integer_token b i) ws g = stage_settled l d at n (integer_token b i) ws (after_value s) g.1
step_settled l (inside s d at) n (type_token x) ws g = stage_settled l d at n (type_token x) ws (after_value s) g.1
step_settled l (inside s d at) n (word x) ws g = stage_settled l d at n (word x) ws (after_value s) g.1

-- All tokens

abbrev LooseAfter : ℕ → AfterTokens → Type 0
LooseAfter m (left n ws) = Loose m ws
LooseAfter m (stays e) = Unit {0}

after_loose : (l : ℕ) (ts : List Token) (n : ℕ) (ws : List (Want ℕ)) → Loose l ws → LooseAfter l (after_tokens l n ws ts)
unfolding after_tokens
after_loose l [] n ws h = h
after_loose l (t ∷ ts) n [] h = tt
after_loose l (t ∷ ts) n (w ∷ ws) h = go (step l w n t) (step_settled l w n t ws h) (λ vs g. after_loose l ts (suc n) (vs ++ ws) g)
  where
    go : (r : Left ℕ) → SettledStep l ws r (step l w n one_value) → ((vs : List (Want ℕ)) → Loose l (vs ++ ws) → LooseAfter l (after_tokens l (suc n) (vs ++ ws) ts))
        → LooseAfter l (after_step r (after_tokens l (suc n) (wants_of r ++ ws) ts))
    go (Ok vs) (inl g) later = later vs (settled_loose l (vs ++ ws) g)
    go (Ok vs) (inr g) later = later vs g.0
    go (Err e) g later = tt

stays_no_left : (e : NumberedFault) (n : ℕ) (ws : List (Want ℕ)) → stays e ≡ left n ws → ⊥
stays_no_left e n ws h = cc

same_wants : (m n : ℕ) (vs ws : List (Want ℕ)) → left m vs ≡ left n ws → vs ≡ ws
same_wants m n vs ws h = cc

-- a token more, without a fault
pub last_shallow : (l : ℕ) (ts : List Token) (t : Token) (n : ℕ) (ws : List (Want ℕ)) → 1 ≤ l → after_tokens l 0 (a_value 1 ∷ []) (ts ++ t ∷ []) ≡ left n ws
    → BeginsWithin l (ts ++ t ∷ []) ⊎ BeginsWithin l (ts ++ one_value ∷ [])
unfolding after_tokens
last_shallow l ts t n ws pos h = go (after_tokens l 0 start ts) refl (sym (after_both l ts (t ∷ []) 0 start) ∙ h)
  where
    start : List (Want ℕ)
    start = a_value 1 ∷ []

    stepped : (m : ℕ) (w : Want ℕ) (vs : List (Want ℕ)) → after_tokens l 0 start ts ≡ left m (w ∷ vs) → (r : Left ℕ) → step l w m t ≡ r → SettledStep l vs r (step l w m one_value)
        → after_step r (left (suc m) (wants_of r ++ vs)) ≡ left n ws → BeginsWithin l (ts ++ t ∷ []) ⊎ BeginsWithin l (ts ++ one_value ∷ [])
    stepped m w vs e (Ok us) q (inl g) k = inl (settled_begins l (ts ++ t ∷ []) (suc m) (us ++ vs) (one_more l ts t 0 m start w vs us e q) g)
    stepped m w vs e (Ok us) q (inr g) k = inr (settled_begins l (ts ++ one_value ∷ []) (suc m) (g.1.0 ++ vs) (one_more l ts one_value 0 m start w vs g.1.0 e g.1.1) g.1.2)
    stepped m w vs e (Err f) q g k = absurd (stays_no_left f n ws k)

    go : (b : AfterTokens) → after_tokens l 0 start ts ≡ b → after_then l b (t ∷ []) ≡ left n ws → BeginsWithin l (ts ++ t ∷ []) ⊎ BeginsWithin l (ts ++ one_value ∷ [])
    go (stays f) e k = absurd (stays_no_left f n ws k)
    go (left m []) e k = absurd (stays_no_left (unexpected, m) n ws k)
    go (left m (w ∷ vs)) e k =
        let loose : Loose l (w ∷ vs) = subst (λ b. LooseAfter l b) e (after_loose l ts 0 start tt) in
        stepped m w vs e (step l w m t) refl (step_settled l w m t vs loose) k

-- tokens are none, or there is a last
pub data Last : List Token → Type 0 where
  no_token : Last []
  last : (ts : List Token) (t : Token) → Last (ts ++ t ∷ [])

pub last_of : (ts : List Token) → Last ts
last_of [] = no_token
last_of (t ∷ ts) = go ts (last_of ts)
  where
    go : (us : List Token) → Last us → Last (t ∷ us)
    go _ no_token = last [] t
    go _ (last vs u) = last (t ∷ vs) u

begin_empty : BeginsWithin 128 []
unfolding after_tokens
begin_empty = settled_begins 128 [] 0 (a_value 1 ∷ []) refl (omega arith, tt)

-- tokens without a fault are shallow, whatever follows
pub without_fault : (ts before after : List Token) (n : ℕ) (ws : List (Want ℕ)) → ts ≡ before ++ after → after_tokens 128 0 (a_value 1 ∷ []) before ≡ left n ws → IsShallow ts (length before)
without_fault ts before after n ws e h = (subst BeginsTree (sym whole) (tree.0, tree.1, tree.2), go before e h (last_of before))
  where
    whole : take (length before) ts ≡ before
    whole = ap (take (length before)) e ∙ take-append_seam before after

    tree : BeginsWithin 129 before
    tree = prefix_begins 128 before n ws (omega arith) h

    go : (us : List Token) → ts ≡ us ++ after → after_tokens 128 0 (a_value 1 ∷ []) us ≡ left n ws → Last us
        → BeginsWithin 128 (take (length us) ts) ⊎ BeginsWithin 128 (take (length us - 1) ts ++ one_value ∷ [])
    go _ q k no_token = inl (subst (BeginsWithin 128) (sym (ap (take 0) q ∙ take-append_seam [] after)) begin_empty)
    go _ q k (last us t) =
        let all : take (length (us ++ t ∷ [])) ts ≡ us ++ t ∷ [] = ap (take (length (us ++ t ∷ []))) q ∙ take-append_seam (us ++ t ∷ []) after in
        let shorter : length (us ++ t ∷ []) - 1 ≡ length us = omega (arith, length-append us (t ∷ [])) in
        let but_one : take (length (us ++ t ∷ []) - 1) ts ≡ us =
        ap (λ m. take m ts) shorter ∙ (ap (take (length us)) (q ∙ append_assoc us (t ∷ []) after) ∙ take-append_seam us (t ∷ after)) in
        elim (last_shallow 128 us t n ws (omega arith) k) [
          | inl g ↦ inl (subst (BeginsWithin 128) (sym all) g)
          | inr g ↦ inr (subst (λ (vs : List Token). BeginsWithin 128 (vs ++ one_value ∷ [])) (sym but_one) g)
        ]

-- What is too deep for a token is so for `nothing` in its place

abbrev DeepAlike : Left ℕ → Left ℕ → Type 0
DeepAlike (Err (too_deep, k)) instead = instead ≡ Err (too_deep, k)
DeepAlike r instead = Unit {0}

begun_alike : (l d n : ℕ) (rest : List (Want ℕ)) (o : Option (List (Want ℕ))) → DeepAlike (begun l d n rest o) (begun l d n rest (Some []))
begun_alike l d n rest None = tt
begun_alike l d n rest (Some wants) = go (nat_le d l)
  where
    go : (b : Bool) → DeepAlike (cond b (Ok (wants ++ rest)) (Err (too_deep, n))) (cond b (Ok rest) (Err (too_deep, n)))
    go true = tt
    go false = refl

stage_alike : (l d at n : ℕ) (t : Token) (o : Option Stage) → DeepAlike (stage_or_value l d at n t o) (stage_or_value l d at n one_value o)
stage_alike l d at n t None = tt
stage_alike l d at n t (Some r) = begun_alike l d n (inside r d at ∷ []) (begun_wants d n t)

next_alike : (l : ℕ) (s : Stage) (d at n : ℕ) (t : Token) (x : Next) → DeepAlike (after_next l s d at n t x) (stage_or_value l d at n one_value (after_value s))
next_alike l s d at n t closed = tt
next_alike l s d at n t (goes_on r) = tt
next_alike l s d at n t (value_then r) = tt
next_alike l s d at n t wrong = stage_alike l d at n t (after_value s)

step_alike : (l : ℕ) (w : Want ℕ) (n : ℕ) (t : Token) → DeepAlike (step l w n t) (step l w n one_value)
step_alike l (a_value d) n t = begun_alike l d n [] (begun_wants d n t)
step_alike l (inside s d at) n (mark x) = next_alike l s d at n (mark x) (after_mark s x)
step_alike l (inside s d at) n (string_token x) = stage_alike l d at n (string_token x) (after_value s)
step_alike l (inside s d at) n (byte_string x) = stage_alike l d at n (byte_string x) (after_value s)
step_alike l (inside s d at) n (integer_token b i) = stage_alike l d at n (integer_token b i) (after_value s)
step_alike l (inside s d at) n (type_token x) = stage_alike l d at n (type_token x) (after_value s)
step_alike l (inside s d at) n (word x) = stage_alike l d at n (word x) (after_value s)

pub apart : (c : Cause) → c ≡ too_deep → c ≡ unexpected → ⊥
apart c e f = cc

pub alike_deep : (l : ℕ) (ws : List (Want ℕ)) (n : ℕ) (t : Token) → StepIs l ws n t (too_deep, n) → StepIs l ws n one_value (too_deep, n)
alike_deep l [] n t h = absurd (apart too_deep refl (ap (λ (p : NumberedFault). p.0) h))
alike_deep l (w ∷ ws) n t h = subst (λ (r : Left ℕ). DeepAlike r (step l w n one_value)) h (step_alike l w n t)
