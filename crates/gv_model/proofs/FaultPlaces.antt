-- The first fault of tokens is at the same token, whatever the tokens' places are.
use Rattle.std.proofs.Common.{◌≡◌, ℕ, Bool, true, false, cond, List, [], ◌∷◌, ◌++◌, map, Option, Some, None, Ok, Err, refl, sym, ap, ◌∙◌, nat_le}
use Rattle.std.specs.Prelude.{option_map}
use Rattle.std.proofs.lemmas.List.{map-append}
use Rattle.gv_model.specs.TextFault.Cause.{too_deep}
use Rattle.gv_model.specs.Tokens.{Token}
use Rattle.gv_model.specs.Tokens.Mark.{open_tuple, open_list, open_brace, open_box}
use Rattle.gv_model.specs.Tokens.Word.{truth, just, nothing, type_word}
use Rattle.gv_model.specs.Tokens.Token.{mark, string_token, byte_string, integer_token, type_token, word}
use Rattle.gv_model.specs.GrammarFaults.{Stage, Want, Next, FaultAt, Left, after_value, after_mark, begun_wants, begun, stage_or_value, after_next, step, at_end, wants_of, or_fault, first_fault}
use Rattle.gv_model.specs.GrammarFaults.Want.{a_value, inside}
use Rattle.gv_model.specs.GrammarFaults.Next.{closed, goes_on, value_then, wrong}

-- Other places

abbrev pub move_want : {P Q : Type 0} → (P → Q) → Want P → Want Q
move_want f (a_value d) = a_value d
move_want f (inside s d at) = inside s d (f at)

abbrev pub move_wants : {P Q : Type 0} → (P → Q) → List (Want P) → List (Want Q)
move_wants f ws = map (move_want f) ws

abbrev pub move_fault : {P Q : Type 0} → (P → Q) → FaultAt P → FaultAt Q
move_fault f e = (e.0, f e.1)

abbrev move_left : {P Q : Type 0} → (P → Q) → Left P → Left Q
move_left f (Ok ws) = Ok (move_wants f ws)
move_left f (Err e) = Err (move_fault f e)

abbrev pub move_tokens : {P Q : Type 0} → (P → Q) → List (P × Token) → List (Q × Token)
move_tokens f ts = map (λ t. (f t.0, t.1)) ts

-- One token

same_first : {P Q : Type 0} (f : P → Q) (d : ℕ) (p : P) (t : Token) → begun_wants d (f p) t ≡ option_map (move_wants f) (begun_wants d p t)
same_first f d p (mark open_list) = refl
same_first f d p (mark open_tuple) = refl
same_first f d p (mark open_brace) = refl
same_first f d p (mark open_box) = refl
same_first f d p (mark _) = refl
same_first f d p (word (truth b)) = refl
same_first f d p (word nothing) = refl
same_first f d p (word just) = refl
same_first f d p (word (type_word k)) = refl
same_first f d p _ = refl

same_begun : {P Q : Type 0} (f : P → Q) (l d : ℕ) (p : P) (rest : List (Want P)) (o : Option (List (Want P))) → begun l d (f p) (move_wants f rest) (option_map (move_wants f) o) ≡ move_left f (begun l d p rest o)
same_begun f l d p rest None = refl
same_begun f l d p rest (Some ws) = go (nat_le d l)
  where
    go : (b : Bool) → cond b (Ok (move_wants f ws ++ move_wants f rest)) (Err (too_deep, f p)) ≡ move_left f (cond b (Ok (ws ++ rest)) (Err (too_deep, p)))
    go true = ap Ok (sym (map-append (move_want f) ws rest))
    go false = refl

same_stage : {P Q : Type 0} (f : P → Q) (l d : ℕ) (at p : P) (t : Token) (o : Option Stage) → stage_or_value l d (f at) (f p) t o ≡ move_left f (stage_or_value l d at p t o)
same_stage f l d at p t None = refl
same_stage f l d at p t (Some s) =
    ap (begun l d (f p) (inside s d (f at) ∷ [])) (same_first f d p t)
    ∙ same_begun f l d p (inside s d at ∷ []) (begun_wants d p t)

same_next : {P Q : Type 0} (f : P → Q) (l : ℕ) (s : Stage) (d : ℕ) (at p : P) (t : Token) (x : Next) → after_next l s d (f at) (f p) t x ≡ move_left f (after_next l s d at p t x)
same_next f l s d at p t closed = refl
same_next f l s d at p t (goes_on r) = refl
same_next f l s d at p t (value_then r) = refl
same_next f l s d at p t wrong = same_stage f l d at p t (after_value s)

same_step : {P Q : Type 0} (f : P → Q) (l : ℕ) (w : Want P) (p : P) (t : Token) → step l (move_want f w) (f p) t ≡ move_left f (step l w p t)
same_step f l (a_value d) p t = ap (begun l d (f p) []) (same_first f d p t) ∙ same_begun f l d p [] (begun_wants d p t)
same_step f l (inside s d at) p (mark m) = same_next f l s d at p (mark m) (after_mark s m)
same_step f l (inside s d at) p (string_token x) = same_stage f l d at p (string_token x) (after_value s)
same_step f l (inside s d at) p (byte_string x) = same_stage f l d at p (byte_string x) (after_value s)
same_step f l (inside s d at) p (integer_token b i) = same_stage f l d at p (integer_token b i) (after_value s)
same_step f l (inside s d at) p (type_token x) = same_stage f l d at p (type_token x) (after_value s)
same_step f l (inside s d at) p (word x) = same_stage f l d at p (word x) (after_value s)

-- All tokens

same_end : {P Q : Type 0} (f : P → Q) (end : P) (ws : List (Want P)) → at_end (f end) (move_wants f ws) ≡ move_fault f (at_end end ws)
same_end f end [] = refl
same_end f end (inside s d at ∷ ws) = refl
same_end f end (a_value d ∷ ws) = same_end f end ws

same_later : {P Q : Type 0} (f : P → Q) (end : P) (ws : List (Want P)) (ts : List (P × Token)) (r : Left P)
    → ((us : List (Want P)) → first_fault (f end) (move_wants f us) (move_tokens f ts) ≡ option_map (move_fault f) (first_fault end us ts))
    → or_fault (move_left f r) (first_fault (f end) (wants_of (move_left f r) ++ move_wants f ws) (move_tokens f ts)) ≡ option_map (move_fault f) (or_fault r (first_fault end (wants_of r ++ ws) ts))
same_later f end ws ts (Ok vs) h = ap (λ us. first_fault (f end) us (move_tokens f ts)) (sym (map-append (move_want f) vs ws)) ∙ h (vs ++ ws)
same_later f end ws ts (Err e) h = refl

-- other places give the same fault at its other place
pub same_fault : {P Q : Type 0} (f : P → Q) (end : P) (ts : List (P × Token)) (ws : List (Want P)) → first_fault (f end) (move_wants f ws) (move_tokens f ts) ≡ option_map (move_fault f) (first_fault end ws ts)
unfolding first_fault
same_fault f end [] [] = refl
same_fault f end [] (w ∷ ws) = ap Some (same_end f end (w ∷ ws))
same_fault f end (t ∷ ts) [] = refl
same_fault f end (t ∷ ts) (w ∷ ws) =
    ap (λ r. or_fault r (first_fault (f end) (wants_of r ++ move_wants f ws) (move_tokens f ts))) (same_step f 128 w t.0 t.1)
    ∙ same_later f end ws ts (step 128 w t.0 t.1) (same_fault f end ts)
