-- Tokens without a fault are those of a tree within the depth.
use Rattle.std.proofs.Common.{◌≡◌, ◌≤◌, ◌⊎◌, ℕ, suc, ◌-◌, Bool, true, false, cond, List, [], ◌∷◌, ◌++◌, Option, None, Ok, Err, refl, sym, ap, ◌∙◌, arith, append_assoc, append-nil, nat_le}
use Rattle.std.proofs.lemmas.Option.{none-some}
use mathlib.Core.Logic.{inl, inr}
use Rattle.gv_model.specs.Syntax.{Syntax, Syntaxes, Pairs, levels, greatest_levels, pairs_levels}
use Rattle.gv_model.specs.Syntax.Syntax.{truth, integer, quoted, bytes, list, tuple_of, dictionary, lone, boxed, just, nothing, at_type, keyword}
use Rattle.gv_model.specs.Syntax.Syntaxes.{none, first}
use Rattle.gv_model.specs.Syntax.Pairs.{no_pair, pair}
use Rattle.gv_model.specs.Tokens.{Token}
use Rattle.gv_model.specs.Tokens.Mark.{open_tuple, close_tuple, open_list, close_list, open_brace, close_brace, open_box, close_box, comma, colon}
use Rattle.gv_model.specs.Tokens.Word.{truth as truth_word, just as just_word, nothing as nothing_word, type_word}
use Rattle.gv_model.specs.Tokens.Token.{mark, string_token, byte_string, integer_token, type_token, word}
use Rattle.gv_model.specs.Grammar.{tokens_of, commas, members_tokens, pairs_tokens}
use Rattle.gv_model.specs.GrammarFaults.{Stage, Want, Left, NumberedFault, begun_wants, begun, step, wants_of, or_fault, grammar_fault}
use Rattle.gv_model.specs.GrammarFaults.Stage.{list_start, list_more, tuple_start, tuple_one, tuple_two, tuple_more, brace_start, brace_first, pair_more, pair_colon, lone_end, box_end}
use Rattle.gv_model.specs.GrammarFaults.Want.{a_value, inside}
use Rattle.gv_model.proofs.LevelLimits.{fault_to, fault_128}

-- elements, each after a `,`
abbrev commas_after : Syntaxes → List Token
commas_after none = []
commas_after (first x xs) = mark comma ∷ (tokens_of x ++ commas_after xs)

abbrev pairs_after : Pairs → List Token
pairs_after no_pair = []
pairs_after (pair k v ps) = mark comma ∷ pairs_tokens (pair k v ps)

commas_first : (x : Syntax) (xs : Syntaxes) → commas (first x xs) ≡ tokens_of x ++ commas_after xs
unfolding tokens_of
commas_first x none = sym (append-nil (tokens_of x))
commas_first x (first y xs) = ap (λ r. tokens_of x ++ mark comma ∷ r) (commas_first y xs)

pairs_first : (k v : Syntax) (ps : Pairs) → pairs_tokens (pair k v ps) ≡ tokens_of k ++ mark colon ∷ (tokens_of v ++ pairs_after ps)
unfolding tokens_of
pairs_first k v no_pair = ap (λ r. tokens_of k ++ mark colon ∷ r) (sym (append-nil (tokens_of v)))
pairs_first k v (pair j w ps) = refl

members_first : (x : Syntax) (xs : Syntaxes) → members_tokens (first x xs) ≡ tokens_of x ++ mark comma ∷ commas xs
unfolding tokens_of
members_first x none = refl
members_first x (first y xs) = refl

-- What tokens stand for a want, up to the rest
abbrev Fills : ℕ → Stage → ℕ → List Token → List Token → Type 0
Fills l list_start d ts us = (xs : Syntaxes) × (ts ≡ commas xs ++ mark close_list ∷ us) × (greatest_levels xs ≤ suc l - d)
Fills l list_more d ts us = (xs : Syntaxes) × (ts ≡ commas_after xs ++ mark close_list ∷ us) × (greatest_levels xs ≤ suc l - d)
Fills l tuple_start d ts us = (xs : Syntaxes) × (ts ≡ members_tokens xs ++ mark close_tuple ∷ us) × (greatest_levels xs ≤ suc l - d)
Fills l tuple_one d ts us = (xs : Syntaxes) × (ts ≡ mark comma ∷ (commas xs ++ mark close_tuple ∷ us)) × (greatest_levels xs ≤ suc l - d)
Fills l tuple_two d ts us = (xs : Syntaxes) × (ts ≡ commas xs ++ mark close_tuple ∷ us) × (greatest_levels xs ≤ suc l - d)
Fills l tuple_more d ts us = (xs : Syntaxes) × (ts ≡ commas_after xs ++ mark close_tuple ∷ us) × (greatest_levels xs ≤ suc l - d)
Fills l brace_start d ts us = ((ps : Pairs) × (ts ≡ pairs_tokens ps ++ mark close_brace ∷ us) × (pairs_levels ps ≤ suc l - d)) ⊎ ((k : Syntax) × (v : Syntax) × (ts ≡ tokens_of k ++ mark comma ∷ (tokens_of v ++ mark close_brace ∷ us)) × (levels k ≤ suc l - d) × (levels v ≤ suc l - d))
Fills l brace_first d ts us = ((v : Syntax) × (ps : Pairs) × (ts ≡ mark colon ∷ (tokens_of v ++ (pairs_after ps ++ mark close_brace ∷ us))) × (levels v ≤ suc l - d) × (pairs_levels ps ≤ suc l - d)) ⊎ ((v : Syntax) × (ts ≡ mark comma ∷ (tokens_of v ++ mark close_brace ∷ us)) × (levels v ≤ suc l - d))
Fills l pair_more d ts us = (ps : Pairs) × (ts ≡ pairs_after ps ++ mark close_brace ∷ us) × (pairs_levels ps ≤ suc l - d)
Fills l pair_colon d ts us = (v : Syntax) × (ps : Pairs) × (ts ≡ mark colon ∷ (tokens_of v ++ (pairs_after ps ++ mark close_brace ∷ us))) × (levels v ≤ suc l - d) × (pairs_levels ps ≤ suc l - d)
Fills l lone_end d ts us = ts ≡ mark close_brace ∷ us
Fills l box_end d ts us = ts ≡ mark close_box ∷ us

abbrev Means : ℕ → Want ℕ → List Token → List Token → Type 0
Means l (a_value d) ts us = (x : Syntax) × (ts ≡ tokens_of x ++ us) × (levels x ≤ suc l - d)
Means l (inside s d at) ts us = Fills l s d ts us

abbrev Complete : ℕ → List (Want ℕ) → List Token → Type 0
Complete l [] ts = ts ≡ []
Complete l (w ∷ ws) ts = (us : List Token) × Means l w ts us × Complete l ws us

abbrev Good : ℕ → Left ℕ → List (Want ℕ) → List Token → Type 0
Good l (Ok wants) ws ts = Complete l (wants ++ ws) ts
Good l (Err e) ws ts = ⊥

good : (l : ℕ) (r : Left ℕ) (later : Option NumberedFault) (ws : List (Want ℕ)) (ts : List Token) → or_fault r later ≡ None → (later ≡ None → Complete l (wants_of r ++ ws) ts) → Good l r ws ts
good l (Ok wants) later ws ts e h = h e
good l (Err f) later ws ts e h = none-some f (sym e)

chosen_good : (l : ℕ) (d : ℕ) (wants : List (Want ℕ)) (e : NumberedFault) (ws : List (Want ℕ)) (ts : List Token) → Good l (cond (nat_le d l) (Ok wants) (Err e)) ws ts → (d ≤ l) × Complete l (wants ++ ws) ts
chosen_good l d wants e ws ts = go (nat_le d l) refl
  where
    le_of : nat_le d l ≡ true → d ≤ l
    le_of q = grind arith

    go : (b : Bool) → nat_le d l ≡ b → Good l (cond b (Ok wants) (Err e)) ws ts → (d ≤ l) × Complete l (wants ++ ws) ts
    go true q h = (le_of q, h)
    go false q h = absurd h

-- a token that begins a value, and the rest of the value
back_begun : (l : ℕ) (t : Token) (d n : ℕ) (rest ws : List (Want ℕ)) (ts : List Token) → Good l (begun l d n rest (begun_wants d n t)) ws ts → Complete l (a_value d ∷ (rest ++ ws)) (t ∷ ts)
unfolding tokens_of levels
back_begun l (string_token s) d n rest ws ts h = let g = chosen_good l d _ _ ws ts h in (ts, (quoted s, refl, omega (arith, g.0)), g.1)
back_begun l (byte_string s) d n rest ws ts h = let g = chosen_good l d _ _ ws ts h in (ts, (bytes s, refl, omega (arith, g.0)), g.1)
back_begun l (integer_token b i) d n rest ws ts h = let g = chosen_good l d _ _ ws ts h in (ts, (integer b i, refl, omega (arith, g.0)), g.1)
back_begun l (word (truth_word b)) d n rest ws ts h = let g = chosen_good l d _ _ ws ts h in (ts, (truth b, refl, omega (arith, g.0)), g.1)
back_begun l (word nothing_word) d n rest ws ts h = let g = chosen_good l d _ _ ws ts h in (ts, (nothing, refl, omega (arith, g.0)), g.1)
back_begun l (word just_word) d n rest ws ts h = let g = chosen_good l d _ _ ws ts h in let x = g.1.1 in (g.1.0, (just x.0, ap (λ r. word just_word ∷ r) x.1, omega (arith, g.0, x.2)), g.1.2)
back_begun l (word (type_word k)) d n rest ws ts h = let g = chosen_good l d _ _ ws ts h in let x = g.1.1 in (g.1.0, (keyword k x.0, ap (λ r. word (type_word k) ∷ r) x.1, omega (arith, g.0, x.2)), g.1.2)
back_begun l (type_token t) d n rest ws ts h = let g = chosen_good l d _ _ ws ts h in let x = g.1.1 in (g.1.0, (at_type t x.0, ap (λ r. type_token t ∷ r) x.1, omega (arith, g.0, x.2)), g.1.2)
back_begun l (mark open_list) d n rest ws ts h =
    let g = chosen_good l d _ _ ws ts h in let x = g.1.1 in
    (g.1.0, (list x.0, ap (λ r. mark open_list ∷ r) (x.1 ∙ sym (append_assoc (commas x.0) (mark close_list ∷ []) g.1.0)), omega (arith, g.0, x.2)), g.1.2)
back_begun l (mark open_tuple) d n rest ws ts h =
    let g = chosen_good l d _ _ ws ts h in let x = g.1.1 in
    (g.1.0, (tuple_of x.0, ap (λ r. mark open_tuple ∷ r) (x.1 ∙ sym (append_assoc (members_tokens x.0) (mark close_tuple ∷ []) g.1.0)), omega (arith, g.0, x.2)), g.1.2)
back_begun l (mark open_brace) d n rest ws ts h = let g = chosen_good l d _ _ ws ts h in (g.1.0, braces g.0 g.1.0 g.1.1, g.1.2)
  where
    braces : d ≤ l → (us : List Token) → Fills l brace_start (suc d) ts us → Means l (a_value d) (mark open_brace ∷ ts) us
    braces b us (inl p) = (dictionary p.0, ap (λ r. mark open_brace ∷ r) (p.1 ∙ sym (append_assoc (pairs_tokens p.0) (mark close_brace ∷ []) us)), omega (arith, b, p.2))
    braces b us (inr p) = (
      lone p.0 p.1,
      ap (λ r. mark open_brace ∷ r)
          (p.2 ∙ (ap (λ r. tokens_of p.0 ++ mark comma ∷ r) (sym (append_assoc (tokens_of p.1) (mark close_brace ∷ []) us))
          ∙ sym (append_assoc (tokens_of p.0) (mark comma ∷ (tokens_of p.1 ++ mark close_brace ∷ [])) us))),
      omega (arith, b, p.3, p.4),
    )
back_begun l (mark open_box) d n rest ws ts h =
    let g = chosen_good l d _ _ ws ts h in let x = g.1.1 in
    let close = g.1.2 in
    (close.0, (boxed x.0, ap (λ r. mark open_box ∷ r) (x.1 ∙ (ap (λ r. tokens_of x.0 ++ r) close.1 ∙ sym (append_assoc (tokens_of x.0) (mark close_box ∷ []) close.0))), omega (arith, g.0, x.2)), close.2)
back_begun l (mark _) d n rest ws ts h = absurd h

-- After a value that begins a bracket

after_list : (l : ℕ) (d at : ℕ) (ws : List (Want ℕ)) (ts : List Token) → Complete l (a_value d ∷ inside list_more d at ∷ ws) ts → Complete l (inside list_start d at ∷ ws) ts
unfolding levels
after_list l d at ws ts h =
    let x = h.1 in let m = h.2.1 in
    (h.2.0, (first x.0 m.0, x.1 ∙ (ap (λ r. tokens_of x.0 ++ r) m.1 ∙ (sym (append_assoc (tokens_of x.0) (commas_after m.0) (mark close_list ∷ h.2.0)) ∙ ap (λ r. r ++ mark close_list ∷ h.2.0) (sym (commas_first x.0 m.0)))), omega (arith, x.2, m.2)), h.2.2)

after_second : (l : ℕ) (d at : ℕ) (ws : List (Want ℕ)) (ts : List Token) → Complete l (a_value d ∷ inside tuple_more d at ∷ ws) ts → Complete l (inside tuple_two d at ∷ ws) ts
unfolding levels
after_second l d at ws ts h =
    let x = h.1 in let m = h.2.1 in
    (h.2.0, (first x.0 m.0, x.1 ∙ (ap (λ r. tokens_of x.0 ++ r) m.1 ∙ (sym (append_assoc (tokens_of x.0) (commas_after m.0) (mark close_tuple ∷ h.2.0)) ∙ ap (λ r. r ++ mark close_tuple ∷ h.2.0) (sym (commas_first x.0 m.0)))), omega (arith, x.2, m.2)), h.2.2)

after_tuple : (l : ℕ) (d at : ℕ) (ws : List (Want ℕ)) (ts : List Token) → Complete l (a_value d ∷ inside tuple_one d at ∷ ws) ts → Complete l (inside tuple_start d at ∷ ws) ts
unfolding levels
after_tuple l d at ws ts h =
    let x = h.1 in let m = h.2.1 in
    (h.2.0, (first x.0 m.0, x.1 ∙ (ap (λ r. tokens_of x.0 ++ r) m.1 ∙ (sym (append_assoc (tokens_of x.0) (mark comma ∷ commas m.0) (mark close_tuple ∷ h.2.0)) ∙ ap (λ r. r ++ mark close_tuple ∷ h.2.0) (sym (members_first x.0 m.0)))), omega (arith, x.2, m.2)), h.2.2)

after_brace : (l : ℕ) (d at : ℕ) (ws : List (Want ℕ)) (ts : List Token) → Complete l (a_value d ∷ inside brace_first d at ∷ ws) ts → Complete l (inside brace_start d at ∷ ws) ts
unfolding levels
after_brace l d at ws ts h = (h.2.0, go h.2.1, h.2.2)
  where
    go : Fills l brace_first d h.0 h.2.0 → Fills l brace_start d ts h.2.0
    go (inl p) = let x = h.1 in inl (
      pair x.0 p.0 p.1,
      x.1 ∙ (ap (λ r. tokens_of x.0 ++ r) p.2
          ∙ (ap (λ r. tokens_of x.0 ++ mark colon ∷ r) (sym (append_assoc (tokens_of p.0) (pairs_after p.1) (mark close_brace ∷ h.2.0)))
          ∙ (sym (append_assoc (tokens_of x.0) (mark colon ∷ (tokens_of p.0 ++ pairs_after p.1)) (mark close_brace ∷ h.2.0))
          ∙ ap (λ r. r ++ mark close_brace ∷ h.2.0) (sym (pairs_first x.0 p.0 p.1))))),
      omega (arith, x.2, p.3, p.4),
    )
    go (inr p) = let x = h.1 in inr (x.0, p.0, x.1 ∙ ap (λ r. tokens_of x.0 ++ r) p.1, x.2, p.2)

-- the pair before the others
pair_first : (l : ℕ) (d at : ℕ) (ws : List (Want ℕ)) (ts : List Token) → Complete l (a_value d ∷ inside pair_colon d at ∷ ws) ts → Complete l (inside pair_more d at ∷ ws) (mark comma ∷ ts)
unfolding levels
pair_first l d at ws ts h =
    let x = h.1 in let p = h.2.1 in (
      h.2.0,
      (
        pair x.0 p.0 p.1,
        ap (λ r. mark comma ∷ r) (x.1 ∙ (ap (λ r. tokens_of x.0 ++ r) p.2
            ∙ (ap (λ r. tokens_of x.0 ++ mark colon ∷ r) (sym (append_assoc (tokens_of p.0) (pairs_after p.1) (mark close_brace ∷ h.2.0)))
            ∙ (sym (append_assoc (tokens_of x.0) (mark colon ∷ (tokens_of p.0 ++ pairs_after p.1)) (mark close_brace ∷ h.2.0))
            ∙ ap (λ r. r ++ mark close_brace ∷ h.2.0) (sym (pairs_first x.0 p.0 p.1)))))),
        omega (arith, x.2, p.3, p.4),
      ),
      h.2.2,
    )

next_first : (x : Syntax) (xs : Syntaxes) (close : Token) (ts us vs : List Token) → ts ≡ tokens_of x ++ us → us ≡ commas_after xs ++ close ∷ vs → mark comma ∷ ts ≡ commas_after (first x xs) ++ close ∷ vs
next_first x xs close ts us vs e f = ap (λ r. mark comma ∷ r) (e ∙ (ap (λ r. tokens_of x ++ r) f ∙ sym (append_assoc (tokens_of x) (commas_after xs) (close ∷ vs))))

-- Each step back
back_stage : (l : ℕ) (s : Stage) (t : Token) (d at n : ℕ) (ws : List (Want ℕ)) (ts : List Token) → Good l (step l (inside s d at) n t) ws ts → Complete l (inside s d at ∷ ws) (t ∷ ts)
unfolding tokens_of levels
back_stage l list_start (mark close_list) d at n ws ts h = (ts, (none, refl, omega arith), h)
back_stage l list_start t d at n ws ts h = after_list l d at ws (t ∷ ts) (back_begun l t d n (inside list_more d at ∷ []) ws ts h)
back_stage l list_more (mark close_list) d at n ws ts h = (ts, (none, refl, omega arith), h)
back_stage l list_more (mark comma) d at n ws ts h = let x = h.1 in let m = h.2.1 in (h.2.0, (first x.0 m.0, next_first x.0 m.0 (mark close_list) ts h.0 h.2.0 x.1 m.1, omega (arith, x.2, m.2)), h.2.2)
back_stage l tuple_start (mark close_tuple) d at n ws ts h = (ts, (none, refl, omega arith), h)
back_stage l tuple_start t d at n ws ts h = after_tuple l d at ws (t ∷ ts) (back_begun l t d n (inside tuple_one d at ∷ []) ws ts h)
back_stage l tuple_one (mark comma) d at n ws ts h = let m = h.1 in (h.0, (m.0, ap (λ r. mark comma ∷ r) m.1, m.2), h.2)
back_stage l tuple_two (mark close_tuple) d at n ws ts h = (ts, (none, refl, omega arith), h)
back_stage l tuple_two t d at n ws ts h = after_second l d at ws (t ∷ ts) (back_begun l t d n (inside tuple_more d at ∷ []) ws ts h)
back_stage l tuple_more (mark close_tuple) d at n ws ts h = (ts, (none, refl, omega arith), h)
back_stage l tuple_more (mark comma) d at n ws ts h = let x = h.1 in let m = h.2.1 in (h.2.0, (first x.0 m.0, next_first x.0 m.0 (mark close_tuple) ts h.0 h.2.0 x.1 m.1, omega (arith, x.2, m.2)), h.2.2)
back_stage l brace_start (mark close_brace) d at n ws ts h = (ts, inl (no_pair, refl, omega arith), h)
back_stage l brace_start t d at n ws ts h = after_brace l d at ws (t ∷ ts) (back_begun l t d n (inside brace_first d at ∷ []) ws ts h)
back_stage l brace_first (mark colon) d at n ws ts h = let x = h.1 in let m = h.2.1 in (h.2.0, inl (x.0, m.0, ap (λ r. mark colon ∷ r) (x.1 ∙ ap (λ r. tokens_of x.0 ++ r) m.1), x.2, m.2), h.2.2)
back_stage l brace_first (mark comma) d at n ws ts h = let x = h.1 in (h.2.0, inr (x.0, ap (λ r. mark comma ∷ r) (x.1 ∙ ap (λ r. tokens_of x.0 ++ r) h.2.1), x.2), h.2.2)
back_stage l pair_more (mark close_brace) d at n ws ts h = (ts, (no_pair, refl, omega arith), h)
back_stage l pair_more (mark comma) d at n ws ts h = pair_first l d at ws ts h
back_stage l pair_colon (mark colon) d at n ws ts h = let x = h.1 in let m = h.2.1 in (h.2.0, (x.0, m.0, ap (λ r. mark colon ∷ r) (x.1 ∙ ap (λ r. tokens_of x.0 ++ r) m.1), x.2, m.2), h.2.2)
back_stage l lone_end (mark close_brace) d at n ws ts h = (ts, refl, h)
back_stage l box_end (mark close_box) d at n ws ts h = (ts, refl, h)
back_stage l _ _ d at n ws ts h = absurd h

back : (l : ℕ) (w : Want ℕ) (t : Token) (n : ℕ) (ws : List (Want ℕ)) (ts : List Token) → Good l (step l w n t) ws ts → Complete l (w ∷ ws) (t ∷ ts)
back l (a_value d) t n ws ts h = back_begun l t d n [] ws ts h
back l (inside s d at) t n ws ts h = back_stage l s t d at n ws ts h

complete : (l : ℕ) (ts : List Token) (n : ℕ) (ws : List (Want ℕ)) → fault_to l n ws ts ≡ None → Complete l ws ts
unfolding fault_to
complete l [] n [] e = refl
complete l [] n (w ∷ ws) e = absurd (none-some _ (sym e))
complete l (t ∷ ts) n [] e = absurd (none-some _ (sym e))
complete l (t ∷ ts) n (w ∷ ws) e =
    back l w t n ws ts (good l (step l w n t) (fault_to l (suc n) (wants_of (step l w n t) ++ ws) ts) ws ts e (complete l ts (suc n) (wants_of (step l w n t) ++ ws)))

-- tokens without a fault under a limit are those of a tree within it
pub whole_to : (l : ℕ) (ts : List Token) → fault_to l 0 (a_value 1 ∷ []) ts ≡ None → (x : Syntax) × (tokens_of x ≡ ts) × (levels x ≤ l)
whole_to l ts e =
    let c = complete l ts 0 (a_value 1 ∷ []) e in
    let x = c.1 in
    (x.0, sym (x.1 ∙ (ap (λ r. tokens_of x.0 ++ r) c.2 ∙ append-nil (tokens_of x.0))), omega (arith, x.2))

-- the limit of the grammar
pub whole : (ts : List Token) → grammar_fault ts ≡ None → (x : Syntax) × (tokens_of x ≡ ts) × (levels x ≤ 128)
whole ts e = whole_to 128 ts (fault_128 ts ∙ e)
