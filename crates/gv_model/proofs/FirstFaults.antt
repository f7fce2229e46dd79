-- The first fault of tokens is where the longest prefix ends that begins some tree's tokens.
use Rattle.std.proofs.Common.{◌≡◌, ◌≤◌, ℕ, suc, ◌+◌, Bool, true, false, cond, List, [], ◌∷◌, ◌++◌, Option, Some, None, Ok, Err, refl, sym, ap, ◌∙◌, subst, arith, nat_le, append_assoc, append-nil}
use Rattle.std.proofs.lemmas.Option.{none-some, same_Some}
use Rattle.std.proofs.lemmas.Bool.{le-leb}
use Rattle.gv_model.specs.TextFault.Cause.{bad_token, unclosed, bad_escape, double_text, unexpected, too_deep}
use Rattle.gv_model.specs.Syntax.{Syntax, levels}
use Rattle.gv_model.specs.Tokens.{Token}
use Rattle.gv_model.specs.Tokens.Mark.{open_tuple, open_list, open_brace, open_box, close_tuple, close_list, close_brace, close_box, comma, colon}
use Rattle.gv_model.specs.Tokens.Word.{truth, just, nothing, type_word}
use Rattle.gv_model.specs.Tokens.Token.{mark, string_token, byte_string, integer_token, type_token, word}
use Rattle.gv_model.specs.Grammar.{tokens_of}
use Rattle.gv_model.specs.GrammarFaults.{Stage, Want, Next, Left, NumberedFault, after_value, after_mark, begun_wants, begun, stage_or_value, after_next, step, at_end, wants_of, or_fault}
use Rattle.gv_model.specs.GrammarFaults.Stage.{list_start, list_more, tuple_start, tuple_one, tuple_two, tuple_more, brace_start, brace_first, pair_more, pair_colon, lone_end, box_end}
use Rattle.gv_model.specs.GrammarFaults.Want.{a_value, inside}
use Rattle.gv_model.specs.GrammarFaults.Next.{closed, goes_on, value_then, wrong}
use Rattle.gv_model.proofs.LevelLimits.{fault_to}
use Rattle.gv_model.proofs.GrammarLaws.{no_fault_to}
use Rattle.gv_model.proofs.FaultlessTokens.{whole_to}

-- What a prefix of tokens leaves: a fault that stays, whatever follows, or the wants after it
pub data AfterTokens : Type 0 where
  stays : NumberedFault → AfterTokens
  left : ℕ → List (Want ℕ) → AfterTokens

abbrev pub after_step : Left ℕ → AfterTokens → AfterTokens
after_step (Ok wants) later = later
after_step (Err e) later = stays e

unfoldable pub after_tokens : ℕ → ℕ → List (Want ℕ) → List Token → AfterTokens
after_tokens l n ws [] = left n ws
after_tokens l n [] (t ∷ ts) = stays (unexpected, n)
after_tokens l n (w ∷ ws) (t ∷ ts) = after_step (step l w n t) (after_tokens l (suc n) (wants_of (step l w n t) ++ ws) ts)

abbrev Decides : ℕ → AfterTokens → List Token → Option NumberedFault
Decides l (stays e) us = Some e
Decides l (left n ws) us = fault_to l n ws us

one_step : (l : ℕ) (r : Left ℕ) (b : AfterTokens) (later : Option NumberedFault) (us : List Token) → later ≡ Decides l b us → or_fault r later ≡ Decides l (after_step r b) us
one_step l (Ok wants) b later us h = h
one_step l (Err e) b later us h = refl

decided : (l : ℕ) (ts us : List Token) (n : ℕ) (ws : List (Want ℕ)) → fault_to l n ws (ts ++ us) ≡ Decides l (after_tokens l n ws ts) us
unfolding after_tokens fault_to
decided l [] us n ws = refl
decided l (t ∷ ts) us n [] = refl
decided l (t ∷ ts) us n (w ∷ ws) =
    one_step l (step l w n t) (after_tokens l (suc n) (wants_of (step l w n t) ++ ws) ts) (fault_to l (suc n) (wants_of (step l w n t) ++ ws) (ts ++ us)) us
    (decided l ts us (suc n) (wants_of (step l w n t) ++ ws))

-- a token's fault, after these wants
abbrev pub StepIs : ℕ → List (Want ℕ) → ℕ → Token → NumberedFault → Type 0
StepIs l [] n t f = f ≡ (unexpected, n)
StepIs l (w ∷ ws) n t f = step l w n t ≡ Err f

-- After one prefix and another

abbrev pub after_then : ℕ → AfterTokens → List Token → AfterTokens
after_then l (stays e) us = stays e
after_then l (left n ws) us = after_tokens l n ws us

step_then : (l : ℕ) (r : Left ℕ) (b later : AfterTokens) (us : List Token) → later ≡ after_then l b us → after_step r later ≡ after_then l (after_step r b) us
step_then l (Ok wants) b later us h = h
step_then l (Err e) b later us h = refl

pub after_both : (l : ℕ) (ts us : List Token) (n : ℕ) (ws : List (Want ℕ)) → after_tokens l n ws (ts ++ us) ≡ after_then l (after_tokens l n ws ts) us
unfolding after_tokens
after_both l [] us n ws = refl
after_both l (t ∷ ts) us n [] = refl
after_both l (t ∷ ts) us n (w ∷ ws) =
    step_then l (step l w n t) (after_tokens l (suc n) (wants_of (step l w n t) ++ ws) ts) (after_tokens l (suc n) (wants_of (step l w n t) ++ ws) (ts ++ us)) us
    (after_both l ts us (suc n) (wants_of (step l w n t) ++ ws))

pub one_more : (l : ℕ) (ts : List Token) (t : Token) (n m : ℕ) (ws : List (Want ℕ)) (w : Want ℕ) (vs us : List (Want ℕ)) → after_tokens l n ws ts ≡ left m (w ∷ vs) → step l w m t ≡ Ok us → after_tokens l n ws (ts ++ t ∷ []) ≡ left (suc m) (us ++ vs)
unfolding after_tokens
one_more l ts t n m ws w vs us h e = after_both l ts (t ∷ []) n ws ∙ (ap (λ b. after_then l b (t ∷ [])) h ∙ rw e refl)

pub one_wrong : (l : ℕ) (ts : List Token) (t : Token) (n m : ℕ) (ws vs : List (Want ℕ)) (f : NumberedFault) → after_tokens l n ws ts ≡ left m vs → StepIs l vs m t f → after_tokens l n ws (ts ++ t ∷ []) ≡ stays f
unfolding after_tokens
one_wrong l ts t n m ws [] f h e = after_both l ts (t ∷ []) n ws ∙ (ap (λ b. after_then l b (t ∷ [])) h ∙ ap stays (sym e))
one_wrong l ts t n m ws (w ∷ vs) f h e = after_both l ts (t ∷ []) n ws ∙ (ap (λ b. after_then l b (t ∷ [])) h ∙ rw e refl)

-- Under a higher limit all stays, but for what was too deep

abbrev SameStep : Left ℕ → Left ℕ → Type 0
SameStep (Ok wants) r = r ≡ Ok wants
SameStep (Err (unexpected, n)) r = r ≡ Err (unexpected, n)
SameStep (Err e) r = Unit {0}

abbrev pub SameAfter : AfterTokens → AfterTokens → Type 0
SameAfter (left n ws) b = b ≡ left n ws
SameAfter (stays (unexpected, n)) b = b ≡ stays (unexpected, n)
SameAfter (stays e) b = Unit {0}

higher_limit : (l m d : ℕ) → l ≤ m → nat_le d l ≡ true → nat_le d m ≡ true
higher_limit l m d h e = grind arith

chosen_higher : (l m d n : ℕ) (wants : List (Want ℕ)) → l ≤ m → (b : Bool) → nat_le d l ≡ b → SameStep (cond b (Ok wants) (Err (too_deep, n))) (cond (nat_le d m) (Ok wants) (Err (too_deep, n)))
chosen_higher l m d n wants h true e = rw (higher_limit l m d h e) refl
chosen_higher l m d n wants h false e = tt

begun_higher : (l m d n : ℕ) (rest : List (Want ℕ)) (o : Option (List (Want ℕ))) → l ≤ m → SameStep (begun l d n rest o) (begun m d n rest o)
begun_higher l m d n rest None h = refl
begun_higher l m d n rest (Some wants) h = chosen_higher l m d n (wants ++ rest) h (nat_le d l) refl

stage_higher : (l m d at n : ℕ) (t : Token) (o : Option Stage) → l ≤ m → SameStep (stage_or_value l d at n t o) (stage_or_value m d at n t o)
stage_higher l m d at n t None h = refl
stage_higher l m d at n t (Some s) h = begun_higher l m d n (inside s d at ∷ []) (begun_wants d n t) h

next_higher : (l m : ℕ) (s : Stage) (d at n : ℕ) (t : Token) (x : Next) → l ≤ m → SameStep (after_next l s d at n t x) (after_next m s d at n t x)
next_higher l m s d at n t closed h = refl
next_higher l m s d at n t (goes_on r) h = refl
next_higher l m s d at n t (value_then r) h = refl
next_higher l m s d at n t wrong h = stage_higher l m d at n t (after_value s) h

step_higher : (l m : ℕ) (w : Want ℕ) (n : ℕ) (t : Token) → l ≤ m → SameStep (step l w n t) (step m w n t)
step_higher l m (a_value d) n t h = begun_higher l m d n [] (begun_wants d n t) h
step_higher l m (inside s d at) n (mark x) h = next_higher l m s d at n (mark x) (after_mark s x) h
step_higher l m (inside s d at) n (string_token x) h = stage_higher l m d at n (string_token x) (after_value s) h
step_higher l m (inside s d at) n (byte_string x) h = stage_higher l m d at n (byte_string x) (after_value s) h
step_higher l m (inside s d at) n (integer_token b i) h = stage_higher l m d at n (integer_token b i) (after_value s) h
step_higher l m (inside s d at) n (type_token x) h = stage_higher l m d at n (type_token x) (after_value s) h
step_higher l m (inside s d at) n (word x) h = stage_higher l m d at n (word x) (after_value s) h

pub after_higher : (l m : ℕ) (ts : List Token) (n : ℕ) (ws : List (Want ℕ)) → l ≤ m → SameAfter (after_tokens l n ws ts) (after_tokens m n ws ts)
unfolding after_tokens
after_higher l m [] n ws h = refl
after_higher l m (t ∷ ts) n [] h = refl
after_higher l m (t ∷ ts) n (w ∷ ws) h = go (step l w n t) (step m w n t) (step_higher l m w n t h) (λ vs. after_higher l m ts (suc n) (vs ++ ws) h)
  where
    go : (r s : Left ℕ) → SameStep r s → ((vs : List (Want ℕ)) → SameAfter (after_tokens l (suc n) (vs ++ ws) ts) (after_tokens m (suc n) (vs ++ ws) ts))
        → SameAfter (after_step r (after_tokens l (suc n) (wants_of r ++ ws) ts)) (after_step s (after_tokens m (suc n) (wants_of s ++ ws) ts))
    go (Ok vs) s e later = rw e (later vs)
    go (Err (unexpected, k)) s e later = rw e refl
    go (Err (bad_token, k)) s e later = tt
    go (Err (unclosed, k)) s e later = tt
    go (Err (bad_escape, k)) s e later = tt
    go (Err (double_text, k)) s e later = tt
    go (Err (too_deep, k)) s e later = tt

-- How deep the wants are

abbrev pub Shallow : ℕ → List (Want ℕ) → Type 0
Shallow m [] = Unit {0}
Shallow m (a_value d ∷ ws) = (d ≤ m) × Shallow m ws
Shallow m (inside s d at ∷ ws) = (d ≤ m) × Shallow m ws

abbrev ShallowStep : ℕ → List (Want ℕ) → Left ℕ → Type 0
ShallowStep m ws (Ok wants) = Shallow m (wants ++ ws)
ShallowStep m ws (Err e) = Unit {0}

pub le_of : (d l : ℕ) → nat_le d l ≡ true → d ≤ l
le_of d l e = grind arith

-- what follows a value's first token is a level deeper at most
first_shallow : (m d n : ℕ) (t : Token) (ws : List (Want ℕ)) → suc d ≤ m → Shallow m ws → (o : Option (List (Want ℕ))) → begun_wants d n t ≡ o → (wants : List (Want ℕ)) → o ≡ Some wants → Shallow m (wants ++ ws)
first_shallow m d n t ws h g o e wants q = go t (e ∙ q)
  where
    at_once : (x : List (Want ℕ)) → Shallow m (x ++ ws) → Some x ≡ Some wants → Shallow m (wants ++ ws)
    at_once x s e = subst (λ (v : List (Want ℕ)). Shallow m (v ++ ws)) (same_Some x wants e) s

    no_value : None ≡ Some wants → Shallow m (wants ++ ws)
    no_value e = absurd (let z : ⊥ = cc in z)

    go : (t : Token) → begun_wants d n t ≡ Some wants → Shallow m (wants ++ ws)
    go (string_token s) e = at_once [] g e
    go (byte_string s) e = at_once [] g e
    go (integer_token b i) e = at_once [] g e
    go (type_token t) e = at_once (a_value (suc d) ∷ []) (h, g) e
    go (word (truth b)) e = at_once [] g e
    go (word nothing) e = at_once [] g e
    go (word just) e = at_once (a_value (suc d) ∷ []) (h, g) e
    go (word (type_word k)) e = at_once (a_value (suc d) ∷ []) (h, g) e
    go (mark open_list) e = at_once (inside list_start (suc d) n ∷ []) (h, g) e
    go (mark open_tuple) e = at_once (inside tuple_start (suc d) n ∷ []) (h, g) e
    go (mark open_brace) e = at_once (inside brace_start (suc d) n ∷ []) (h, g) e
    go (mark open_box) e = at_once (a_value (suc d) ∷ inside box_end (suc d) n ∷ []) (h, (h, g)) e
    go (mark _) e = no_value e

begun_shallow : (l d n : ℕ) (t : Token) (rest ws : List (Want ℕ)) → Shallow (suc l) (rest ++ ws) → ShallowStep (suc l) ws (begun l d n rest (begun_wants d n t))
begun_shallow l d n t rest ws g = go (begun_wants d n t) refl
  where
    chosen : (wants : List (Want ℕ)) → begun_wants d n t ≡ Some wants → (b : Bool) → nat_le d l ≡ b → ShallowStep (suc l) ws (cond b (Ok (wants ++ rest)) (Err (too_deep, n)))
    chosen wants e true q =
        subst (λ (v : List (Want ℕ)). Shallow (suc l) v) (sym (append_assoc wants rest ws)) (first_shallow (suc l) d n t (rest ++ ws) (omega (arith, le_of d l q)) g (begun_wants d n t) refl wants e)
    chosen wants e false q = tt

    go : (o : Option (List (Want ℕ))) → begun_wants d n t ≡ o → ShallowStep (suc l) ws (begun l d n rest o)
    go None e = tt
    go (Some wants) e = chosen wants e (nat_le d l) refl

stage_shallow : (l d at n : ℕ) (t : Token) (ws : List (Want ℕ)) (o : Option Stage) → d ≤ suc l → Shallow (suc l) ws → ShallowStep (suc l) ws (stage_or_value l d at n t o)
stage_shallow l d at n t ws None h g = tt
stage_shallow l d at n t ws (Some s) h g = begun_shallow l d n t (inside s d at ∷ []) ws (h, g)

next_shallow : (l : ℕ) (s : Stage) (d at n : ℕ) (t : Token) (ws : List (Want ℕ)) (x : Next) → d ≤ suc l → Shallow (suc l) ws → ShallowStep (suc l) ws (after_next l s d at n t x)
next_shallow l s d at n t ws closed h g = g
next_shallow l s d at n t ws (goes_on r) h g = (h, g)
next_shallow l s d at n t ws (value_then r) h g = (h, (h, g))
next_shallow l s d at n t ws wrong h g = stage_shallow l d at n t ws (after_value s) h g

step_shallow : (l : ℕ) (w : Want ℕ) (n : ℕ) (t : Token) (ws : List (Want ℕ)) → Shallow (suc l) (w ∷ ws) → ShallowStep (suc l) ws (step l w n t)
step_shallow l (a_value d) n t ws h = begun_shallow l d n t [] ws h.1
step_shallow l (inside s d at) n (mark x) ws h = next_shallow l s d at n (mark x) ws (after_mark s x) h.0 h.1
step_shallow l (inside s d at) n (string_token x) ws h = stage_shallow l d at n (string_token x) ws (after_value s) h.0 h.1
step_shallow l (inside s d at) n (byte_string x) ws h = stage_shallow l d at n (byte_string x) ws (after_value s) h.0 h.1
step_shallow l (inside s d at) n (integer_token b i) ws h = stage_shallow l d at n (integer_token b i) ws (after_value s) h.0 h.1
step_shallow l (inside s d at) n (type_token x) ws h = stage_shallow l d at n (type_token x) ws (after_value s) h.0 h.1
step_shallow l (inside s d at) n (word x) ws h = stage_shallow l d at n (word x) ws (after_value s) h.0 h.1

abbrev pub ShallowAfter : ℕ → AfterTokens → Type 0
ShallowAfter m (left n ws) = Shallow m ws
ShallowAfter m (stays e) = Unit {0}

pub after_shallow : (l : ℕ) (ts : List Token) (n : ℕ) (ws : List (Want ℕ)) → Shallow (suc l) ws → ShallowAfter (suc l) (after_tokens l n ws ts)
unfolding after_tokens
after_shallow l [] n ws h = h
after_shallow l (t ∷ ts) n [] h = tt
after_shallow l (t ∷ ts) n (w ∷ ws) h = go (step l w n t) (step_shallow l w n t ws h) (λ vs g. after_shallow l ts (suc n) (vs ++ ws) g)
  where
    go : (r : Left ℕ) → ShallowStep (suc l) ws r → ((vs : List (Want ℕ)) → Shallow (suc l) (vs ++ ws) → ShallowAfter (suc l) (after_tokens l (suc n) (vs ++ ws) ts))
        → ShallowAfter (suc l) (after_step r (after_tokens l (suc n) (wants_of r ++ ws) ts))
    go (Ok vs) g later = later vs g
    go (Err e) g later = tt

-- What ends wants

abbrev pub one_value : Token
one_value = word nothing

abbrev ending : Stage → List Token
ending list_start = mark close_list ∷ []
ending list_more = mark close_list ∷ []
ending tuple_start = mark close_tuple ∷ []
ending tuple_one = mark comma ∷ mark close_tuple ∷ []
ending tuple_two = mark close_tuple ∷ []
ending tuple_more = mark close_tuple ∷ []
ending brace_start = mark close_brace ∷ []
ending brace_first = mark colon ∷ one_value ∷ mark close_brace ∷ []
ending pair_more = mark close_brace ∷ []
ending pair_colon = mark colon ∷ one_value ∷ mark close_brace ∷ []
ending lone_end = mark close_brace ∷ []
ending box_end = mark close_box ∷ []

abbrev endings : List (Want ℕ) → List Token
endings [] = []
endings (a_value d ∷ ws) = one_value ∷ endings ws
endings (inside s d at ∷ ws) = ending s ++ endings ws

-- a value that is wanted is within the limit, and so is each that a bracket may still want before it is closed
abbrev pub Settled : ℕ → Want ℕ → Type 0
Settled m (a_value d) = d ≤ m
Settled m (inside list_start d at) = Unit {0}
Settled m (inside tuple_start d at) = Unit {0}
Settled m (inside brace_start d at) = Unit {0}
Settled m (inside box_end d at) = Unit {0}
Settled m (inside s d at) = d ≤ m

abbrev pub AllSettled : ℕ → List (Want ℕ) → Type 0
AllSettled m [] = Unit {0}
AllSettled m (w ∷ ws) = Settled m w × AllSettled m ws

pub inside_settled : (m : ℕ) (s : Stage) (d at : ℕ) → d ≤ m → Settled m (inside s d at)
inside_settled m list_start d at h = tt
inside_settled m tuple_start d at h = tt
inside_settled m brace_start d at h = tt
inside_settled m box_end d at h = tt
inside_settled m _ d at h = h

shallow_settled : (m : ℕ) (ws : List (Want ℕ)) → Shallow m ws → AllSettled m ws
shallow_settled m [] h = tt
shallow_settled m (a_value d ∷ ws) h = (h.0, shallow_settled m ws h.1)
shallow_settled m (inside s d at ∷ ws) h = (inside_settled m s d at h.0, shallow_settled m ws h.1)

ended : (m : ℕ) (ws : List (Want ℕ)) (n : ℕ) → AllSettled m ws → fault_to m n ws (endings ws) ≡ None
unfolding fault_to
ended m [] n h = refl
ended m (a_value d ∷ ws) n h = rw (le-leb d m h.0) (ended m ws (suc n) h.1)
ended m (inside list_start d at ∷ ws) n h = ended m ws (suc n) h.1
ended m (inside list_more d at ∷ ws) n h = ended m ws (suc n) h.1
ended m (inside tuple_start d at ∷ ws) n h = ended m ws (suc n) h.1
ended m (inside tuple_one d at ∷ ws) n h = ended m ws (suc (suc n)) h.1
ended m (inside tuple_two d at ∷ ws) n h = ended m ws (suc n) h.1
ended m (inside tuple_more d at ∷ ws) n h = ended m ws (suc n) h.1
ended m (inside brace_start d at ∷ ws) n h = ended m ws (suc n) h.1
ended m (inside brace_first d at ∷ ws) n h = rw (le-leb d m h.0) (ended m ws (suc (suc (suc n))) h.1)
ended m (inside pair_more d at ∷ ws) n h = ended m ws (suc n) h.1
ended m (inside pair_colon d at ∷ ws) n h = rw (le-leb d m h.0) (ended m ws (suc (suc (suc n))) h.1)
ended m (inside lone_end d at ∷ ws) n h = ended m ws (suc n) h.1
ended m (inside box_end d at ∷ ws) n h = ended m ws (suc n) h.1

-- a prefix that leaves settled wants begins the tokens of a tree within the limit
pub settled_begins : (l : ℕ) (ts : List Token) (n : ℕ) (ws : List (Want ℕ)) → after_tokens l 0 (a_value 1 ∷ []) ts ≡ left n ws → AllSettled l ws
    → (x : Syntax) × (us : List Token) × (tokens_of x ≡ ts ++ us) × (levels x ≤ l)
settled_begins l ts n ws e h =
    let fine = decided l ts (endings ws) 0 (a_value 1 ∷ []) ∙ (ap (λ b. Decides l b (endings ws)) e ∙ ended l ws n h) in
    let x = whole_to l (ts ++ endings ws) fine in
    (x.0, endings ws, x.1, x.2)

-- a prefix that leaves wants begins the tokens of a tree, at most a level deeper than the limit
pub prefix_begins : (l : ℕ) (ts : List Token) (n : ℕ) (ws : List (Want ℕ)) → 1 ≤ l → after_tokens l 0 (a_value 1 ∷ []) ts ≡ left n ws → (x : Syntax) × (us : List Token) × (tokens_of x ≡ ts ++ us) × (levels x ≤ suc l)
prefix_begins l ts n ws pos e =
    let shallow : Shallow (suc l) ws = subst (λ b. ShallowAfter (suc l) b) e (after_shallow l ts 0 (a_value 1 ∷ []) (omega (arith, pos), tt)) in
    let same : after_tokens (suc l) 0 (a_value 1 ∷ []) ts ≡ left n ws = subst (λ b. SameAfter b (after_tokens (suc l) 0 (a_value 1 ∷ []) ts)) e (after_higher l (suc l) ts 0 (a_value 1 ∷ []) (omega arith)) in
    settled_begins (suc l) ts n ws same (shallow_settled (suc l) ws shallow)

-- a prefix with a fault begins no tree's tokens within the limit
pub no_tree_begins : (l : ℕ) (ts : List Token) (e : NumberedFault) → after_tokens l 0 (a_value 1 ∷ []) ts ≡ stays e → (x : Syntax) (us : List Token) → levels x ≤ l → tokens_of x ≡ ts ++ us → ⊥
no_tree_begins l ts e h x us le same =
    none-some e (sym (no_fault_to l x le) ∙ (ap (fault_to l 0 (a_value 1 ∷ [])) same ∙ (decided l ts us 0 (a_value 1 ∷ []) ∙ ap (λ b. Decides l b us) h)))

-- where the fault isn't one of depth, it begins no tree's at all
pub no_tree_at_all : (l : ℕ) (ts : List Token) (k : ℕ) → after_tokens l 0 (a_value 1 ∷ []) ts ≡ stays (unexpected, k) → (x : Syntax) (us : List Token) → tokens_of x ≡ ts ++ us → ⊥
no_tree_at_all l ts k h x us same =
    let higher : after_tokens (l + levels x) 0 (a_value 1 ∷ []) ts ≡ stays (unexpected, k) = subst (λ b. SameAfter b (after_tokens (l + levels x) 0 (a_value 1 ∷ []) ts)) h (after_higher l (l + levels x) ts 0 (a_value 1 ∷ []) (omega arith)) in
    no_tree_begins (l + levels x) ts (unexpected, k) higher x us (omega arith) same

-- tokens that leave wants are no tree's
pub no_tree_whole : (l : ℕ) (ts : List Token) (n : ℕ) (w : Want ℕ) (ws : List (Want ℕ)) → after_tokens l 0 (a_value 1 ∷ []) ts ≡ left n (w ∷ ws) → (x : Syntax) → tokens_of x ≡ ts → ⊥
unfolding fault_to
no_tree_whole l ts n w ws h x same =
    let m = l + levels x in
    let higher : after_tokens m 0 (a_value 1 ∷ []) ts ≡ left n (w ∷ ws) = subst (λ b. SameAfter b (after_tokens m 0 (a_value 1 ∷ []) ts)) h (after_higher l m ts 0 (a_value 1 ∷ []) (omega arith)) in
    none-some (at_end n (w ∷ ws))
    (sym (no_fault_to m x (omega arith)) ∙ (ap (fault_to m 0 (a_value 1 ∷ [])) (same ∙ sym (append-nil ts)) ∙ (decided m ts [] 0 (a_value 1 ∷ []) ∙ ap (λ b. Decides m b []) higher)))
