-- The tokens of a syntax tree are of no other tree, and have no fault within the depth.
use Rattle.std.proofs.Common.{◌≡◌, ◌≤◌, ℕ, suc, ◌+◌, true, List, [], ◌∷◌, ◌++◌, None, refl, sym, ap, ◌∙◌, subst, arith, append_assoc, append-nil, nat_le}
use Rattle.std.proofs.lemmas.List.{append_cancel_left}
use Rattle.std.proofs.lemmas.Bool.{le-leb}
use Rattle.gv_model.specs.Syntax.{Syntax, Syntaxes, Pairs, levels, greatest_levels, pairs_levels}
use Rattle.gv_model.specs.Syntax.Syntax.{truth, integer, quoted, bytes, list, tuple_of, dictionary, lone, boxed, just, nothing, at_type, keyword}
use Rattle.gv_model.specs.Syntax.Syntaxes.{none, first}
use Rattle.gv_model.specs.Syntax.Pairs.{no_pair, pair}
use Rattle.gv_model.specs.Tokens.{Token}
use Rattle.gv_model.specs.Tokens.Mark.{close_tuple, close_list, close_brace, close_box, comma, colon}
use Rattle.gv_model.specs.Tokens.Token.{mark}
use Rattle.gv_model.specs.Grammar.{tokens_of, commas, members_tokens, pairs_tokens}
use Rattle.gv_model.specs.TreeReading.{Read, read, around, list_before, list_items, list_with_first, tuple_before, tuple_items, tuple_with_first, brace_before, pair_items, pair_with_first, box_before}
use Rattle.gv_model.specs.GrammarFaults.{Want, grammar_fault}
use Rattle.gv_model.specs.TreeReading.Read.{value, mark_then}
use Rattle.gv_model.specs.GrammarFaults.Stage.{list_start, list_more, tuple_start, tuple_one, tuple_two, tuple_more, brace_start, brace_first, pair_more, pair_colon, lone_end, box_end}
use Rattle.gv_model.specs.GrammarFaults.Want.{a_value, inside}
use Rattle.gv_model.proofs.LevelLimits.{fault_to, fault_128}

-- Read from the end

abbrev Listed : Syntaxes → List Token → Type 0
Listed none ts = Unit {0}
Listed (first x xs) ts = (r : Read) × (read (commas (first x xs) ++ mark close_list ∷ ts) ≡ value x r) × (list_items (value x r) ≡ value (list (first x xs)) (read ts))

abbrev Tupled : Syntaxes → List Token → Type 0
Tupled none ts = Unit {0}
Tupled (first x xs) ts = (r : Read) × (read (commas (first x xs) ++ mark close_tuple ∷ ts) ≡ value x r) × (tuple_items (value x r) ≡ value (tuple_of (first x xs)) (read ts))

abbrev Paired : Pairs → List Token → Type 0
Paired no_pair ts = Unit {0}
Paired (pair k v ps) ts = (r : Read) × (read (pairs_tokens (pair k v ps) ++ mark close_brace ∷ ts) ≡ value k (mark_then colon r)) × (pair_items (value k (mark_then colon r)) ≡ value (dictionary (pair k v ps)) (read ts))

list_case : (xs : Syntaxes) (ts : List Token) → Listed xs ts → read (tokens_of (list xs) ++ ts) ≡ value (list xs) (read ts)
unfolding tokens_of read
list_case none ts h = refl
list_case (first x xs) ts h = ap (λ y. list_before (read y)) (append_assoc (commas (first x xs)) (mark close_list ∷ []) ts) ∙ (ap list_before h.1 ∙ h.2)

dictionary_case : (ps : Pairs) (ts : List Token) → Paired ps ts → read (tokens_of (dictionary ps) ++ ts) ≡ value (dictionary ps) (read ts)
unfolding tokens_of read
dictionary_case no_pair ts h = refl
dictionary_case (pair k v ps) ts h = ap (λ y. brace_before (read y)) (append_assoc (pairs_tokens (pair k v ps)) (mark close_brace ∷ []) ts) ∙ (ap brace_before h.1 ∙ h.2)

mutual
  unfolding tokens_of read list_items tuple_items pair_items

  pub read_of : (x : Syntax) (ts : List Token) → read (tokens_of x ++ ts) ≡ value x (read ts)
  read_of (truth b) ts = refl
  read_of (integer negative n) ts = refl
  read_of (quoted s) ts = refl
  read_of (bytes s) ts = refl
  read_of nothing ts = refl
  read_of (list xs) ts = list_case xs ts (listed xs ts)
  read_of (tuple_of xs) ts = tuple_read xs ts
  read_of (dictionary ps) ts = dictionary_case ps ts (paired ps ts)
  read_of (lone k v) ts =
      ap (λ y. brace_before (read y)) (append_assoc (tokens_of k) (mark comma ∷ (tokens_of v ++ mark close_brace ∷ [])) ts)
      ∙ (ap brace_before (read_of k (mark comma ∷ ((tokens_of v ++ mark close_brace ∷ []) ++ ts)))
      ∙ (ap (λ y. brace_before (value k (mark_then comma (read y)))) (append_assoc (tokens_of v) (mark close_brace ∷ []) ts)
      ∙ ap (λ r. brace_before (value k (mark_then comma r))) (read_of v (mark close_brace ∷ ts))))
  read_of (boxed x) ts = ap (λ y. box_before (read y)) (append_assoc (tokens_of x) (mark close_box ∷ []) ts) ∙ ap box_before (read_of x (mark close_box ∷ ts))
  read_of (just x) ts = ap (around just) (read_of x ts)
  read_of (at_type t x) ts = ap (around (at_type t)) (read_of x ts)
  read_of (keyword k x) ts = ap (around (keyword k)) (read_of x ts)

  listed : (xs : Syntaxes) (ts : List Token) → Listed xs ts
  listed none ts = tt
  listed (first x none) ts = (mark_then close_list (read ts), read_of x (mark close_list ∷ ts), refl)
  listed (first x (first y xs)) ts =
      let later = listed (first y xs) ts in (
        mark_then comma (read (commas (first y xs) ++ mark close_list ∷ ts)),
        ap read (append_assoc (tokens_of x) (mark comma ∷ commas (first y xs)) (mark close_list ∷ ts)) ∙ read_of x (mark comma ∷ (commas (first y xs) ++ mark close_list ∷ ts)),
        ap (list_with_first x) (ap list_items later.1 ∙ later.2),
      )

  tupled : (xs : Syntaxes) (ts : List Token) → Tupled xs ts
  tupled none ts = tt
  tupled (first x none) ts = (mark_then close_tuple (read ts), read_of x (mark close_tuple ∷ ts), refl)
  tupled (first x (first y xs)) ts =
      let later = tupled (first y xs) ts in (
        mark_then comma (read (commas (first y xs) ++ mark close_tuple ∷ ts)),
        ap read (append_assoc (tokens_of x) (mark comma ∷ commas (first y xs)) (mark close_tuple ∷ ts)) ∙ read_of x (mark comma ∷ (commas (first y xs) ++ mark close_tuple ∷ ts)),
        ap (tuple_with_first x) (ap tuple_items later.1 ∙ later.2),
      )

  tuple_read : (xs : Syntaxes) (ts : List Token) → read (tokens_of (tuple_of xs) ++ ts) ≡ value (tuple_of xs) (read ts)
  tuple_read none ts = refl
  tuple_read (first x none) ts =
      ap (λ y. tuple_before (read y)) (append_assoc (tokens_of x ++ mark comma ∷ []) (mark close_tuple ∷ []) ts ∙ append_assoc (tokens_of x) (mark comma ∷ []) (mark close_tuple ∷ ts))
      ∙ ap tuple_before (read_of x (mark comma ∷ mark close_tuple ∷ ts))
  tuple_read (first x (first y xs)) ts =
      let later = tupled (first y xs) ts in
      ap (λ z. tuple_before (read z)) (append_assoc (members_tokens (first x (first y xs))) (mark close_tuple ∷ []) ts ∙ append_assoc (tokens_of x) (mark comma ∷ commas (first y xs)) (mark close_tuple ∷ ts))
      ∙ (ap tuple_before (read_of x (mark comma ∷ (commas (first y xs) ++ mark close_tuple ∷ ts)))
      ∙ (ap (λ r. tuple_before (value x (mark_then comma r))) later.1 ∙ ap (tuple_with_first x) later.2))

  paired : (ps : Pairs) (ts : List Token) → Paired ps ts
  paired no_pair ts = tt
  paired (pair k v no_pair) ts = (
    value v (mark_then close_brace (read ts)),
    ap read (append_assoc (tokens_of k) (mark colon ∷ tokens_of v) (mark close_brace ∷ ts))
        ∙ (read_of k (mark colon ∷ (tokens_of v ++ mark close_brace ∷ ts)) ∙ ap (λ r. value k (mark_then colon r)) (read_of v (mark close_brace ∷ ts))),
    refl,
  )
  paired (pair k v (pair j w ps)) ts =
      let later = paired (pair j w ps) ts in
      let tail = mark comma ∷ pairs_tokens (pair j w ps) in (
        value v (mark_then comma (read (pairs_tokens (pair j w ps) ++ mark close_brace ∷ ts))),
        ap read (append_assoc (tokens_of k) (mark colon ∷ (tokens_of v ++ tail)) (mark close_brace ∷ ts))
            ∙ (read_of k (mark colon ∷ ((tokens_of v ++ tail) ++ mark close_brace ∷ ts))
            ∙ (ap (λ y. value k (mark_then colon (read y))) (append_assoc (tokens_of v) tail (mark close_brace ∷ ts))
            ∙ ap (λ r. value k (mark_then colon r)) (read_of v (tail ++ mark close_brace ∷ ts)))),
        ap (pair_with_first k v) (ap pair_items later.1 ∙ later.2),
      )

value_parts : (x y : Syntax) (r s : Read) → value x r ≡ value y s → x ≡ y
value_parts x y r s e = cc

-- the tokens of a tree begin no other tree's
pub one_tree_for : (x y : Syntax) (ts us : List Token) → tokens_of x ++ ts ≡ tokens_of y ++ us → (x ≡ y) × (ts ≡ us)
one_tree_for x y ts us e =
    let same : x ≡ y = value_parts x y (read ts) (read us) (sym (read_of x ts) ∙ (ap read e ∙ read_of y us)) in
    (same, append_cancel_left (tokens_of x) ts us (subst (λ (z : Syntax). tokens_of x ++ ts ≡ tokens_of z ++ us) (sym same) e))

-- No fault, under any limit on levels

levels_pos : (x : Syntax) → 1 ≤ levels x
unfolding levels
levels_pos (truth b) = omega arith
levels_pos _ = omega arith

shallow : (l : ℕ) (x : Syntax) (d : ℕ) → levels x + d ≤ suc l → nat_le d l ≡ true
shallow l x d h = le-leb d l (omega (arith, levels_pos x))

abbrev Passes : ℕ → ℕ → List (Want ℕ) → List Token → List (Want ℕ) → List Token → Type 0
Passes l n ws ts vs us = (m : ℕ) × (fault_to l n ws ts ≡ fault_to l m vs us)

-- a value where a bracket wants one
enter_list : (l : ℕ) (x : Syntax) (d at n : ℕ) (ws : List (Want ℕ)) (ts : List Token) → nat_le d l ≡ true → fault_to l n (inside list_start d at ∷ ws) (tokens_of x ++ ts) ≡ fault_to l n (a_value d ∷ inside list_more d at ∷ ws) (tokens_of x ++ ts)
unfolding tokens_of fault_to
enter_list l (truth b) d at n ws ts h = rw h refl
enter_list l _ d at n ws ts h = rw h refl

enter_tuple : (l : ℕ) (x : Syntax) (d at n : ℕ) (ws : List (Want ℕ)) (ts : List Token) → nat_le d l ≡ true → fault_to l n (inside tuple_start d at ∷ ws) (tokens_of x ++ ts) ≡ fault_to l n (a_value d ∷ inside tuple_one d at ∷ ws) (tokens_of x ++ ts)
unfolding tokens_of fault_to
enter_tuple l (truth b) d at n ws ts h = rw h refl
enter_tuple l _ d at n ws ts h = rw h refl

enter_second : (l : ℕ) (x : Syntax) (d at n : ℕ) (ws : List (Want ℕ)) (ts : List Token) → nat_le d l ≡ true → fault_to l n (inside tuple_two d at ∷ ws) (tokens_of x ++ ts) ≡ fault_to l n (a_value d ∷ inside tuple_more d at ∷ ws) (tokens_of x ++ ts)
unfolding tokens_of fault_to
enter_second l (truth b) d at n ws ts h = rw h refl
enter_second l _ d at n ws ts h = rw h refl

enter_brace : (l : ℕ) (x : Syntax) (d at n : ℕ) (ws : List (Want ℕ)) (ts : List Token) → nat_le d l ≡ true → fault_to l n (inside brace_start d at ∷ ws) (tokens_of x ++ ts) ≡ fault_to l n (a_value d ∷ inside brace_first d at ∷ ws) (tokens_of x ++ ts)
unfolding tokens_of fault_to
enter_brace l (truth b) d at n ws ts h = rw h refl
enter_brace l _ d at n ws ts h = rw h refl

abbrev IsSome_first : Syntaxes → Type 0
IsSome_first none = ⊥
IsSome_first (first x xs) = Unit {0}

abbrev IsSome_pair : Pairs → Type 0
IsSome_pair no_pair = ⊥
IsSome_pair (pair k v ps) = Unit {0}

mutual
  unfolding tokens_of fault_to levels

  pub passes_to : (l : ℕ) (x : Syntax) (d n : ℕ) (ws : List (Want ℕ)) (ts : List Token) → levels x + d ≤ suc l → Passes l n (a_value d ∷ ws) (tokens_of x ++ ts) ws ts
  passes_to l (truth b) d n ws ts h = (suc n, rw (le-leb d l (omega arith)) refl)
  passes_to l (integer negative i) d n ws ts h = (suc n, rw (le-leb d l (omega arith)) refl)
  passes_to l (quoted s) d n ws ts h = (suc n, rw (le-leb d l (omega arith)) refl)
  passes_to l (bytes s) d n ws ts h = (suc n, rw (le-leb d l (omega arith)) refl)
  passes_to l nothing d n ws ts h = (suc n, rw (le-leb d l (omega arith)) refl)
  passes_to l (just x) d n ws ts h = let rest = passes_to l x (suc d) (suc n) ws ts (omega arith) in (rest.0, rw (le-leb d l (omega arith)) rest.1)
  passes_to l (at_type t x) d n ws ts h = let rest = passes_to l x (suc d) (suc n) ws ts (omega arith) in (rest.0, rw (le-leb d l (omega arith)) rest.1)
  passes_to l (keyword k x) d n ws ts h = let rest = passes_to l x (suc d) (suc n) ws ts (omega arith) in (rest.0, rw (le-leb d l (omega arith)) rest.1)
  passes_to l (list xs) d n ws ts h =
      let rest = list_passes l xs (suc d) n (suc n) ws ts (omega arith) in
      (rest.0, rw (le-leb d l (omega arith)) (ap (fault_to l (suc n) (inside list_start (suc d) n ∷ ws)) (append_assoc (commas xs) (mark close_list ∷ []) ts) ∙ rest.1))
  passes_to l (tuple_of xs) d n ws ts h =
      let rest = tuple_passes l xs (suc d) n (suc n) ws ts (omega arith) in
      (rest.0, rw (le-leb d l (omega arith)) (ap (fault_to l (suc n) (inside tuple_start (suc d) n ∷ ws)) (append_assoc (members_tokens xs) (mark close_tuple ∷ []) ts) ∙ rest.1))
  passes_to l (dictionary ps) d n ws ts h =
      let rest = pairs_pass l ps (suc d) n (suc n) ws ts (omega arith) in
      (rest.0, rw (le-leb d l (omega arith)) (ap (fault_to l (suc n) (inside brace_start (suc d) n ∷ ws)) (append_assoc (pairs_tokens ps) (mark close_brace ∷ []) ts) ∙ rest.1))
  passes_to l (lone k v) d n ws ts h =
      let tail = tokens_of v ++ mark close_brace ∷ [] in
      let key = passes_to l k (suc d) (suc n) (inside brace_first (suc d) n ∷ ws) (mark comma ∷ (tail ++ ts)) (omega arith) in
      let rest = passes_to l v (suc d) (suc key.0) (inside lone_end (suc d) n ∷ ws) (mark close_brace ∷ ts) (omega arith) in (
        suc rest.0,
        rw (le-leb d l (omega arith)) (ap (fault_to l (suc n) (inside brace_start (suc d) n ∷ ws)) (append_assoc (tokens_of k) (mark comma ∷ tail) ts)
            ∙ (enter_brace l k (suc d) n (suc n) ws (mark comma ∷ (tail ++ ts)) (shallow l k (suc d) (omega arith))
            ∙ (key.1 ∙ (ap (fault_to l (suc key.0) (a_value (suc d) ∷ inside lone_end (suc d) n ∷ ws)) (append_assoc (tokens_of v) (mark close_brace ∷ []) ts) ∙ rest.1)))),
      )
  passes_to l (boxed x) d n ws ts h =
      let rest = passes_to l x (suc d) (suc n) (inside box_end (suc d) n ∷ ws) (mark close_box ∷ ts) (omega arith) in
      (suc rest.0, rw (le-leb d l (omega arith)) (ap (fault_to l (suc n) (a_value (suc d) ∷ inside box_end (suc d) n ∷ ws)) (append_assoc (tokens_of x) (mark close_box ∷ []) ts) ∙ rest.1))

  -- elements of a list, the first of them wanted
  list_more_pass : (l : ℕ) (xs : Syntaxes) (d at n : ℕ) (ws : List (Want ℕ)) (ts : List Token) → greatest_levels xs + d ≤ suc l → IsSome_first xs → Passes l n (a_value d ∷ inside list_more d at ∷ ws) (commas xs ++ mark close_list ∷ ts) ws ts
  list_more_pass l none d at n ws ts h i = absurd i
  list_more_pass l (first x none) d at n ws ts h i =
      let one = passes_to l x d n (inside list_more d at ∷ ws) (mark close_list ∷ ts) (omega arith) in (suc one.0, one.1)
  list_more_pass l (first x (first y xs)) d at n ws ts h i =
      let one = passes_to l x d n (inside list_more d at ∷ ws) (mark comma ∷ (commas (first y xs) ++ mark close_list ∷ ts)) (omega arith) in
      let rest = list_more_pass l (first y xs) d at (suc one.0) ws ts (omega arith) tt in
      (rest.0, ap (fault_to l n (a_value d ∷ inside list_more d at ∷ ws)) (append_assoc (tokens_of x) (mark comma ∷ commas (first y xs)) (mark close_list ∷ ts)) ∙ (one.1 ∙ rest.1))

  tuple_more_pass : (l : ℕ) (xs : Syntaxes) (d at n : ℕ) (ws : List (Want ℕ)) (ts : List Token) → greatest_levels xs + d ≤ suc l → IsSome_first xs → Passes l n (a_value d ∷ inside tuple_more d at ∷ ws) (commas xs ++ mark close_tuple ∷ ts) ws ts
  tuple_more_pass l none d at n ws ts h i = absurd i
  tuple_more_pass l (first x none) d at n ws ts h i =
      let one = passes_to l x d n (inside tuple_more d at ∷ ws) (mark close_tuple ∷ ts) (omega arith) in (suc one.0, one.1)
  tuple_more_pass l (first x (first y xs)) d at n ws ts h i =
      let one = passes_to l x d n (inside tuple_more d at ∷ ws) (mark comma ∷ (commas (first y xs) ++ mark close_tuple ∷ ts)) (omega arith) in
      let rest = tuple_more_pass l (first y xs) d at (suc one.0) ws ts (omega arith) tt in
      (rest.0, ap (fault_to l n (a_value d ∷ inside tuple_more d at ∷ ws)) (append_assoc (tokens_of x) (mark comma ∷ commas (first y xs)) (mark close_tuple ∷ ts)) ∙ (one.1 ∙ rest.1))

  list_passes : (l : ℕ) (xs : Syntaxes) (d at n : ℕ) (ws : List (Want ℕ)) (ts : List Token) → greatest_levels xs + d ≤ suc l → Passes l n (inside list_start d at ∷ ws) (commas xs ++ mark close_list ∷ ts) ws ts
  list_passes l none d at n ws ts h = (suc n, refl)
  list_passes l (first x none) d at n ws ts h =
      let one = passes_to l x d n (inside list_more d at ∷ ws) (mark close_list ∷ ts) (omega arith) in
      (suc one.0, enter_list l x d at n ws (mark close_list ∷ ts) (shallow l x d (omega arith)) ∙ one.1)
  list_passes l (first x (first y xs)) d at n ws ts h =
      let one = passes_to l x d n (inside list_more d at ∷ ws) (mark comma ∷ (commas (first y xs) ++ mark close_list ∷ ts)) (omega arith) in
      let rest = list_more_pass l (first y xs) d at (suc one.0) ws ts (omega arith) tt in (
        rest.0,
        ap (fault_to l n (inside list_start d at ∷ ws)) (append_assoc (tokens_of x) (mark comma ∷ commas (first y xs)) (mark close_list ∷ ts))
            ∙ (enter_list l x d at n ws (mark comma ∷ (commas (first y xs) ++ mark close_list ∷ ts)) (shallow l x d (omega arith)) ∙ (one.1 ∙ rest.1)),
      )

  tuple_passes : (l : ℕ) (xs : Syntaxes) (d at n : ℕ) (ws : List (Want ℕ)) (ts : List Token) → greatest_levels xs + d ≤ suc l → Passes l n (inside tuple_start d at ∷ ws) (members_tokens xs ++ mark close_tuple ∷ ts) ws ts
  tuple_passes l none d at n ws ts h = (suc n, refl)
  tuple_passes l (first x none) d at n ws ts h =
      let one = passes_to l x d n (inside tuple_one d at ∷ ws) (mark comma ∷ mark close_tuple ∷ ts) (omega arith) in (
        suc (suc one.0),
        ap (fault_to l n (inside tuple_start d at ∷ ws)) (append_assoc (tokens_of x) (mark comma ∷ []) (mark close_tuple ∷ ts))
            ∙ (enter_tuple l x d at n ws (mark comma ∷ mark close_tuple ∷ ts) (shallow l x d (omega arith)) ∙ one.1),
      )
  tuple_passes l (first x (first y xs)) d at n ws ts h =
      let tail = commas (first y xs) ++ mark close_tuple ∷ ts in
      let one = passes_to l x d n (inside tuple_one d at ∷ ws) (mark comma ∷ tail) (omega arith) in
      let rest = second_pass l (first y xs) d at (suc one.0) ws ts (omega arith) tt in (
        rest.0,
        ap (fault_to l n (inside tuple_start d at ∷ ws)) (append_assoc (tokens_of x) (mark comma ∷ commas (first y xs)) (mark close_tuple ∷ ts))
            ∙ (enter_tuple l x d at n ws (mark comma ∷ tail) (shallow l x d (omega arith)) ∙ (one.1 ∙ rest.1)),
      )

  second_pass : (l : ℕ) (xs : Syntaxes) (d at n : ℕ) (ws : List (Want ℕ)) (ts : List Token) → greatest_levels xs + d ≤ suc l → IsSome_first xs → Passes l n (inside tuple_two d at ∷ ws) (commas xs ++ mark close_tuple ∷ ts) ws ts
  second_pass l none d at n ws ts h i = absurd i
  second_pass l (first x none) d at n ws ts h i =
      let one = passes_to l x d n (inside tuple_more d at ∷ ws) (mark close_tuple ∷ ts) (omega arith) in
      (suc one.0, enter_second l x d at n ws (mark close_tuple ∷ ts) (shallow l x d (omega arith)) ∙ one.1)
  second_pass l (first x (first y xs)) d at n ws ts h i =
      let tail = commas (first y xs) ++ mark close_tuple ∷ ts in
      let one = passes_to l x d n (inside tuple_more d at ∷ ws) (mark comma ∷ tail) (omega arith) in
      let rest = tuple_more_pass l (first y xs) d at (suc one.0) ws ts (omega arith) tt in (
        rest.0,
        ap (fault_to l n (inside tuple_two d at ∷ ws)) (append_assoc (tokens_of x) (mark comma ∷ commas (first y xs)) (mark close_tuple ∷ ts))
            ∙ (enter_second l x d at n ws (mark comma ∷ tail) (shallow l x d (omega arith)) ∙ (one.1 ∙ rest.1)),
      )

  pairs_pass : (l : ℕ) (ps : Pairs) (d at n : ℕ) (ws : List (Want ℕ)) (ts : List Token) → pairs_levels ps + d ≤ suc l → Passes l n (inside brace_start d at ∷ ws) (pairs_tokens ps ++ mark close_brace ∷ ts) ws ts
  pairs_pass l no_pair d at n ws ts h = (suc n, refl)
  pairs_pass l (pair k v no_pair) d at n ws ts h =
      let tail = tokens_of v ++ mark close_brace ∷ ts in
      let key = passes_to l k d n (inside brace_first d at ∷ ws) (mark colon ∷ tail) (omega arith) in
      let one = passes_to l v d (suc key.0) (inside pair_more d at ∷ ws) (mark close_brace ∷ ts) (omega arith) in (
        suc one.0,
        ap (fault_to l n (inside brace_start d at ∷ ws)) (append_assoc (tokens_of k) (mark colon ∷ tokens_of v) (mark close_brace ∷ ts))
            ∙ (enter_brace l k d at n ws (mark colon ∷ tail) (shallow l k d (omega arith)) ∙ (key.1 ∙ one.1)),
      )
  pairs_pass l (pair k v (pair j w ps)) d at n ws ts h =
      let later = pairs_tokens (pair j w ps) in
      let tail = tokens_of v ++ (mark comma ∷ (later ++ mark close_brace ∷ ts)) in
      let key = passes_to l k d n (inside brace_first d at ∷ ws) (mark colon ∷ tail) (omega arith) in
      let one = passes_to l v d (suc key.0) (inside pair_more d at ∷ ws) (mark comma ∷ (later ++ mark close_brace ∷ ts)) (omega arith) in
      let rest = more_pairs_pass l (pair j w ps) d at (suc one.0) ws ts (omega arith) tt in (
        rest.0,
        ap (fault_to l n (inside brace_start d at ∷ ws)) (append_assoc (tokens_of k) (mark colon ∷ (tokens_of v ++ mark comma ∷ later)) (mark close_brace ∷ ts) ∙ ap (λ y. tokens_of k ++ mark colon ∷ y) (append_assoc (tokens_of v) (mark comma ∷ later) (mark close_brace ∷ ts)))
            ∙ (enter_brace l k d at n ws (mark colon ∷ tail) (shallow l k d (omega arith)) ∙ (key.1 ∙ (one.1 ∙ rest.1))),
      )

  more_pairs_pass : (l : ℕ) (ps : Pairs) (d at n : ℕ) (ws : List (Want ℕ)) (ts : List Token) → pairs_levels ps + d ≤ suc l → IsSome_pair ps → Passes l n (a_value d ∷ inside pair_colon d at ∷ ws) (pairs_tokens ps ++ mark close_brace ∷ ts) ws ts
  more_pairs_pass l no_pair d at n ws ts h i = absurd i
  more_pairs_pass l (pair k v no_pair) d at n ws ts h i =
      let tail = tokens_of v ++ mark close_brace ∷ ts in
      let key = passes_to l k d n (inside pair_colon d at ∷ ws) (mark colon ∷ tail) (omega arith) in
      let one = passes_to l v d (suc key.0) (inside pair_more d at ∷ ws) (mark close_brace ∷ ts) (omega arith) in
      (suc one.0, ap (fault_to l n (a_value d ∷ inside pair_colon d at ∷ ws)) (append_assoc (tokens_of k) (mark colon ∷ tokens_of v) (mark close_brace ∷ ts)) ∙ (key.1 ∙ one.1))
  more_pairs_pass l (pair k v (pair j w ps)) d at n ws ts h i =
      let later = pairs_tokens (pair j w ps) in
      let tail = tokens_of v ++ (mark comma ∷ (later ++ mark close_brace ∷ ts)) in
      let key = passes_to l k d n (inside pair_colon d at ∷ ws) (mark colon ∷ tail) (omega arith) in
      let one = passes_to l v d (suc key.0) (inside pair_more d at ∷ ws) (mark comma ∷ (later ++ mark close_brace ∷ ts)) (omega arith) in
      let rest = more_pairs_pass l (pair j w ps) d at (suc one.0) ws ts (omega arith) tt in (
        rest.0,
        ap (fault_to l n (a_value d ∷ inside pair_colon d at ∷ ws)) (append_assoc (tokens_of k) (mark colon ∷ (tokens_of v ++ mark comma ∷ later)) (mark close_brace ∷ ts) ∙ ap (λ y. tokens_of k ++ mark colon ∷ y) (append_assoc (tokens_of v) (mark comma ∷ later) (mark close_brace ∷ ts)))
            ∙ (key.1 ∙ (one.1 ∙ rest.1)),
      )

-- the tokens of a tree within a limit have no fault there
pub no_fault_to : (l : ℕ) (x : Syntax) → levels x ≤ l → fault_to l 0 (a_value 1 ∷ []) (tokens_of x) ≡ None
unfolding fault_to
no_fault_to l x h =
    let rest = passes_to l x 1 0 [] [] (omega (arith, h)) in
    ap (fault_to l 0 (a_value 1 ∷ [])) (sym (append-nil (tokens_of x))) ∙ rest.1

-- the limit of the grammar
pub no_fault : (x : Syntax) → levels x ≤ 128 → grammar_fault (tokens_of x) ≡ None
no_fault x h = sym (fault_128 (tokens_of x)) ∙ no_fault_to 128 x h
