-- The pattern of a syntax tree is the types that it admits, and the choice from it is the chosen type.
use Rattle.std.proofs.Common.{◌≡◌, ◌≤◌, ◌<◌, ℕ, Bool, true, false, cond, refl, sym, ap, ◌∙◌, subst, arith, nat_le}
use Rattle.gv_model.specs.Ty.{Ty, Types, Basic, nesting}
use Rattle.gv_model.specs.Ty.Ty.{basic, variant, array, maybe, tuple, entry}
use Rattle.gv_model.specs.Ty.Types.{end, member}
use Rattle.gv_model.specs.Ty.Basic.{boolean, byte}
use Rattle.gv_model.specs.Syntax.{Syntax, Syntaxes, Pairs}
use Rattle.gv_model.specs.Syntax.Syntax.{truth, integer, quoted, bytes, list, tuple_of, dictionary, lone, boxed, just, nothing, at_type, keyword}
use Rattle.gv_model.specs.Syntax.Syntaxes.{none, first}
use Rattle.gv_model.specs.Syntax.Pairs.{no_pair, pair}
use Rattle.gv_model.specs.Admits.{Admits, AllAdmit, Admit, KeysAdmit, ValuesAdmit, AlsoMaybe, IsNumberType, IsTextType, IsMaybeOf, IsArrayOf, IsTupleOf, IsEntryOf}
use Rattle.gv_model.specs.Chosen.{MayHave, Chooses}
use Rattle.gv_model.specs.Chosen.Choice.{is, no_common_type, ambiguous}
use Rattle.gv_model.specs.Patterns.{Pattern, Patterns, Within, In, InBare, AreIn, common, exactly, exactly_each, basics_of, pattern, all_common, patterns, common_key, common_value}
use Rattle.gv_model.specs.LeastTypes.{Least, least_in, choice, choice_from}
use Rattle.gv_model.specs.Patterns.BasicSet.{numbers, texts, only}
use Rattle.gv_model.specs.Patterns.Pattern.{anything, never, maybe_of, strict, loose}
use Rattle.gv_model.specs.Patterns.Bare.{basics, a_variant, array_of, tuple_with, entry_of}
use Rattle.gv_model.specs.LeastTypes.Least.{nowhere, least, many}
use Rattle.gv_model.proofs.PatternMeets.{both, join}
use Rattle.gv_model.proofs.LeastTypeLaws.{IsLeast, least_right}

abbrev Same : (Ty → Type 0) → (Ty → Type 0) → Type 0
Same P Q = ((t : Ty) → P t → Q t) × ((t : Ty) → Q t → P t)

also_map : (P Q : Ty → Type 0) → ((t : Ty) → P t → Q t) → (t : Ty) → AlsoMaybe P t → AlsoMaybe Q t
also_map P Q f (maybe t) h = also_map P Q f t h
also_map P Q f (basic k) h = f _ h
also_map P Q f variant h = f _ h
also_map P Q f (array t) h = f _ h
also_map P Q f (tuple ts) h = f _ h
also_map P Q f (entry k t) h = f _ h

also_same : (P Q : Ty → Type 0) → Same P Q → Same (AlsoMaybe P) (AlsoMaybe Q)
also_same P Q s = (also_map P Q s.0, also_map Q P s.1)

common_same : (p q : Pattern) (P Q : Ty → Type 0) → Same (In p) P → Same (In q) Q → Same (In (common p q)) (λ t. P t × Q t)
common_same p q P Q s r = (λ t h. let two = both p q t h in (s.0 t two.0, r.0 t two.1), λ t h. join p q t (s.1 t h.0) (r.1 t h.1))

maybe_same : (p : Pattern) (P : Ty → Type 0) → Same (In p) P → Same (In (maybe_of p)) (IsMaybeOf P)
maybe_same p P s = (to, from)
  where
    to : (t : Ty) → IsMaybeOf (In p) t → IsMaybeOf P t
    to (maybe t) h = s.0 t h
    to _ h = absurd h

    from : (t : Ty) → IsMaybeOf P t → IsMaybeOf (In p) t
    from (maybe t) h = s.1 t h
    from _ h = absurd h

array_same : (p : Pattern) (P : Ty → Type 0) → Same (In p) P → Same (InBare (array_of p)) (IsArrayOf P)
array_same p P s = (to, from)
  where
    to : (t : Ty) → InBare (array_of p) t → IsArrayOf P t
    to (array t) h = s.0 t h
    to _ h = absurd h

    from : (t : Ty) → IsArrayOf P t → InBare (array_of p) t
    from (array t) h = s.1 t h
    from _ h = absurd h

tuple_same : (ps : Patterns) (P : Types → Type 0) → ((ts : Types) → AreIn ps ts → P ts) → ((ts : Types) → P ts → AreIn ps ts) → Same (InBare (tuple_with ps)) (IsTupleOf P)
tuple_same ps P f g = (to, from)
  where
    to : (t : Ty) → InBare (tuple_with ps) t → IsTupleOf P t
    to (tuple t) h = f t h
    to _ h = absurd h

    from : (t : Ty) → IsTupleOf P t → InBare (tuple_with ps) t
    from (tuple t) h = g t h
    from _ h = absurd h

basics_to : (p : Pattern) (k : Basic) → Within (basics_of p) k → In p (basic k)
basics_to anything k h = tt
basics_to never k h = h
basics_to (maybe_of p) k h = h
basics_to (strict (basics s)) k h = h
basics_to (strict _) k h = h
basics_to (loose (basics s)) k h = h
basics_to (loose _) k h = h

basics_from : (p : Pattern) (k : Basic) → In p (basic k) → Within (basics_of p) k
basics_from anything k h = tt
basics_from never k h = h
basics_from (maybe_of p) k h = h
basics_from (strict (basics s)) k h = h
basics_from (strict _) k h = h
basics_from (loose (basics s)) k h = h
basics_from (loose _) k h = h

entry_same : (q p : Pattern) (Q P : Ty → Type 0) → Same (In q) Q → Same (In p) P → Same (InBare (entry_of (basics_of q) p)) (IsEntryOf Q P)
entry_same q p Q P r s = (to, from)
  where
    to : (t : Ty) → InBare (entry_of (basics_of q) p) t → IsEntryOf Q P t
    to (entry k t) h = (r.0 (basic k) (basics_to q k h.0), s.0 t h.1)
    to _ h = absurd h

    from : (t : Ty) → IsEntryOf Q P t → InBare (entry_of (basics_of q) p) t
    from (entry k t) h = (basics_from q k (r.1 (basic k) h.0), s.1 t h.1)
    from _ h = absurd h

number_same : Same (InBare (basics numbers)) IsNumberType
number_same = (to, from)
  where
    to : (t : Ty) → InBare (basics numbers) t → IsNumberType t
    to (basic k) h = h
    to _ h = absurd h

    from : (t : Ty) → IsNumberType t → InBare (basics numbers) t
    from (basic k) h = h
    from _ h = absurd h

text_same : Same (InBare (basics texts)) IsTextType
text_same = (to, from)
  where
    to : (t : Ty) → InBare (basics texts) t → IsTextType t
    to (basic k) h = h
    to _ h = absurd h

    from : (t : Ty) → IsTextType t → InBare (basics texts) t
    from (basic k) h = h
    from _ h = absurd h

only_same : (j : Basic) → Same (InBare (basics (only j))) (λ u. u ≡ basic j)
only_same j = (to, λ t e. subst (λ (u : Ty). InBare (basics (only j)) u) (sym e) refl)
  where
    to : (t : Ty) → InBare (basics (only j)) t → t ≡ basic j
    to (basic k) h = ap basic h
    to _ h = absurd h

variant_same : Same (InBare a_variant) (λ u. u ≡ variant)
variant_same = (to, λ t e. subst (λ (u : Ty). InBare a_variant u) (sym e) tt)
  where
    to : (t : Ty) → InBare a_variant t → t ≡ variant
    to variant h = refl
    to _ h = absurd h

array_is : (u : Ty) → Same (IsArrayOf (λ t. t ≡ u)) (λ t. t ≡ array u)
array_is u = (to, λ t e. subst (λ (s : Ty). IsArrayOf (λ r. r ≡ u) s) (sym e) refl)
  where
    to : (t : Ty) → IsArrayOf (λ s. s ≡ u) t → t ≡ array u
    to (array t) h = ap array h
    to _ h = absurd h

then_same : (P Q R : Ty → Type 0) → Same P Q → Same Q R → Same P R
then_same P Q R s r = (λ t h. r.0 t (s.0 t h), λ t h. s.1 t (r.1 t h))

byte_arrays : Same (InBare (array_of (strict (basics (only byte))))) (λ u. u ≡ array (basic byte))
byte_arrays = then_same (InBare (array_of (strict (basics (only byte))))) (IsArrayOf (λ u. u ≡ basic byte)) (λ u. u ≡ array (basic byte)) (array_same (strict (basics (only byte))) (λ u. u ≡ basic byte) (only_same byte)) (array_is (basic byte))

mutual
  unfolding exactly

  in_exactly : (u : Ty) (t : Ty) → In (exactly u) t → t ≡ u
  in_exactly (basic k) (basic j) h = ap basic h
  in_exactly variant variant h = refl
  in_exactly (array u) (array t) h = ap array (in_exactly u t h)
  in_exactly (maybe u) (maybe t) h = ap maybe (in_exactly u t h)
  in_exactly (tuple us) (tuple ts) h = ap tuple (in_each us ts h)
  in_exactly (entry k u) (entry j t) h = ap (λ i. entry i t) h.0 ∙ ap (entry k) (in_exactly u t h.1)
  in_exactly _ _ h = absurd h

  in_each : (us ts : Types) → AreIn (exactly_each us) ts → ts ≡ us
  in_each end end h = refl
  in_each (member u us) (member t ts) h = ap (λ s. member s ts) (in_exactly u t h.0) ∙ ap (member u) (in_each us ts h.1)
  in_each _ _ h = absurd h

mutual
  unfolding exactly

  exactly_in : (u : Ty) → In (exactly u) u
  exactly_in (basic k) = refl
  exactly_in variant = tt
  exactly_in (array u) = exactly_in u
  exactly_in (maybe u) = exactly_in u
  exactly_in (tuple us) = exactly_each_in us
  exactly_in (entry k u) = (refl, exactly_in u)

  exactly_each_in : (us : Types) → AreIn (exactly_each us) us
  exactly_each_in end = tt
  exactly_each_in (member u us) = (exactly_in u, exactly_each_in us)

exactly_same : (u : Ty) → Same (In (exactly u)) (λ t. t ≡ u)
exactly_same u = (in_exactly u, λ t e. subst (λ (s : Ty). In (exactly u) s) (sym e) (exactly_in u))

mutual
  unfolding pattern

  pub same : (x : Syntax) → Same (In (pattern x)) (Admits x)
  same (truth b) = also_same _ _ (only_same boolean)
  same (integer negative n) = also_same _ _ number_same
  same (quoted s) = also_same _ _ text_same
  same (bytes s) = also_same _ _ byte_arrays
  same (list xs) = also_same _ _ (array_same (all_common xs) (AllAdmit xs) (all_same xs))
  same (tuple_of xs) = also_same _ _ (tuple_same (patterns xs) (Admit xs) (each_to xs) (each_from xs))
  same (dictionary ps) = also_same _ _ (array_same (strict (entry_of (basics_of (common_key ps)) (common_value ps))) (IsEntryOf (KeysAdmit ps) (ValuesAdmit ps)) (entry_same (common_key ps) (common_value ps) (KeysAdmit ps) (ValuesAdmit ps) (keys_same ps) (values_same ps)))
  same (lone k v) = also_same _ _ (entry_same (pattern k) (pattern v) (Admits k) (Admits v) (same k) (same v))
  same (boxed x) = also_same _ _ variant_same
  same (just x) = maybe_same (pattern x) (Admits x) (same x)
  same nothing = maybe_same anything (λ u. Unit {0}) (λ t h. h, λ t h. h)
  same (at_type u x) = common_same (exactly u) (pattern x) (λ t. t ≡ u) (Admits x) (exactly_same u) (same x)
  same (keyword k x) = common_same (strict (basics (only k))) (pattern x) (λ t. t ≡ basic k) (Admits x) (only_same k) (same x)

  all_same : (xs : Syntaxes) → Same (In (all_common xs)) (AllAdmit xs)
  all_same none = (λ t h. h, λ t h. h)
  all_same (first x xs) = common_same (pattern x) (all_common xs) (Admits x) (AllAdmit xs) (same x) (all_same xs)

  each_to : (xs : Syntaxes) (ts : Types) → AreIn (patterns xs) ts → Admit xs ts
  each_to none end h = tt
  each_to (first x xs) (member t ts) h = ((same x).0 t h.0, each_to xs ts h.1)
  each_to none (member t ts) h = h
  each_to (first x xs) end h = h

  each_from : (xs : Syntaxes) (ts : Types) → Admit xs ts → AreIn (patterns xs) ts
  each_from none end h = tt
  each_from (first x xs) (member t ts) h = ((same x).1 t h.0, each_from xs ts h.1)
  each_from none (member t ts) h = h
  each_from (first x xs) end h = h

  keys_same : (ps : Pairs) → Same (In (common_key ps)) (KeysAdmit ps)
  keys_same no_pair = (λ t h. h, λ t h. h)
  keys_same (pair k v ps) = common_same (pattern k) (common_key ps) (Admits k) (KeysAdmit ps) (same k) (keys_same ps)

  values_same : (ps : Pairs) → Same (In (common_value ps)) (ValuesAdmit ps)
  values_same no_pair = (λ t h. h, λ t h. h)
  values_same (pair k v ps) = common_same (pattern v) (common_value ps) (Admits v) (ValuesAdmit ps) (same v) (values_same ps)

-- The choice

le_or : (n : ℕ) (b : Bool) → nat_le n 128 ≡ b → cond b (n ≤ 128) (128 < n)
le_or n true e = grind arith
le_or n false e = grind arith

chosen_from : (x : Syntax) (l : Least) → IsLeast l (In (pattern x)) → Chooses x (choice_from l)
chosen_from x nowhere h = λ t m. h t ((same x).1 t m.admits)
chosen_from x (least t) h = go (nat_le (nesting t) 128) refl
  where
    go : (b : Bool) → nat_le (nesting t) 128 ≡ b → Chooses x (cond b (is t) no_common_type)
    go true e = record { among = record { admits = (same x).0 t h.inside; shallow = le_or (nesting t) true e }; least = λ u m. h.below u ((same x).1 u m.admits) }
    go false e = λ u m. (let a = h.shallow u ((same x).1 u m.admits) in let b = m.shallow in let c = le_or (nesting t) false e in omega arith)
chosen_from x (many t) h = go (nat_le (nesting t) 128) refl
  where
    go : (b : Bool) → nat_le (nesting t) 128 ≡ b → Chooses x (cond b ambiguous no_common_type)
    go true e =
        let here : MayHave x t = record { admits = (same x).0 t h.inside; shallow = le_or (nesting t) true e } in
        let there : MayHave x h.other = record { admits = (same x).0 h.other h.also; shallow = (let a = h.alike in let b = le_or (nesting t) true e in omega arith) } in
        ((t, here), λ u c. h.apart u ((same x).1 u c.among.admits) (c.least t here) (c.least h.other there))
    go false e = λ u m. (let a = h.shallow u ((same x).1 u m.admits) in let b = m.shallow in let c = le_or (nesting t) false e in omega arith)

-- joining patterns gives the least admitted type, or says why there is none
pub choice_right : (x : Syntax) → Chooses x (choice x)
unfolding choice
choice_right x = chosen_from x (least_in (pattern x)) (least_right (pattern x))

-- syntax admits the type that is chosen for it
pub admits_chosen : (x : Syntax) (t : Ty) → choice x ≡ is t → Admits x t
admits_chosen x t e = (subst (Chooses x) e (choice_right x)).among.admits
