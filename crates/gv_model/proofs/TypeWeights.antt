-- How long the text of the least type of a syntax is: no longer than four times what the syntax
-- takes in a text.
use Rattle.std.proofs.Common.{◌≡◌, ℕ, suc, ◌+◌, ◌*◌, ◌≤◌, Bool, true, false, cond, List, [], ◌∷◌, ◌++◌, length, nat_le, arith, length-append, leb-true, subst, refl, ap}
use Rattle.gv_model.specs.Ty.{Ty, Types, Basic, spelling, spellings, nesting}
use Rattle.gv_model.specs.Ty.Ty.{basic, variant, array, maybe, tuple, entry}
use Rattle.gv_model.specs.Ty.Types.{end, member}
use Rattle.gv_model.specs.Syntax.{Syntax, Syntaxes, Pairs}
use Rattle.gv_model.specs.Syntax.Syntax.{truth, integer, quoted, bytes, list, tuple_of, dictionary, lone, boxed, just, nothing, at_type, keyword}
use Rattle.gv_model.specs.Syntax.Syntaxes.{none, first}
use Rattle.gv_model.specs.Syntax.Pairs.{no_pair, pair}
use Rattle.gv_model.specs.Patterns.{BasicSet, Pattern, Bare, Patterns, under, common, common_bare, common_each, exactly, exactly_each, pattern, all_common, patterns, common_value}
use Rattle.gv_model.specs.Patterns.BasicSet.{any, numbers, texts, empty, only}
use Rattle.gv_model.specs.Patterns.Pattern.{anything, never, maybe_of, strict, loose}
use Rattle.gv_model.specs.Patterns.Bare.{basics, a_variant, array_of, tuple_with, entry_of, no_bare}
use Rattle.gv_model.specs.Patterns.Patterns.{stop, next}
use Rattle.gv_model.specs.LeastTypes.{Least, Leasts, least_with, least_basics, least_entry, least_tuple, least_member, least_in, least_bare, leasts_in}
use Rattle.gv_model.specs.LeastTypes.Least.{nowhere, least, many}
use Rattle.gv_model.specs.LeastTypes.Leasts.{nowhere_each, least_each, many_each}
use Rattle.gv_model.specs.LeastTypes.{choice, choice_from}
use Rattle.gv_model.specs.Chosen.{Choice}
use Rattle.gv_model.specs.Chosen.Choice.{is, no_common_type, ambiguous}
use Rattle.gv_model.specs.TypeText.{IsWithinLimits}
use Rattle.gv_model.specs.Tokens.{Token}
use Rattle.gv_model.specs.Tokens.Mark.{close_tuple, close_list, close_brace, close_box, comma, colon}
use Rattle.gv_model.specs.Tokens.Token.{mark}
use Rattle.gv_model.specs.Grammar.{text_bytes, syntaxes_bytes, pairs_bytes, tokens_bytes, tokens_of, commas, members_tokens, pairs_tokens}
use Rattle.gv_model.proofs.TypeTextLaws.{within_limits}

-- ---- the bytes that the parts of a syntax take in a text at least

bytes_append : (s t : List Token) → tokens_bytes (s ++ t) ≡ tokens_bytes s + tokens_bytes t
unfolding tokens_bytes
bytes_append [] t = omega arith
bytes_append (x ∷ s) t = omega (arith, bytes_append s t)

commas_bytes : (xs : Syntaxes) → syntaxes_bytes xs ≤ tokens_bytes (commas xs)
unfolding tokens_bytes tokens_of
commas_bytes none = omega arith
commas_bytes (first x none) = omega arith
commas_bytes (first x (first y xs)) = omega (arith, bytes_append (tokens_of x) (mark comma ∷ commas (first y xs)), commas_bytes (first y xs))

members_bytes : (xs : Syntaxes) → syntaxes_bytes xs ≤ tokens_bytes (members_tokens xs)
unfolding tokens_bytes tokens_of
members_bytes none = omega arith
members_bytes (first x none) = omega (arith, bytes_append (tokens_of x) (mark comma ∷ []))
members_bytes (first x (first y xs)) = omega (arith, bytes_append (tokens_of x) (mark comma ∷ commas (first y xs)), commas_bytes (first y xs))

all_pairs_bytes : (ps : Pairs) → pairs_bytes ps ≤ tokens_bytes (pairs_tokens ps)
unfolding tokens_bytes tokens_of
all_pairs_bytes no_pair = omega arith
all_pairs_bytes (pair k v no_pair) = omega (arith, bytes_append (tokens_of k) (mark colon ∷ tokens_of v))
all_pairs_bytes (pair k v (pair j w ps)) = omega (arith, bytes_append (tokens_of k) (mark colon ∷ (tokens_of v ++ mark comma ∷ pairs_tokens (pair j w ps))), bytes_append (tokens_of v) (mark comma ∷ pairs_tokens (pair j w ps)), all_pairs_bytes (pair j w ps))

pub list_bytes : (xs : Syntaxes) → syntaxes_bytes xs + 2 ≤ text_bytes (list xs)
unfolding tokens_bytes tokens_of
list_bytes xs = omega (arith, commas_bytes xs, bytes_append (commas xs) (mark close_list ∷ []))

pub tuple_bytes : (xs : Syntaxes) → syntaxes_bytes xs + 2 ≤ text_bytes (tuple_of xs)
unfolding tokens_bytes tokens_of
tuple_bytes xs = omega (arith, members_bytes xs, bytes_append (members_tokens xs) (mark close_tuple ∷ []))

pub dictionary_bytes : (ps : Pairs) → pairs_bytes ps + 2 ≤ text_bytes (dictionary ps)
unfolding tokens_bytes tokens_of
dictionary_bytes ps = omega (arith, all_pairs_bytes ps, bytes_append (pairs_tokens ps) (mark close_brace ∷ []))

pub entry_bytes : (k v : Syntax) → text_bytes k + text_bytes v + 2 ≤ text_bytes (lone k v)
unfolding tokens_bytes tokens_of
entry_bytes k v = omega (arith, bytes_append (tokens_of k) (mark comma ∷ (tokens_of v ++ mark close_brace ∷ [])), bytes_append (tokens_of v) (mark close_brace ∷ []))

pub box_bytes : (x : Syntax) → text_bytes x ≤ text_bytes (boxed x)
unfolding tokens_bytes tokens_of
box_bytes x = omega (arith, bytes_append (tokens_of x) (mark close_box ∷ []))

-- the bytes that the text of a pattern's least type takes at most
unfoldable mutual
  weight : Pattern → ℕ
  weight anything = 1
  weight never = 0
  weight (maybe_of p) = suc (weight p)
  weight (strict c) = bare_weight c
  weight (loose c) = bare_weight c

  bare_weight : Bare → ℕ
  bare_weight (basics s) = 1
  bare_weight a_variant = 1
  bare_weight (array_of p) = suc (weight p)
  bare_weight (tuple_with ps) = 2 + weights ps
  bare_weight (entry_of s p) = 3 + weight p
  bare_weight no_bare = 0

  weights : Patterns → ℕ
  weights stop = 0
  weights (next p ps) = weight p + weights ps

-- the text is no longer than this
abbrev pub Short : Least → ℕ → Type 0
Short nowhere n = Unit {0}
Short (least t) n = length (spelling t) ≤ n
Short (many t) n = length (spelling t) ≤ n

abbrev ShortEach : Leasts → ℕ → Type 0
ShortEach nowhere_each n = Unit {0}
ShortEach (least_each ts) n = length (spellings ts) ≤ n
ShortEach (many_each ts) n = length (spellings ts) ≤ n

short_array : (l : Least) (n : ℕ) → Short l n → Short (least_with array l) (suc n)
unfolding spelling
short_array nowhere n h = tt
short_array (least t) n h = omega (arith, h)
short_array (many t) n h = omega (arith, h)

short_maybe : (l : Least) (n : ℕ) → Short l n → Short (least_with maybe l) (suc n)
unfolding spelling
short_maybe nowhere n h = tt
short_maybe (least t) n h = omega (arith, h)
short_maybe (many t) n h = omega (arith, h)

short_entry_at : (k : Basic) (t : Ty) (n : ℕ) → length (spelling t) ≤ n → length (spelling (entry k t)) ≤ 3 + n
unfolding spelling
short_entry_at k t n h = omega (arith, h, length-append (spelling t) (125 ∷ []))

short_basics : (s : BasicSet) → Short (least_basics basic s) 1
unfolding spelling
short_basics any = omega arith
short_basics numbers = omega arith
short_basics texts = omega arith
short_basics empty = tt
short_basics (only k) = omega arith

short_entry : (s : BasicSet) (l : Least) (n : ℕ) → Short l n → Short (least_entry (least_basics basic s) (λ k. least_with (entry k) l)) (3 + n)
short_entry any nowhere n h = tt
short_entry any (least t) n h = short_entry_at _ t n h
short_entry any (many t) n h = short_entry_at _ t n h
short_entry numbers nowhere n h = tt
short_entry numbers (least t) n h = short_entry_at _ t n h
short_entry numbers (many t) n h = short_entry_at _ t n h
short_entry texts nowhere n h = tt
short_entry texts (least t) n h = short_entry_at _ t n h
short_entry texts (many t) n h = short_entry_at _ t n h
short_entry empty l n h = tt
short_entry (only k) nowhere n h = tt
short_entry (only k) (least t) n h = short_entry_at k t n h
short_entry (only k) (many t) n h = short_entry_at k t n h

short_tuple_at : (ts : Types) (n : ℕ) → length (spellings ts) ≤ n → length (spelling (tuple ts)) ≤ 2 + n
unfolding spelling
short_tuple_at ts n h = omega (arith, h, length-append (spellings ts) (41 ∷ []))

short_tuple : (l : Leasts) (n : ℕ) → ShortEach l n → Short (least_tuple l) (2 + n)
short_tuple nowhere_each n h = tt
short_tuple (least_each ts) n h = short_tuple_at ts n h
short_tuple (many_each ts) n h = short_tuple_at ts n h

short_member_at : (t : Ty) (ts : Types) (n m : ℕ) → length (spelling t) ≤ n → length (spellings ts) ≤ m → length (spellings (member t ts)) ≤ n + m
unfolding spelling
short_member_at t ts n m h g = omega (arith, h, g, length-append (spelling t) (spellings ts))

short_member : (l : Least) (ls : Leasts) (n m : ℕ) → Short l n → ShortEach ls m → ShortEach (least_member l ls) (n + m)
short_member nowhere ls n m h g = tt
short_member (least t) nowhere_each n m h g = tt
short_member (least t) (least_each ts) n m h g = short_member_at t ts n m h g
short_member (least t) (many_each ts) n m h g = short_member_at t ts n m h g
short_member (many t) nowhere_each n m h g = tt
short_member (many t) (least_each ts) n m h g = short_member_at t ts n m h g
short_member (many t) (many_each ts) n m h g = short_member_at t ts n m h g

mutual
  unfolding least_in weight spelling

  short_least : (p : Pattern) → Short (least_in p) (weight p)
  short_least anything = omega arith
  short_least never = tt
  short_least (maybe_of p) = short_maybe (least_in p) (weight p) (short_least p)
  short_least (strict c) = short_bare c
  short_least (loose c) = short_bare c

  short_bare : (c : Bare) → Short (least_bare c) (bare_weight c)
  short_bare (basics s) = short_basics s
  short_bare a_variant = omega arith
  short_bare (array_of p) = short_array (least_in p) (weight p) (short_least p)
  short_bare (tuple_with ps) = short_tuple (leasts_in ps) (weights ps) (short_each ps)
  short_bare (entry_of s p) = short_entry s (least_in p) (weight p) (short_least p)
  short_bare no_bare = tt

  short_each : (ps : Patterns) → ShortEach (leasts_in ps) (weights ps)
  short_each stop = omega arith
  short_each (next p ps) = short_member (least_in p) (leasts_in ps) (weight p) (weights ps) (short_least p) (short_each ps)

-- What two have in common weighs no more than both

under_weight : (f : Bare → Bare) (c : Bare) (q : Pattern) → ((d : Bare) → bare_weight (f d) ≤ bare_weight c + bare_weight d) → weight (under f c q) ≤ bare_weight c + weight q
unfolding under weight
under_weight f c anything h = omega arith
under_weight f c never h = omega arith
under_weight f c (maybe_of q) h = omega (arith, under_weight f c q h)
under_weight f c (strict d) h = h d
under_weight f c (loose d) h = h d

mutual
  unfolding common weight

  common_weight : (p q : Pattern) → weight (common p q) ≤ weight p + weight q
  common_weight anything q = omega arith
  common_weight never q = omega arith
  common_weight (maybe_of p) anything = omega arith
  common_weight (maybe_of p) never = omega arith
  common_weight (maybe_of p) (maybe_of q) = omega (arith, common_weight p q)
  common_weight (maybe_of p) (strict d) = omega arith
  common_weight (maybe_of p) (loose d) = omega (arith, common_weight p (loose d))
  common_weight (strict c) anything = omega arith
  common_weight (strict c) never = omega arith
  common_weight (strict c) (maybe_of q) = omega arith
  common_weight (strict c) (strict d) = bare_common_weight c d
  common_weight (strict c) (loose d) = bare_common_weight c d
  common_weight (loose c) q = under_weight (common_bare c) c q (λ d. bare_common_weight c d)

  bare_common_weight : (c d : Bare) → bare_weight (common_bare c d) ≤ bare_weight c + bare_weight d
  bare_common_weight (basics s) (basics r) = omega arith
  bare_common_weight a_variant a_variant = omega arith
  bare_common_weight (array_of p) (array_of q) = omega (arith, common_weight p q)
  bare_common_weight (tuple_with ps) (tuple_with qs) = omega (arith, each_common_weight ps qs)
  bare_common_weight (entry_of s p) (entry_of r q) = omega (arith, common_weight p q)
  bare_common_weight (basics s) a_variant = omega arith
  bare_common_weight (basics s) (array_of q) = omega arith
  bare_common_weight (basics s) (tuple_with qs) = omega arith
  bare_common_weight (basics s) (entry_of r q) = omega arith
  bare_common_weight (basics s) no_bare = omega arith
  bare_common_weight a_variant (basics r) = omega arith
  bare_common_weight a_variant (array_of q) = omega arith
  bare_common_weight a_variant (tuple_with qs) = omega arith
  bare_common_weight a_variant (entry_of r q) = omega arith
  bare_common_weight a_variant no_bare = omega arith
  bare_common_weight (array_of p) (basics r) = omega arith
  bare_common_weight (array_of p) a_variant = omega arith
  bare_common_weight (array_of p) (tuple_with qs) = omega arith
  bare_common_weight (array_of p) (entry_of r q) = omega arith
  bare_common_weight (array_of p) no_bare = omega arith
  bare_common_weight (tuple_with ps) (basics r) = omega arith
  bare_common_weight (tuple_with ps) a_variant = omega arith
  bare_common_weight (tuple_with ps) (array_of q) = omega arith
  bare_common_weight (tuple_with ps) (entry_of r q) = omega arith
  bare_common_weight (tuple_with ps) no_bare = omega arith
  bare_common_weight (entry_of s p) (basics r) = omega arith
  bare_common_weight (entry_of s p) a_variant = omega arith
  bare_common_weight (entry_of s p) (array_of q) = omega arith
  bare_common_weight (entry_of s p) (tuple_with qs) = omega arith
  bare_common_weight (entry_of s p) no_bare = omega arith
  bare_common_weight no_bare d = omega arith

  each_common_weight : (ps qs : Patterns) → weights (common_each ps qs) ≤ weights ps + weights qs
  each_common_weight stop stop = omega arith
  each_common_weight (next p ps) (next q qs) = omega (arith, common_weight p q, each_common_weight ps qs)
  each_common_weight stop (next q qs) = omega arith
  each_common_weight (next p ps) stop = omega arith

-- The pattern of a type, and that of a syntax

mutual
  unfolding exactly weight spelling

  exact_weight : (t : Ty) → weight (exactly t) ≤ length (spelling t)
  exact_weight (basic k) = omega arith
  exact_weight variant = omega arith
  exact_weight (array t) = omega (arith, exact_weight t)
  exact_weight (maybe t) = omega (arith, exact_weight t)
  exact_weight (tuple ts) = omega (arith, exact_weights ts, length-append (spellings ts) (41 ∷ []))
  exact_weight (entry k t) = omega (arith, exact_weight t, length-append (spelling t) (125 ∷ []))

  exact_weights : (ts : Types) → weights (exactly_each ts) ≤ length (spellings ts)
  exact_weights end = omega arith
  exact_weights (member t ts) = omega (arith, exact_weight t, exact_weights ts, length-append (spelling t) (spellings ts))

mutual
  unfolding pattern weight tokens_bytes tokens_of

  pattern_weight : (x : Syntax) → weight (pattern x) ≤ 4 * text_bytes x
  pattern_weight (truth b) = omega arith
  pattern_weight (integer negative n) = omega arith
  pattern_weight (quoted s) = omega arith
  pattern_weight (bytes s) = omega arith
  pattern_weight (list xs) = omega (arith, common_weights xs, list_bytes xs)
  pattern_weight (tuple_of xs) = omega (arith, patterns_weight xs, tuple_bytes xs)
  pattern_weight (dictionary ps) = omega (arith, values_weight ps, dictionary_bytes ps)
  pattern_weight (lone k v) = omega (arith, pattern_weight v, entry_bytes k v)
  pattern_weight (boxed x) = omega arith
  pattern_weight (just x) = omega (arith, pattern_weight x)
  pattern_weight nothing = omega arith
  pattern_weight (at_type t x) = omega (arith, common_weight (exactly t) (pattern x), exact_weight t, pattern_weight x)
  pattern_weight (keyword k x) = omega (arith, common_weight (strict (basics (only k))) (pattern x), pattern_weight x)

  common_weights : (xs : Syntaxes) → weight (all_common xs) ≤ 1 + 4 * syntaxes_bytes xs
  common_weights none = omega arith
  common_weights (first x xs) = omega (arith, common_weight (pattern x) (all_common xs), pattern_weight x, common_weights xs)

  patterns_weight : (xs : Syntaxes) → weights (patterns xs) ≤ 4 * syntaxes_bytes xs
  patterns_weight none = omega arith
  patterns_weight (first x xs) = omega (arith, pattern_weight x, patterns_weight xs)

  values_weight : (ps : Pairs) → weight (common_value ps) ≤ 1 + 4 * pairs_bytes ps
  values_weight no_pair = omega arith
  values_weight (pair k v ps) = omega (arith, common_weight (pattern v) (common_value ps), pattern_weight v, values_weight ps)

short_by : (l : Least) (n m : ℕ) → n ≤ m → Short l n → Short l m
short_by nowhere n m h g = tt
short_by (least t) n m h g = omega (arith, h, g)
short_by (many t) n m h g = omega (arith, h, g)

-- the least type of a syntax within the limit has a text within the limit
pub short_choice : (x : Syntax) → text_bytes x ≤ 16777216 → Short (least_in (pattern x)) 67108864
short_choice x h = short_by (least_in (pattern x)) (weight (pattern x)) 67108864 (omega (arith, pattern_weight x, h)) (short_least (pattern x))

-- ---- the chosen type is within the limits

pub no_type_is : (t : Ty) → no_common_type ≡ is t → ⊥
no_type_is t e = absurd cc

pub no_clear_is : (t : Ty) → ambiguous ≡ is t → ⊥
no_clear_is t e = absurd cc

abbrev type_or : Ty → Choice → Ty
type_or t (is u) = u
type_or t other = t

pub choice_within : (x : Syntax) (t : Ty) → text_bytes x ≤ 16777216 → choice x ≡ is t → IsWithinLimits t
unfolding choice
choice_within x t h e = by_least (least_in (pattern x)) (short_choice x h) e
  where
    shallow : (u : Ty) (b : Bool) → nat_le (nesting u) 128 ≡ b → length (spelling u) ≤ 67108864 → cond b (is u) no_common_type ≡ is t → IsWithinLimits t
    shallow u true f short same =
        let one : u ≡ t = ap (type_or u) same in
        subst IsWithinLimits one (within_limits u (spelling u) (leb-true (nesting u) 128 f) short)
    shallow u false f short same = absurd (no_type_is t same)

    unclear : (u : Ty) (b : Bool) → cond b ambiguous no_common_type ≡ is t → ⊥
    unclear u true same = no_clear_is t same
    unclear u false same = no_type_is t same

    by_least : (l : Least) → Short l 67108864 → choice_from l ≡ is t → IsWithinLimits t
    by_least nowhere short same = absurd (no_type_is t same)
    by_least (least u) short same = shallow u (nat_le (nesting u) 128) refl short same
    by_least (many u) short same = absurd (unclear u (nat_le (nesting u) 128) same)
