-- Two lists of patterns, joined one by one in the place of one of them.
use Rattle.std.specs.Prelude.{slice_set}
use Rattle.std.proofs.Common.{ℕ, zero, suc, ◌+◌, ◌<◌, ◌≤◌, ◌≡◌, Bool, true, false, List, [], ◌∷◌, length, take, drop, get_or, refl, sym, ap, ◌∙◌, arith, add-one}
use Rattle.gv_model.specs.Patterns.{Pattern, Patterns, common}
use Rattle.gv_model.specs.Patterns.Pattern.{never}
use Rattle.gv_model.specs.Patterns.Patterns.{stop, next}
use Rattle.gv_patterns.specs.Forms.{patterns_of}
use Rattle.gv_patterns.specs.Orders.{common_by, each_by}
use Rattle.gv_patterns.specs.Parts.{parts, all_parts}

-- some patterns before others
abbrev pub before : List Pattern → Patterns → Patterns
before [] qs = qs
before (p ∷ ps) qs = next p (before ps qs)

-- the item at an index, and those after it
pub drop_item : (xs : List Pattern) (i : ℕ) (x : Pattern) → i < length xs → x ≡ get_or xs i x → drop i xs ≡ x ∷ drop (i + 1) xs
drop_item [] i x lt e = absurd (omega arith)
drop_item (y ∷ xs) zero x lt e = ap (λ (z : Pattern). z ∷ xs) (sym e)
drop_item (y ∷ xs) (suc i) x lt e = rw add-one (rw add-one at (drop_item xs i x (omega arith) e))

each_step : (b : Bool) (p q : Pattern) (ps qs : Patterns) → each_by b (next p ps) (next q qs) ≡ next (common_by b p q) (each_by b ps qs)
unfolding common
each_step true p q ps qs = refl
each_step false p q ps qs = refl

each_end : (b : Bool) → each_by b stop stop ≡ stop
unfolding common
each_end true = refl
each_end false = refl

each_longer : (b : Bool) (p : Pattern) (ps : Patterns) → each_by b (next p ps) stop ≡ next never stop
unfolding common
each_longer true p ps = refl
each_longer false p ps = refl

-- one more is joined in its place
pub one_joined : (b : Bool) (xs : List Pattern) (i : ℕ) (one other spent both : Pattern) (rest : Patterns) → i < length xs → one ≡ get_or xs i one → both ≡ common_by b one other →
    before (take (i + 1) (slice_set (slice_set xs i spent) i both)) (each_by b (patterns_of (drop (i + 1) (slice_set (slice_set xs i spent) i both))) rest)
    ≡ before (take i xs) (each_by b (patterns_of (drop i xs)) (next other rest))
one_joined b [] i one other spent both rest lt e g = absurd (omega arith)
one_joined b (y ∷ xs) zero one other spent both rest lt e g = ap (λ p. next p (each_by b (patterns_of xs) rest)) (g ∙ ap (λ p. common_by b p other) e) ∙ sym (each_step b y other (patterns_of xs) rest)
one_joined b (y ∷ xs) (suc i) one other spent both rest lt e g = rw add-one (ap (next y) (rw add-one at (one_joined b xs i one other spent both rest (omega arith) e g)))

-- what is left grows smaller
pub smaller : (xs : List Pattern) (i : ℕ) (one spent both : Pattern) → i < length xs → one ≡ get_or xs i one →
    all_parts (patterns_of (drop i xs)) ≡ suc (parts one + all_parts (patterns_of (drop (i + 1) (slice_set (slice_set xs i spent) i both))))
unfolding parts
smaller [] i one spent both lt e = absurd (omega arith)
smaller (y ∷ xs) zero one spent both lt e = ap (λ p. suc (parts p + all_parts (patterns_of xs))) (sym e)
smaller (y ∷ xs) (suc i) one spent both lt e = rw add-one (rw add-one at (smaller xs i one spent both (omega arith) e))

-- the list's end is reached: both have one length
pub joined_whole : (b : Bool) (xs : List Pattern) (i : ℕ) → length xs ≤ i → before (take i xs) (each_by b (patterns_of (drop i xs)) stop) ≡ patterns_of xs
joined_whole b [] zero h = each_end b
joined_whole b [] (suc i) h = each_end b
joined_whole b (y ∷ xs) zero h = absurd (omega arith)
joined_whole b (y ∷ xs) (suc i) h = ap (next y) (joined_whole b xs i (omega arith))

-- the other list is shorter: nothing is common where it ends
pub joined_cut : (b : Bool) (xs : List Pattern) (i : ℕ) (x : Pattern) → i < length xs → x ≡ never → patterns_of (slice_set (take (i + 1) xs) i x) ≡ before (take i xs) (each_by b (patterns_of (drop i xs)) stop)
joined_cut b [] i x lt e = absurd (omega arith)
joined_cut b (y ∷ xs) zero x lt e = ap (λ p. next p stop) e ∙ sym (each_longer b y (patterns_of xs))
joined_cut b (y ∷ xs) (suc i) x lt e = rw add-one (ap (next y) (rw add-one at (joined_cut b xs i x (omega arith) e)))

pub length_kept : (xs : List Pattern) (i : ℕ) (x y : Pattern) → length (slice_set (slice_set xs i x) i y) ≡ length xs
length_kept [] i x y = refl
length_kept (z ∷ xs) zero x y = refl
length_kept (z ∷ xs) (suc i) x y = ap suc (length_kept xs i x y)

pub none_left : (xs : List Pattern) → length xs ≡ 0 → stop ≡ patterns_of xs
none_left [] e = refl
none_left (x ∷ xs) e = absurd (omega arith)
