-- The least type of a pattern.
use Rattle.std.proofs.Common.{◌≡◌, ◌≤◌, suc, max, refl, subst, arith}
use mathlib.Core.Logic.{inl, inr}
use Rattle.gv_model.specs.Ty.{Ty, Types, Basic, nesting, greatest_nesting}
use Rattle.gv_model.specs.Ty.Ty.{basic, variant, array, maybe, tuple, entry}
use Rattle.gv_model.specs.Ty.Types.{end, member}
use Rattle.gv_model.specs.Ty.Basic.{boolean, byte, int32, string}
use Rattle.gv_model.specs.Admits.{AlsoMaybe, IsMaybeOf}
use Rattle.gv_model.specs.Order.{Below, AreBelow, BasicBelow}
use Rattle.gv_model.proofs.PatternMeets.{bare_also}
use Rattle.gv_model.specs.Patterns.{BasicSet, Pattern, Bare, Patterns, Within, In, InBare, AreIn}
use Rattle.gv_model.specs.LeastTypes.{Least, Leasts, least_in, least_bare, leasts_in, least_with, least_basics, least_entry, least_tuple, least_member}
use Rattle.gv_model.specs.Patterns.BasicSet.{any, numbers, texts, empty, only}
use Rattle.gv_model.specs.Patterns.Pattern.{anything, never, maybe_of, strict, loose}
use Rattle.gv_model.specs.Patterns.Bare.{basics, a_variant, array_of, tuple_with, entry_of, no_bare}
use Rattle.gv_model.specs.Patterns.Patterns.{stop, next}
use Rattle.gv_model.specs.LeastTypes.Least.{nowhere, least, many}
use Rattle.gv_model.specs.LeastTypes.Leasts.{nowhere_each, least_each, many_each}

-- t is in P, and below all in it
pub record LeastIn (P : Ty → Type 0) (t : Ty) : Type 0 where
  pub inside : P t
  pub below : (u : Ty) → P u → Below t u
  pub shallow : (u : Ty) → P u → nesting t ≤ nesting u

-- t is in P, as shallow as any, and so is other; nothing in P is below both
pub record ManyIn (P : Ty → Type 0) (t : Ty) : Type 0 where
  pub inside : P t
  pub shallow : (u : Ty) → P u → nesting t ≤ nesting u
  pub other : Ty
  pub also : P other
  pub alike : nesting other ≤ nesting t
  pub apart : (u : Ty) → P u → Below u t → Below u other → ⊥

abbrev pub IsLeast : Least → (Ty → Type 0) → Type 0
IsLeast nowhere P = (t : Ty) → P t → ⊥
IsLeast (least t) P = LeastIn P t
IsLeast (many t) P = ManyIn P t

pub nesting_pos : (t : Ty) → 1 ≤ nesting t
unfolding nesting
nesting_pos (basic k) = omega arith
nesting_pos variant = omega arith
nesting_pos (array t) = omega arith
nesting_pos (maybe t) = omega arith
nesting_pos (tuple ts) = omega arith
nesting_pos (entry k t) = omega arith

anything_many : ManyIn (λ t. Unit {0}) variant
unfolding nesting
anything_many = record { inside = tt; shallow = λ u h. nesting_pos u; other = basic boolean; also = tt; alike = omega arith; apart = apart }
  where
    apart : (u : Ty) → Unit {0} → Below u variant → Below u (basic boolean) → ⊥
    apart variant h b c = c
    apart (basic k) h b c = b
    apart (array t) h b c = b
    apart (maybe t) h b c = b
    apart (tuple ts) h b c = b
    apart (entry k t) h b c = b

-- what is below with a maybe around it is below without
pub below_inside : (s t : Ty) → Below (maybe s) t → Below s t
below_inside s (maybe t) (inl h) = inl (below_inside s t h)
below_inside s (maybe t) (inr h) = inl h
below_inside s (basic k) h = absurd h
below_inside s variant h = absurd h
below_inside s (array t) h = absurd h
below_inside s (tuple ts) h = absurd h
below_inside s (entry k t) h = absurd h

-- What holds of a pattern holds of it in a container

lifted : (f : Ty → Ty) (P Q : Ty → Type 0) → ((t : Ty) → P t → Q (f t)) → ((M : Ty → Type 0) → ((u : Ty) → P u → M (f u)) → (u : Ty) → Q u → M u)
    → ((t u : Ty) → Below t u → Below (f t) (f u)) → ((t u : Ty) → Below (f t) (f u) → Below t u) → ((t : Ty) → nesting (f t) ≡ suc (nesting t))
    → (l : Least) → IsLeast l P → IsLeast (least_with f l) Q
lifted f P Q up each mono back size nowhere h = each (λ u. ⊥) h
lifted f P Q up each mono back size (least t) h = record {
  inside = up t h.inside;
  below = each (Below (f t)) (λ u i. mono t u (h.below u i));
  shallow = each (λ u. nesting (f t) ≤ nesting u) (λ u i. let e = h.shallow u i in let a = size t in let b = size u in omega arith);
}
lifted f P Q up each mono back size (many t) h = record {
  inside = up t h.inside;
  shallow = each (λ u. nesting (f t) ≤ nesting u) (λ u i. let e = h.shallow u i in let a = size t in let b = size u in omega arith);
  other = f h.other;
  also = up h.other h.also;
  alike = let e = h.alike in let a = size t in let b = size h.other in omega arith;
  apart = each (λ u. Below u (f t) → Below u (f h.other) → ⊥) (λ u i x y. h.apart u i (back u t x) (back u h.other y));
}

size_maybe : (t : Ty) → nesting (maybe t) ≡ suc (nesting t)
unfolding nesting
size_maybe t = refl

size_array : (t : Ty) → nesting (array t) ≡ suc (nesting t)
unfolding nesting
size_array t = refl

size_entry : (k : Basic) (t : Ty) → nesting (entry k t) ≡ suc (nesting t)
unfolding nesting
size_entry k t = refl

each_maybe : (P : Ty → Type 0) (M : Ty → Type 0) → ((u : Ty) → P u → M (maybe u)) → (u : Ty) → IsMaybeOf P u → M u
each_maybe P M f (maybe u) i = f u i
each_maybe P M f _ i = absurd i

each_array : (p : Pattern) (M : Ty → Type 0) → ((u : Ty) → In p u → M (array u)) → (u : Ty) → InBare (array_of p) u → M u
each_array p M f (array u) i = f u i
each_array p M f _ i = absurd i

pub maybe_back : (t u : Ty) → Below (maybe t) (maybe u) → Below t u
maybe_back t u (inl h) = below_inside t u h
maybe_back t u (inr h) = h

least_maybe : (l : Least) (P : Ty → Type 0) → IsLeast l P → IsLeast (least_with maybe l) (IsMaybeOf P)
least_maybe l P h = lifted maybe P (IsMaybeOf P) (λ t i. i) (each_maybe P) (λ t u b. inr b) maybe_back size_maybe l h

least_array : (l : Least) (p : Pattern) → IsLeast l (In p) → IsLeast (least_with array l) (InBare (array_of p))
least_array l p h = lifted array (In p) (InBare (array_of p)) (λ t i. i) (each_array p) (λ t u b. b) (λ t u b. b) size_array l h

-- Entries

one_key : (s : BasicSet) (j : Basic) → Within s j → ((k : Basic) → Within s k → BasicBelow j k) → (p : Pattern) (l : Least) → IsLeast l (In p) → IsLeast (least_with (entry j) l) (InBare (entry_of s p))
one_key s j w low p nowhere h = none
  where
    none : (t : Ty) → InBare (entry_of s p) t → ⊥
    none (entry k t) i = h t i.1
    none _ i = absurd i
one_key s j w low p (least t) h = record { inside = (w, h.inside); below = below; shallow = shallow }
  where
    below : (u : Ty) → InBare (entry_of s p) u → Below (entry j t) u
    below (entry k u) i = (low k i.0, h.below u i.1)
    below _ i = absurd i

    shallow : (u : Ty) → InBare (entry_of s p) u → nesting (entry j t) ≤ nesting u
    shallow (entry k u) i = (let e = h.shallow u i.1 in let a = size_entry j t in let b = size_entry k u in omega arith)
    shallow _ i = absurd i
one_key s j w low p (many t) h = record {
  inside = (w, h.inside);
  shallow = shallow;
  other = entry j h.other;
  also = (w, h.also);
  alike = (let e = h.alike in let a = size_entry j t in let b = size_entry j h.other in omega arith);
  apart = apart;
}
  where
    shallow : (u : Ty) → InBare (entry_of s p) u → nesting (entry j t) ≤ nesting u
    shallow (entry k u) i = (let e = h.shallow u i.1 in let a = size_entry j t in let b = size_entry k u in omega arith)
    shallow _ i = absurd i

    apart : (u : Ty) → InBare (entry_of s p) u → Below u (entry j t) → Below u (entry j h.other) → ⊥
    apart (entry k u) i x y = h.apart u i.1 x.1 y.1
    apart _ i x y = absurd i

no_such_key : (k : Basic) → BasicBelow k boolean → BasicBelow k byte → ⊥
no_such_key int32 h g = h
no_such_key string h g = h
no_such_key boolean h g = absurd (grind arith)
no_such_key _ h g = absurd (grind arith)

any_key : (p : Pattern) (l : Least) → IsLeast l (In p) → IsLeast (least_entry (many (basic boolean)) (λ k. least_with (entry k) l)) (InBare (entry_of any p))
any_key p nowhere h = none
  where
    none : (t : Ty) → InBare (entry_of any p) t → ⊥
    none (entry k t) i = h t i.1
    none _ i = absurd i
any_key p (least t) h = record {
  inside = (tt, h.inside);
  shallow = shallow;
  other = entry byte t;
  also = (tt, h.inside);
  alike = (let a = size_entry boolean t in let b = size_entry byte t in omega arith);
  apart = apart;
}
  where
    shallow : (u : Ty) → InBare (entry_of any p) u → nesting (entry boolean t) ≤ nesting u
    shallow (entry k u) i = (let e = h.shallow u i.1 in let a = size_entry boolean t in let b = size_entry k u in omega arith)
    shallow _ i = absurd i

    apart : (u : Ty) → InBare (entry_of any p) u → Below u (entry boolean t) → Below u (entry byte t) → ⊥
    apart (entry k u) i x y = no_such_key k x.0 y.0
    apart _ i x y = absurd i
any_key p (many t) h = record {
  inside = (tt, h.inside);
  shallow = shallow;
  other = entry boolean h.other;
  also = (tt, h.also);
  alike = (let e = h.alike in let a = size_entry boolean t in let b = size_entry boolean h.other in omega arith);
  apart = apart;
}
  where
    shallow : (u : Ty) → InBare (entry_of any p) u → nesting (entry boolean t) ≤ nesting u
    shallow (entry k u) i = (let e = h.shallow u i.1 in let a = size_entry boolean t in let b = size_entry k u in omega arith)
    shallow _ i = absurd i

    apart : (u : Ty) → InBare (entry_of any p) u → Below u (entry boolean t) → Below u (entry boolean h.other) → ⊥
    apart (entry k u) i x y = h.apart u i.1 x.1 y.1
    apart _ i x y = absurd i

pub basic_below_refl : (k : Basic) → BasicBelow k k
basic_below_refl int32 = tt
basic_below_refl string = tt
basic_below_refl _ = refl

low_only : (j k : Basic) → k ≡ j → BasicBelow j k
low_only j k e = subst (λ (i : Basic). BasicBelow i k) e (basic_below_refl k)

least_entries : (s : BasicSet) (p : Pattern) (l : Least) → IsLeast l (In p) → IsLeast (least_entry (least_basics basic s) (λ k. least_with (entry k) l)) (InBare (entry_of s p))
least_entries any p l h = any_key p l h
least_entries numbers p l h = one_key numbers int32 tt (λ k w. w) p l h
least_entries texts p l h = one_key texts string tt low p l h
  where
    low : (k : Basic) → Within texts k → BasicBelow string k
    low k w = w
least_entries empty p l h = none
  where
    none : (t : Ty) → InBare (entry_of empty p) t → ⊥
    none (entry k t) i = i.0
    none _ i = absurd i
least_entries (only j) p l h = one_key (only j) j refl (low_only j) p l h

-- Basic types

nesting_basic : (k : Basic) → nesting (basic k) ≡ 1
unfolding nesting
nesting_basic k = refl

one_basics : (s : BasicSet) (j : Basic) → Within s j → ((k : Basic) → Within s k → BasicBelow j k) → LeastIn (InBare (basics s)) (basic j)
one_basics s j w low = record { inside = w; below = below; shallow = λ u i. let a = nesting_pos u in let b = nesting_basic j in omega arith }
  where
    below : (u : Ty) → InBare (basics s) u → Below (basic j) u
    below (basic k) i = low k i
    below _ i = absurd i

least_of_basics : (s : BasicSet) → IsLeast (least_basics basic s) (InBare (basics s))
least_of_basics any = record { inside = tt; shallow = λ u i. (let a = nesting_pos u in let b = nesting_basic boolean in omega arith); other = basic byte; also = tt; alike = (let a = nesting_basic boolean in let b = nesting_basic byte in omega arith); apart = apart }
  where
    apart : (u : Ty) → InBare (basics any) u → Below u (basic boolean) → Below u (basic byte) → ⊥
    apart (basic k) i x y = no_such_key k x y
    apart _ i x y = absurd i
least_of_basics numbers = one_basics numbers int32 tt (λ k w. w)
least_of_basics texts = one_basics texts string tt (λ k w. w)
least_of_basics empty = none
  where
    none : (t : Ty) → InBare (basics empty) t → ⊥
    none (basic k) i = i
    none _ i = absurd i
least_of_basics (only j) = one_basics (only j) j refl (low_only j)

least_variant : LeastIn (InBare a_variant) variant
unfolding nesting
least_variant = record { inside = tt; below = below; shallow = λ u i. nesting_pos u }
  where
    below : (u : Ty) → InBare a_variant u → Below variant u
    below variant i = tt
    below _ i = absurd i

-- Tuples

pub record LeastAmong (P : Types → Type 0) (ts : Types) : Type 0 where
  pub inside : P ts
  pub below : (us : Types) → P us → AreBelow ts us
  pub shallow : (us : Types) → P us → greatest_nesting ts ≤ greatest_nesting us

pub record ManyAmong (P : Types → Type 0) (ts : Types) : Type 0 where
  pub inside : P ts
  pub shallow : (us : Types) → P us → greatest_nesting ts ≤ greatest_nesting us
  pub others : Types
  pub also : P others
  pub alike : greatest_nesting others ≤ greatest_nesting ts
  pub apart : (us : Types) → P us → AreBelow us ts → AreBelow us others → ⊥

abbrev AreLeast : Leasts → (Types → Type 0) → Type 0
AreLeast nowhere_each P = (ts : Types) → P ts → ⊥
AreLeast (least_each ts) P = LeastAmong P ts
AreLeast (many_each ts) P = ManyAmong P ts

least_end : LeastAmong (AreIn stop) end
unfolding nesting
least_end = record { inside = tt; below = below; shallow = λ us i. omega arith }
  where
    below : (us : Types) → AreIn stop us → AreBelow end us
    below end i = tt
    below (member t ts) i = absurd i

greatest_member : (t : Ty) (ts : Types) → greatest_nesting (member t ts) ≡ max (nesting t) (greatest_nesting ts)
unfolding nesting
greatest_member t ts = refl

each_member : (p : Pattern) (ps : Patterns) (M : Types → Type 0) → ((u : Ty) (us : Types) → In p u → AreIn ps us → M (member u us)) → (us : Types) → AreIn (next p ps) us → M us
each_member p ps M f (member u us) i = f u us i.0 i.1
each_member p ps M f end i = absurd i

bigger : (t u : Ty) (ts us : Types) → nesting t ≤ nesting u → greatest_nesting ts ≤ greatest_nesting us → greatest_nesting (member t ts) ≤ greatest_nesting (member u us)
bigger t u ts us h g = let a = greatest_member t ts in let b = greatest_member u us in omega arith

least_members : (p : Pattern) (ps : Patterns) (l : Least) (ls : Leasts) → IsLeast l (In p) → AreLeast ls (AreIn ps) → AreLeast (least_member l ls) (AreIn (next p ps))
least_members p ps nowhere ls h g = each_member p ps (λ us. ⊥) (λ u us i j. h u i)
least_members p ps (least t) nowhere_each h g = each_member p ps (λ us. ⊥) (λ u us i j. g us j)
least_members p ps (many t) nowhere_each h g = each_member p ps (λ us. ⊥) (λ u us i j. g us j)
least_members p ps (least t) (least_each ts) h g = record {
  inside = (h.inside, g.inside);
  below = each_member p ps (AreBelow (member t ts)) (λ u us i j. (h.below u i, g.below us j));
  shallow = each_member p ps (λ us. greatest_nesting (member t ts) ≤ greatest_nesting us) (λ u us i j. bigger t u ts us (h.shallow u i) (g.shallow us j));
}
least_members p ps (least t) (many_each ts) h g = record {
  inside = (h.inside, g.inside);
  shallow = each_member p ps (λ us. greatest_nesting (member t ts) ≤ greatest_nesting us) (λ u us i j. bigger t u ts us (h.shallow u i) (g.shallow us j));
  others = member t g.others;
  also = (h.inside, g.also);
  alike = bigger t t g.others ts (omega arith) g.alike;
  apart = each_member p ps (λ us. AreBelow us (member t ts) → AreBelow us (member t g.others) → ⊥) (λ u us i j x y. g.apart us j x.1 y.1);
}
least_members p ps (many t) (least_each ts) h g = record {
  inside = (h.inside, g.inside);
  shallow = each_member p ps (λ us. greatest_nesting (member t ts) ≤ greatest_nesting us) (λ u us i j. bigger t u ts us (h.shallow u i) (g.shallow us j));
  others = member h.other ts;
  also = (h.also, g.inside);
  alike = bigger h.other t ts ts h.alike (omega arith);
  apart = each_member p ps (λ us. AreBelow us (member t ts) → AreBelow us (member h.other ts) → ⊥) (λ u us i j x y. h.apart u i x.0 y.0);
}
least_members p ps (many t) (many_each ts) h g = record {
  inside = (h.inside, g.inside);
  shallow = each_member p ps (λ us. greatest_nesting (member t ts) ≤ greatest_nesting us) (λ u us i j. bigger t u ts us (h.shallow u i) (g.shallow us j));
  others = member h.other ts;
  also = (h.also, g.inside);
  alike = bigger h.other t ts ts h.alike (omega arith);
  apart = each_member p ps (λ us. AreBelow us (member t ts) → AreBelow us (member h.other ts) → ⊥) (λ u us i j x y. h.apart u i x.0 y.0);
}

each_tuple : (ps : Patterns) (M : Ty → Type 0) → ((us : Types) → AreIn ps us → M (tuple us)) → (u : Ty) → InBare (tuple_with ps) u → M u
each_tuple ps M f (tuple us) i = f us i
each_tuple ps M f _ i = absurd i

tuple_bigger : (ts us : Types) → greatest_nesting ts ≤ greatest_nesting us → nesting (tuple ts) ≤ nesting (tuple us)
unfolding nesting
tuple_bigger ts us h = omega arith

least_tuples : (ps : Patterns) (ls : Leasts) → AreLeast ls (AreIn ps) → IsLeast (least_tuple ls) (InBare (tuple_with ps))
least_tuples ps nowhere_each h = each_tuple ps (λ u. ⊥) h
least_tuples ps (least_each ts) h = record { inside = h.inside; below = each_tuple ps (Below (tuple ts)) h.below; shallow = each_tuple ps (λ u. nesting (tuple ts) ≤ nesting u) (λ us i. tuple_bigger ts us (h.shallow us i)) }
least_tuples ps (many_each ts) h = record {
  inside = h.inside;
  shallow = each_tuple ps (λ u. nesting (tuple ts) ≤ nesting u) (λ us i. tuple_bigger ts us (h.shallow us i));
  other = tuple h.others;
  also = h.also;
  alike = tuple_bigger h.others ts h.alike;
  apart = each_tuple ps (λ u. Below u (tuple ts) → Below u (tuple h.others) → ⊥) h.apart;
}

-- Under any number of maybes

-- what holds of a core's types and, with a type, of its maybe, holds under any number of maybes
each_loose : (c : Bare) (M : Ty → Type 0) → ((u : Ty) → InBare c u → M u) → ((u : Ty) → M u → M (maybe u)) → (u : Ty) → AlsoMaybe (InBare c) u → M u
each_loose c M f g (maybe u) i = g u (each_loose c M f g u i)
each_loose c M f g (basic k) i = f _ i
each_loose c M f g variant i = f _ i
each_loose c M f g (array t) i = f _ i
each_loose c M f g (tuple ts) i = f _ i
each_loose c M f g (entry k t) i = f _ i

deeper : (t u : Ty) → nesting t ≤ nesting u → nesting t ≤ nesting (maybe u)
deeper t u h = let a = size_maybe u in omega arith

least_loose : (c : Bare) (l : Least) → IsLeast l (InBare c) → IsLeast l (AlsoMaybe (InBare c))
least_loose c nowhere h = each_loose c (λ u. ⊥) h (λ u i. i)
least_loose c (least t) h = record {
  inside = bare_also c t h.inside;
  below = each_loose c (Below t) h.below (λ u b. inl b);
  shallow = each_loose c (λ u. nesting t ≤ nesting u) h.shallow (deeper t);
}
least_loose c (many t) h = record {
  inside = bare_also c t h.inside;
  shallow = each_loose c (λ u. nesting t ≤ nesting u) h.shallow (deeper t);
  other = h.other;
  also = bare_also c h.other h.also;
  alike = h.alike;
  apart = each_loose c (λ u. Below u t → Below u h.other → ⊥) h.apart (λ u none x y. none (below_inside u t x) (below_inside u h.other y));
}

mutual
  unfolding least_in

  pub least_right : (p : Pattern) → IsLeast (least_in p) (In p)
  least_right anything = anything_many
  least_right never = λ t i. i
  least_right (maybe_of p) = least_maybe (least_in p) (In p) (least_right p)
  least_right (strict c) = bare_right c
  least_right (loose c) = least_loose c (least_bare c) (bare_right c)

  bare_right : (c : Bare) → IsLeast (least_bare c) (InBare c)
  bare_right (basics s) = least_of_basics s
  bare_right a_variant = least_variant
  bare_right (array_of p) = least_array (least_in p) p (least_right p)
  bare_right (tuple_with ps) = least_tuples ps (leasts_in ps) (each_right ps)
  bare_right (entry_of s p) = least_entries s p (least_in p) (least_right p)
  bare_right no_bare = λ t i. i

  each_right : (ps : Patterns) → AreLeast (leasts_in ps) (AreIn ps)
  each_right stop = least_end
  each_right (next p ps) = least_members p ps (least_in p) (leasts_in ps) (least_right p) (each_right ps)
