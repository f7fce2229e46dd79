-- What two patterns have in common is what is in both.
use Rattle.std.proofs.Common.{◌≡◌, Bool, true, false, refl, sym, ap, subst, arith, eqb-true, eq-eqb}
use Rattle.std.proofs.lemmas.Bool.{false≢true}
use Rattle.gv_model.specs.Ty.{Ty, Types, Basic}
use Rattle.gv_model.specs.Ty.Ty.{basic, variant, array, maybe, tuple, entry}
use Rattle.gv_model.specs.Ty.Types.{end, member}
use Rattle.gv_model.specs.Ty.Basic.{boolean, byte, int16, uint16, int32, uint32, int64, uint64, handle, double, string, path, signature}
use Rattle.gv_model.specs.Admits.{AlsoMaybe}
use Rattle.gv_model.specs.Patterns.{BasicSet, Pattern, Bare, Patterns, Within, In, InBare, AreIn, common, common_bare, common_each, common_set, under, holds, only_if, code}
use Rattle.gv_model.specs.Patterns.BasicSet.{any, numbers, texts, empty, only}
use Rattle.gv_model.specs.Patterns.Pattern.{anything, never, maybe_of, strict, loose}
use Rattle.gv_model.specs.Patterns.Bare.{basics, a_variant, array_of, tuple_with, entry_of, no_bare}
use Rattle.gv_model.specs.Patterns.Patterns.{stop, next}

-- Kinds

same_code : (j k : Basic) → code j ≡ code k → j ≡ k
same_code boolean boolean e = refl
same_code byte byte e = refl
same_code int16 int16 e = refl
same_code uint16 uint16 e = refl
same_code int32 int32 e = refl
same_code uint32 uint32 e = refl
same_code int64 int64 e = refl
same_code uint64 uint64 e = refl
same_code handle handle e = refl
same_code double double e = refl
same_code string string e = refl
same_code path path e = refl
same_code signature signature e = refl
same_code _ _ e = absurd (omega arith)

number_held : (k : Basic) → holds numbers k ≡ true → Within numbers k
number_held boolean e = false≢true e
number_held string e = false≢true e
number_held path e = false≢true e
number_held signature e = false≢true e
number_held _ e = tt

text_held : (k : Basic) → holds texts k ≡ true → Within texts k
text_held string e = tt
text_held path e = tt
text_held signature e = tt
text_held _ e = false≢true e

in_holds : (s : BasicSet) (k : Basic) → holds s k ≡ true → Within s k
in_holds any k e = tt
in_holds numbers k e = number_held k e
in_holds texts k e = text_held k e
in_holds empty k e = false≢true e
in_holds (only j) k e = sym (same_code j k (eqb-true (code j) (code k) e))

number_holds : (k : Basic) → Within numbers k → holds numbers k ≡ true
number_holds boolean h = absurd h
number_holds string h = absurd h
number_holds path h = absurd h
number_holds signature h = absurd h
number_holds _ h = refl

text_holds : (k : Basic) → Within texts k → holds texts k ≡ true
text_holds string h = refl
text_holds path h = refl
text_holds signature h = refl
text_holds _ h = absurd h

holds_in : (s : BasicSet) (k : Basic) → Within s k → holds s k ≡ true
holds_in any k h = refl
holds_in numbers k h = number_holds k h
holds_in texts k h = text_holds k h
holds_in empty k h = absurd h
holds_in (only j) k h = eq-eqb (code j) (code k) (ap code (sym h))

only_both : (s : BasicSet) (j k : Basic) → Within (only_if (holds s j) j) k → (k ≡ j) × Within s k
only_both s j k = go (holds s j) refl
  where
    go : (b : Bool) → holds s j ≡ b → Within (only_if b j) k → (k ≡ j) × Within s k
    go true e h = (h, subst (λ (i : Basic). Within s i) (sym h) (in_holds s j e))
    go false e h = absurd h

only_join : (s : BasicSet) (j k : Basic) → k ≡ j → Within s k → Within (only_if (holds s j) j) k
only_join s j k e h = subst (λ (b : Bool). Within (only_if b j) k) (sym (holds_in s j (subst (λ (i : Basic). Within s i) e h))) e

swap : {A B : Type 0} → A × B → B × A
swap h = (h.1, h.0)

both_held : (k : Basic) → Within numbers k → Within texts k → ⊥
both_held string h g = h
both_held path h g = h
both_held signature h g = h
both_held _ h g = g

common_both : (s r : BasicSet) (k : Basic) → Within (common_set s r) k → Within s k × Within r k
common_both any r k h = (tt, h)
common_both (only j) any k h = (h, tt)
common_both (only j) numbers k h = only_both numbers j k h
common_both (only j) texts k h = only_both texts j k h
common_both (only j) empty k h = only_both empty j k h
common_both (only j) (only i) k h = only_both (only i) j k h
common_both numbers any k h = (h, tt)
common_both texts any k h = (h, tt)
common_both empty any k h = (h, tt)
common_both numbers (only j) k h = swap (only_both numbers j k h)
common_both texts (only j) k h = swap (only_both texts j k h)
common_both empty (only j) k h = swap (only_both empty j k h)
common_both numbers numbers k h = (h, h)
common_both texts texts k h = (h, h)
common_both _ _ k h = absurd h

common_join : (s r : BasicSet) (k : Basic) → Within s k → Within r k → Within (common_set s r) k
common_join any r k h g = g
common_join (only j) any k h g = h
common_join (only j) numbers k h g = only_join numbers j k h g
common_join (only j) texts k h g = only_join texts j k h g
common_join (only j) empty k h g = absurd g
common_join (only j) (only i) k h g = only_join (only i) j k h g
common_join numbers any k h g = h
common_join texts any k h g = h
common_join empty r k h g = absurd h
common_join numbers (only j) k h g = only_join numbers j k g h
common_join texts (only j) k h g = only_join texts j k g h
common_join numbers numbers k h g = h
common_join texts texts k h g = h
common_join numbers texts k h g = both_held k h g
common_join texts numbers k h g = both_held k g h
common_join numbers empty k h g = absurd g
common_join texts empty k h g = absurd g

-- Cores are no maybes

no_maybe : (c : Bare) (t : Ty) → InBare c (maybe t) → ⊥
no_maybe (basics s) t h = h
no_maybe a_variant t h = h
no_maybe (array_of p) t h = h
no_maybe (tuple_with ps) t h = h
no_maybe (entry_of s p) t h = h
no_maybe no_bare t h = h

pub bare_also : (c : Bare) (t : Ty) → InBare c t → AlsoMaybe (InBare c) t
bare_also c (maybe t) h = absurd (no_maybe c t h)
bare_also c (basic k) h = h
bare_also c variant h = h
bare_also c (array t) h = h
bare_also c (tuple ts) h = h
bare_also c (entry k t) h = h

also_both : (P Q R : Ty → Type 0) → ((t : Ty) → P t → Q t × R t) → (t : Ty) → AlsoMaybe P t → AlsoMaybe Q t × AlsoMaybe R t
also_both P Q R f (maybe t) h = also_both P Q R f t h
also_both P Q R f (basic k) h = f _ h
also_both P Q R f variant h = f _ h
also_both P Q R f (array t) h = f _ h
also_both P Q R f (tuple ts) h = f _ h
also_both P Q R f (entry k t) h = f _ h

also_join : (P Q R : Ty → Type 0) → ((t : Ty) → P t → Q t → R t) → (t : Ty) → AlsoMaybe P t → AlsoMaybe Q t → AlsoMaybe R t
also_join P Q R f (maybe t) h g = also_join P Q R f t h g
also_join P Q R f (basic k) h g = f _ h g
also_join P Q R f variant h g = f _ h g
also_join P Q R f (array t) h g = f _ h g
also_join P Q R f (tuple ts) h g = f _ h g
also_join P Q R f (entry k t) h g = f _ h g

-- with a core, and with types that are no maybes
bare_join : (c : Bare) (P R : Ty → Type 0) → ((t : Ty) → P t → InBare c t → R t) → (t : Ty) → AlsoMaybe P t → InBare c t → R t
bare_join c P R f (maybe t) h g = absurd (no_maybe c t g)
bare_join c P R f (basic k) h g = f _ h g
bare_join c P R f variant h g = f _ h g
bare_join c P R f (array t) h g = f _ h g
bare_join c P R f (tuple ts) h g = f _ h g
bare_join c P R f (entry k t) h g = f _ h g

abbrev Both : (Bare → Bare) → Bare → Type 0
Both f c = (d : Bare) (t : Ty) → InBare (f d) t → InBare c t × InBare d t

abbrev Join : (Bare → Bare) → Bare → Type 0
Join f c = (d : Bare) (t : Ty) → InBare c t → InBare d t → InBare (f d) t

both_under : (f : Bare → Bare) (c : Bare) → Both f c → (q : Pattern) (t : Ty) → In (under f c q) t → AlsoMaybe (InBare c) t × In q t
unfolding under
both_under f c hyp anything t h = (h, tt)
both_under f c hyp never t h = absurd h
both_under f c hyp (maybe_of p) (maybe t) h = both_under f c hyp p t h
both_under f c hyp (maybe_of p) _ h = absurd h
both_under f c hyp (strict d) t h = let both = hyp d t h in (bare_also c t both.0, both.1)
both_under f c hyp (loose d) t h = also_both (InBare (f d)) (InBare c) (InBare d) (hyp d) t h

join_under : (f : Bare → Bare) (c : Bare) → Join f c → (q : Pattern) (t : Ty) → AlsoMaybe (InBare c) t → In q t → In (under f c q) t
unfolding under
join_under f c hyp anything t h g = h
join_under f c hyp never t h g = absurd g
join_under f c hyp (maybe_of p) (maybe t) h g = join_under f c hyp p t h g
join_under f c hyp (maybe_of p) _ h g = absurd g
join_under f c hyp (strict d) t h g = bare_join d (InBare c) (InBare (f d)) (hyp d) t h g
join_under f c hyp (loose d) t h g = also_join (InBare c) (InBare d) (InBare (f d)) (hyp d) t h g

mutual
  unfolding common

  pub both : (p q : Pattern) (t : Ty) → In (common p q) t → In p t × In q t
  both anything q t h = (tt, h)
  both never q t h = absurd h
  both (maybe_of p) anything t h = (h, tt)
  both (maybe_of p) never t h = absurd h
  both (maybe_of p) (maybe_of q) (maybe t) h = both p q t h
  both (maybe_of p) (maybe_of q) _ h = absurd h
  both (maybe_of p) (strict d) t h = absurd h
  both (maybe_of p) (loose d) (maybe t) h = both p (loose d) t h
  both (maybe_of p) (loose d) _ h = absurd h
  both (strict c) anything t h = (h, tt)
  both (strict c) never t h = absurd h
  both (strict c) (maybe_of q) t h = absurd h
  both (strict c) (strict d) t h = both_bare c d t h
  both (strict c) (loose d) t h = let two = both_bare c d t h in (two.0, bare_also d t two.1)
  both (loose c) q t h = both_under (common_bare c) c (both_bare c) q t h

  pub both_bare : (c d : Bare) (t : Ty) → InBare (common_bare c d) t → InBare c t × InBare d t
  both_bare (basics s) (basics r) (basic k) h = common_both s r k h
  both_bare a_variant a_variant variant h = (tt, tt)
  both_bare (array_of p) (array_of q) (array t) h = both p q t h
  both_bare (tuple_with ps) (tuple_with qs) (tuple ts) h = both_each ps qs ts h
  both_bare (entry_of s p) (entry_of r q) (entry k t) h = (let e = common_both s r k h.0 in let v = both p q t h.1 in ((e.0, v.0), (e.1, v.1)))
  both_bare _ _ _ h = absurd h

  both_each : (ps qs : Patterns) (ts : Types) → AreIn (common_each ps qs) ts → AreIn ps ts × AreIn qs ts
  both_each stop stop end h = (tt, tt)
  both_each (next p ps) (next q qs) (member t ts) h = (let x = both p q t h.0 in let y = both_each ps qs ts h.1 in ((x.0, y.0), (x.1, y.1)))
  both_each stop (next q qs) (member t ts) h = absurd h.0
  both_each (next p ps) stop (member t ts) h = absurd h.0
  both_each _ _ _ h = absurd h

join_basics : (s : BasicSet) (d : Bare) (k : Basic) → Within s k → InBare d (basic k) → InBare (common_bare (basics s) d) (basic k)
unfolding common
join_basics s (basics r) k h g = common_join s r k h g
join_basics s _ k h g = absurd g

join_variant : (d : Bare) → InBare d variant → InBare (common_bare a_variant d) variant
unfolding common
join_variant a_variant g = tt
join_variant _ g = absurd g

join_array : (p : Pattern) (t : Ty) → ((q : Pattern) → In q t → In (common p q) t) → (d : Bare) → InBare d (array t) → InBare (common_bare (array_of p) d) (array t)
unfolding common
join_array p t f (array_of q) g = f q g
join_array p t f _ g = absurd g

join_tuple : (ps : Patterns) (ts : Types) → ((qs : Patterns) → AreIn qs ts → AreIn (common_each ps qs) ts) → (d : Bare) → InBare d (tuple ts) → InBare (common_bare (tuple_with ps) d) (tuple ts)
unfolding common
join_tuple ps ts f (tuple_with qs) g = f qs g
join_tuple ps ts f _ g = absurd g

join_entry : (s : BasicSet) (p : Pattern) (k : Basic) (t : Ty) → Within s k → ((q : Pattern) → In q t → In (common p q) t) → (d : Bare) → InBare d (entry k t) → InBare (common_bare (entry_of s p) d) (entry k t)
unfolding common
join_entry s p k t h f (entry_of r q) g = (common_join s r k h g.0, f q g.1)
join_entry s p k t h f _ g = absurd g

mutual
  unfolding common

  pub join : (p q : Pattern) (t : Ty) → In p t → In q t → In (common p q) t
  join anything q t h g = g
  join never q t h g = absurd h
  join (maybe_of p) anything t h g = h
  join (maybe_of p) never t h g = absurd g
  join (maybe_of p) (maybe_of q) (maybe t) h g = join p q t h g
  join (maybe_of p) (maybe_of q) _ h g = absurd h
  join (maybe_of p) (strict d) (maybe t) h g = absurd (no_maybe d t g)
  join (maybe_of p) (strict d) _ h g = absurd h
  join (maybe_of p) (loose d) (maybe t) h g = join p (loose d) t h g
  join (maybe_of p) (loose d) _ h g = absurd h
  join (strict c) anything t h g = h
  join (strict c) never t h g = absurd g
  join (strict c) (maybe_of q) (maybe t) h g = absurd (no_maybe c t h)
  join (strict c) (maybe_of q) _ h g = absurd g
  join (strict c) (strict d) t h g = join_bare c d t h g
  join (strict c) (loose d) t h g = bare_join c (InBare d) (InBare (common_bare c d)) (λ u x y. join_bare c d u y x) t g h
  join (loose c) q t h g = join_under (common_bare c) c (join_bare c) q t h g

  pub join_bare : (c d : Bare) (t : Ty) → InBare c t → InBare d t → InBare (common_bare c d) t
  join_bare (basics s) d (basic k) h g = join_basics s d k h g
  join_bare a_variant d variant h g = join_variant d g
  join_bare (array_of p) d (array t) h g = join_array p t (λ q. join p q t h) d g
  join_bare (tuple_with ps) d (tuple ts) h g = join_tuple ps ts (λ qs. join_each ps qs ts h) d g
  join_bare (entry_of s p) d (entry k t) h g = join_entry s p k t h.0 (λ q. join p q t h.1) d g
  join_bare _ d _ h g = absurd h

  join_each : (ps qs : Patterns) (ts : Types) → AreIn ps ts → AreIn qs ts → AreIn (common_each ps qs) ts
  join_each stop stop end h g = tt
  join_each (next p ps) (next q qs) (member t ts) h g = (join p q t h.0 g.0, join_each ps qs ts h.1 g.1)
  join_each stop qs (member t ts) h g = absurd h
  join_each (next p ps) qs end h g = absurd h
  join_each stop (next q qs) end h g = absurd g
  join_each (next p ps) stop (member t ts) h g = absurd g
