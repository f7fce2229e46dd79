-- The order of types is an order, so a syntax tree has one choice.
use Rattle.std.proofs.Common.{◌≡◌, refl, sym, ap, ◌∙◌, subst}
use mathlib.Core.Logic.{inl, inr}
use Rattle.gv_model.specs.Ty.{Ty, Types, Basic}
use Rattle.gv_model.specs.Ty.Ty.{basic, variant, array, maybe, tuple, entry}
use Rattle.gv_model.specs.Ty.Types.{end, member}
use Rattle.gv_model.specs.Ty.Basic.{int32, string}
use Rattle.gv_model.specs.Syntax.{Syntax}
use Rattle.gv_model.specs.Admits.{IsNumberType, IsTextType, IsMaybeOf}
use Rattle.gv_model.specs.Order.{Below, AreBelow, BasicBelow}
use Rattle.gv_model.specs.Chosen.{Choice, Chooses, Chosen}
use Rattle.gv_model.specs.Chosen.Choice.{is, no_common_type, ambiguous}
use Rattle.gv_model.proofs.LeastTypeLaws.{basic_below_refl, maybe_back}

int32_same : (k : Basic) → BasicBelow int32 k → BasicBelow k int32 → int32 ≡ k
int32_same int32 h g = refl
int32_same string h g = absurd g
int32_same _ h g = sym g

string_same : (k : Basic) → BasicBelow string k → BasicBelow k string → string ≡ k
string_same string h g = refl
string_same int32 h g = absurd g
string_same _ h g = sym g

basic_same : (j k : Basic) → BasicBelow j k → BasicBelow k j → j ≡ k
basic_same int32 k h g = int32_same k h g
basic_same string k h g = string_same k h g
basic_same _ k h g = h

mutual
  pub below_same : (t u : Ty) → Below t u → Below u t → t ≡ u
  below_same (basic j) (basic k) h g = ap basic (basic_same j k h g)
  below_same variant variant h g = refl
  below_same (array t) (array u) h g = ap array (below_same t u h g)
  below_same (maybe t) (maybe u) h g = ap maybe (below_same t u (maybe_back t u h) (maybe_back u t g))
  below_same (tuple ts) (tuple us) h g = ap tuple (each_same ts us h g)
  below_same (entry j t) (entry k u) h g = ap (λ i. entry i t) (basic_same j k h.0 g.0) ∙ ap (entry k) (below_same t u h.1 g.1)
  below_same _ (maybe u) h g = absurd g
  below_same _ _ h g = absurd h

  each_same : (ts us : Types) → AreBelow ts us → AreBelow us ts → ts ≡ us
  each_same end end h g = refl
  each_same (member t ts) (member u us) h g = ap (λ s. member s ts) (below_same t u h.0 g.0) ∙ ap (member u) (each_same ts us h.1 g.1)
  each_same _ _ h g = absurd h

-- each is below itself
mutual
  pub below_itself : (t : Ty) → Below t t
  below_itself (basic k) = basic_below_refl k
  below_itself variant = tt
  below_itself (array t) = below_itself t
  below_itself (maybe t) = inr (below_itself t)
  below_itself (tuple ts) = each_below_itself ts
  below_itself (entry k t) = (basic_below_refl k, below_itself t)

  each_below_itself : (ts : Types) → AreBelow ts ts
  each_below_itself end = tt
  each_below_itself (member t ts) = (below_itself t, each_below_itself ts)

-- what is below one that is below a third is below the third
basic_below_third : (i j k : Basic) → BasicBelow i j → BasicBelow j k → BasicBelow i k
basic_below_third int32 int32 k h g = g
basic_below_third int32 string k h g = absurd h
basic_below_third int32 _ k h g = subst (λ (b : Basic). IsNumberType (basic b)) g h
basic_below_third string string k h g = g
basic_below_third string int32 k h g = absurd h
basic_below_third string _ k h g = subst (λ (b : Basic). IsTextType (basic b)) g h
basic_below_third _ j k h g = subst (λ (b : Basic). BasicBelow b k) (sym h) g

inside_too : (P Q : Ty → Type 0) → ((s : Ty) → P s → Q s) → (t : Ty) → IsMaybeOf P t → IsMaybeOf Q t
inside_too P Q f (maybe t) h = f t h
inside_too P Q f _ h = absurd h

mutual
  pub below_third : (s t u : Ty) → Below s t → Below t u → Below s u
  below_third s t (maybe u) h (inl g) = inl (below_third s t u h g)
  below_third s (maybe t) (maybe u) (inl h) (inr g) = inl (below_third s t u h g)
  below_third s (maybe t) (maybe u) (inr h) (inr g) = inr (inside_too (λ v. Below v t) (λ v. Below v u) (λ v q. below_third v t u q g) s h)
  below_third s _ (maybe u) h (inr g) = absurd g
  below_third (basic i) (basic j) (basic k) h g = basic_below_third i j k h g
  below_third _ (basic j) (basic k) h g = absurd h
  below_third variant variant variant h g = tt
  below_third _ variant variant h g = absurd h
  below_third (array s) (array t) (array u) h g = below_third s t u h g
  below_third _ (array t) (array u) h g = absurd h
  below_third (tuple ss) (tuple ts) (tuple us) h g = each_below_third ss ts us h g
  below_third _ (tuple ts) (tuple us) h g = absurd h
  below_third (entry i s) (entry j t) (entry k u) h g = (basic_below_third i j k h.0 g.0, below_third s t u h.1 g.1)
  below_third _ (entry j t) (entry k u) h g = absurd h
  below_third _ _ _ h g = absurd g

  each_below_third : (ss ts us : Types) → AreBelow ss ts → AreBelow ts us → AreBelow ss us
  each_below_third end end end h g = tt
  each_below_third (member s ss) (member t ts) (member u us) h g = (below_third s t u h.0 g.0, each_below_third ss ts us h.1 g.1)
  each_below_third _ end end h g = absurd h
  each_below_third _ (member t ts) (member u us) h g = absurd h
  each_below_third _ _ _ h g = absurd g

-- the least type is one alone
pub one_chosen : (x : Syntax) (t u : Ty) → Chosen x t → Chosen x u → t ≡ u
one_chosen x t u h g = below_same t u (h.least u g.among) (g.least t h.among)

-- so is the choice
pub one_choice : (x : Syntax) (c d : Choice) → Chooses x c → Chooses x d → c ≡ d
one_choice x (is t) (is u) h g = ap is (below_same t u (h.least u g.among) (g.least t h.among))
one_choice x (is t) no_common_type h g = absurd (g t h.among)
one_choice x (is t) ambiguous h g = absurd (g.1 t h)
one_choice x no_common_type (is u) h g = absurd (h u g.among)
one_choice x no_common_type no_common_type h g = refl
one_choice x no_common_type ambiguous h g = absurd (h g.0.0 g.0.1)
one_choice x ambiguous (is u) h g = absurd (h.1 u g)
one_choice x ambiguous no_common_type h g = absurd (g h.0.0 h.0.1)
one_choice x ambiguous ambiguous h g = refl
