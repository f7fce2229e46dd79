-- A printed value's syntax admits the value's type. Where it is annotated, every type that it
-- admits is above that one.
use Rattle.std.proofs.Common.{◌≡◌, ◌≤◌, ℕ, Bool, true, false, cond, List, Option, Some, None, refl, sym, subst}
use Rattle.std.proofs.lemmas.Bool.{true≢false}
use mathlib.Core.Logic.{inl}
use Rattle.std.specs.Prelude.{◌==◌, ◌&&◌, ℤ, pos, negsuc}
use Rattle.gv_model.specs.Ty.{Ty, Types, Basic, members, nesting}
use Rattle.gv_model.specs.Ty.Ty.{basic, variant, array, maybe, tuple, entry}
use Rattle.gv_model.specs.Ty.Types.{end, member}
use Rattle.gv_model.specs.Ty.Basic.{boolean, byte, int16, int32, int64, handle, double, string, path, signature}
use Rattle.gv_model.specs.Tree.{Tree, Trees, type_of}
use Rattle.gv_model.specs.Tree.Tree.{number, text, node}
use Rattle.gv_model.specs.Tree.Trees.{none as no_tree, first as first_tree}
use Rattle.gv_model.specs.BasicValue.{text_in}
use Rattle.gv_model.specs.Typed.{types_of, AllOf}
use Rattle.gv_model.specs.Printed.{numbers, is_empty, ends_in_nothing, is_double_type}
use Rattle.gv_model.specs.Syntax.{Syntax, Syntaxes, Pairs}
use Rattle.gv_model.specs.Syntax.Syntax.{truth, integer, quoted, bytes, list, tuple_of, dictionary, lone, boxed, just, nothing, at_type, keyword}
use Rattle.gv_model.specs.Syntax.Syntaxes.{none, first}
use Rattle.gv_model.specs.Admits.{Admits, AllAdmit, Admit, KeysAdmit, ValuesAdmit, AlsoMaybe, IsNumberType, IsTextType, IsArrayOf, IsTupleOf, IsEntryOf}
use Rattle.gv_model.specs.Order.{Below, AreBelow}
use Rattle.gv_model.specs.Chosen.{Chosen}
use Rattle.gv_model.proofs.TypeOrder.{below_itself}
use Rattle.gv_model.proofs.PrintedSyntax.{marked, with_word, signed_syntax, figures_syntax, pairs_from, bytes_or_list, list_syntax, with_just, entry_syntax, syntax_of, syntaxes_of, Printable, ArePrintable}

-- ---- syntax that admits maybes of each type that it admits

abbrev pub IsLoose : Syntax → Type 0
IsLoose (just x) = ⊥
IsLoose nothing = ⊥
IsLoose (at_type t x) = ⊥
IsLoose (keyword k x) = ⊥
IsLoose _ = Unit {0}

loose_admits : (x : Syntax) (t : Ty) → IsLoose x → Admits x t → Admits x (maybe t)
loose_admits (truth b) t l h = h
loose_admits (integer b n) t l h = h
loose_admits (quoted s) t l h = h
loose_admits (bytes s) t l h = h
loose_admits (list xs) t l h = h
loose_admits (tuple_of xs) t l h = h
loose_admits (dictionary ps) t l h = h
loose_admits (lone k v) t l h = h
loose_admits (boxed x) t l h = h
loose_admits (just x) t l h = absurd l
loose_admits nothing t l h = absurd l
loose_admits (at_type u x) t l h = absurd l
loose_admits (keyword k x) t l h = absurd l

truth_loose : (b : Bool) → IsLoose (cond b (truth false) (truth true))
truth_loose true = tt
truth_loose false = tt

signed_loose : (z : ℤ) → IsLoose (signed_syntax z)
signed_loose (pos n) = tt
signed_loose (negsuc n) = tt

figures_loose : (k : Basic) (n : ℕ) → is_double_type k ≡ false → IsLoose (figures_syntax k n)
figures_loose boolean n e = truth_loose (n == 0)
figures_loose int16 n e = signed_loose _
figures_loose int32 n e = signed_loose _
figures_loose handle n e = signed_loose _
figures_loose int64 n e = signed_loose _
figures_loose double n e = absurd (true≢false e)
figures_loose _ n e = tt

bytes_loose : (o : Option (List ℕ)) (xs : Syntaxes) → IsLoose (bytes_or_list o xs)
bytes_loose None xs = tt
bytes_loose (Some s) xs = tt

list_loose : (t : Ty) (vs : Trees) (xs : Syntaxes) → IsLoose (list_syntax t vs xs)
list_loose (entry k t) vs xs = tt
list_loose (basic byte) vs xs = bytes_loose (text_in (numbers vs)) xs
list_loose _ vs xs = tt

-- an entry's two children
abbrev pub IsLone : Syntax → Type 0
IsLone (lone k v) = Unit {0}
IsLone _ = ⊥

abbrev pub AreLone : Syntaxes → Type 0
AreLone none = Unit {0}
AreLone (first x xs) = IsLone x × AreLone xs

lone_loose : (x : Syntax) → IsLone x → IsLoose x
lone_loose (lone k v) h = tt
lone_loose _ h = absurd h

pub entry_lone : (k : Basic) (t : Ty) (vs : Trees) (a : Bool) → types_of vs ≡ members (entry k t) → IsLone (entry_syntax (syntaxes_of vs a a))
unfolding syntax_of
entry_lone k t no_tree a e = absurd (cc)
entry_lone k t (first_tree u no_tree) a e = absurd (cc)
entry_lone k t (first_tree u (first_tree v no_tree)) a e = tt
entry_lone k t (first_tree u (first_tree v (first_tree w vs))) a e = absurd (cc)

with_just_loose : (b : Bool) (x : Syntax) → b ≡ false → IsLoose x → IsLoose (with_just b x)
with_just_loose true x e h = absurd (true≢false e)
with_just_loose false x e h = h

pub loose_of : (v : Tree) → Printable v → ends_in_nothing v ≡ false → IsLoose (syntax_of v false)
unfolding syntax_of
loose_of (number k n) p e = figures_loose k n p.1
loose_of (text k s) p e = tt
loose_of (node (basic k) vs) p e = absurd p.0
loose_of (node variant vs) p e = tt
loose_of (node (array t) vs) p e = list_loose t vs (syntaxes_of vs false false)
loose_of (node (maybe t) no_tree) p e = absurd (true≢false e)
loose_of (node (maybe t) (first_tree v vs)) p e = with_just_loose (ends_in_nothing v) (syntax_of v false) e (loose_of v p.2.0 e)
loose_of (node (tuple ts) vs) p e = tt
loose_of (node (entry k t) vs) p e = lone_loose _ (entry_lone k t vs false p.0)

-- ---- each admits its type

word_admits : (k : Basic) (x : Syntax) (a : Bool) → Admits x (basic k) → Admits (marked a (with_word k) x) (basic k)
word_admits k x false h = h
word_admits boolean x true h = h
word_admits int32 x true h = h
word_admits double x true h = h
word_admits string x true h = h
word_admits _ x true h = (refl, h)

mark_admits : (t : Ty) (x : Syntax) (a : Bool) → Admits x t → Admits (marked a (at_type t) x) t
mark_admits t x true h = (refl, h)
mark_admits t x false h = h

truth_admits : (b : Bool) → Admits (cond b (truth false) (truth true)) (basic boolean)
truth_admits true = refl
truth_admits false = refl

signed_admits : (z : ℤ) (k : Basic) → IsNumberType (basic k) → Admits (signed_syntax z) (basic k)
signed_admits (pos n) k h = h
signed_admits (negsuc n) k h = h

-- the types of numbers
abbrev IsNumberBasic : Basic → Type 0
IsNumberBasic boolean = Unit {0}
IsNumberBasic k = IsNumberType (basic k)

figures_admits : (k : Basic) (n : ℕ) → IsNumberBasic k → is_double_type k ≡ false → Admits (figures_syntax k n) (basic k)
figures_admits boolean n h e = truth_admits (n == 0)
figures_admits int16 n h e = signed_admits _ int16 tt
figures_admits int32 n h e = signed_admits _ int32 tt
figures_admits handle n h e = signed_admits _ handle tt
figures_admits int64 n h e = signed_admits _ int64 tt
figures_admits double n h e = absurd (true≢false e)
figures_admits string n h e = absurd h
figures_admits path n h e = absurd h
figures_admits signature n h e = absurd h
figures_admits _ n h e = tt

lone_admits : (x : Syntax) (xs : Syntaxes) (k : Basic) (t : Ty) → IsLone x → Admits x (entry k t) → KeysAdmit (pairs_from xs) (basic k) × ValuesAdmit (pairs_from xs) t
    → KeysAdmit (pairs_from (first x xs)) (basic k) × ValuesAdmit (pairs_from (first x xs)) t
lone_admits (lone j v) xs k t l h g = ((h.0, g.0), (h.1, g.1))
lone_admits _ xs k t l h g = absurd l

pairs_admit : (xs : Syntaxes) (k : Basic) (t : Ty) → AreLone xs → AllAdmit xs (entry k t) → KeysAdmit (pairs_from xs) (basic k) × ValuesAdmit (pairs_from xs) t
pairs_admit none k t l h = (tt, tt)
pairs_admit (first x xs) k t l h = lone_admits x xs k t l.0 h.0 (pairs_admit xs k t l.1 h.1)

bytes_admit : (o : Option (List ℕ)) (xs : Syntaxes) → AllAdmit xs (basic byte) → Admits (bytes_or_list o xs) (array (basic byte))
bytes_admit None xs h = h
bytes_admit (Some s) xs h = refl

-- the elements of an array of entries are entries
abbrev pub ElementsFit : Ty → Syntaxes → Type 0
ElementsFit (entry k t) xs = AreLone xs
ElementsFit t xs = Unit {0}

list_admits : (t : Ty) (vs : Trees) (xs : Syntaxes) → ElementsFit t xs → AllAdmit xs t → Admits (list_syntax t vs xs) (array t)
list_admits (entry k t) vs xs l h = pairs_admit xs k t l h
list_admits (basic byte) vs xs l h = bytes_admit (text_in (numbers vs)) xs h
list_admits _ vs xs l h = h

lone_of : (v : Tree) (k : Basic) (t : Ty) (a : Bool) → Printable v → type_of v ≡ entry k t → IsLone (syntax_of v a)
unfolding syntax_of
lone_of (number j n) k t a p e = absurd (cc)
lone_of (text j s) k t a p e = absurd (cc)
lone_of (node (entry j u) vs) k t a p e = entry_lone j u vs a p.0
lone_of (node _ vs) k t a p e = absurd (cc)

all_lone : (vs : Trees) (k : Basic) (t : Ty) (a r : Bool) → ArePrintable vs → AllOf (entry k t) vs → AreLone (syntaxes_of vs a r)
unfolding syntax_of
all_lone no_tree k t a r p e = tt
all_lone (first_tree v vs) k t a r p e = (lone_of v k t a p.0 e.0, all_lone vs k t r r p.1 e.1)

pub elements_fit : (t : Ty) (vs : Trees) (a r : Bool) → ArePrintable vs → AllOf t vs → ElementsFit t (syntaxes_of vs a r)
elements_fit (entry k t) vs a r p e = all_lone vs k t a r p e
elements_fit _ vs a r p e = tt

entry_admits : (xs : Syntaxes) (k : Basic) (t : Ty) → Admit xs (members (entry k t)) → Admits (entry_syntax xs) (entry k t)
entry_admits none k t h = absurd h
entry_admits (first x none) k t h = absurd h.1
entry_admits (first x (first y none)) k t h = (h.0, h.1.0)
entry_admits (first x (first y (first z zs))) k t h = absurd h.1.1

all_admit : (vs : Trees) (t : Ty) (a r : Bool) → AllOf t vs → Admit (syntaxes_of vs a r) (types_of vs) → AllAdmit (syntaxes_of vs a r) t
unfolding syntax_of
all_admit no_tree t a r e h = tt
all_admit (first_tree v vs) t a r e h = (subst (λ (u : Ty). Admits (syntax_of v a) u) e.0 h.0, all_admit vs t r r e.1 h.1)

maybe_admits : (v : Tree) (t : Ty) (b : Bool) → Printable v → ends_in_nothing v ≡ b → Admits (syntax_of v false) t → Admits (with_just b (syntax_of v false)) (maybe t)
maybe_admits v t true p e h = h
maybe_admits v t false p e h = loose_admits (syntax_of v false) t (loose_of v p e) h

number_kind : (k : Basic) (n : ℕ) → Printable (number k n) → IsNumberBasic k
number_kind string n p = absurd p.0
number_kind path n p = absurd p.0
number_kind signature n p = absurd p.0
number_kind _ n p = tt

mutual
  unfolding syntax_of

  pub admits_of : (v : Tree) (a : Bool) → Printable v → Admits (syntax_of v a) (type_of v)
  admits_of (number k n) a p = word_admits k (figures_syntax k n) a (figures_admits k n (number_kind k n p) p.1)
  admits_of (text k s) a p = word_admits k (quoted s) a p.0
  admits_of (node (basic k) vs) a p = absurd p.0
  admits_of (node variant vs) a p = refl
  admits_of (node (array t) vs) a p =
      mark_admits (array t) _ (a && is_empty vs) (list_admits t vs (syntaxes_of vs a false) (elements_fit t vs a false p.2 p.0) (all_admit vs t a false p.0 (admit_each vs a false p.2)))
  admits_of (node (maybe t) no_tree) a p = mark_admits (maybe t) nothing a tt
  admits_of (node (maybe t) (first_tree v no_tree)) a p =
      mark_admits (maybe t) _ a (maybe_admits v t (ends_in_nothing v) p.2.0 refl (subst (λ (u : Ty). Admits (syntax_of v false) u) p.0 (admits_of v false p.2.0)))
  admits_of (node (maybe t) (first_tree v (first_tree w vs))) a p = absurd p.0
  admits_of (node (tuple ts) vs) a p = subst (λ (us : Types). Admit (syntaxes_of vs a a) us) p.0 (admit_each vs a a p.2)
  admits_of (node (entry k t) vs) a p = entry_admits (syntaxes_of vs a a) k t (subst (λ (us : Types). Admit (syntaxes_of vs a a) us) p.0 (admit_each vs a a p.2))

  admit_each : (vs : Trees) (a r : Bool) → ArePrintable vs → Admit (syntaxes_of vs a r) (types_of vs)
  admit_each no_tree a r p = tt
  admit_each (first_tree v vs) a r p = (admits_of v a p.0, admit_each vs r r p.1)

-- ---- and no lower one, where it is annotated

under_maybes : (P : Ty → Type 0) (t : Ty) → ((u : Ty) → P u → Below t u) → (u : Ty) → AlsoMaybe P u → Below t u
under_maybes P t f (maybe u) h = inl (under_maybes P t f u h)
under_maybes P t f (basic k) h = f (basic k) h
under_maybes P t f variant h = f variant h
under_maybes P t f (array u) h = f (array u) h
under_maybes P t f (tuple us) h = f (tuple us) h
under_maybes P t f (entry k u) h = f (entry k u) h

below_same_as : (t u : Ty) → u ≡ t → Below t u
below_same_as t u e = subst (λ (s : Ty). Below t s) (sym e) (below_itself t)

number_below : (u : Ty) → IsNumberType u → Below (basic int32) u
number_below (basic k) h = h
number_below _ h = absurd h

text_below : (u : Ty) → IsTextType u → Below (basic string) u
text_below (basic k) h = h
text_below _ h = absurd h

truth_least : (b : Bool) (u : Ty) → Admits (cond b (truth false) (truth true)) u → Below (basic boolean) u
truth_least true u h = under_maybes (λ s. s ≡ basic boolean) (basic boolean) (below_same_as (basic boolean)) u h
truth_least false u h = under_maybes (λ s. s ≡ basic boolean) (basic boolean) (below_same_as (basic boolean)) u h

signed_least : (z : ℤ) (u : Ty) → Admits (signed_syntax z) u → Below (basic int32) u
signed_least (pos n) u h = under_maybes IsNumberType (basic int32) number_below u h
signed_least (negsuc n) u h = under_maybes IsNumberType (basic int32) number_below u h

number_least : (k : Basic) (n : ℕ) (u : Ty) → IsNumberBasic k → is_double_type k ≡ false → Admits (with_word k (figures_syntax k n)) u → Below (basic k) u
number_least boolean n u i e h = truth_least (n == 0) u h
number_least int32 n u i e h = signed_least _ u h
number_least double n u i e h = absurd (true≢false e)
number_least string n u i e h = absurd i
number_least k n u i e h = below_same_as (basic k) u h.0

text_least : (k : Basic) (s : List ℕ) (u : Ty) → IsTextType (basic k) → Admits (with_word k (quoted s)) u → Below (basic k) u
text_least string s u t h = under_maybes IsTextType (basic string) text_below u h
text_least path s u t h = below_same_as (basic path) u h.0
text_least signature s u t h = below_same_as (basic signature) u h.0
text_least _ s u t h = absurd t

list_below : (xs : Syntaxes) (t : Ty) → ((u : Ty) → AllAdmit xs u → Below t u) → (u : Ty) → IsArrayOf (AllAdmit xs) u → Below (array t) u
list_below xs t f (array u) h = f u h
list_below xs t f _ h = absurd h

dictionary_below : (ps : Pairs) (t : Ty) → ((u : Ty) → IsEntryOf (KeysAdmit ps) (ValuesAdmit ps) u → Below t u) → (u : Ty) → IsArrayOf (IsEntryOf (KeysAdmit ps) (ValuesAdmit ps)) u → Below (array t) u
dictionary_below ps t f (array u) h = f u h
dictionary_below ps t f _ h = absurd h

first_pair : (x : Syntax) (xs : Syntaxes) (u : Ty) → IsLone x → IsEntryOf (KeysAdmit (pairs_from (first x xs))) (ValuesAdmit (pairs_from (first x xs))) u → Admits x u
first_pair (lone k v) xs (entry j u) l h = (h.0.0, h.1.0)
first_pair (lone k v) xs (maybe u) l h = absurd h
first_pair (lone k v) xs (basic j) l h = absurd h
first_pair (lone k v) xs variant l h = absurd h
first_pair (lone k v) xs (array u) l h = absurd h
first_pair (lone k v) xs (tuple us) l h = absurd h
first_pair _ xs u l h = absurd l

bytes_least : (o : Option (List ℕ)) (x : Syntax) (xs : Syntaxes) → ((u : Ty) → Admits x u → Below (basic byte) u) → (u : Ty) → Admits (bytes_or_list o (first x xs)) u → Below (array (basic byte)) u
bytes_least None x xs f u h = under_maybes (IsArrayOf (AllAdmit (first x xs))) (array (basic byte)) (list_below (first x xs) (basic byte) (λ s i. f s i.0)) u h
bytes_least (Some b) x xs f u h = under_maybes (λ s. s ≡ array (basic byte)) (array (basic byte)) (below_same_as (array (basic byte))) u h

-- the first element alone decides
list_least : (t : Ty) (vs : Trees) (x : Syntax) (xs : Syntaxes) → ElementsFit t (first x xs) → ((u : Ty) → Admits x u → Below t u) → (u : Ty) → Admits (list_syntax t vs (first x xs)) u → Below (array t) u
list_least (entry k t) vs x xs l f u h =
    under_maybes (IsArrayOf (IsEntryOf (KeysAdmit (pairs_from (first x xs))) (ValuesAdmit (pairs_from (first x xs))))) (array (entry k t))
    (dictionary_below (pairs_from (first x xs)) (entry k t) (λ s i. f s (first_pair x xs s l.0 i))) u h
list_least (basic byte) vs x xs l f u h = bytes_least (text_in (numbers vs)) x xs f u h
list_least t vs x xs l f u h = under_maybes (IsArrayOf (AllAdmit (first x xs))) (array t) (list_below (first x xs) t (λ s i. f s i.0)) u h

tuple_below : (xs : Syntaxes) (ts : Types) → ((us : Types) → Admit xs us → AreBelow ts us) → (u : Ty) → IsTupleOf (Admit xs) u → Below (tuple ts) u
tuple_below xs ts f (tuple us) h = f us h
tuple_below xs ts f _ h = absurd h

lone_below : (x y : Syntax) (k : Basic) (t : Ty) → ((us : Types) → Admit (first x (first y none)) us → AreBelow (members (entry k t)) us) → (u : Ty) → IsEntryOf (Admits x) (Admits y) u → Below (entry k t) u
lone_below x y k t f (entry j u) h = let g = f (members (entry j u)) (h.0, (h.1, tt)) in (g.0, g.1.0)
lone_below x y k t f _ h = absurd h

entry_least : (xs : Syntaxes) (k : Basic) (t : Ty) → IsLone (entry_syntax xs) → ((us : Types) → Admit xs us → AreBelow (members (entry k t)) us) → (u : Ty) → Admits (entry_syntax xs) u → Below (entry k t) u
entry_least (first x (first y none)) k t l f u h = under_maybes (IsEntryOf (Admits x) (Admits y)) (entry k t) (lone_below x y k t f) u h
entry_least none k t l f u h = absurd l
entry_least (first x none) k t l f u h = absurd l
entry_least (first x (first y (first z zs))) k t l f u h = absurd l

mutual
  unfolding syntax_of

  least_of : (v : Tree) → Printable v → (u : Ty) → Admits (syntax_of v true) u → Below (type_of v) u
  least_of (number k n) p u h = number_least k n u (number_kind k n p) p.1 h
  least_of (text k s) p u h = text_least k s u p.0 h
  least_of (node (basic k) vs) p u h = absurd p.0
  least_of (node variant vs) p u h = under_maybes (λ s. s ≡ variant) variant (below_same_as variant) u h
  least_of (node (array t) no_tree) p u h = below_same_as (array t) u h.0
  least_of (node (array t) (first_tree v vs)) p u h =
      list_least t (first_tree v vs) (syntax_of v true) (syntaxes_of vs false false) (elements_fit t (first_tree v vs) true false p.2 p.0)
      (λ s i. subst (λ (r : Ty). Below r s) p.0.0 (least_of v p.2.0 s i)) u h
  least_of (node (maybe t) vs) p u h = below_same_as (maybe t) u h.0
  least_of (node (tuple ts) vs) p u h =
      under_maybes (IsTupleOf (Admit (syntaxes_of vs true true))) (tuple ts) (tuple_below (syntaxes_of vs true true) ts (λ us i. subst (λ (rs : Types). AreBelow rs us) p.0 (leasts_of vs p.2 us i))) u h
  least_of (node (entry k t) vs) p u h =
      entry_least (syntaxes_of vs true true) k t (entry_lone k t vs true p.0) (λ us i. subst (λ (rs : Types). AreBelow rs us) p.0 (leasts_of vs p.2 us i)) u h

  leasts_of : (vs : Trees) → ArePrintable vs → (us : Types) → Admit (syntaxes_of vs true true) us → AreBelow (types_of vs) us
  leasts_of no_tree p end h = tt
  leasts_of no_tree p (member u us) h = absurd h
  leasts_of (first_tree v vs) p end h = absurd h
  leasts_of (first_tree v vs) p (member u us) h = (least_of v p.0 u h.0, leasts_of vs p.1 us h.1)

-- a printed value's type is the one that is chosen
pub chosen_of : (v : Tree) → Printable v → nesting (type_of v) ≤ 128 → Chosen (syntax_of v true) (type_of v)
chosen_of v p n = record { among = record { admits = admits_of v true p; shallow = n }; least = λ u m. least_of v p u m.admits }
