-- The value of syntax whose strings and byte strings are good is a value of its type.
use Rattle.std.specs.Prelude.{◌≡◌, ◌<◌, ◌≤◌, ◌^◌, ◌-◌, ◌==◌, ℕ, Bool, true, false, cond, nat_le, nat_lt, List, [], ◌∷◌, Option, Some, None, Result, Ok, Err, refl}
use Rattle.std.proofs.Common.{ap, sym, subst, arith, ltb-true}
use Rattle.std.proofs.lemmas.Bool.{eqb-false}
use Rattle.dconf_model.proofs.ParentLaws.{by_bool}
use Rattle.std.specs.List.{AllByRecursion}
use Rattle.std.specs.Str.{is_utf8}
use Rattle.gv_model.specs.Ty.{Ty, Types, Basic}
use Rattle.gv_model.specs.Ty.Ty.{basic, variant, array, maybe, tuple, entry}
use Rattle.gv_model.specs.Ty.Types.{end, member}
use Rattle.gv_model.specs.Ty.Basic.{boolean, byte, int16, uint16, int32, uint32, int64, uint64, handle, double, string, path, signature}
use Rattle.gv_model.specs.TypeText.{IsWithinLimits}
use Rattle.gv_model.specs.Tree.{Tree, Trees, type_of, depth}
use Rattle.gv_model.specs.Tree.Tree.{number, text}
use Rattle.gv_model.specs.Tree.Trees.{none as no_tree}
use Rattle.gv_model.specs.Typed.{IsValue, AreValues, MayHold, AllOf, types_of, IsNumber, IsTextOf}
use Rattle.gv_model.specs.Texts.{is_object_path, is_signature}
use Rattle.gv_model.specs.Syntax.{Syntax, Syntaxes, Pairs}
use Rattle.gv_model.specs.Syntax.Syntax.{truth, integer, quoted, bytes, list, tuple_of, dictionary, lone, boxed, just, nothing, at_type, keyword}
use Rattle.gv_model.specs.Syntax.Syntaxes.{none, first}
use Rattle.gv_model.specs.Syntax.Pairs.{no_pair, pair}
use Rattle.gv_model.specs.Chosen.{Choice, Chooses}
use Rattle.gv_model.specs.Chosen.Choice.{is, no_common_type, ambiguous}
use Rattle.gv_model.specs.Admits.{Admits, AllAdmit, Admit, KeysAdmit, ValuesAdmit, AlsoMaybe, IsNumberType, IsTextType, IsArrayOf, IsTupleOf, IsEntryOf, IsMaybeOf}
use Rattle.gv_model.specs.Literals.{ValueFault, integer_at, or_out_of_range, number_bits, text_at, byte_string_trees}
use Rattle.gv_model.specs.Literals.ValueFault.{bad_object_path, bad_signature, no_common, not_clear, too_deep}
use Rattle.gv_model.specs.TextValues.{literal_value, at_maybes, at_basic, at_array, at_tuple, at_entry, at_maybe, in_node, only_one, at_variant, with_first, elements, members_of, entries, chosen_or, within_depth, value_of, type_of_syntax, contents}
use Rattle.gv_model.specs.LeastTypes.{choice}
use Rattle.gv_model.proofs.PatternLaws.{choice_right}
use Rattle.dconf_model.specs.Stores.{IsLimitedValue}
use Rattle.gv_model.proofs.PatternLaws.{admits_chosen}
use Rattle.dconf_model.proofs.ValueLaws.{last_is}

abbrev Good : Result Tree ValueFault → Ty → Type 0
Good (Ok v) t = (type_of v ≡ t) × IsValue v
Good (Err e) t = Unit {0}

abbrev GoodAll : (Trees → Type 0) → Result Trees ValueFault → Type 0
GoodAll P (Ok vs) = P vs × AreValues vs
GoodAll P (Err e) = Unit {0}

in_good_node : (t : Ty) (r : Result Trees ValueFault) → GoodAll (MayHold t) r → Good (in_node t r) t
in_good_node t (Ok vs) h = (refl, h)
in_good_node t (Err e) h = tt

just_good : (t : Ty) (r : Result Tree ValueFault) → Good r t → GoodAll (MayHold (maybe t)) (only_one r)
just_good t (Ok v) h = (h.0, (h.1, tt))
just_good t (Err e) h = tt

maybes_good : (P : Ty → Type 0) (f : Ty → Result Tree ValueFault) → ((t : Ty) → P t → Good (f t) t) → (t : Ty) → AlsoMaybe P t → Good (at_maybes f t) t
maybes_good P f h (maybe t) p = in_good_node (maybe t) (only_one (at_maybes f t)) (just_good t (at_maybes f t) (maybes_good P f h t p))
maybes_good P f h (basic k) p = h (basic k) p
maybes_good P f h variant p = h variant p
maybes_good P f h (array t) p = h (array t) p
maybes_good P f h (tuple ts) p = h (tuple ts) p
maybes_good P f h (entry k t) p = h (entry k t) p

all_first : (t : Ty) (r : Result Tree ValueFault) (rs : Result Trees ValueFault) → Good r t → GoodAll (AllOf t) rs → GoodAll (AllOf t) (with_first r rs)
all_first t (Err e) rs h k = tt
all_first t (Ok v) (Err e) h k = tt
all_first t (Ok v) (Ok vs) h k = ((h.0, k.0), (h.1, k.1))

types_first : (t : Ty) (ts : Types) (r : Result Tree ValueFault) (rs : Result Trees ValueFault) → Good r t → GoodAll (λ vs. types_of vs ≡ ts) rs →
    GoodAll (λ vs. types_of vs ≡ member t ts) (with_first r rs)
types_first t ts (Err e) rs h k = tt
types_first t ts (Ok v) (Err e) h k = tt
types_first t ts (Ok v) (Ok vs) h k = (λ i. member (h.0 i) (k.0 i), (h.1, k.1))

-- ---- literals

truth_good : (n : ℕ) → n < 2 → (t : Ty) → t ≡ basic boolean → Good (at_basic (λ k. Ok (number k n)) t) t
truth_good n h t e = subst (λ (t : Ty). Good (at_basic (λ k. Ok (number k n)) t) t) (sym e) (refl, h)

bytes_trees_good : (s : List ℕ) → AllByRecursion (λ c. c < 256) s → GoodAll (AllOf (basic byte)) (Ok (byte_string_trees s))
bytes_trees_good [] h = ((refl, tt), (omega arith, tt))
bytes_trees_good (c ∷ s) h = let rest = bytes_trees_good s h.1 in ((refl, rest.0), (h.0, rest.1))

bytes_good : (s : List ℕ) → AllByRecursion (λ c. c < 256) s → (t : Ty) → t ≡ array (basic byte) → Good (at_array (λ u. Ok (byte_string_trees s)) t) t
bytes_good s h t e = subst (λ (t : Ty). Good (at_array (λ u. Ok (byte_string_trees s)) t) t) (sym e) (refl, bytes_trees_good s h)

-- a text without a zero byte, in UTF-8
abbrev pub IsGoodText : List ℕ → Type 0
IsGoodText s = AllByRecursion (λ c. 0 < c) s × (is_utf8 s ≡ true)

if_good : (k : Basic) (s : List ℕ) (e : ValueFault) (b : Bool) → (b ≡ true → IsTextOf k s) → Good (cond b (Ok (text k s)) (Err e)) (basic k)
if_good k s e true h = (refl, h refl)
if_good k s e false h = tt

text_good : (s : List ℕ) → IsGoodText s → (t : Ty) → IsTextType t → Good (at_basic (λ k. text_at k s) t) t
text_good s h (basic string) p = (refl, record { no_number = refl; no_zero = h.0; allowed = h.1 })
text_good s h (basic path) p = if_good path s bad_object_path (is_object_path s) (λ e. record { no_number = refl; no_zero = h.0; allowed = e })
text_good s h (basic signature) p = if_good signature s bad_signature (is_signature s) (λ e. record { no_number = refl; no_zero = h.0; allowed = e })
text_good s h (basic _) p = absurd p
text_good s h variant p = absurd p
text_good s h (array t) p = absurd p
text_good s h (maybe t) p = absurd p
text_good s h (tuple ts) p = absurd p
text_good s h (entry k t) p = absurd p

-- ---- integers

abbrev Under : Option ℕ → ℕ → Type 0
Under (Some m) limit = m < limit
Under None limit = Unit {0}

range_good : (k : Basic) (o : Option ℕ) (limit : ℕ) → ((m : ℕ) → m < limit → IsNumber k m) → Under o limit → Good (or_out_of_range k o) (basic k)
range_good k (Some m) limit to h = (refl, to m h)
range_good k None limit to h = tt

plain_under : (n half full : ℕ) → half ≤ full → Under (cond (nat_lt n half) (Some n) None) full
plain_under n half full h =
    by_bool (nat_lt n half) (Under (cond (nat_lt n half) (Some n) None) full)
    (λ e. rw e (let l : n < half = ltb-true n half e in omega (arith, l, h)))
    (λ e. rw e tt)

negative_under : (n half full : ℕ) → 0 < full → Under (cond (n == 0) (Some 0) (cond (nat_le n half) (Some (full - n)) None)) full
negative_under n half full h =
    by_bool (n == 0) (Under (cond (n == 0) (Some 0) (cond (nat_le n half) (Some (full - n)) None)) full)
    (λ e. rw e h)
    (λ e. rw e (by_bool (nat_le n half) (Under (cond (nat_le n half) (Some (full - n)) None) full)
    (λ le. rw le (let some : n ≡ 0 → ⊥ = eqb-false n 0 e in omega (arith, h, some)))
    (λ le. rw le tt)))

signed_under : (bits u : ℕ) (negative : Bool) (n : ℕ) → 0 < 2 ^ bits → 2 ^ (bits - 1) ≤ 2 ^ bits → Under (number_bits (Some bits) u negative n) (2 ^ bits)
signed_under bits u true n h k = negative_under n (2 ^ (bits - 1)) (2 ^ bits) h
signed_under bits u false n h k = plain_under n (2 ^ (bits - 1)) (2 ^ bits) k

unsigned_under : (bits : ℕ) (negative : Bool) (n : ℕ) → Under (number_bits None bits negative n) (2 ^ bits)
unsigned_under bits true n = tt
unsigned_under bits false n = plain_under n (2 ^ bits) (2 ^ bits) (omega arith)

integer_good : (b : Bool) (n : ℕ) (t : Ty) → IsNumberType t → Good (at_basic (λ k. integer_at k b n) t) t
integer_good b n (basic boolean) p = absurd p
integer_good b n (basic string) p = absurd p
integer_good b n (basic path) p = absurd p
integer_good b n (basic signature) p = absurd p
integer_good b n (basic double) p = tt
integer_good b n (basic byte) p = range_good byte (number_bits None 8 b n) 256 (λ m h. h) (unsigned_under 8 b n)
integer_good b n (basic uint16) p = range_good uint16 (number_bits None 16 b n) 65536 (λ m h. h) (unsigned_under 16 b n)
integer_good b n (basic uint32) p = range_good uint32 (number_bits None 32 b n) 4294967296 (λ m h. h) (unsigned_under 32 b n)
integer_good b n (basic uint64) p = range_good uint64 (number_bits None 64 b n) 18446744073709551616 (λ m h. h) (unsigned_under 64 b n)
integer_good b n (basic int16) p = range_good int16 (number_bits (Some 16) 64 b n) 65536 (λ m h. h) (signed_under 16 64 b n (omega arith) (omega arith))
integer_good b n (basic int32) p = range_good int32 (number_bits (Some 32) 64 b n) 4294967296 (λ m h. h) (signed_under 32 64 b n (omega arith) (omega arith))
integer_good b n (basic handle) p = range_good handle (number_bits (Some 32) 64 b n) 4294967296 (λ m h. h) (signed_under 32 64 b n (omega arith) (omega arith))
integer_good b n (basic int64) p = range_good int64 (number_bits (Some 64) 64 b n) 18446744073709551616 (λ m h. h) (signed_under 64 64 b n (omega arith) (omega arith))
integer_good b n variant p = absurd p
integer_good b n (array t) p = absurd p
integer_good b n (maybe t) p = absurd p
integer_good b n (tuple ts) p = absurd p
integer_good b n (entry k t) p = absurd p

-- ---- containers

array_good : (Q : Ty → Type 0) (f : Ty → Result Trees ValueFault) → ((t : Ty) → Q t → GoodAll (AllOf t) (f t)) → (t : Ty) → IsArrayOf Q t → Good (at_array f t) t
array_good Q f h (array t) p = in_good_node (array t) (f t) (h t p)
array_good Q f h (basic k) p = absurd p
array_good Q f h variant p = absurd p
array_good Q f h (maybe t) p = absurd p
array_good Q f h (tuple ts) p = absurd p
array_good Q f h (entry k t) p = absurd p

tuple_good : (Q : Types → Type 0) (f : Types → Result Trees ValueFault) → ((ts : Types) → Q ts → GoodAll (λ vs. types_of vs ≡ ts) (f ts)) → (t : Ty) → IsTupleOf Q t → Good (at_tuple f t) t
tuple_good Q f h (tuple ts) p = in_good_node (tuple ts) (f ts) (h ts p)
tuple_good Q f h (basic k) p = absurd p
tuple_good Q f h variant p = absurd p
tuple_good Q f h (maybe t) p = absurd p
tuple_good Q f h (array t) p = absurd p
tuple_good Q f h (entry k t) p = absurd p

alone_good : (t : Ty) (r : Result Tree ValueFault) → Good r t → GoodAll (λ vs. types_of vs ≡ member t end) (only_one r)
alone_good t r h = types_first t end r (Ok no_tree) h (refl, tt)

entry_good : (P Q : Ty → Type 0) (f g : Ty → Result Tree ValueFault) → ((t : Ty) → P t → Good (f t) t) → ((t : Ty) → Q t → Good (g t) t) → (t : Ty) → IsEntryOf P Q t → Good (at_entry f g t) t
entry_good P Q f g h k (entry b t) p =
    in_good_node (entry b t) (with_first (f (basic b)) (only_one (g t)))
    (types_first (basic b) (member t end) (f (basic b)) (only_one (g t)) (h (basic b) p.0) (alone_good t (g t) (k t p.1)))
entry_good P Q f g h k (basic b) p = absurd p
entry_good P Q f g h k variant p = absurd p
entry_good P Q f g h k (maybe t) p = absurd p
entry_good P Q f g h k (array t) p = absurd p
entry_good P Q f g h k (tuple ts) p = absurd p

maybe_good : (Q : Ty → Type 0) (f : Ty → Result Trees ValueFault) → ((t : Ty) → Q t → GoodAll (MayHold (maybe t)) (f t)) → (t : Ty) → IsMaybeOf Q t → Good (at_maybe f t) t
maybe_good Q f h (maybe t) p = in_good_node (maybe t) (f t) (h t p)
maybe_good Q f h (basic k) p = absurd p
maybe_good Q f h variant p = absurd p
maybe_good Q f h (array t) p = absurd p
maybe_good Q f h (tuple ts) p = absurd p
maybe_good Q f h (entry k t) p = absurd p

held_good : (t : Ty) (r : Result Tree ValueFault) → IsWithinLimits t → Good r t → GoodAll (MayHold variant) (only_one r)
held_good t (Ok v) fits h = (subst IsWithinLimits (sym h.0) fits, (h.1, tt))
held_good t (Err e) fits h = tt

variant_good : (r : Result Trees ValueFault) → GoodAll (MayHold variant) r → (t : Ty) → t ≡ variant → Good (at_variant r t) t
variant_good r h t e = subst (λ (t : Ty). Good (at_variant r t) t) (sym e) (in_good_node variant r h)

-- ---- all syntax

-- its strings are UTF-8 with no zero byte, its byte strings are bytes, and the type of what is in `<..>` is within
-- the limits
abbrev mutual
  pub IsGood : (Syntax → Choice) → Syntax → Type 0
  IsGood choose (truth b) = Unit {0}
  IsGood choose (integer negative n) = Unit {0}
  IsGood choose (quoted s) = IsGoodText s
  IsGood choose (bytes s) = AllByRecursion (λ c. c < 256) s
  IsGood choose (list xs) = AreGood choose xs
  IsGood choose (tuple_of xs) = AreGood choose xs
  IsGood choose (dictionary ps) = PairsGood choose ps
  IsGood choose (lone k v) = IsGood choose k × IsGood choose v
  IsGood choose (boxed x) = IsGood choose x × ((t : Ty) → choose x ≡ is t → IsWithinLimits t)
  IsGood choose (just x) = IsGood choose x
  IsGood choose nothing = Unit {0}
  IsGood choose (at_type t x) = IsGood choose x
  IsGood choose (keyword k x) = IsGood choose x

  pub AreGood : (Syntax → Choice) → Syntaxes → Type 0
  AreGood choose none = Unit {0}
  AreGood choose (first x xs) = IsGood choose x × AreGood choose xs

  pub PairsGood : (Syntax → Choice) → Pairs → Type 0
  PairsGood choose no_pair = Unit {0}
  PairsGood choose (pair k v ps) = IsGood choose k × IsGood choose v × PairsGood choose ps

chosen_good : (choose : Syntax → Choice) → ((x : Syntax) → Chooses x (choose x)) → (x : Syntax) → ((t : Ty) → choose x ≡ is t → IsWithinLimits t) →
    ((t : Ty) → Admits x t → Good (literal_value choose x t) t) → (c : Choice) → choose x ≡ c → GoodAll (MayHold variant) (only_one (chosen_or (literal_value choose x) c))
chosen_good choose right x fits h (is t) e = held_good t (literal_value choose x t) (fits t e) (h t (subst (Chooses x) e (right x)).among.admits)
chosen_good choose right x fits h no_common_type e = tt
chosen_good choose right x fits h ambiguous e = tt

mutual
  unfolding literal_value elements members_of entries

  pub value_good : (choose : Syntax → Choice) → ((x : Syntax) → Chooses x (choose x)) → (x : Syntax) (t : Ty) → Admits x t → IsGood choose x → Good (literal_value choose x t) t
  value_good choose right (truth true) t p h = maybes_good (λ u. u ≡ basic boolean) (at_basic (λ k. Ok (number k 1))) (truth_good 1 (omega arith)) t p
  value_good choose right (truth false) t p h = maybes_good (λ u. u ≡ basic boolean) (at_basic (λ k. Ok (number k 0))) (truth_good 0 (omega arith)) t p
  value_good choose right (integer b n) t p h = maybes_good IsNumberType (at_basic (λ k. integer_at k b n)) (integer_good b n) t p
  value_good choose right (quoted s) t p h = maybes_good IsTextType (at_basic (λ k. text_at k s)) (text_good s h) t p
  value_good choose right (bytes s) t p h = maybes_good (λ u. u ≡ array (basic byte)) (at_array (λ u. Ok (byte_string_trees s))) (bytes_good s h) t p
  value_good choose right (list xs) t p h =
      maybes_good (IsArrayOf (AllAdmit xs)) (at_array (elements choose xs)) (array_good (AllAdmit xs) (elements choose xs) (λ u q. elements_good choose right xs u q h)) t p
  value_good choose right (tuple_of xs) t p h =
      maybes_good (IsTupleOf (Admit xs)) (at_tuple (members_of choose xs)) (tuple_good (Admit xs) (members_of choose xs) (λ us q. members_good choose right xs us q h)) t p
  value_good choose right (dictionary ps) t p h =
      maybes_good (IsArrayOf (IsEntryOf (KeysAdmit ps) (ValuesAdmit ps))) (at_array (entries choose ps))
      (array_good (IsEntryOf (KeysAdmit ps) (ValuesAdmit ps)) (entries choose ps) (λ u q. entries_good choose right ps u q h)) t p
  value_good choose right (lone k v) t p h =
      maybes_good (IsEntryOf (Admits k) (Admits v)) (at_entry (literal_value choose k) (literal_value choose v))
      (entry_good (Admits k) (Admits v) (literal_value choose k) (literal_value choose v) (λ u q. value_good choose right k u q h.0) (λ u q. value_good choose right v u q h.1)) t p
  value_good choose right (boxed x) t p h =
      maybes_good (λ u. u ≡ variant) (at_variant (only_one (chosen_or (literal_value choose x) (choose x))))
      (variant_good (only_one (chosen_or (literal_value choose x) (choose x))) (chosen_good choose right x h.1 (λ u q. value_good choose right x u q h.0) (choose x) refl)) t p
  value_good choose right (just x) t p h =
      maybe_good (Admits x) (λ u. only_one (literal_value choose x u)) (λ u q. just_good u (literal_value choose x u) (value_good choose right x u q h)) t p
  value_good choose right nothing t p h = maybe_good (λ u. Unit {0}) (λ u. Ok no_tree) (λ u q. (tt, tt)) t p
  value_good choose right (at_type u x) t p h = value_good choose right x t p.1 h
  value_good choose right (keyword k x) t p h = value_good choose right x t p.1 h

  elements_good : (choose : Syntax → Choice) → ((x : Syntax) → Chooses x (choose x)) → (xs : Syntaxes) (t : Ty) → AllAdmit xs t → AreGood choose xs → GoodAll (AllOf t) (elements choose xs t)
  elements_good choose right none t p h = (tt, tt)
  elements_good choose right (first x xs) t p h =
      all_first t (literal_value choose x t) (elements choose xs t) (value_good choose right x t p.0 h.0) (elements_good choose right xs t p.1 h.1)

  members_good : (choose : Syntax → Choice) → ((x : Syntax) → Chooses x (choose x)) → (xs : Syntaxes) (ts : Types) → Admit xs ts → AreGood choose xs → GoodAll (λ vs. types_of vs ≡ ts) (members_of choose xs ts)
  members_good choose right none end p h = (refl, tt)
  members_good choose right none (member t ts) p h = absurd p
  members_good choose right (first x xs) end p h = absurd p
  members_good choose right (first x xs) (member t ts) p h =
      types_first t ts (literal_value choose x t) (members_of choose xs ts) (value_good choose right x t p.0 h.0) (members_good choose right xs ts p.1 h.1)

  entries_good : (choose : Syntax → Choice) → ((x : Syntax) → Chooses x (choose x)) → (ps : Pairs) (t : Ty) → IsEntryOf (KeysAdmit ps) (ValuesAdmit ps) t → PairsGood choose ps → GoodAll (AllOf t) (entries choose ps t)
  entries_good choose right no_pair t p h = (tt, tt)
  entries_good choose right (pair k v ps) (entry b t) p h =
      all_first (entry b t) (at_entry (literal_value choose k) (literal_value choose v) (entry b t)) (entries choose ps (entry b t))
      (entry_good (Admits k) (Admits v) (literal_value choose k) (literal_value choose v) (λ u q. value_good choose right k u q h.0) (λ u q. value_good choose right v u q h.1) (entry b t) (p.0.0, p.1.0))
      (entries_good choose right ps (entry b t) (p.0.1, p.1.1) h.2)
  entries_good choose right (pair k v ps) (basic b) p h = absurd p
  entries_good choose right (pair k v ps) variant p h = absurd p
  entries_good choose right (pair k v ps) (maybe t) p h = absurd p
  entries_good choose right (pair k v ps) (array t) p h = absurd p
  entries_good choose right (pair k v ps) (tuple ts) p h = absurd p

-- ---- by its own type

-- a result is this value
abbrev Gives : Result Tree ValueFault → Tree → Type 0
Gives r v = r ≡ Ok v

no_value : (e : ValueFault) (v : Tree) → Gives (Err e) v → ⊥
no_value e v h = cc

the_value : (u v : Tree) → Gives (Ok u) v → u ≡ v
the_value u v h = ap (value_or u) h
  where
    value_or : Tree → Result Tree ValueFault → Tree
    value_or u (Ok w) = w
    value_or u (Err e) = u

within_good : (t : Ty) (r : Result Tree ValueFault) (v : Tree) → Good r t → Gives (within_depth r) v → Good (Ok v) t
within_good t (Err e) v h g = absurd (no_value e v g)
within_good t (Ok u) v h g =
    by_bool (nat_le (depth u) 128) (Good (Ok v) t)
    (λ e. subst (λ (w : Tree). Good (Ok w) t) (the_value u v (rw e at g)) h)
    (λ e. absurd (no_value too_deep v (rw e at g)))

-- the value of good syntax whose type is within the limits is whole
pub good_is_whole : (x : Syntax) (v : Tree) → IsGood choice x → ((t : Ty) → choice x ≡ is t → IsWithinLimits t) → Gives (value_of x) v → IsLimitedValue v
unfolding value_of type_of_syntax
good_is_whole x v h fits g = go (type_of_syntax x) refl g
  where
    go : (c : Choice) → type_of_syntax x ≡ c → Gives (chosen_or (λ t. within_depth (literal_value choice x t)) c) v → IsLimitedValue v
    go (is t) same g =
        let ends = last_is choice (contents x) (choice x) t same in
        let good = within_good t (literal_value choice x t) v (value_good choice choice_right x t (admits_chosen x t ends.0) h) g in
        (good.1, subst IsWithinLimits (sym good.0) (fits t ends.0))
    go no_common_type same g = absurd (no_value no_common v g)
    go ambiguous same g = absurd (no_value not_clear v g)
