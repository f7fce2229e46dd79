-- Whatever bytes are read, the value is of the type at which they are read.
use Rattle.std.proofs.Common.{ℕ, zero, suc, ◌+◌, ◌-◌, ◌*◌, ◌^◌, ◌<◌, ◌≡◌, List, [], ◌∷◌, length, take, drop, Option, Some, None, refl, sym, ap, ap₂, ◌∙◌, subst, arith, Bool, true, false, cond, ◌==◌, eqb-true, ne_eqb}
use Rattle.std.specs.Prelude.{option_map}
use Rattle.std.specs.List.{AllByRecursion}
use Rattle.std.proofs.Math.Nat.{pow-succ'}
use Rattle.std.specs.Str.{is_utf8, chars}
use Rattle.std.proofs.lemmas.Option.{same_Some, none-some}
use Rattle.gv_model.specs.Ty.{Ty, Basic, Types, spelling, nesting}
use Rattle.gv_model.specs.Ty.Ty.{basic, variant, array, maybe, tuple, entry}
use Rattle.gv_model.specs.Ty.Types.{end, member}
use Rattle.gv_model.specs.Ty.Basic.{boolean, byte, int16, uint16, int32, uint32, int64, uint64, handle, double, string, path, signature}
use Rattle.gv_model.specs.TypeText.{type_of_text, is_within_limits, seen}
use Rattle.gv_model.specs.Layout.{fixed_size, basic_size}
use Rattle.gv_model.specs.Tree.{Tree, Trees, type_of, default, defaults, basic_default}
use Rattle.gv_model.specs.Tree.Trees.{none, first}
use Rattle.gv_model.specs.Tree.Tree.{number, text}
use Rattle.gv_model.specs.Typed.{IsValue, AreValues, MayHold, AllOf, types_of, IsNumber, HasType}
use Rattle.gv_model.specs.Texts.{is_text, has_zero_byte}
use Rattle.gv_model.specs.BasicValue.{basic_value, basic_of_size, text_or_default, text_in, number_in, bits_of, truth}
use Rattle.gv_model.specs.Children.{Child, Span, child_bytes, children_at, ordered}
use Rattle.gv_model.specs.Arrays.{element_spans}
use Rattle.gv_model.specs.Maybes.{just_span}
use Rattle.gv_model.specs.Tuples.{tuple_spans}
use Rattle.gv_model.specs.Variants.{variant_span, typed_span, at_last_zero}
use Rattle.gv_model.specs.Decode.{decode, decode_within, tree_with, each, cut, spans, body}
use Rattle.gv_model.specs.EarlierReading.{earlier_cut}
use Rattle.gv_model.specs.Normal.{IsContainer}
use Rattle.gv_model.proofs.TypeTextSound.{spelling_of_read}
use Rattle.gv_model.proofs.DecodeLaws.{decode_children, Each, OfTypes, of_elements}
use Rattle.gv_model.proofs.EmptyLaws.{span_types, types-tuple, types-ordered}

abbrev pub IsBytes : List ℕ → Type 0
IsBytes b = AllByRecursion (λ x. x < 256) b

pub bytes_take : (n : ℕ) (b : List ℕ) → IsBytes b → IsBytes (take n b)
bytes_take zero b h = tt
bytes_take (suc n) [] h = tt
bytes_take (suc n) (x ∷ b) h = (h.0, bytes_take n b h.1)

pub bytes_drop : (n : ℕ) (b : List ℕ) → IsBytes b → IsBytes (drop n b)
bytes_drop zero b h = h
bytes_drop (suc n) [] h = tt
bytes_drop (suc n) (x ∷ b) h = bytes_drop n b h.1

pub bytes_of_bytes : (b : List ℕ) (c : Child) → IsBytes b → IsBytes (child_bytes b c)
bytes_of_bytes b c h = bytes_take (c.to - c.from) (drop c.from b) (bytes_drop c.from b h)

-- ---- types

type_of_default : (k : Basic) → type_of (basic_default k) ≡ basic k
type_of_default string = refl
type_of_default path = refl
type_of_default signature = refl
type_of_default _ = refl

type_of_basic : (k : Basic) (b : List ℕ) (f : Option ℕ) → type_of (basic_of_size k b f) ≡ basic k
type_of_basic k b (Some n) = go (length b == n) (bits_of k (number_in b))
  where
    go : (c : Bool) (m : ℕ) → type_of (cond c (number k m) (basic_default k)) ≡ basic k
    go true m = refl
    go false m = type_of_default k
type_of_basic k b None = go (text_in b)
  where
    chosen : (s : List ℕ) (c : Bool) → type_of (cond c (text k s) (basic_default k)) ≡ basic k
    chosen s true = refl
    chosen s false = type_of_default k

    go : (o : Option (List ℕ)) → type_of (text_or_default k o) ≡ basic k
    go None = type_of_default k
    go (Some s) = chosen s (is_text k s)

pub type_of_tree : (f : Child → Tree) (t : Ty) (b : List ℕ) → type_of (tree_with f t b) ≡ t
unfolding basic_value
type_of_tree f (basic k) b = type_of_basic k b (basic_size k)
type_of_tree f variant b = refl
type_of_tree f (array t) b = refl
type_of_tree f (maybe t) b = refl
type_of_tree f (tuple ts) b = refl
type_of_tree f (entry k t) b = refl

pub type_of-decode : (t : Ty) (b : List ℕ) → type_of (decode t b) ≡ t
type_of-decode t b = ap type_of (decode_children t b) ∙ type_of_tree (λ c. decode c.type (child_bytes b c)) t b

pub type_of_default_tree : (t : Ty) → type_of (default t) ≡ t
unfolding default
type_of_default_tree (basic k) = type_of_default k
type_of_default_tree variant = refl
type_of_default_tree (array t) = refl
type_of_default_tree (maybe t) = refl
type_of_default_tree (tuple ts) = refl
type_of_default_tree (entry k t) = refl

type_within : (n : ℕ) (t : Ty) (b : List ℕ) → type_of (decode_within n t b) ≡ t
unfolding decode_within
type_within zero t b = type_of_default_tree t
type_within (suc n) t b = type_of_tree (λ c. decode_within n c.type (child_bytes b c)) t b

-- ---- basic values

bound_in : (b : List ℕ) → IsBytes b → number_in b < 256 ^ length b
unfolding number_in
bound_in [] h = omega arith
bound_in (x ∷ b) h = let rest = bound_in b h.1 in let low = h.0 in let power : 256 ^ suc (length b) ≡ 256 * 256 ^ length b = pow-succ' 256 (length b) in omega arith

not_zero : (c : ℕ) → (c == 0) ≡ false → 0 < c
not_zero c h = grind (arith, h)

truth_below : (n : ℕ) → truth n < 2
truth_below n = grind arith

pub default_value : (k : Basic) → IsValue (basic_default k)
unfolding is_utf8 chars seen
default_value string = record { no_number = refl; no_zero = tt; allowed = refl }
default_value path = record { no_number = refl; no_zero = (omega arith, tt); allowed = refl }
default_value signature = record { no_number = refl; no_zero = tt; allowed = refl }
default_value _ = omega arith

sized_value : (k : Basic) (size : ℕ) (b : List ℕ) → (length b ≡ size → IsNumber k (bits_of k (number_in b))) → IsValue (basic_of_size k b (Some size))
sized_value k size b fits = go (length b == size) refl
  where
    go : (c : Bool) → (length b == size) ≡ c → IsValue (cond c (number k (bits_of k (number_in b))) (basic_default k))
    go true e = fits (eqb-true (length b) size e)
    go false e = default_value k

below_size : (b : List ℕ) (size : ℕ) → IsBytes b → length b ≡ size → number_in b < 256 ^ size
below_size b size h e = subst (λ (n : ℕ). number_in b < 256 ^ n) e (bound_in b h)

-- a text without a zero byte
pub no_zero : (s : List ℕ) → has_zero_byte s ≡ false → AllByRecursion (λ c. 0 < c) s
no_zero [] h = tt
no_zero (zero ∷ s) h = absurd cc
no_zero (suc c ∷ s) h = (omega arith, no_zero s (rw (ne_eqb (suc c) 0 (omega arith)) at h))

no_zero_in : (b s : List ℕ) → text_in b ≡ Some s → AllByRecursion (λ c. 0 < c) s
unfolding text_in
no_zero_in [] s e = absurd (none-some s e)
no_zero_in (c ∷ []) s e = go (c == 0) e
  where
    go : (b : Bool) → cond b (Some []) None ≡ Some s → AllByRecursion (λ c. 0 < c) s
    go true p = subst (λ (r : List ℕ). AllByRecursion (λ c. 0 < c) r) (same_Some [] s p) tt
    go false p = absurd (none-some s p)
no_zero_in (c ∷ d ∷ cs) s e = go (c == 0) refl e (no_zero_in (d ∷ cs))
  where
    more : (o : Option (List ℕ)) → 0 < c → ((r : List ℕ) → o ≡ Some r → AllByRecursion (λ c. 0 < c) r) → option_map (λ r. c ∷ r) o ≡ Some s → AllByRecursion (λ c. 0 < c) s
    more None k f p = absurd (none-some s p)
    more (Some r) k f p = subst (λ (q : List ℕ). AllByRecursion (λ c. 0 < c) q) (same_Some (c ∷ r) s p) (k, f r refl)

    go : (b : Bool) → (c == 0) ≡ b → cond b None (option_map (λ r. c ∷ r) (text_in (d ∷ cs))) ≡ Some s → ((r : List ℕ) → text_in (d ∷ cs) ≡ Some r → AllByRecursion (λ c. 0 < c) r) → AllByRecursion (λ c. 0 < c) s
    go true n p f = absurd (none-some s p)
    go false n p f = more (text_in (d ∷ cs)) (omega (arith, not_zero c n)) f p

pub text_value : (k : Basic) (b : List ℕ) → basic_size k ≡ None → IsValue (text_or_default k (text_in b))
text_value k b e = go (text_in b) refl
  where
    chosen : (s : List ℕ) (c : Bool) → text_in b ≡ Some s → is_text k s ≡ c → IsValue (cond c (text k s) (basic_default k))
    chosen s true p q = record { no_number = e; no_zero = no_zero_in b s p; allowed = q }
    chosen s false p q = default_value k

    go : (o : Option (List ℕ)) → text_in b ≡ o → IsValue (text_or_default k o)
    go None p = default_value k
    go (Some s) p = chosen s (is_text k s) p refl

pub basic_is_value : (k : Basic) (b : List ℕ) → IsBytes b → IsValue (basic_value k b)
unfolding basic_value
basic_is_value boolean b h = sized_value boolean 1 b (λ e. truth_below (number_in b))
basic_is_value byte b h = sized_value byte 1 b (λ e. below_size b 1 h e)
basic_is_value int16 b h = sized_value int16 2 b (λ e. below_size b 2 h e)
basic_is_value uint16 b h = sized_value uint16 2 b (λ e. below_size b 2 h e)
basic_is_value int32 b h = sized_value int32 4 b (λ e. below_size b 4 h e)
basic_is_value uint32 b h = sized_value uint32 4 b (λ e. below_size b 4 h e)
basic_is_value handle b h = sized_value handle 4 b (λ e. below_size b 4 h e)
basic_is_value int64 b h = sized_value int64 8 b (λ e. below_size b 8 h e)
basic_is_value uint64 b h = sized_value uint64 8 b (λ e. below_size b 8 h e)
basic_is_value double b h = sized_value double 8 b (λ e. below_size b 8 h e)
basic_is_value string b h = text_value string b refl
basic_is_value path b h = text_value path b refl
basic_is_value signature b h = text_value signature b refl

-- ---- children

-- each child is read as a value of its type
abbrev pub Fine : (Child → Tree) → Child → Type 0
Fine f c = (type_of (f c) ≡ c.type) × IsValue (f c)

pub values_of_each : (f : Child → Tree) (cs : List Child) → Each (Fine f) cs → AreValues (each f cs)
values_of_each f [] h = tt
values_of_each f (c ∷ cs) h = (h.0.1, values_of_each f cs h.1)

-- each child is read at its type
abbrev pub AtTypes : (Child → Tree) → Type 0
AtTypes f = (c : Child) → type_of (f c) ≡ c.type

all_of_each : (f : Child → Tree) (t : Ty) (n : ℕ) (xs : List (Ty × Span)) → OfTypes (λ u. u ≡ t) xs → AtTypes f → AllOf t (each f (children_at n xs))
all_of_each f t n [] h g = tt
all_of_each f t n (x ∷ xs) h g = (g _ ∙ h.0, all_of_each f t n xs h.1 g)

types_of_each : (f : Child → Tree) (n : ℕ) (xs : List (Ty × Span)) → AtTypes f → types_of (each f (children_at n xs)) ≡ span_types xs
types_of_each f n [] g = refl
types_of_each f n (x ∷ xs) g = ap₂ member (g _) (types_of_each f n xs g)

just_held : (f : Child → Tree) (t : Ty) (n : ℕ) (o : Option ℕ) → AtTypes f → MayHold (maybe t) (each f (children_at n (just_span t n o)))
just_held f t n (Some size) g = go (n == size)
  where
    go : (c : Bool) → MayHold (maybe t) (each f (children_at n (cond c ((t, Some (0, n)) ∷ []) [])))
    go true = g _
    go false = tt
just_held f t n None g = go (n == 0)
  where
    go : (c : Bool) → MayHold (maybe t) (each f (children_at n (cond c [] ((t, Some (0, n - 1)) ∷ []))))
    go true = tt
    go false = g _

pub unit_limits : is_within_limits (tuple end) (spelling (tuple end)) ≡ true
unfolding spelling nesting
unit_limits = refl

-- the type of a variant's child is within the limits
pub variant_limits : (o : Option (List ℕ × List ℕ)) → is_within_limits (variant_span o).0 (spelling (variant_span o).0) ≡ true
variant_limits None = unit_limits
variant_limits (Some p) = go (type_of_text p.1) refl
  where
    go : (q : Option Ty) → type_of_text p.1 ≡ q → is_within_limits (typed_span (length p.0) q).0 (spelling (typed_span (length p.0) q).0) ≡ true
    go None e = unit_limits
    go (Some t) e = let read = spelling_of_read p.1 t e in ap (is_within_limits t) read.0 ∙ read.1

-- children that are read at their types are such as the container may have, whatever the bytes
pub held_apart : (f : Child → Tree) (t : Ty) (b : List ℕ) → IsContainer t → AtTypes f → MayHold t (each f (earlier_cut t b))
unfolding earlier_cut spans
held_apart f (basic k) b h g = absurd h
held_apart f variant b h g = subst (λ (u : Ty). is_within_limits u (spelling u) ≡ true) (sym (g _)) (variant_limits (at_last_zero b))
held_apart f (array t) b h g = all_of_each f t (length b) (element_spans t b (fixed_size t)) (of_elements (λ u. u ≡ t) t b (fixed_size t) refl) g
held_apart f (maybe t) b h g = just_held f t (length b) (fixed_size t) g
held_apart f (tuple ts) b h g = types_of_each f (length b) (tuple_spans (tuple ts) ts b) g ∙ types-tuple (tuple ts) ts b
held_apart f (entry k t) b h g = types_of_each f (length b) (tuple_spans (entry k t) (member (basic k) (member t end)) b) g ∙ types-tuple (entry k t) (member (basic k) (member t end)) b

pub same_member : (t u : Ty) (ts us : Types) → member t ts ≡ member u us → t ≡ u
same_member t u ts us e = cc

pub same_members : (t u : Ty) (ts us : Types) → member t ts ≡ member u us → ts ≡ us
same_members t u ts us e = cc

all_by_types : (t : Ty) (us vs : Trees) → types_of us ≡ types_of vs → AllOf t us → AllOf t vs
all_by_types t none none e h = tt
all_by_types t none (first v vs) e h = absurd cc
all_by_types t (first u us) none e h = absurd cc
all_by_types t (first u us) (first v vs) e h =
    (sym (same_member (type_of u) (type_of v) (types_of us) (types_of vs) e) ∙ h.0, all_by_types t us vs (same_members (type_of u) (type_of v) (types_of us) (types_of vs) e) h.1)

-- the type that a container of one type has, if it has one child
abbrev HeldOne : (Ty → Type 0) → Types → Type 0
HeldOne P end = ⊥
HeldOne P (member t end) = P t
HeldOne P (member t (member u ts)) = ⊥

abbrev HeldUpToOne : (Ty → Type 0) → Types → Type 0
HeldUpToOne P end = Unit {0}
HeldUpToOne P (member t end) = P t
HeldUpToOne P (member t (member u ts)) = ⊥

in_variant : (vs : Trees) → MayHold variant vs ≡ HeldOne (λ t. is_within_limits t (spelling t) ≡ true) (types_of vs)
in_variant none = refl
in_variant (first v none) = refl
in_variant (first v (first u vs)) = refl

in_maybe : (t : Ty) (vs : Trees) → MayHold (maybe t) vs ≡ HeldUpToOne (λ u. u ≡ t) (types_of vs)
in_maybe t none = refl
in_maybe t (first v none) = refl
in_maybe t (first v (first u vs)) = refl

-- what a container may have depends on the types alone
held_by_types : (t : Ty) (us vs : Trees) → types_of us ≡ types_of vs → MayHold t us → MayHold t vs
held_by_types (basic k) us vs e h = absurd h
held_by_types variant us vs e h = subst (λ (X : Type 0). X) (in_variant us ∙ (ap (HeldOne (λ t. is_within_limits t (spelling t) ≡ true)) e ∙ sym (in_variant vs))) h
held_by_types (array t) us vs e h = all_by_types t us vs e h
held_by_types (maybe t) us vs e h = subst (λ (X : Type 0). X) (in_maybe t us ∙ (ap (HeldUpToOne (λ u. u ≡ t)) e ∙ sym (in_maybe t vs))) h
held_by_types (tuple ts) us vs e h = sym e ∙ h
held_by_types (entry k t) us vs e h = sym e ∙ h

held_of_each : (f : Child → Tree) (t : Ty) (b : List ℕ) → IsContainer t → AtTypes f → MayHold t (each f (cut t b))
unfolding cut earlier_cut
held_of_each f t b h g =
    let xs = ordered (body t b) (spans t b) in
    held_by_types t (each f (earlier_cut t b)) (each f (cut t b))
    (types_of_each f (length b) (spans t b) g ∙ (sym (types-ordered (body t b) (spans t b)) ∙ sym (types_of_each f (length b) xs g))) (held_apart f t b h g)

pub children_held : (t : Ty) (b : List ℕ) → IsContainer t → MayHold t (each (λ c. decode c.type (child_bytes b c)) (cut t b))
children_held t b h = held_of_each (λ c. decode c.type (child_bytes b c)) t b h (λ c. type_of-decode c.type (child_bytes b c))

tree_is_value : (f : Child → Tree) (t : Ty) (b : List ℕ) → IsBytes b → AtTypes f → Each (Fine f) (cut t b) → IsValue (tree_with f t b)
tree_is_value f (basic k) b h g fine = basic_is_value k b h
tree_is_value f variant b h g fine = (held_of_each f variant b tt g, values_of_each f (cut variant b) fine)
tree_is_value f (array t) b h g fine = (held_of_each f (array t) b tt g, values_of_each f (cut (array t) b) fine)
tree_is_value f (maybe t) b h g fine = (held_of_each f (maybe t) b tt g, values_of_each f (cut (maybe t) b) fine)
tree_is_value f (tuple ts) b h g fine = (held_of_each f (tuple ts) b tt g, values_of_each f (cut (tuple ts) b) fine)
tree_is_value f (entry k t) b h g fine = (held_of_each f (entry k t) b tt g, values_of_each f (cut (entry k t) b) fine)

mutual
  unfolding default

  pub default_is_value : (t : Ty) → IsValue (default t)
  default_is_value (basic k) = default_value k
  default_is_value variant = (unit_limits, ((refl, tt), tt))
  default_is_value (array t) = (tt, tt)
  default_is_value (maybe t) = (tt, tt)
  default_is_value (tuple ts) = (types_of_defaults ts, defaults_are_values ts)
  default_is_value (entry k t) = (ap₂ (λ (u v : Ty). member u (member v end)) (type_of_default k) (type_of_default_tree t), (default_value k, (default_is_value t, tt)))

  types_of_defaults : (ts : Types) → types_of (defaults ts) ≡ ts
  types_of_defaults end = refl
  types_of_defaults (member t ts) = ap₂ member (type_of_default_tree t) (types_of_defaults ts)

  defaults_are_values : (ts : Types) → AreValues (defaults ts)
  defaults_are_values end = tt
  defaults_are_values (member t ts) = (default_is_value t, defaults_are_values ts)

pub each_all : (f : Child → Tree) → ((c : Child) → Fine f c) → (cs : List Child) → Each (Fine f) cs
each_all f g [] = tt
each_all f g (c ∷ cs) = (g c, each_all f g cs)

within_is_value : (n : ℕ) (t : Ty) (b : List ℕ) → IsBytes b → IsValue (decode_within n t b)
unfolding decode_within
within_is_value zero t b h = default_is_value t
within_is_value (suc n) t b h =
    let f = λ (c : Child). decode_within n c.type (child_bytes b c) in
    tree_is_value f t b h (λ c. type_within n c.type (child_bytes b c)) (each_all f (λ c. (type_within n c.type (child_bytes b c), within_is_value n c.type (child_bytes b c) (bytes_of_bytes b c h))) (cut t b))

pub decode_is_value : (t : Ty) (b : List ℕ) → IsBytes b → IsValue (decode t b)
unfolding decode
decode_is_value t b h = within_is_value (length (spelling t) + length b) t b h

-- whatever bytes are read at a type, the value has that type
pub decode_has_type : (t : Ty) (b : List ℕ) → IsBytes b → HasType (decode t b) t
decode_has_type t b h = record { type = type_of-decode t b; value = decode_is_value t b h }
