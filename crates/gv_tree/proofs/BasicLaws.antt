-- Basic values: their types' texts, their bits, and which texts they may be.
use Rattle.std.proofs.Common.{ℕ, ◌-◌, ◌^◌, min, ap₂, w64, ◌<◌, ◌≡◌, List, [], ◌∷◌, length, Option, Some, None, true, false, refl, sym, ap, ◌∙◌, arith, subst}
use Rattle.std.specs.Option.{option_eq}
use Rattle.std.proofs.Math.Dec.{eqb}
use Rattle.std.proofs.lemmas.Bool.{eqb-true}
use Rattle.std.specs.Prelude.{slice_index, MatchResult, Result, Ok, Err}
use Rattle.gv_model.specs.Ty.{Ty, Basic, spelling, nesting}
use Rattle.gv_model.specs.TypeText.{is_within_limits}
use Rattle.gv_model.specs.Tree.{Tree as Value, type_of, depth, nodes}
use Rattle.gv_model.specs.Tree.Tree.{number, text, node}
use Rattle.gv_model.specs.Layout.{basic_size}
use Rattle.gv_model.specs.Texts.{is_text, has_zero_byte}
use Rattle.gv_model.specs.Typed.{IsValue, IsTextOf}
use Rattle.gv_tree.specs.declared.basic.Basic.{Basic as Held}
use Rattle.gv_tree.specs.declared.basic.Basic.TheVariants as basics
use Rattle.gv_tree.specs.declared.tree.Node.TheVariants as node_of
use Rattle.gv_model.specs.BasicValue.{number_in}
use Rattle.gv_model.proofs.TypeTextLaws.{one_spelling}
use Rattle.gv_model.proofs.Prefixes.{basic_parts}
use Rattle.gv_model.proofs.WellTyped.{no_zero}
use Rattle.std.specs.Int.{from_le_bytes}
use Rattle.std.proofs.lemmas.Option.{same_Some}
use Rattle.gv_tree.specs.Basics.{basic_tree, BitsAre, TextIs}
use Rattle.gv_tree.specs.Kept.{IsKept}
use Rattle.gv_tree.specs.Wholes.{IsWhole}
use Rattle.gv_tree.specs.Faults.{IsBasicTextFault}
use Rattle.gv_tree.specs.declared.fault.TreeFlaw.{TreeFlaw}
use Rattle.gv_tree.specs.declared.fault.TreeFlaw.TheVariants.{HasNul}

-- a text without a zero byte that its type allows
pub text_value : (k : Basic) (s : List ℕ) → basic_size k ≡ None → has_zero_byte s ≡ false → is_text k s ≡ true → IsTextOf k s
text_value k s size h g = record { no_number = size; no_zero = no_zero s h; allowed = g }

basic_limits : (k : Basic) → is_within_limits (Ty.basic k) (spelling (Ty.basic k)) ≡ true
unfolding spelling nesting
basic_limits k = refl

-- a number or a text
abbrev IsLeaf : Value → Type 0
IsLeaf (node t vs) = ⊥
IsLeaf _ = Unit {0}

leaf : (b : Held) → IsLeaf (basic_tree b)
leaf (basics.Bool b) = tt
leaf (basics.Byte n) = tt
leaf (basics.Int16 n) = tt
leaf (basics.Uint16 n) = tt
leaf (basics.Int32 n) = tt
leaf (basics.Uint32 n) = tt
leaf (basics.Int64 n) = tt
leaf (basics.Uint64 n) = tt
leaf (basics.HandleNo n) = tt
leaf (basics.DoubleBits b) = tt
leaf (basics.Text s) = tt
leaf (basics.ObjectPath s) = tt
leaf (basics.Signature s) = tt

-- a basic value has one level, and so has its type
whole_leaf : (v : Value) → IsLeaf v → IsValue v → IsWhole v
unfolding depth
whole_leaf (number k n) l h = record { value = h; levels = omega arith; limits = basic_limits k }
whole_leaf (text k s) l h = record { value = h; levels = omega arith; limits = basic_limits k }
whole_leaf (node t vs) l h = absurd l

-- a text of which only a zero byte can be wrong
pub checked_text : (k : Basic) (s x : List ℕ) (r : Result (Unit {0}) TreeFlaw) → basic_size k ≡ None → is_text k s ≡ true → x ≡ s → MatchResult r (λ _. has_zero_byte x ≡ false) (λ fault. (fault ≡ HasNul) × (has_zero_byte x ≡ true)) → MatchResult r (λ _. IsTextOf k s) (IsBasicTextFault k s)
checked_text k s x (Ok u) size g e h = text_value k s size (ap has_zero_byte (sym e) ∙ h) g
checked_text k s x (Err fault) size g e h = subst (IsBasicTextFault k s) (sym h.0) (ap has_zero_byte (sym e) ∙ h.1)

pub whole_basic : (b : Held) → IsValue (basic_tree b) → IsWhole (basic_tree b)
whole_basic b h = whole_leaf (basic_tree b) (leaf b) h

leaf_depth : (v : Value) → IsLeaf v → 1 ≡ depth v
unfolding depth
leaf_depth (number k n) l = refl
leaf_depth (text k s) l = refl
leaf_depth (node t vs) l = absurd l

leaf_nesting : (v : Value) → IsLeaf v → 1 ≡ nesting (type_of v)
unfolding nesting
leaf_nesting (number k n) l = refl
leaf_nesting (text k s) l = refl
leaf_nesting (node t vs) l = absurd l

leaf_nodes : (v : Value) → IsLeaf v → 1 ≡ min (nodes v) (2 ^ 64 - 1)
unfolding nodes
leaf_nodes (number k n) l = refl
leaf_nodes (text k s) l = refl
leaf_nodes (node t vs) l = absurd l

pub kept_basic : (b : Held) → IsValue (basic_tree b) → IsKept (record { node = node_of.Basic b; levels = 1; type_levels = 1; values = 1 })
kept_basic b h = record {
  whole = whole_basic b h;
  text = tt;
  levels = leaf_depth (basic_tree b) (leaf b);
  type_levels = leaf_nesting (basic_tree b) (leaf b);
  values = leaf_nodes (basic_tree b) (leaf b);
}

-- ---- a double's bits

-- eight bytes are a number of 64 bits
pub eight_bytes : (b : List ℕ) → length b ≡ 8 → ((k : ℕ) → slice_index b k < 256) → (from_le_bytes w64 b ≡ number_in b) × (number_in b < 256 ^ 8)
unfolding number_in
eight_bytes (a ∷ b ∷ c ∷ d ∷ e ∷ f ∷ g ∷ h ∷ []) n low = (omega arith, omega (arith, low 0, low 1, low 2, low 3, low 4, low 5, low 6, low 7))
eight_bytes [] n low = absurd cc
eight_bytes (a ∷ []) n low = absurd cc
eight_bytes (a ∷ b ∷ []) n low = absurd cc
eight_bytes (a ∷ b ∷ c ∷ []) n low = absurd cc
eight_bytes (a ∷ b ∷ c ∷ d ∷ []) n low = absurd cc
eight_bytes (a ∷ b ∷ c ∷ d ∷ e ∷ []) n low = absurd cc
eight_bytes (a ∷ b ∷ c ∷ d ∷ e ∷ f ∷ []) n low = absurd cc
eight_bytes (a ∷ b ∷ c ∷ d ∷ e ∷ f ∷ g ∷ []) n low = absurd cc
eight_bytes (a ∷ b ∷ c ∷ d ∷ e ∷ f ∷ g ∷ h ∷ i ∷ x) n low = absurd (omega arith)

-- ---- equal basic values

-- basic values of the same type, the same bits and the same text are the same
pub same_parts : (v u : Value) (a b : Option ℕ) (x y : List ℕ) → BitsAre a v → BitsAre b u → TextIs x v → TextIs y u → spelling (type_of v) ≡ spelling (type_of u) → a ≡ b → x ≡ y → v ≡ u
same_parts (number k n) (number j m) (Some a) (Some b) x y h g i o e f q =
    ap₂ number (basic_parts k j (one_spelling (Ty.basic k) (Ty.basic j) e)) (sym h.0 ∙ same_Some a b f ∙ g.0)
same_parts (number k n) (number j m) None b x y h g i o e f q = absurd h
same_parts (number k n) (number j m) (Some a) None x y h g i o e f q = absurd g
same_parts (number k n) (text j t) (Some a) (Some b) x y h g i o e f q = absurd g
same_parts (number k n) (text j t) (Some a) None x y h g i o e f q = absurd cc
same_parts (number k n) (text j t) None b x y h g i o e f q = absurd h
same_parts (text k s) (number j m) (Some a) b x y h g i o e f q = absurd h
same_parts (text k s) (number j m) None (Some b) x y h g i o e f q = absurd cc
same_parts (text k s) (number j m) None None x y h g i o e f q = absurd g
same_parts (text k s) (text j t) a b x y h g i o e f q =
    ap₂ text (basic_parts k j (one_spelling (Ty.basic k) (Ty.basic j) e)) (sym i ∙ q ∙ o)
same_parts (node t vs) u a b x y h g i o e f q = absurd i
same_parts v (node t vs) a b x y h g i o e f q = absurd o

-- a basic value has one text
pub one_text : (v : Value) (x y : List ℕ) → TextIs x v → TextIs y v → x ≡ y
one_text (number k n) x y h g = h ∙ sym g
one_text (text k s) x y h g = h ∙ sym g
one_text (node t vs) x y h g = absurd h

-- bits that compare as equal
pub bits_compared : (a b : Option ℕ) → option_eq eqb a b ≡ true → a ≡ b
bits_compared None None e = refl
bits_compared None (Some b) e = absurd cc
bits_compared (Some a) None e = absurd cc
bits_compared (Some a) (Some b) e = ap (λ (n : ℕ). Some n) (eqb-true a b e)
