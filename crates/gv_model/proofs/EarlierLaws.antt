-- What was written for a value was read as that value before, and the same bytes were normal.
use Rattle.std.proofs.Common.{ℕ, zero, suc, ◌+◌, ◌≤◌, ◌≡◌, ◌↔◌, List, [], ◌∷◌, length, refl, sym, ap, ◌∙◌, subst, arith}
use Rattle.gv_model.specs.Ty.{Ty, spelling}
use Rattle.gv_model.specs.Ty.Ty.{basic, variant, array, maybe, tuple, entry}
use Rattle.gv_model.specs.Tree.{Tree, type_of, depth}
use Rattle.gv_model.specs.Tree.Tree.{node}
use Rattle.gv_model.specs.Typed.{IsValue, HasType}
use Rattle.gv_model.specs.Children.{Child, child_bytes}
use Rattle.gv_model.specs.Decode.{decode, each, cut}
use Rattle.gv_model.specs.EarlierReading.{earlier_cut, earlier_tree_with, earlier_within, earlier_decode, WasNormal}
use Rattle.gv_model.specs.Encode.{encode}
use Rattle.gv_model.specs.Normal.{IsEncoded, IsNormal, IsContainer}
use Rattle.gv_model.proofs.DecodeLaws.{decode_children, Each, each_both, each_same, child_value, container_less, IsLess, weight, weight_le}
use Rattle.gv_model.proofs.EmptyLaws.{decode-nil}
use Rattle.gv_model.proofs.WellTyped.{IsBytes, bytes_of_bytes, type_of_tree, type_of_default_tree, default_is_value, basic_is_value, AtTypes, Fine, values_of_each, each_all, held_apart}
use Rattle.gv_model.proofs.InOrder.{cut_in_order}
use Rattle.gv_model.proofs.RoundTrip.{round_trip, sizes_of_values}
use Rattle.gv_model.proofs.NormalLaws.{decode_node, ChildWritten, container_parts, children_written}

-- ---- whatever bytes were read, the value was of the type at which they were read

type_of_earlier : (f : Child → Tree) (t : Ty) (b : List ℕ) → type_of (earlier_tree_with f t b) ≡ t
type_of_earlier f (basic k) b = type_of_tree f (basic k) b
type_of_earlier f variant b = refl
type_of_earlier f (array t) b = refl
type_of_earlier f (maybe t) b = refl
type_of_earlier f (tuple ts) b = refl
type_of_earlier f (entry k t) b = refl

type_within : (n : ℕ) (t : Ty) (b : List ℕ) → type_of (earlier_within n t b) ≡ t
unfolding earlier_within
type_within zero t b = type_of_default_tree t
type_within (suc n) t b = type_of_earlier (λ c. earlier_within n c.type (child_bytes b c)) t b

tree_was_value : (f : Child → Tree) (t : Ty) (b : List ℕ) → IsBytes b → AtTypes f → Each (Fine f) (earlier_cut t b) → IsValue (earlier_tree_with f t b)
tree_was_value f (basic k) b h g fine = basic_is_value k b h
tree_was_value f variant b h g fine = (held_apart f variant b tt g, values_of_each f (earlier_cut variant b) fine)
tree_was_value f (array t) b h g fine = (held_apart f (array t) b tt g, values_of_each f (earlier_cut (array t) b) fine)
tree_was_value f (maybe t) b h g fine = (held_apart f (maybe t) b tt g, values_of_each f (earlier_cut (maybe t) b) fine)
tree_was_value f (tuple ts) b h g fine = (held_apart f (tuple ts) b tt g, values_of_each f (earlier_cut (tuple ts) b) fine)
tree_was_value f (entry k t) b h g fine = (held_apart f (entry k t) b tt g, values_of_each f (earlier_cut (entry k t) b) fine)

value_within : (n : ℕ) (t : Ty) (b : List ℕ) → IsBytes b → IsValue (earlier_within n t b)
unfolding earlier_within
value_within zero t b h = default_is_value t
value_within (suc n) t b h =
    let f = λ (c : Child). earlier_within n c.type (child_bytes b c) in
    tree_was_value f t b h (λ c. type_within n c.type (child_bytes b c))
    (each_all f (λ c. (type_within n c.type (child_bytes b c), value_within n c.type (child_bytes b c) (bytes_of_bytes b c h))) (earlier_cut t b))

had_type : (t : Ty) (b : List ℕ) → IsBytes b → HasType (earlier_decode t b) t
unfolding earlier_decode
had_type t b h = record { type = type_within (length (spelling t) + length b) t b; value = value_within (length (spelling t) + length b) t b h }

-- ---- the same value

no_bytes : (b : List ℕ) → length b ≤ 0 → b ≡ []
no_bytes [] h = refl
no_bytes (x ∷ b) h = absurd (omega arith)

-- the children of what was written for a value lie where each by its own bounds does
same_cut : (t : Ty) (b : List ℕ) → IsBytes b → IsContainer t → IsEncoded t b → earlier_cut t b ≡ cut t b
same_cut t b bytes k w =
    let vs = each (child_value b) (cut t b) in
    let of = container_parts t b bytes k w in
    ap (earlier_cut t) of.whole ∙ (sym (cut_in_order t vs of.held (sizes_of_values vs of.values)) ∙ ap (cut t) (sym of.whole))

earlier_node : (f : Child → Tree) (t : Ty) (b : List ℕ) → IsContainer t → earlier_tree_with f t b ≡ node t (each f (earlier_cut t b))
earlier_node f (basic k) b h = absurd h
earlier_node f variant b h = refl
earlier_node f (array t) b h = refl
earlier_node f (maybe t) b h = refl
earlier_node f (tuple ts) b h = refl
earlier_node f (entry k t) b h = refl

same_node : (f : Child → Tree) (t : Ty) (b : List ℕ) → IsBytes b → IsContainer t → IsEncoded t b → Each (λ c. f c ≡ child_value b c) (cut t b) → earlier_tree_with f t b ≡ decode t b
same_node f t b bytes k w h =
    earlier_node f t b k
    ∙ (ap (λ cs. node t (each f cs)) (same_cut t b bytes k w)
    ∙ (ap (node t) (each_same f (child_value b) (cut t b) h) ∙ sym (decode_node t b k)))

-- down to depth n
abbrev SameWithin : ℕ → Type 0
SameWithin n = (t : Ty) (b : List ℕ) → IsBytes b → IsEncoded t b → weight t + length b ≤ n → earlier_within n t b ≡ decode t b

container_same : (n : ℕ) (t : Ty) (b : List ℕ) → SameWithin n → IsBytes b → IsContainer t → IsEncoded t b → weight t + length b ≤ suc n → earlier_tree_with (λ c. earlier_within n c.type (child_bytes b c)) t b ≡ decode t b
container_same n t b same bytes k w h =
    same_node (λ c. earlier_within n c.type (child_bytes b c)) t b bytes k w
    (each_both (IsLess t b) (ChildWritten b) (λ c. earlier_within n c.type (child_bytes b c) ≡ child_value b c)
    (λ c less e. same c.type (child_bytes b c) (bytes_of_bytes b c bytes) e (omega arith)) (cut t b) (container_less t b) (children_written t b bytes k w).0)

next_same : (n : ℕ) (t : Ty) (b : List ℕ) → SameWithin n → IsBytes b → IsEncoded t b → weight t + length b ≤ suc n → earlier_tree_with (λ c. earlier_within n c.type (child_bytes b c)) t b ≡ decode t b
next_same n (basic k) b same bytes w h = sym (decode_children (basic k) b)
next_same n variant b same bytes w h = container_same n variant b same bytes tt w h
next_same n (array t) b same bytes w h = container_same n (array t) b same bytes tt w h
next_same n (maybe t) b same bytes w h = container_same n (maybe t) b same bytes tt w h
next_same n (tuple ts) b same bytes w h = container_same n (tuple ts) b same bytes tt w h
next_same n (entry k t) b same bytes w h = container_same n (entry k t) b same bytes tt w h

same_within : (n : ℕ) → SameWithin n
unfolding earlier_within
same_within zero t b bytes w h = sym (ap (decode t) (no_bytes b (omega arith)) ∙ decode-nil t)
same_within (suc n) t b bytes w h = next_same n t b (same_within n) bytes w h

-- bytes that are written for a value had the same value before
pub same_value : (t : Ty) (b : List ℕ) → IsBytes b → IsEncoded t b → earlier_decode t b ≡ decode t b
unfolding earlier_decode
same_value t b bytes w = same_within (length (spelling t) + length b) t b bytes w (omega (arith, weight_le t))

-- ---- the same bytes

was_normal : (t : Ty) (b : List ℕ) → IsBytes b → IsNormal t b → WasNormal t b
was_normal t b bytes h =
    let same : earlier_decode t b ≡ decode t b = same_value t b bytes h.written in
    record { written = h.written ∙ ap encode (sym same); shallow = subst (λ (v : Tree). depth v ≤ 128) (sym same) h.shallow }

is_normal : (t : Ty) (b : List ℕ) → IsBytes b → WasNormal t b → IsNormal t b
is_normal t b bytes h =
    let same : decode t b ≡ earlier_decode t b = ap (decode t) h.written ∙ round_trip t (earlier_decode t b) (had_type t b bytes) in
    record { written = h.written ∙ ap encode (sym same); shallow = subst (λ (v : Tree). depth v ≤ 128) (sym same) h.shallow }

pub same_bytes : (t : Ty) (b : List ℕ) → IsBytes b → IsNormal t b ↔ WasNormal t b
same_bytes t b bytes = (was_normal t b bytes, is_normal t b bytes)
