-- A container's bytes are normal exactly where they are packed of parts that are, each of a level less.
use Rattle.std.proofs.Common.{ℕ, suc, ◌+◌, ◌≤◌, ◌≡◌, map, List, [], ◌∷◌, refl, sym, ap, ap₂, ◌∙◌, subst, arith}
use Rattle.std.specs.List.{AllByRecursion}
use Rattle.gv_model.specs.Ty.{Ty, Types, Basic}
use Rattle.gv_model.specs.Ty.Ty.{basic}
use Rattle.gv_model.specs.Layout.{fixed_size}
use Rattle.gv_model.specs.Tree.{Tree, Trees, type_of, depth, greatest_depth, nodes, nodes_of}
use Rattle.gv_model.specs.Tree.Tree.{number, text, node}
use Rattle.gv_model.specs.Typed.{AreValues, IsValue, MayHold, AllOf, types_of}
use Rattle.gv_model.specs.Children.{Child}
use Rattle.gv_model.specs.Decode.{decode, cut}
use Rattle.gv_model.specs.Parts.{Part, part_of, parts, part_trees}
use Rattle.gv_model.specs.Encode.{encode, encoded_parts, packed}
use Rattle.gv_model.specs.Normal.{IsContainer, IsPartEncoded}
use Rattle.gv_model.proofs.ChildLaws.{each_part}
use Rattle.gv_model.proofs.MemberLaws.{part_types, HasSize, HaveSizes}
use Rattle.gv_model.proofs.NormalLaws.{decode_node}
use Rattle.gv_model.proofs.PlacedParts.{OneType}
use Rattle.gv_model.proofs.ValueBound.{node_nodes}
use Rattle.gv_model.proofs.RoundTrip.{round_trip, node_encode, parts_none, parts_first, sizes_of_values}
use Rattle.gv_model.proofs.WellTyped.{IsBytes, bytes_of_bytes, type_of-decode, decode_is_value, children_held}
use Rattle.gv_model.proofs.WrittenLaws.{container_written}
use Rattle.gv_normal.specs.InPlace.{IsNormalWithin}

abbrev pub AreNormal : ℕ → List Part → Type 0
AreNormal d ps = AllByRecursion (λ p. IsNormalWithin d p.0 p.1) ps

abbrev pub AreOfBytes : List Part → Type 0
AreOfBytes ps = AllByRecursion (λ p. IsBytes p.1) ps

-- bytes that are packed of such parts
pub record PackedOf (d : ℕ) (t : Ty) (b : List ℕ) (ps : List Part) : Type 0 where
  pub held : MayHold t (part_trees ps)
  pub normal : AreNormal d ps
  pub bytes : AreOfBytes ps
  pub whole : b ≡ packed t ps

same_part : (d : ℕ) (p : Part) → IsNormalWithin d p.0 p.1 → (type_of (decode p.0 p.1), encode (decode p.0 p.1)) ≡ p
same_part d p h = ap₂ (λ (t : Ty) (x : List ℕ). let q : Part = (t, x) in q) (type_of-decode p.0 p.1) (sym h.written)

same_parts : (d : ℕ) (ps : List Part) → AreNormal d ps → encoded_parts (part_trees ps) ≡ ps
same_parts d [] h = parts_none
same_parts d (p ∷ ps) h = parts_first (decode p.0 p.1) (part_trees ps) ∙ ap₂ ◌∷◌ (same_part d p h.0) (same_parts d ps h.1)

part_values : (ps : List Part) → AreOfBytes ps → AreValues (part_trees ps)
part_values [] h = tt
part_values (p ∷ ps) h = (decode_is_value p.0 p.1 h.0, part_values ps h.1)

deepest : (d : ℕ) (ps : List Part) → AreNormal d ps → greatest_depth (part_trees ps) ≤ d
unfolding greatest_depth
deepest d [] h = omega arith
deepest d (p ∷ ps) h = omega (arith, h.0.shallow, deepest d ps h.1)

depth_node : (t : Ty) (vs : Trees) → depth (node t vs) ≡ suc (greatest_depth vs)
unfolding depth greatest_depth
depth_node t vs = refl

encoded_of_parts : (d : ℕ) (t : Ty) (b : List ℕ) (ps : List Part) → PackedOf d t b ps → b ≡ encode (node t (part_trees ps))
encoded_of_parts d t b ps h = h.whole ∙ (ap (packed t) (sym (same_parts d ps h.normal)) ∙ sym (node_encode t (part_trees ps)))

tree_of_packed : (d : ℕ) (t : Ty) (b : List ℕ) (ps : List Part) → PackedOf d t b ps → decode t b ≡ node t (part_trees ps)
tree_of_packed d t b ps h =
    ap (decode t) (encoded_of_parts d t b ps h) ∙ round_trip t (node t (part_trees ps)) (record { type = refl; value = (h.held, part_values ps h.bytes) })

pub normal_of_parts : (d : ℕ) (t : Ty) (b : List ℕ) (ps : List Part) → PackedOf d t b ps → IsNormalWithin (suc d) t b
normal_of_parts d t b ps h =
    let read = tree_of_packed d t b ps h in
    record {
      written = encoded_of_parts d t b ps h ∙ ap encode (sym read);
      shallow = omega (arith, ap depth read, depth_node t (part_trees ps), deepest d ps h.normal);
    }

-- a tree of a basic type has no parts
one_value : (v : Tree) (k : Basic) → type_of v ≡ basic k → IsValue v → nodes v ≡ 1
unfolding nodes
one_value (number j n) k e h = refl
one_value (text j s) k e h = refl
one_value (node t vs) k e h = absurd (subst (λ (u : Ty). MayHold u vs) e h.0)

pub basic_value_is_one : (k : Basic) (b : List ℕ) → IsBytes b → nodes (decode (basic k) b) ≡ 1
basic_value_is_one k b bytes = one_value (decode (basic k) b) k (type_of-decode (basic k) b) (decode_is_value (basic k) b bytes)

-- how many values there are in some parts
abbrev pub values_of : List Part → ℕ
values_of [] = 0
values_of (p ∷ ps) = nodes (decode p.0 p.1) + values_of ps

trees_values : (ps : List Part) → nodes_of (part_trees ps) ≡ values_of ps
unfolding nodes
trees_values [] = refl
trees_values (p ∷ ps) = ap (λ n. nodes (decode p.0 p.1) + n) (trees_values ps)

pub packed_values : (d : ℕ) (t : Ty) (b : List ℕ) (ps : List Part) → PackedOf d t b ps → nodes (decode t b) ≡ suc (values_of ps)
packed_values d t b ps h = ap nodes (tree_of_packed d t b ps h) ∙ (node_nodes t (part_trees ps) ∙ ap (λ n. suc n) (trees_values ps))

-- ---- and the other way round

all_bytes : (b : List ℕ) (cs : List Child) → IsBytes b → AreOfBytes (map (part_of b) cs)
all_bytes b [] h = tt
all_bytes b (c ∷ cs) h = (bytes_of_bytes b c h, all_bytes b cs h)

all_normal : (d : ℕ) (ps : List Part) → AllByRecursion IsPartEncoded ps → greatest_depth (part_trees ps) ≤ d → AreNormal d ps
unfolding greatest_depth
all_normal d [] h g = tt
all_normal d (p ∷ ps) h g = (record { written = h.0; shallow = omega (arith, g) }, all_normal d ps h.1 (omega (arith, g)))

tree_of_parts : (t : Ty) (b : List ℕ) → IsContainer t → decode t b ≡ node t (part_trees (parts t b))
unfolding parts
tree_of_parts t b k = decode_node t b k ∙ ap (node t) (each_part b (cut t b))

held_parts : (t : Ty) (b : List ℕ) → IsContainer t → MayHold t (part_trees (parts t b))
unfolding parts
held_parts t b k = subst (MayHold t) (each_part b (cut t b)) (children_held t b k)

bytes_of_parts : (t : Ty) (b : List ℕ) → IsBytes b → AreOfBytes (parts t b)
unfolding parts
bytes_of_parts t b h = all_bytes b (cut t b) h

pub parts_of_normal : (d : ℕ) (t : Ty) (b : List ℕ) → IsBytes b → IsContainer t → IsNormalWithin (suc d) t b → PackedOf d t b (parts t b)
parts_of_normal d t b bytes k h =
    let law = (container_written t b bytes k).0 h.written in
    let low : greatest_depth (part_trees (parts t b)) ≤ d = omega (arith, h.shallow, ap depth (tree_of_parts t b k), depth_node t (part_trees (parts t b))) in
    record { held = held_parts t b k; normal = all_normal d (parts t b) law.0 low; bytes = bytes_of_parts t b bytes; whole = law.1 }

-- ---- types and sizes of parts

pub sizes_of_parts : (d : ℕ) (ps : List Part) → AreNormal d ps → AreOfBytes ps → HaveSizes ps
sizes_of_parts d ps h g = subst HaveSizes (same_parts d ps h) (sizes_of_values (part_trees ps) (part_values ps g))

pub types_of_parts : (ps : List Part) → types_of (part_trees ps) ≡ part_types ps
types_of_parts [] = refl
types_of_parts (p ∷ ps) = ap₂ Types.member (type_of-decode p.0 p.1) (types_of_parts ps)

pub one_type_held : (t : Ty) (ps : List Part) → AllOf t (part_trees ps) → OneType t ps
one_type_held t [] h = tt
one_type_held t (p ∷ ps) h = (sym (type_of-decode p.0 p.1) ∙ h.0, one_type_held t ps h.1)

pub held_one_type : (t : Ty) (ps : List Part) → OneType t ps → AllOf t (part_trees ps)
held_one_type t [] h = tt
held_one_type t (p ∷ ps) h = (type_of-decode p.0 p.1 ∙ h.0, held_one_type t ps h.1)

one_level : (v : Tree) → 1 ≤ depth v
unfolding depth
one_level (number k n) = omega arith
one_level (text k s) = omega arith
one_level (node t vs) = omega arith

-- no value is without a level
pub some_level : (t : Ty) (b : List ℕ) → IsNormalWithin 0 t b → ⊥
some_level t b h = absurd (omega (arith, h.shallow, one_level (decode t b)))

-- a normal value of a fixed size has that size
pub normal_size : (d : ℕ) (t : Ty) (b : List ℕ) → IsBytes b → IsNormalWithin d t b → HasSize (fixed_size t) (t, b)
normal_size d t b bytes h = (sizes_of_parts d ((t, b) ∷ []) (h, tt) (bytes, tt)).0
