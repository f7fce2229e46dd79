-- A container is written so where its children are and they are packed so.
use Rattle.std.proofs.Common.{ℕ, ◌≡◌, map, List, [], ◌∷◌, sym, ap, ap₂, ◌∙◌, subst}
use Rattle.gv_model.specs.Ty.{Ty}
use Rattle.gv_model.specs.Ty.Ty.{basic, variant, array, maybe, tuple, entry}
use Rattle.gv_model.specs.Tree.{type_of}
use Rattle.gv_model.specs.Tree.Tree.{node}
use Rattle.gv_model.specs.Typed.{IsValue, AreValues, MayHold}
use Rattle.gv_model.specs.Children.{Child, child_bytes}
use Rattle.gv_model.specs.Decode.{decode, each, cut}
use Rattle.gv_model.specs.Parts.{Part, part_of, parts}
use Rattle.gv_model.specs.Encode.{encode, encoded_parts, packed}
use Rattle.gv_model.specs.Normal.{IsEncoded, IsContainer}
use Rattle.gv_model.proofs.DecodeLaws.{decode_children, Each, child_value}
use Rattle.gv_model.proofs.RoundTrip.{node_read, node_encode, parts_none, parts_first}
use Rattle.gv_model.proofs.WellTyped.{IsBytes, type_of-decode, decode_is_value}
use Rattle.gv_model.proofs.ListLaws.{same_head, same_tail}

pub decode_node : (t : Ty) (b : List ℕ) → IsContainer t → decode t b ≡ node t (each (child_value b) (cut t b))
decode_node (basic k) b h = absurd h
decode_node variant b h = decode_children variant b
decode_node (array t) b h = decode_children (array t) b
decode_node (maybe t) b h = decode_children (maybe t) b
decode_node (tuple ts) b h = decode_children (tuple ts) b
decode_node (entry k t) b h = decode_children (entry k t) b

-- a child's bytes are written so
abbrev pub ChildWritten : List ℕ → Child → Type 0
ChildWritten b c = IsEncoded c.type (child_bytes b c)

same_parts : (b : List ℕ) (cs : List Child) → Each (ChildWritten b) cs → map (part_of b) cs ≡ encoded_parts (each (child_value b) cs)
same_parts b [] h = sym parts_none
same_parts b (c ∷ cs) h =
    ap₂ ◌∷◌ (ap₂ (λ (t : Ty) (x : List ℕ). let p : Part = (t, x) in p) (sym (type_of-decode c.type (child_bytes b c))) h.0) (same_parts b cs h.1)
    ∙ sym (parts_first (child_value b c) (each (child_value b) cs))

each_written : (b : List ℕ) (cs : List Child) → map (part_of b) cs ≡ encoded_parts (each (child_value b) cs) → Each (ChildWritten b) cs
each_written b [] e = tt
each_written b (c ∷ cs) e =
    let same : part_of b c ∷ map (part_of b) cs ≡ (type_of (child_value b c), encode (child_value b c)) ∷ encoded_parts (each (child_value b) cs) = e ∙ parts_first (child_value b c) (each (child_value b) cs) in
    (ap (λ (p : Part). p.1) (same_head same), each_written b cs (same_tail same))

-- A container's bytes are written so exactly where they are its children's, packed, and each child's are.
pub written_from_children : (t : Ty) (b : List ℕ) → IsContainer t → Each (ChildWritten b) (cut t b) → b ≡ packed t (parts t b) → IsEncoded t b
unfolding parts
written_from_children t b k h e =
    e ∙ (ap (packed t) (same_parts b (cut t b) h) ∙ sym (ap encode (decode_node t b k) ∙ node_encode t (each (child_value b) (cut t b))))

-- what is written for a container is written of its children
pub record IsWritten (t : Ty) (b : List ℕ) : Type 0 where
  pub held : MayHold t (each (child_value b) (cut t b))
  pub values : AreValues (each (child_value b) (cut t b))
  pub whole : b ≡ packed t (encoded_parts (each (child_value b) (cut t b)))

pub container_parts : (t : Ty) (b : List ℕ) → IsBytes b → IsContainer t → IsEncoded t b → IsWritten t b
container_parts t b bytes k w =
    let vs = each (child_value b) (cut t b) in
    let value : IsValue (node t vs) = subst IsValue (decode_node t b k) (decode_is_value t b bytes) in
    record { held = value.0; values = value.1; whole = w ∙ (ap encode (decode_node t b k) ∙ node_encode t vs) }

pub children_written : (t : Ty) (b : List ℕ) → IsBytes b → IsContainer t → IsEncoded t b → Each (ChildWritten b) (cut t b) × (b ≡ packed t (parts t b))
unfolding parts
children_written t b bytes k w =
    let vs = each (child_value b) (cut t b) in
    let of = container_parts t b bytes k w in
    let same : parts t b ≡ encoded_parts vs = ap (parts t) of.whole ∙ node_read t vs of.held of.values in
    (each_written b (cut t b) same, of.whole ∙ ap (packed t) (sym same))
