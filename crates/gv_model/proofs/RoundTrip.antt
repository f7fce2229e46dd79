-- What is written for a value is read as that value.
use Rattle.std.proofs.Common.{ℕ, ◌<◌, ◌≡◌, map, List, [], ◌∷◌, ◌++◌, length, Option, Some, None, refl, sym, ap, ap₂, ◌∙◌, subst, arith, true, false, cond, ◌==◌, eq-eqb, ne_eqb}
use Rattle.std.specs.Prelude.{option_map}
use Rattle.gv_model.specs.Ty.{Ty, Basic, Types}
use Rattle.gv_model.specs.Ty.Ty.{basic, variant, array, maybe, tuple, entry}
use Rattle.gv_model.specs.Ty.Types.{end, member}
use Rattle.gv_model.specs.Ty.Basic.{boolean, byte, int16, uint16, int32, uint32, int64, uint64, handle, double, string, path, signature}
use Rattle.gv_model.specs.Layout.{fixed_size, basic_size, or_one}
use Rattle.gv_model.specs.Tree.{Tree, Trees, type_of, basic_default}
use Rattle.gv_model.specs.Tree.Tree.{number, text, node}
use Rattle.gv_model.specs.Tree.Trees.{none, first}
use Rattle.gv_model.specs.Typed.{IsValue, AreValues, MayHold, IsNumber, IsTextOf, HasType}
use Rattle.gv_model.specs.BasicValue.{basic_value, basic_of_size, text_or_default, number_in, text_in, bits_of, truth}
use Rattle.gv_model.specs.Children.{Child, child_bytes, children_at}
use Rattle.gv_model.specs.Tuples.{tuple_spans}
use Rattle.gv_model.specs.Decode.{decode, tree_with, each, cut, spans}
use Rattle.gv_model.specs.Parts.{Part, parts, part_trees}
use Rattle.gv_model.specs.Encode.{encode, encoded_parts, packed, tuple_bytes, number_bytes}
use Rattle.gv_model.proofs.DecodeLaws.{decode_children}
use Rattle.gv_model.proofs.NumberBytes.{length-number_bytes, number_in-number_bytes}
use Rattle.gv_model.specs.Parts.{part_of}
use Rattle.gv_model.proofs.MemberLaws.{part_types, HasSize, HaveSizes, padded_size}
use Rattle.gv_model.proofs.ContainerParts.{NoZero, one_type, Holds, array_read, types-parts, tuple_holds, tuple_read, entry_holds, just_read, nothing_read, variant_read}
use Rattle.gv_model.proofs.InOrder.{cut_in_order}
use Rattle.gv_model.specs.EarlierReading.{earlier_cut}
use Rattle.gv_model.proofs.ChildLaws.{each_part}

-- Basic values

number_of_size : (k : Basic) (size n : ℕ) → 0 < size → bits_of k n ≡ n → basic_of_size k (number_bytes size n) (Some size) ≡ number k n
number_of_size k size n h e =
    let same : (length (number_bytes size n) == size) ≡ true = eq-eqb _ size (length-number_bytes size n) in
    let number_is : number_in (number_bytes size n) ≡ n = number_in-number_bytes size n h in
    rw (same, number_is) (ap (number k) e)

truth_same : (n : ℕ) → n < 2 → truth n ≡ n
truth_same n h = grind arith

number_read : (k : Basic) (n : ℕ) → IsNumber k n → basic_value k (number_bytes (or_one (basic_size k)) n) ≡ number k n
unfolding basic_value
number_read boolean n h = number_of_size boolean 1 n (omega arith) (truth_same n h)
number_read byte n h = number_of_size byte 1 n (omega arith) refl
number_read int16 n h = number_of_size int16 2 n (omega arith) refl
number_read uint16 n h = number_of_size uint16 2 n (omega arith) refl
number_read int32 n h = number_of_size int32 4 n (omega arith) refl
number_read uint32 n h = number_of_size uint32 4 n (omega arith) refl
number_read handle n h = number_of_size handle 4 n (omega arith) refl
number_read int64 n h = number_of_size int64 8 n (omega arith) refl
number_read uint64 n h = number_of_size uint64 8 n (omega arith) refl
number_read double n h = number_of_size double 8 n (omega arith) refl
number_read string n h = absurd h
number_read path n h = absurd h
number_read signature n h = absurd h

text_in-append : (s : List ℕ) → NoZero s → text_in (s ++ 0 ∷ []) ≡ Some s
unfolding text_in
text_in-append [] h = refl
text_in-append (c ∷ []) h = let no : (c == 0) ≡ false = ne_eqb c 0 (omega (arith, h.0)) in rw no refl
text_in-append (c ∷ d ∷ s) h = let no : (c == 0) ≡ false = ne_eqb c 0 (omega (arith, h.0)) in rw no (ap (option_map (λ r. c ∷ r)) (text_in-append (d ∷ s) h.1))

text_read : (k : Basic) (s : List ℕ) → IsTextOf k s → basic_value k (s ++ 0 ∷ []) ≡ text k s
unfolding basic_value
text_read k s h =
    let none = h.no_number in
    let found : text_in (s ++ 0 ∷ []) ≡ Some s = text_in-append s h.no_zero in
    let fine = h.allowed in
    ap (basic_of_size k (s ++ 0 ∷ [])) none ∙ (ap (text_or_default k) found ∙ ap (λ b. cond b (text k s) (basic_default k)) fine)

-- Sizes

tuple_size : (t : Ty) (xs : List Part) → HaveSizes xs → Holds t xs → HasSize (fixed_size t) (t, tuple_bytes xs (fixed_size t))
tuple_size t xs h g = go (fixed_size t) refl
  where
    go : (f : Option ℕ) → fixed_size t ≡ f → HasSize f (t, tuple_bytes xs f)
    go None e = tt
    go (Some n) e = padded_size xs n h (g n e)

number_has_size : (t : Ty) (n : ℕ) (f : Option ℕ) → HasSize f (t, number_bytes (or_one f) n)
number_has_size t n None = tt
number_has_size t n (Some s) = length-number_bytes s n

node_size : (t : Ty) (vs : Trees) → MayHold t vs → HaveSizes (encoded_parts vs) → HasSize (fixed_size t) (t, packed t (encoded_parts vs))
unfolding fixed_size packed
node_size (basic k) vs h g = absurd h
node_size variant vs h g = tt
node_size (array t) vs h g = tt
node_size (maybe t) vs h g = tt
node_size (tuple ts) vs h g = tuple_size (tuple ts) (encoded_parts vs) g (tuple_holds ts (encoded_parts vs) (types-parts vs ∙ h))
node_size (entry k t) vs h g = tuple_size (entry k t) (encoded_parts vs) g (entry_holds k t (encoded_parts vs) (types-parts vs ∙ h))

number_size : (k : Basic) (n : ℕ) → HasSize (fixed_size (basic k)) (basic k, encode (number k n))
unfolding fixed_size encode
number_size k n = number_has_size (basic k) n (basic_size k)

text_size : (k : Basic) (s : List ℕ) → basic_size k ≡ None → HasSize (fixed_size (basic k)) (basic k, encode (text k s))
unfolding fixed_size
text_size k s e = subst (λ (f : Option ℕ). HasSize f (basic k, encode (text k s))) (sym e) tt

pub node_encode : (t : Ty) (vs : Trees) → encode (node t vs) ≡ packed t (encoded_parts vs)
unfolding encode
node_encode t vs = refl

pub parts_none : encoded_parts none ≡ []
unfolding encoded_parts
parts_none = refl

pub parts_first : (v : Tree) (vs : Trees) → encoded_parts (first v vs) ≡ (type_of v, encode v) ∷ encoded_parts vs
unfolding encoded_parts
parts_first v vs = refl

mutual
  size_of_value : (v : Tree) → IsValue v → HasSize (fixed_size (type_of v)) (type_of v, encode v)
  size_of_value (number k n) h = number_size k n
  size_of_value (text k s) h = text_size k s h.no_number
  size_of_value (node t vs) h = subst (λ (b : List ℕ). HasSize (fixed_size t) (t, b)) (sym (node_encode t vs)) (node_size t vs h.0 (sizes_of_values vs h.1))

  pub sizes_of_values : (vs : Trees) → AreValues vs → HaveSizes (encoded_parts vs)
  sizes_of_values none h = subst HaveSizes (sym parts_none) tt
  sizes_of_values (first v vs) h = subst HaveSizes (sym (parts_first v vs)) (size_of_value v h.0, sizes_of_values vs h.1)

cut_tuple : (ts : Types) (b : List ℕ) → earlier_cut (tuple ts) b ≡ children_at (length b) (tuple_spans (tuple ts) ts b)
unfolding earlier_cut spans
cut_tuple ts b = refl

cut_entry : (k : Basic) (t : Ty) (b : List ℕ) → earlier_cut (entry k t) b ≡ children_at (length b) (tuple_spans (entry k t) (member (basic k) (member t end)) b)
unfolding earlier_cut spans
cut_entry k t b = refl

packed_tuple : (ts : Types) (xs : List Part) → packed (tuple ts) xs ≡ tuple_bytes xs (fixed_size (tuple ts))
unfolding packed
packed_tuple ts xs = refl

packed_entry : (k : Basic) (t : Ty) (xs : List Part) → packed (entry k t) xs ≡ tuple_bytes xs (fixed_size (entry k t))
unfolding packed
packed_entry k t xs = refl

-- the parts of a written container, each by its own bounds
read_apart : (t : Ty) (vs : Trees) → MayHold t vs → AreValues vs → map (part_of (packed t (encoded_parts vs))) (earlier_cut t (packed t (encoded_parts vs))) ≡ encoded_parts vs
unfolding encoded_parts
read_apart (basic k) vs h g = absurd h
read_apart variant none h g = absurd h
read_apart variant (first v none) h g = variant_read (type_of v) (encode v) h
read_apart variant (first v (first u vs)) h g = absurd h
read_apart (array t) vs h g = array_read t (encoded_parts vs) (one_type t vs h) (sizes_of_values vs g)
read_apart (maybe t) none h g = nothing_read t
read_apart (maybe t) (first v none) h g = just_read t (type_of v, encode v) h (size_of_value v g.0)
read_apart (maybe t) (first v (first u vs)) h g = absurd h
read_apart (tuple ts) vs h g =
    let xs = encoded_parts vs in
    let types : part_types xs ≡ ts = types-parts vs ∙ h in
    ap (λ (b : List ℕ). map (part_of b) (earlier_cut (tuple ts) b)) (packed_tuple ts xs)
    ∙ (ap (map (part_of (tuple_bytes xs (fixed_size (tuple ts))))) (cut_tuple ts (tuple_bytes xs (fixed_size (tuple ts))))
    ∙ (ap (λ (us : Types). map (part_of (tuple_bytes xs (fixed_size (tuple ts)))) (children_at (length (tuple_bytes xs (fixed_size (tuple ts)))) (tuple_spans (tuple ts) us (tuple_bytes xs (fixed_size (tuple ts)))))) (sym types)
    ∙ tuple_read (tuple ts) xs (sizes_of_values vs g) (tuple_holds ts xs types)))
read_apart (entry k t) vs h g =
    let xs = encoded_parts vs in
    let types : part_types xs ≡ member (basic k) (member t end) = types-parts vs ∙ h in
    ap (λ (b : List ℕ). map (part_of b) (earlier_cut (entry k t) b)) (packed_entry k t xs)
    ∙ (ap (map (part_of (tuple_bytes xs (fixed_size (entry k t))))) (cut_entry k t (tuple_bytes xs (fixed_size (entry k t))))
    ∙ (ap (λ (us : Types). map (part_of (tuple_bytes xs (fixed_size (entry k t)))) (children_at (length (tuple_bytes xs (fixed_size (entry k t)))) (tuple_spans (entry k t) us (tuple_bytes xs (fixed_size (entry k t)))))) (sym types)
    ∙ tuple_read (entry k t) xs (sizes_of_values vs g) (entry_holds k t xs types)))

pub node_read : (t : Ty) (vs : Trees) → MayHold t vs → AreValues vs → parts t (packed t (encoded_parts vs)) ≡ encoded_parts vs
unfolding parts
node_read t vs h g = ap (map (part_of (packed t (encoded_parts vs)))) (cut_in_order t vs h (sizes_of_values vs g)) ∙ read_apart t vs h g

tree_node : (f : Child → Tree) (t : Ty) (b : List ℕ) (vs : Trees) → MayHold t vs → tree_with f t b ≡ node t (each f (cut t b))
tree_node f (basic k) b vs h = absurd h
tree_node f variant b vs h = refl
tree_node f (array t) b vs h = refl
tree_node f (maybe t) b vs h = refl
tree_node f (tuple ts) b vs h = refl
tree_node f (entry k t) b vs h = refl

node_case : (t : Ty) (vs : Trees) → MayHold t vs → AreValues vs → part_trees (encoded_parts vs) ≡ vs → decode t (encode (node t vs)) ≡ node t vs
unfolding parts
node_case t vs h g same =
    let b = packed t (encoded_parts vs) in
    let f = λ (c : Child). decode c.type (child_bytes b c) in
    ap (decode t) (node_encode t vs)
    ∙ (decode_children t b
    ∙ (tree_node f t b vs h
    ∙ ap (node t) (each_part b (cut t b) ∙ (ap part_trees (node_read t vs h g) ∙ same))))

number_case : (k : Basic) (n : ℕ) → IsNumber k n → decode (basic k) (encode (number k n)) ≡ number k n
unfolding encode
number_case k n h = decode_children (basic k) (number_bytes (or_one (basic_size k)) n) ∙ number_read k n h

text_case : (k : Basic) (s : List ℕ) → IsTextOf k s → decode (basic k) (encode (text k s)) ≡ text k s
unfolding encode
text_case k s h = decode_children (basic k) (s ++ 0 ∷ []) ∙ text_read k s h

mutual
  -- what is written for a value is read as that value
  decode-encode : (v : Tree) → IsValue v → decode (type_of v) (encode v) ≡ v
  decode-encode (number k n) h = number_case k n h
  decode-encode (text k s) h = text_case k s h
  decode-encode (node t vs) h = node_case t vs h.0 h.1 (trees_of-parts vs h.1)

  trees_of-parts : (vs : Trees) → AreValues vs → part_trees (encoded_parts vs) ≡ vs
  trees_of-parts none h = ap part_trees parts_none
  trees_of-parts (first v vs) h = ap part_trees (parts_first v vs) ∙ ap₂ first (decode-encode v h.0) (trees_of-parts vs h.1)

-- at the type of a value
pub round_trip : (t : Ty) (v : Tree) → HasType v t → decode t (encode v) ≡ v
round_trip t v h = ap (λ (u : Ty). decode u (encode v)) (sym h.type) ∙ decode-encode v h.value
