-- What is written of each kind of value.
use Rattle.std.proofs.Common.{ℕ, ◌≡◌, List, [], ◌∷◌, ◌++◌, length, Option, Some, None, refl, sym, ap, ◌∙◌, arith, append-nil}
use Rattle.gv_model.specs.Ty.{Ty, Types, Basic, spelling}
use Rattle.gv_model.specs.Ty.Ty.{variant, array, maybe, tuple, entry}
use Rattle.gv_model.specs.Layout.{fixed_size}
use Rattle.gv_model.specs.Tree.{Tree, Trees, type_of}
use Rattle.gv_model.specs.Tree.Tree.{node}
use Rattle.gv_model.specs.Tree.Trees.{none, first}
use Rattle.gv_model.specs.Encode.{encode, encoded_parts, packed, array_bytes, tuple_bytes, just_bytes, framed, body_from, open_ends_from}
use Rattle.gv_tree.specs.Nodes.{trees_of}
use Rattle.gv_build.specs.Writing.{parts_of, just_end, element_size, tuple_end}

encode_nothing' : (t : Ty) → encode (node (maybe t) none) ≡ []
unfolding encode packed
encode_nothing' t = refl

pub encode_nothing : (v : Tree) (t : Ty) → v ≡ node (maybe t) none → encode v ≡ []
encode_nothing v t e = ap encode e ∙ encode_nothing' t

just_ends : (b : List ℕ) (f : Option ℕ) → just_bytes b f ≡ b ++ just_end f
just_ends b None = refl
just_ends b (Some n) = sym (append-nil b)

encode_just' : (c : Tree) → encode (node (maybe (type_of c)) (first c none)) ≡ just_bytes (encode c) (fixed_size (type_of c))
unfolding encode packed
encode_just' c = refl

pub encode_just : (v c : Tree) → v ≡ node (maybe (type_of c)) (first c none) → encode v ≡ encode c ++ just_end (fixed_size (type_of c))
encode_just v c e = ap encode e ∙ (encode_just' c ∙ just_ends (encode c) (fixed_size (type_of c)))

encode_variant' : (c : Tree) → encode (node variant (first c none)) ≡ encode c ++ 0 ∷ spelling (type_of c)
unfolding encode packed
encode_variant' c = refl

pub encode_variant : (v c : Tree) → v ≡ node variant (first c none) → encode v ≡ encode c ++ 0 ∷ spelling (type_of c)
encode_variant v c e = ap encode e ∙ encode_variant' c

encode_array' : (t : Ty) (vs : Trees) → encode (node (array t) vs) ≡ array_bytes (encoded_parts vs) (fixed_size t)
unfolding encode packed
encode_array' t vs = refl

pub encode_array : (v : Tree) (u t : Ty) (xs : List Tree) → u ≡ type_of v → v ≡ node (array t) (trees_of xs) → array_bytes (parts_of xs) (element_size u) ≡ encode v
encode_array v u t xs h e = ap (λ w. array_bytes (parts_of xs) (element_size w)) (h ∙ ap type_of e) ∙ (sym (encode_array' t (trees_of xs)) ∙ ap encode (sym e))

encode_tuple' : (ts : Types) (vs : Trees) → encode (node (tuple ts) vs) ≡ tuple_bytes (encoded_parts vs) (fixed_size (tuple ts))
unfolding encode packed
encode_tuple' ts vs = refl

pub encode_tuple : (v : Tree) (u : Ty) (ts : Types) (xs : List Tree) → u ≡ type_of v → v ≡ node (tuple ts) (trees_of xs) → tuple_bytes (parts_of xs) (fixed_size u) ≡ encode v
encode_tuple v u ts xs h e = ap (λ w. tuple_bytes (parts_of xs) (fixed_size w)) (h ∙ ap type_of e) ∙ (sym (encode_tuple' ts (trees_of xs)) ∙ ap encode (sym e))

encode_entry' : (k : Basic) (t : Ty) (vs : Trees) → encode (node (entry k t) vs) ≡ tuple_bytes (encoded_parts vs) (fixed_size (entry k t))
unfolding encode packed
encode_entry' k t vs = refl

pub encode_entry : (v : Tree) (u : Ty) (k : Basic) (t : Ty) (before : List Tree) (key last : Tree) → before ≡ key ∷ [] → u ≡ type_of v → v ≡ node (entry k t) (first key (first last none)) → tuple_bytes (parts_of (before ++ last ∷ [])) (fixed_size u) ≡ encode v
encode_entry v u k t before key last one h e =
    ap (λ us. tuple_bytes (parts_of (us ++ last ∷ [])) (fixed_size u)) one
    ∙ (ap (λ w. tuple_bytes (parts_of (key ∷ last ∷ [])) (fixed_size w)) (h ∙ ap type_of e)
    ∙ (sym (encode_entry' k t (first key (first last none))) ∙ ap encode (sym e)))

pub empty_tuple : (xs : List Tree) (f : Option ℕ) → length xs ≡ 0 → tuple_end f 0 [] ≡ tuple_bytes (parts_of xs) f
unfolding body_from open_ends_from framed encoded_parts
empty_tuple [] None h = refl
empty_tuple [] (Some n) h = refl
empty_tuple (x ∷ xs) f h = absurd (omega arith)
