-- The parts of a value and the trees of its children.
use Rattle.std.proofs.Common.{◌≡◌, ℕ, zero, suc, Bool, true, false, cond, List, [], ◌∷◌, length, Option, None, refl, ap, ◌∙◌, arith}
use Rattle.std.specs.Prelude.{All, map}
use Rattle.gv_model.specs.Ty.{Ty, Basic}
use Rattle.gv_model.specs.Ty.Ty.{basic, array, entry}
use Rattle.gv_model.specs.Layout.{fixed_size}
use Rattle.gv_model.specs.Tree.Tree.{node}
use Rattle.gv_model.specs.Children.{Span, child_at, children_at, child_bytes, is_out, nowhere, ordered}
use Rattle.gv_model.specs.Tuples.{empty_spans, member_spans, is_other_size}
use Rattle.gv_model.specs.Decode.{decode, cut, spans, body}
use Rattle.gv_model.specs.Parts.{Part, part_of, parts, part_trees}
use Rattle.gv_model.proofs.ChildLaws.{each_part}
use Rattle.gv_model.proofs.DecodeLaws.{OfTypes, of_elements, decode_children}

pub array_value : (u : Ty) (b : List ℕ) → decode (array u) b ≡ node (array u) (part_trees (parts (array u) b))
unfolding parts
array_value u b = decode_children (array u) b ∙ ap (node (array u)) (each_part b (cut (array u) b))

pub entry_value : (k : Basic) (t : Ty) (b : List ℕ) → decode (entry k t) b ≡ node (entry k t) (part_trees (parts (entry k t) b))
unfolding parts
entry_value k t b = decode_children (entry k t) b ∙ ap (node (entry k t)) (each_part b (cut (entry k t) b))

-- ---- the types of parts

types_of_parts : (P : Ty → Type 0) (n : ℕ) (b : List ℕ) (xs : List (Ty × Span)) → OfTypes P xs → All (λ (p : Part). P p.0) (map (part_of b) (children_at n xs))
types_of_parts P n b [] h k d lt = absurd (omega arith)
types_of_parts P n b (x ∷ xs) h zero d lt = h.0
types_of_parts P n b (x ∷ xs) h (suc k) d lt = types_of_parts P n b xs h.1 k d (omega arith)

of_nowhere : (P : Ty → Type 0) (xs : List (Ty × Span)) → OfTypes P xs → OfTypes P (map nowhere xs)
of_nowhere P [] h = tt
of_nowhere P (x ∷ xs) h = (h.0, of_nowhere P xs h.1)

-- the order changes no type
of_ordered : (P : Ty → Type 0) (e : Option ℕ) (xs : List (Ty × Span)) → OfTypes P xs → OfTypes P (ordered e xs)
unfolding ordered
of_ordered P e [] h = tt
of_ordered P e (x ∷ xs) h = go (is_out e x.1) (of_ordered P e xs h.1)
  where
    go : (out : Bool) → OfTypes P (ordered e xs) → OfTypes P (cond out (map nowhere (x ∷ xs)) (x ∷ ordered e xs))
    go true later = of_nowhere P (x ∷ xs) h
    go false later = (h.0, later)

-- each part of an array is of the element's type
pub array_parts : (u : Ty) (b : List ℕ) → All (λ (p : Part). p.0 ≡ u) (parts (array u) b)
unfolding parts cut spans
array_parts u b = types_of_parts (λ t. t ≡ u) (length b) b (ordered (body (array u) b) (spans (array u) b))
    (of_ordered (λ t. t ≡ u) (body (array u) b) (spans (array u) b) (of_elements (λ t. t ≡ u) u b (fixed_size u) refl))

-- an entry has two parts, its key and its value
pub record IsPair (k : Basic) (t : Ty) (ps : List Part) : Type 0 where
  pub key : List ℕ
  pub value : List ℕ
  pub are : ps ≡ (basic k, key) ∷ (t, value) ∷ []

pair_of : (k : Basic) (t : Ty) (n : ℕ) (b : List ℕ) (x y : Span) → IsPair k t (map (part_of b) (children_at n ((basic k, x) ∷ (t, y) ∷ [])))
pair_of k t n b x y = record { key = child_bytes b (child_at n (basic k, x)); value = child_bytes b (child_at n (t, y)); are = refl }

ordered_pair : (k : Basic) (t : Ty) (n : ℕ) (b : List ℕ) (e : Option ℕ) (x y : Span) → IsPair k t (map (part_of b) (children_at n (ordered e ((basic k, x) ∷ (t, y) ∷ []))))
unfolding ordered
ordered_pair k t n b e x y = go (is_out e x) (is_out e y)
  where
    go : (first second : Bool) → IsPair k t (map (part_of b) (children_at n (cond first ((basic k, None) ∷ (t, None) ∷ []) ((basic k, x) ∷ cond second ((t, None) ∷ []) ((t, y) ∷ [])))))
    go true second = pair_of k t n b None None
    go false true = pair_of k t n b x None
    go false false = pair_of k t n b x y

pair_if : (k : Basic) (t : Ty) (n : ℕ) (b : List ℕ) (e : Option ℕ) (test : Bool) (x y v w : Span)
    → IsPair k t (map (part_of b) (children_at n (ordered e (cond test ((basic k, x) ∷ (t, y) ∷ []) ((basic k, v) ∷ (t, w) ∷ [])))))
pair_if k t n b e true x y v w = ordered_pair k t n b e x y
pair_if k t n b e false x y v w = ordered_pair k t n b e v w

pub entry_parts : (k : Basic) (t : Ty) (b : List ℕ) → IsPair k t (parts (entry k t) b)
unfolding parts cut spans empty_spans member_spans
entry_parts k t b = pair_if k t (length b) b (body (entry k t) b) (is_other_size (fixed_size (entry k t)) (length b)) _ _ _ _
