-- The children of a value are the values of its children.
use Rattle.std.proofs.Common.{ℕ, zero, suc, ◌≡◌, List, [], ◌∷◌, length, Option, Some, None, Bool, true, false, cond, not, nat_le, ◌&&◌, ◌==◌, refl, sym, ap, ◌∙◌}
use Rattle.std.specs.Prelude.{map, slice_get, option_map}
use Rattle.gv_model.specs.Ty.{Ty, Basic}
use Rattle.gv_model.specs.Ty.Ty.{basic, variant, array, maybe, tuple, entry}
use Rattle.gv_model.specs.Ty.Basic.{string, path, signature}
use Rattle.gv_model.specs.Layout.{basic_size}
use Rattle.gv_model.specs.Tree.{Tree, Trees, children, tree_at, trees_len, basic_default}
use Rattle.gv_model.specs.Tree.Trees.{none}
use Rattle.gv_model.specs.Children.{Child, Span, child_at, child_bytes, children_at, nowhere, ordered}
use Rattle.gv_model.specs.Variants.{at_last_zero, variant_span}
use Rattle.gv_model.specs.Decode.{decode, tree_with, each, cut, spans}
use Rattle.gv_model.specs.Parts.{part_of, parts, part_trees}
use Rattle.gv_model.specs.BasicValue.{basic_value, basic_of_size, text_or_default, text_in, bits_of, number_in}
use Rattle.gv_model.specs.Texts.{is_text}
use Rattle.gv_model.proofs.DecodeLaws.{decode_children}

default_childless : (k : Basic) → children (basic_default k) ≡ none
default_childless string = refl
default_childless path = refl
default_childless signature = refl
default_childless _ = refl

text_childless : (k : Basic) (o : Option (List ℕ)) → children (text_or_default k o) ≡ none
text_childless k None = default_childless k
text_childless k (Some s) = go (is_text k s)
  where
    go : (b : Bool) → children (cond b (Tree.text k s) (basic_default k)) ≡ none
    go true = refl
    go false = default_childless k

childless : (k : Basic) (b : List ℕ) (f : Option ℕ) → children (basic_of_size k b f) ≡ none
childless k b None = text_childless k (text_in b)
childless k b (Some n) = go (length b == n) (bits_of k (number_in b))
  where
    go : (c : Bool) (m : ℕ) → children (cond c (Tree.number k m) (basic_default k)) ≡ none
    go true m = refl
    go false m = default_childless k

tree_children : (f : Child → Tree) (t : Ty) (b : List ℕ) → children (tree_with f t b) ≡ each f (cut t b)
unfolding basic_value cut spans ordered
tree_children f (basic k) b = childless k b (basic_size k)
tree_children f variant b = refl
tree_children f (array t) b = refl
tree_children f (maybe t) b = refl
tree_children f (tuple ts) b = refl
tree_children f (entry k t) b = refl

at_each : (f : Child → Tree) (cs : List Child) (i : ℕ) → tree_at (each f cs) i ≡ option_map f (slice_get cs i)
unfolding tree_at
at_each f [] i = refl
at_each f (c ∷ cs) zero = refl
at_each f (c ∷ cs) (suc i) = at_each f cs i

len_each : (f : Child → Tree) (cs : List Child) → trees_len (each f cs) ≡ length cs
unfolding trees_len
len_each f [] = refl
len_each f (c ∷ cs) = ap suc (len_each f cs)

-- child i of a value is the value of child i
pub child_of_value : (t : Ty) (b : List ℕ) (i : ℕ) → tree_at (children (decode t b)) i ≡ option_map (λ c. decode c.type (child_bytes b c)) (slice_get (cut t b) i)
child_of_value t b i =
    ap (λ v. tree_at (children v) i) (decode_children t b)
    ∙ (ap (λ vs. tree_at vs i) (tree_children (λ c. decode c.type (child_bytes b c)) t b) ∙ at_each (λ c. decode c.type (child_bytes b c)) (cut t b) i)

pub children_count : (t : Ty) (b : List ℕ) → trees_len (children (decode t b)) ≡ length (cut t b)
children_count t b =
    ap (λ v. trees_len (children v)) (decode_children t b)
    ∙ (ap trees_len (tree_children (λ c. decode c.type (child_bytes b c)) t b) ∙ len_each (λ c. decode c.type (child_bytes b c)) (cut t b))

pub each_part : (b : List ℕ) (cs : List Child) → each (λ c. decode c.type (child_bytes b c)) cs ≡ part_trees (map (part_of b) cs)
each_part b [] = refl
each_part b (c ∷ cs) = ap (Trees.first (decode c.type (child_bytes b c))) (each_part b cs)

-- the children of a value are the values of its parts
pub children_are_parts : (t : Ty) (b : List ℕ) → children (decode t b) ≡ part_trees (parts t b)
unfolding parts
children_are_parts t b =
    ap children (decode_children t b) ∙ (tree_children (λ c. decode c.type (child_bytes b c)) t b ∙ each_part b (cut t b))

-- ---- a child that is alone

abbrev placed : Ty → ℕ × ℕ → Child
placed t s = record { type = t; from = s.0; to = s.1 }

-- one that is alone is read as if nothing had an order: out of order it lies nowhere
one_stays : (n : ℕ) (t : Ty) (s : Span) → children_at n (ordered (Some n) ((t, s) ∷ [])) ≡ children_at n ((t, s) ∷ [])
unfolding ordered
one_stays n t None = refl
one_stays n t (Some s) = go (nat_le s.0 s.1 && nat_le s.1 n) refl
  where
    go : (inside : Bool) → (nat_le s.0 s.1 && nat_le s.1 n) ≡ inside
        → children_at n (cond (not inside) (map nowhere ((t, Some s) ∷ [])) ((t, Some s) ∷ [])) ≡ children_at n ((t, Some s) ∷ [])
    go true e = refl
    go false e = ap (λ (b : Bool). placed t (cond b s (0, 0)) ∷ []) (sym e)

-- where the one child of a variant lies
pub variant_cut : (b : List ℕ) → cut variant b ≡ child_at (length b) (variant_span (at_last_zero b)) ∷ []
unfolding cut spans
variant_cut b = one_stays (length b) (variant_span (at_last_zero b)).0 (variant_span (at_last_zero b)).1
