-- Trees in a list, up to an index and from there on.
use Rattle.std.specs.Prelude.{not}
use Rattle.std.specs.Str.{bytes_eq}
use Rattle.std.proofs.lemmas.Slice.Eq.{bytes_eq-Decides}
use Rattle.std.proofs.Common.{true, ℕ, zero, suc, ◌+◌, ◌<◌, ◌≡◌, ◌≢◌, List, [], ◌∷◌, length, take, get_or, sym, ap, ◌∙◌, arith, add-one}
use Rattle.gv_model.specs.Ty.{Ty}
use Rattle.gv_model.specs.Tree.{Tree as Value, type_of, Trees}
use Rattle.gv_model.specs.Typed.{AllOf}
use Rattle.gv_model.specs.Tree.Trees.{none, first}
use Rattle.gv_tree.specs.Nodes.{trees_of}
use Rattle.gv_tree.specs.Faults.{IsFirstOther}

-- one more of the type
pub all_of_more : (t : Ty) (xs : List Value) (i : ℕ) (x : Value) → i < length xs → x ≡ get_or xs i x → type_of x ≡ t → AllOf t (trees_of (take i xs)) → AllOf t (trees_of (take (i + 1) xs))
all_of_more t [] i x lt e same h = absurd (omega arith)
all_of_more t (y ∷ xs) zero x lt e same h = (ap type_of (sym e) ∙ same, tt)
all_of_more t (y ∷ xs) (suc i) x lt e same h = rw add-one (h.0, rw add-one at (all_of_more t xs i x (omega arith) e same h.1))

-- the first of another type
pub first_other_here : (t : Ty) (xs : List Value) (i : ℕ) (x : Value) → i < length xs → x ≡ get_or xs i x → type_of x ≢ t → AllOf t (trees_of (take i xs)) → IsFirstOther t (trees_of xs) i
first_other_here t [] i x lt e other h = absurd (omega arith)
first_other_here t (y ∷ xs) zero x lt e other h = λ p. other (ap type_of e ∙ p)
first_other_here t (y ∷ xs) (suc i) x lt e other h = (h.0, first_other_here t xs i x (omega arith) e other h.1)

-- texts that compare as different
pub texts_differ : (a b : List ℕ) → true ≡ not (bytes_eq a b) → a ≢ b
texts_differ a b h e = let same : bytes_eq a b ≡ true = (bytes_eq-Decides a b).1 e in absurd (cc (h, same))

-- where all are of the type, none is the first of another
pub none_other : (t : Ty) (vs : Trees) (i : ℕ) → AllOf t vs → IsFirstOther t vs i → ⊥
none_other t none i a h = h
none_other t (first v vs) zero a h = h a.0
none_other t (first v vs) (suc i) a h = none_other t vs i a.1 h.1
