-- When two containers are the same.
use Rattle.std.proofs.Common.{ℕ, ◌<◌, ◌≤◌, ◌≡◌, List, [], ◌∷◌, length, take, get_or, true, refl, sym, ap, ap₂, ◌∙◌}
use Rattle.std.proofs.lemmas.List.{take_all, get_or_read}
use Rattle.gv_model.specs.Ty.{Ty, spelling}
use Rattle.gv_model.specs.TypeText.{is_type, type_at}
use Rattle.gv_model.specs.Tree.{Tree as Value, Trees}
use Rattle.gv_model.specs.Tree.Tree.{node}
use Rattle.gv_model.specs.Tree.Trees.{first}
use Rattle.gv_model.proofs.TypeTextParts.{spelling-type_at}
use Rattle.gv_tree.specs.Nodes.{trees_of}

first_same : (v u : Value) (vs us : Trees) → first v vs ≡ first u us → v ≡ u
first_same v u vs us e = cc

rest_same : (v u : Value) (vs us : Trees) → first v vs ≡ first u us → vs ≡ us
rest_same v u vs us e = cc

pub same_lists : (xs ys : List Value) → trees_of xs ≡ trees_of ys → xs ≡ ys
same_lists [] [] e = refl
same_lists [] (y ∷ ys) e = absurd cc
same_lists (x ∷ xs) [] e = absurd cc
same_lists (x ∷ xs) (y ∷ ys) e = ap₂ (λ (z : Value) (zs : List Value). z ∷ zs) (first_same x y _ _ e) (same_lists xs ys (rest_same x y _ _ e))

type_same : (t u : Ty) (vs us : Trees) → node t vs ≡ node u us → t ≡ u
type_same t u vs us e = cc

children_same : (t u : Ty) (vs us : Trees) → node t vs ≡ node u us → vs ≡ us
children_same t u vs us e = cc

-- the types' texts of the same container are the same
pub same_texts : (text other : List ℕ) (vs us : Trees) → is_type text ≡ true → is_type other ≡ true → node (type_at text) vs ≡ node (type_at other) us → text ≡ other
same_texts text other vs us h g e = sym (spelling-type_at text h).0 ∙ ap spelling (type_same _ _ vs us e) ∙ (spelling-type_at other g).0

-- and so are its children
pub same_children : (text other : List ℕ) (xs ys : List Value) → node (type_at text) (trees_of xs) ≡ node (type_at other) (trees_of ys) → xs ≡ ys
same_children text other xs ys e = same_lists xs ys (children_same (type_at text) (type_at other) _ _ e)

-- the same item of the same list
pub same_item : (xs ys : List Value) (i : ℕ) (x y : Value) → i < length xs → x ≡ get_or xs i x → y ≡ get_or ys i y → xs ≡ ys → x ≡ y
same_item xs ys i x y lt h g e = get_or_read xs i x lt h y ∙ ap (λ (zs : List Value). get_or zs i y) e ∙ sym g

-- lists of one length, the same up to their end
pub same_to_end : (xs ys : List Value) (i : ℕ) → length xs ≤ i → length ys ≤ i → take i xs ≡ take i ys → xs ≡ ys
same_to_end xs ys i h g e = sym (take_all i xs h) ∙ e ∙ take_all i ys g
