-- The values of the parts that a walk gives one after the other.
use Rattle.std.proofs.Common.{◌≡◌, ◌≢◌, ◌≤◌, ◌<◌, max, ℕ, suc, List, [], ◌∷◌, ◌++◌, refl, sym, ap, ◌∙◌, subst, arith}
use Rattle.std.specs.Prelude.{map}
use Rattle.gv_model.specs.Ty.{Ty, Basic}
use Rattle.gv_model.specs.Ty.Ty.{basic}
use Rattle.gv_model.specs.Tree.{Tree, Trees, children, depth, greatest_depth}
use Rattle.gv_model.specs.Tree.Trees.{none, first}
use Rattle.gv_model.specs.Children.{ordered}
use Rattle.gv_model.specs.Decode.{spans, cut, decode}
use Rattle.gv_model.specs.Parts.{Part, parts, part_trees}
use Rattle.gv_model.proofs.ChildLaws.{children_are_parts}
use Rattle.gv_tree.specs.Nodes.{trees_of as tree_list}
use Rattle.gv_view.proofs.Depths.{depth_children}

abbrev pub part_value : Part → Tree
part_value p = decode p.0 p.1

listed : (ps : List Part) → tree_list (map part_value ps) ≡ part_trees ps
listed [] = refl
listed (p ∷ ps) = ap (first (part_value p)) (listed ps)

pub all_listed : (t : Ty) (b : List ℕ) (ps : List Part) → ps ≡ parts t b → tree_list (map part_value ps) ≡ children (decode t b)
all_listed t b ps e = listed ps ∙ (ap part_trees e ∙ sym (children_are_parts t b))

pub all_lower : (t : Ty) (b : List ℕ) (ps : List Part) → ps ≡ parts t b → greatest_depth (part_trees ps) < depth (decode t b)
all_lower t b ps e =
    let same : greatest_depth (part_trees ps) ≡ greatest_depth (children (decode t b)) = ap greatest_depth (ap part_trees e ∙ sym (children_are_parts t b)) in
    omega (arith, same, depth_children (decode t b))

-- a value has one level more than its parts
pub whole_depth : (t : Ty) (b : List ℕ) (ps : List Part) → ps ≡ parts t b → depth (decode t b) ≡ suc (greatest_depth (part_trees ps))
whole_depth t b ps e = depth_children (decode t b) ∙ ap (λ vs. suc (greatest_depth vs)) (children_are_parts t b ∙ ap part_trees (sym e))

-- parts are as deep as the deeper of the first and the others
pub first_depth : (p : Part) (ps qs : List Part) → qs ≡ p ∷ ps → greatest_depth (part_trees qs) ≡ max (depth (part_value p)) (greatest_depth (part_trees ps))
unfolding greatest_depth
first_depth p ps qs e = ap (λ (rs : List Part). greatest_depth (part_trees rs)) e

-- with no parts left, a value has no more than the levels that were known to be enough
pub fitting : (levels deep : ℕ) (ps : List Part) → levels ≢ 0 → ps ≡ [] → deep ≤ max levels (suc (greatest_depth (part_trees ps))) → deep ≤ levels
unfolding greatest_depth
fitting levels deep ps some e h =
    let whole : deep ≤ max levels 1 = subst (λ (rs : List Part). deep ≤ max levels (suc (greatest_depth (part_trees rs)))) e h in
    omega (arith, some, whole)

-- the first part and the others are lower than all of them
pub first_lower : (p : Part) (ps qs : List Part) (n : ℕ) → qs ≡ p ∷ ps → greatest_depth (part_trees qs) < n → (depth (part_value p) < n) × (greatest_depth (part_trees ps) < n)
unfolding greatest_depth
first_lower p ps qs n e h =
    let whole : max (depth (part_value p)) (greatest_depth (part_trees ps)) < n = subst (λ (rs : List Part). greatest_depth (part_trees rs) < n) e h in
    (omega arith, omega arith)

after_one : (xs ys : List Tree) (v : Tree) → (xs ++ v ∷ []) ++ ys ≡ xs ++ v ∷ ys
after_one [] ys v = refl
after_one (x ∷ xs) ys v = ap (λ zs. x ∷ zs) (after_one xs ys v)

pub one_more : (xs zs : List Tree) (v : Tree) (p : Part) (ps qs : List Part) (vs : Trees) → zs ≡ xs ++ v ∷ [] → v ≡ part_value p → qs ≡ p ∷ ps → tree_list (xs ++ map part_value qs) ≡ vs → tree_list (zs ++ map part_value ps) ≡ vs
one_more xs zs v p ps qs vs z e g h =
    ap (λ ys. tree_list (ys ++ map part_value ps)) z
    ∙ (ap tree_list (after_one xs (map part_value ps) v)
    ∙ (ap (λ u. tree_list (xs ++ u ∷ map part_value ps)) e ∙ (ap (λ rs. tree_list (xs ++ map part_value rs)) (sym g) ∙ h)))

without_more : (xs : List Tree) → xs ++ [] ≡ xs
without_more [] = refl
without_more (x ∷ xs) = ap (λ ys. x ∷ ys) (without_more xs)

pub no_more : (xs : List Tree) (qs : List Part) (vs : Trees) → qs ≡ [] → tree_list (xs ++ map part_value qs) ≡ vs → tree_list xs ≡ vs
no_more xs qs vs e h = ap tree_list (sym (without_more xs)) ∙ (ap (λ rs. tree_list (xs ++ map part_value rs)) (sym e) ∙ h)

no_parts : (k : Basic) (b : List ℕ) → parts (basic k) b ≡ []
unfolding parts cut spans ordered
no_parts k b = refl

-- a basic value has no children
pub basic_is_leaf : (t : Ty) (b : List ℕ) → (k : Basic) × (t ≡ basic k) → none ≡ children (decode t b)
basic_is_leaf t b is =
    sym (ap (λ (t : Ty). children (decode t b)) is.1 ∙ (children_are_parts (basic is.0) b ∙ ap part_trees (no_parts is.0 b)))
