-- The values of members that lie nowhere.
use Rattle.std.proofs.Common.{◌≡◌, ℕ, List, map, refl, ap, ap₂, ◌∙◌}
use Rattle.gv_model.specs.Ty.{Types}
use Rattle.gv_model.specs.Ty.Types.{end, member}
use Rattle.gv_model.specs.Tree.{default, defaults}
use Rattle.gv_model.specs.Tree.Trees.{first}
use Rattle.gv_model.specs.Children.{Child, children_at}
use Rattle.gv_model.specs.Tuples.{empty_spans}
use Rattle.gv_model.specs.Parts.{part_of, part_trees}
use Rattle.gv_model.proofs.EmptyLaws.{decode-nil}

pub unplaced_values : (b : List ℕ) (ts : Types) → part_trees (map (part_of b) (children_at 0 (empty_spans ts))) ≡ defaults ts
unfolding empty_spans default
unplaced_values b end = refl
unplaced_values b (member t ts) = ap₂ first (decode-nil t) (unplaced_values b ts)

pub placed_values : (b : List ℕ) (cs : List Child) (ts : Types) → cs ≡ children_at 0 (empty_spans ts) → part_trees (map (part_of b) cs) ≡ defaults ts
placed_values b cs ts e = ap (λ ds. part_trees (map (part_of b) ds)) e ∙ unplaced_values b ts
