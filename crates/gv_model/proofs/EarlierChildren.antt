-- What `earlier_decode` gives is the tree over what it gives of each child.
use Rattle.std.proofs.Common.{ℕ, suc, ◌≡◌, List, [], length, refl, ap, Bool, true, false, cond}
use Rattle.gv_model.specs.Ty.{Ty}
use Rattle.gv_model.specs.Ty.Ty.{basic, variant, array, maybe, tuple, entry}
use Rattle.gv_model.specs.Ty.Types.{end}
use Rattle.gv_model.specs.Layout.{fixed_size}
use Rattle.gv_model.specs.Tree.{Tree, default, defaults}
use Rattle.gv_model.specs.Tree.Tree.{node}
use Rattle.gv_model.specs.Children.{Child, child_bytes, children_at}
use Rattle.gv_model.specs.Decode.{each, spans}
use Rattle.gv_model.specs.Tuples.{is_other_size, empty_spans, member_spans}
use Rattle.gv_model.specs.EarlierReading.{earlier_cut, earlier_tree_with, earlier_within, earlier_decode}
use Rattle.gv_model.proofs.DecodeLaws.{Each, each_same, earlier_less, Descent, children_in_full, only_in_full}

alike : (f g : Child → Tree) (t : Ty) (b : List ℕ) → Each (λ c. f c ≡ g c) (earlier_cut t b) → earlier_tree_with f t b ≡ earlier_tree_with g t b
alike f g (basic k) b h = refl
alike f g variant b h = ap (node variant) (each_same f g (earlier_cut variant b) h)
alike f g (array t) b h = ap (node (array t)) (each_same f g (earlier_cut (array t) b) h)
alike f g (maybe t) b h = ap (node (maybe t)) (each_same f g (earlier_cut (maybe t) b) h)
alike f g (tuple ts) b h = ap (node (tuple ts)) (each_same f g (earlier_cut (tuple ts) b) h)
alike f g (entry k t) b h = ap (node (entry k t)) (each_same f g (earlier_cut (entry k t) b) h)

no_children : (c : Bool) (n : ℕ) → children_at n (cond c [] []) ≡ []
no_children true n = refl
no_children false n = refl

unit_cut : (b : List ℕ) → earlier_cut (tuple end) b ≡ []
unfolding earlier_cut spans empty_spans member_spans
unit_cut b = no_children (is_other_size (fixed_size (tuple end)) (length b)) (length b)

step : (n : ℕ) (t : Ty) (b : List ℕ) → earlier_within (suc n) t b ≡ earlier_tree_with (λ c. earlier_within n c.type (child_bytes b c)) t b
unfolding earlier_within
step n t b = refl

least : (b : List ℕ) → earlier_within 1 (tuple end) b ≡ earlier_within 0 (tuple end) b
unfolding earlier_within default defaults
least b = ap (λ cs. node (tuple end) (each (λ c. earlier_within 0 c.type (child_bytes b c)) cs)) (unit_cut b)

abbrev earlier : Descent
earlier = record { tree = earlier_tree_with; parts = earlier_cut; at = earlier_within; step = step; alike = alike; less = earlier_less; least = least }

pub earlier_children : (t : Ty) (b : List ℕ) → earlier_decode t b ≡ earlier_tree_with (λ c. earlier_decode c.type (child_bytes b c)) t b
unfolding earlier_decode
earlier_children t b = children_in_full earlier t b

pub only_earlier_reading : (f : Ty → List ℕ → Tree) → ((t : Ty) (b : List ℕ) → f t b ≡ earlier_tree_with (λ c. f c.type (child_bytes b c)) t b) → (t : Ty) (b : List ℕ) → f t b ≡ earlier_decode t b
unfolding earlier_decode
only_earlier_reading f e t b = only_in_full earlier f e t b
