-- Sums of the sizes of trees, one tree after the other.
use Rattle.std.proofs.Common.{ℕ, ◌+◌, ◌≤◌, ◌≡◌, min, max, length, arith, length-append}
use Rattle.gv_model.specs.Ty.{spelling, spellings, nesting, greatest_nesting}
use Rattle.gv_model.specs.Tree.{Tree as Value, Trees, type_of, depth, greatest_depth, nodes, nodes_of}
use Rattle.gv_model.specs.Tree.Trees.{none, first}
use Rattle.gv_model.specs.Typed.{types_of}
use Rattle.gv_model.proofs.TypeTextLaws.{limits_of}
use Rattle.gv_tree.specs.declared.sums.Sums.{Sums}
use Rattle.gv_tree.specs.Sums.{top, AreWhole, SumsAre, IsWith}

-- s and the trees that are left make up all of them
pub record SumsTo (s : Sums) (left all : Trees) : Type 0 where
  pub levels : max s.levels (greatest_depth left) ≡ greatest_depth all
  pub type_levels : max s.type_levels (greatest_nesting (types_of left)) ≡ greatest_nesting (types_of all)
  pub values : min (s.values + nodes_of left) top ≡ min (nodes_of all) top
  pub type_bytes : min (s.type_bytes + length (spellings (types_of left))) top ≡ min (length (spellings (types_of all))) top
  pub whole : AreWhole left → AreWhole all

pub sums_of_none : (levels type_levels values type_bytes : ℕ) → levels ≡ 0 → type_levels ≡ 0 → values ≡ 0 → type_bytes ≡ 0 → SumsAre (record { levels = levels; type_levels = type_levels; values = values; type_bytes = type_bytes }) none
unfolding depth nesting nodes spelling
sums_of_none a b c d e f g h = record { levels = e; type_levels = f; values = omega arith; type_bytes = omega arith; whole = tt }

-- what is left, of all, at the start
pub sums_start : (s : Sums) (all : Trees) → SumsAre s none → SumsTo s all all
unfolding depth nesting nodes spelling
sums_start s all h = record {
  levels = omega (arith, h.levels);
  type_levels = omega (arith, h.type_levels);
  values = omega (arith, h.values);
  type_bytes = omega (arith, h.type_bytes);
  whole = λ w. w;
}

-- one tree more
pub sums_step : (s r : Sums) (v : Value) (left all : Trees) → SumsTo s (first v left) all → IsWith s v r → SumsTo r left all
unfolding depth nesting nodes spelling
sums_step s r v left all h g = record {
  levels = omega (arith, h.levels, g.levels);
  type_levels = omega (arith, h.type_levels, g.type_levels);
  values = omega (arith, h.values, g.values);
  type_bytes = omega (arith, h.type_bytes, g.type_bytes, length-append (spelling (type_of v)) (spellings (types_of left)));
  whole = λ w. h.whole (g.whole, w);
}

-- nothing is left: every sum is reached, and was kept below the top
pub sums_end : (s : Sums) (all : Trees) → s.values ≤ top → s.type_bytes ≤ top → SumsTo s none all → SumsAre s all
unfolding depth nesting nodes spelling
sums_end s all a b h = record {
  levels = omega (arith, h.levels);
  type_levels = omega (arith, h.type_levels);
  values = omega (arith, h.values);
  type_bytes = omega (arith, h.type_bytes);
  whole = h.whole tt;
}

-- no level over 128
low_depths : (vs : Trees) → AreWhole vs → greatest_depth vs ≤ 128
unfolding depth
low_depths none w = omega arith
low_depths (first v vs) w = omega (arith, w.0.levels, low_depths vs w.1)

low_nestings : (vs : Trees) → AreWhole vs → greatest_nesting (types_of vs) ≤ 128
unfolding nesting
low_nestings none w = omega arith
low_nestings (first v vs) w = omega (arith, (limits_of (type_of v) (spelling (type_of v)) w.0.limits).0, low_nestings vs w.1)

pub low_levels : (s : Sums) (vs : Trees) → SumsAre s vs → s.levels ≤ 128
low_levels s vs h = omega (arith, h.levels, low_depths vs h.whole)

pub low_type_levels : (s : Sums) (vs : Trees) → SumsAre s vs → s.type_levels ≤ 128
low_type_levels s vs h = omega (arith, h.type_levels, low_nestings vs h.whole)
