-- How deep a value is, and the values in it.
use Rattle.std.proofs.Common.{◌≡◌, ◌≢◌, ◌-◌, max, ℕ, suc, Bool, true, false, nat_le, refl, sym, ap, ◌∙◌, arith}
use Rattle.gv_model.specs.Tree.{Tree, Trees, children, depth, greatest_depth}
use Rattle.gv_model.specs.Tree.Tree.{number, text, node}
use Rattle.gv_model.specs.Tree.Trees.{first}

pub depth_children : (v : Tree) → depth v ≡ suc (greatest_depth (children v))
unfolding depth greatest_depth
depth_children (number k n) = refl
depth_children (text k s) = refl
depth_children (node t vs) = refl

-- ---- whether a value has no more than so many levels, told of the values in it

pub no_fit : (v : Tree) (levels : ℕ) → levels ≡ 0 → false ≡ nat_le (depth v) levels
no_fit v levels none = let d = depth_children v in sym (grind (arith, none, d))

pub leaf_fits : (v : Tree) (levels : ℕ) → Trees.none ≡ children v → levels ≢ 0 → true ≡ nat_le (depth v) levels
unfolding greatest_depth
leaf_fits v levels leaf some =
    let d : depth v ≡ 1 = depth_children v ∙ ap (λ vs. suc (greatest_depth vs)) (sym leaf) in
    sym (grind (arith, some, d))

pub whole_fits : (v : Tree) (vs : Trees) (levels : ℕ) → levels ≢ 0 → depth v ≡ suc (greatest_depth vs) → nat_le (greatest_depth vs) (levels - 1) ≡ nat_le (depth v) levels
whole_fits v vs levels some whole = go (nat_le (depth v) levels) refl
  where
    go : (b : Bool) → nat_le (depth v) levels ≡ b → nat_le (greatest_depth vs) (levels - 1) ≡ b
    go true e = grind (arith, some, whole, e)
    go false e = grind (arith, some, whole, e)

deeper : (v : Tree) (vs us : Trees) → us ≡ first v vs → greatest_depth us ≡ max (depth v) (greatest_depth vs)
unfolding greatest_depth
deeper v vs us is = ap greatest_depth is

pub one_too_deep : (v : Tree) (vs us : Trees) (levels : ℕ) (all : Bool) → us ≡ first v vs → nat_le (depth v) levels ≡ false → nat_le (greatest_depth us) levels ≡ all → false ≡ all
one_too_deep v vs us levels all is deep so =
    let d = deeper v vs us is in
    let not_all : nat_le (greatest_depth us) levels ≡ false = grind (arith, d, deep) in
    sym not_all ∙ so

pub next_fits : (v : Tree) (vs us : Trees) (levels : ℕ) (all : Bool) → us ≡ first v vs → nat_le (depth v) levels ≡ true → nat_le (greatest_depth us) levels ≡ all → nat_le (greatest_depth vs) levels ≡ all
next_fits v vs us levels all is fits so = go (nat_le (greatest_depth us) levels) refl ∙ so
  where
    go : (b : Bool) → nat_le (greatest_depth us) levels ≡ b → nat_le (greatest_depth vs) levels ≡ nat_le (greatest_depth us) levels
    go true e = let d = deeper v vs us is in (let low : nat_le (greatest_depth vs) levels ≡ true = grind (arith, d, fits, e) in low ∙ sym e)
    go false e = let d = deeper v vs us is in (let high : nat_le (greatest_depth vs) levels ≡ false = grind (arith, d, fits, e) in high ∙ sym e)

pub none_left : (us : Trees) (levels : ℕ) (all : Bool) → us ≡ Trees.none → nat_le (greatest_depth us) levels ≡ all → true ≡ all
unfolding greatest_depth
none_left us levels all is so =
    let d : greatest_depth us ≡ 0 = ap greatest_depth is in
    let low : nat_le (greatest_depth us) levels ≡ true = grind (arith, d) in
    sym low ∙ so
