-- How deep a value is, told of its children one after the other.
use Rattle.std.proofs.Common.{◌≡◌, ◌<◌, ◌≤◌, ◌-◌, max, ℕ, suc, Bool, true, refl, ap, ◌∙◌, arith}
use Rattle.gv_model.specs.Tree.{Tree, Trees, children, depth, greatest_depth}
use Rattle.gv_model.specs.Tree.Trees.{none, first}
use Rattle.gv_model.specs.Printed.{hold_double}
use Rattle.gv_view.proofs.Depths.{depth_children}
use Rattle.refused.specs.declared.Refused.TheVariants.{Fault, Memory}
use Rattle.gv_text.specs.declared.print_fault.PrintFlaw.TheVariants.{TooLarge, DoubleText}
use Rattle.gv_text.specs.Printing.{IsLevelFault, IsRefused, PrintFault}
use Rattle.gv_text.proofs.ChildTexts.{first_double}

-- the value v is deeper than those of its children that are left, and what is deeper than so many levels is one of these
pub record AreLevels (v : Tree) (left : Trees) (levels : ℕ) : Type 0 where
  pub deeper : greatest_depth left < depth v
  pub known : depth v ≤ max levels (suc (greatest_depth left))

pub no_depth : greatest_depth none ≡ 0
unfolding greatest_depth
no_depth = refl

pub first_depth : (u : Tree) (vs : Trees) → greatest_depth (first u vs) ≡ max (depth u) (greatest_depth vs)
unfolding greatest_depth
first_depth u vs = refl

pub childless_fits : (v : Tree) (levels : ℕ) → children v ≡ none → 0 < levels → depth v ≤ levels
childless_fits v levels is some = omega (arith, some, depth_children v, ap greatest_depth is ∙ no_depth)

-- a fault of a part is one of the whole, which is deeper for its levels, and has the part's double
pub refused_with : (d e : Bool) (deep wide levels most : ℕ) → (levels < deep → most < wide) → (d ≡ true → e ≡ true) → (f : PrintFault) → IsRefused d deep levels f → IsRefused e wide most f
refused_with d e deep wide levels most deeper double (Fault TooLarge) h = deeper h
refused_with d e deep wide levels most deeper double (Fault DoubleText) h = double h
refused_with d e deep wide levels most deeper double Memory h = tt

pub first_refused : (v u : Tree) (vs : Trees) (levels : ℕ) (f : PrintFault) → children v ≡ first u vs → IsLevelFault u (levels - 1) f → IsRefused (hold_double (children v)) (depth v) levels f
first_refused v u vs levels f is h =
    refused_with _ _ _ _ _ levels (λ l. omega (arith, l, depth_children v, ap greatest_depth is ∙ first_depth u vs)) (λ d. ap hold_double is ∙ first_double u vs d) f h

pub begin_levels : (v u : Tree) (vs : Trees) (levels : ℕ) → children v ≡ first u vs → 0 < levels → depth u ≤ levels - 1 → AreLevels v vs levels
begin_levels v u vs levels is some fits =
    let whole = depth_children v in
    let parts = ap greatest_depth is ∙ first_depth u vs in
    record { deeper = omega (arith, whole, parts); known = omega (arith, whole, parts, some, fits) }

pub next_levels : (v u : Tree) (vs us : Trees) (levels : ℕ) → us ≡ first u vs → 0 < levels → depth u ≤ levels - 1 → AreLevels v us levels → AreLevels v vs levels
next_levels v u vs us levels is some fits are =
    let parts = ap greatest_depth is ∙ first_depth u vs in
    record { deeper = omega (arith, parts, are.deeper); known = omega (arith, parts, some, fits, are.known) }

pub then_refused : (v u : Tree) (vs us : Trees) (levels : ℕ) (f : PrintFault) → us ≡ first u vs → hold_double (children v) ≡ hold_double us → AreLevels v us levels → IsLevelFault u (levels - 1) f → IsRefused (hold_double (children v)) (depth v) levels f
then_refused v u vs us levels f is same are h =
    refused_with _ _ _ _ _ levels (λ l. omega (arith, ap greatest_depth is ∙ first_depth u vs, l, are.deeper)) (λ d. same ∙ (ap hold_double is ∙ first_double u vs d)) f h

pub all_fit : (v : Tree) (us : Trees) (levels : ℕ) → us ≡ none → 0 < levels → AreLevels v us levels → depth v ≤ levels
all_fit v us levels is some are = omega (arith, ap greatest_depth is ∙ no_depth, some, are.known)
