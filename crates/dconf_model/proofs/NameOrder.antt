-- The order of names, where one begins with another.
use Rattle.std.proofs.Common.{◌≡◌, ◌≢◌, ℕ, List, [], ◌∷◌, ◌++◌, refl, ap, ◌∙◌}
use Rattle.std.specs.declared.cmp.Ordering.{Ordering}
use Rattle.std.specs.declared.cmp.Ordering.TheVariants.{Less, Equal, Greater}
use Rattle.std.specs.Ordering.{ordering_then, ordering_reverse, nat_cmp}
use Rattle.std.specs.Cmp.Lexicographic.{slice_cmp}
use Rattle.std.specs.FinMap.{nat_cmp-IsAntisymmetric}
use Rattle.std.proofs.lemmas.Cmp.{nat_cmp_total}

own_reverse : (o : Ordering) → o ≡ ordering_reverse o → o ≡ Equal
own_reverse Less e = cc
own_reverse Equal e = refl
own_reverse Greater e = cc

pub same_ties : (x : ℕ) → nat_cmp x x ≡ Equal
same_ties x = own_reverse (nat_cmp x x) (nat_cmp_total.antisymm x x)

-- a name precedes those that go on after it
pub before_longer : (name : List ℕ) (c : ℕ) (more : List ℕ) → slice_cmp nat_cmp name (name ++ c ∷ more) ≡ Less
before_longer [] c more = refl
before_longer (x ∷ name) c more =
    ap (λ (o : Ordering). ordering_then o (slice_cmp nat_cmp name (name ++ c ∷ more))) (same_ties x) ∙ before_longer name c more

pub prefix_step : (o a b : Ordering) → ordering_then o a ≡ Less → (o ≡ Equal → a ≡ Less → b ≡ Less) → ordering_then o b ≡ Less
prefix_step Less a b less rest = refl
prefix_step Equal a b less rest = rest refl less
prefix_step Greater a b less rest = less

-- A name before a longer one that doesn't begin with the longer one's prefix precedes that prefix: `last` is the
-- path before, and `prefix` a directory of the path after it in which `last` doesn't lie.
pub before_prefix : (last prefix more : List ℕ) → slice_cmp nat_cmp last (prefix ++ more) ≡ Less → ((rest : List ℕ) → last ≢ prefix ++ rest) → slice_cmp nat_cmp last prefix ≡ Less
before_prefix last [] more less other = absurd (other last refl)
before_prefix [] (c ∷ prefix) more less other = refl
before_prefix (x ∷ last) (c ∷ prefix) more less other =
    prefix_step (nat_cmp x c) (slice_cmp nat_cmp last (prefix ++ more)) (slice_cmp nat_cmp last prefix) less
    (λ e l. before_prefix last prefix more l
    (λ rest is. other rest (ap (λ (y : ℕ). y ∷ last) (nat_cmp-IsAntisymmetric x c e) ∙ ap (λ (m : List ℕ). c ∷ m) is)))
