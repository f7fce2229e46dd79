-- Who may do what with a file before it has its group.
use Rattle.std.proofs.Common.{ℕ, ◌≡◌, ◌≢◌, Bool, true, false, ◌&&◌, ◌||◌, refl, sym, ◌∙◌, ap, ⊎_elim, arith}
use Rattle.std.specs.Prelude.{◌==◌}
use Rattle.dconf_files.specs.declared.handing.MadeFile.{MadeFile}
use Rattle.dconf_files.specs.Owners.{bits_for}
use Rattle.dconf_files.specs.Handings.{has_group_first, MayHaveFirst, NobodyGainsFirst}

differ : (n m : ℕ) → n ≢ m → (n == m) ≡ false
differ n m d = grind arith

not_above : (a g m : Bool) → a ≡ false → (a && (g || m)) ≡ false
not_above a g m e = ap (λ x. x && (g || m)) e

not_maker : (a g m : Bool) → g ≡ false → m ≡ false → (a && (g || m)) ≡ false
not_maker true g m e d = ap (λ x. x || m) e ∙ d
not_maker false g m e d = refl

has_not : (f : MadeFile) (group : ℕ) → MayHaveFirst f group → group ≢ f.wanted.group → has_group_first f ≡ false
has_not f group may d = ⊎_elim
    (λ (e : group ≡ f.above). not_above (f.above == f.wanted.group) f.gives_group (f.made.group == f.wanted.group)
    (ap (λ n. n == f.wanted.group) (sym e) ∙ differ group f.wanted.group d))
    (λ (e : (f.gives_group ≡ false) × (group ≡ f.made.group)). not_maker (f.above == f.wanted.group) f.gives_group (f.made.group == f.wanted.group) e.0
    (ap (λ n. n == f.wanted.group) (sym e.1) ∙ differ group f.wanted.group d)) may

pub nobody_gains_first : NobodyGainsFirst
nobody_gains_first f group may d = ap (bits_for f.wanted.bits) (has_not f group may d)
