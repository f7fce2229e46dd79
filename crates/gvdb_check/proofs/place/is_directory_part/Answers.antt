use Rattle.std.proofs.Common.{rules, arith, ℕ, IsTrue, List, [], ◌∷◌, ◌++◌, ◌≡◌, ◌<◌, ◌↔◌, Contains, Some, length, sym, ◌∙◌, subst}
use Rattle.std.specs.Prelude.{not}
use Rattle.std.proofs.lemmas.List.{append_cancel_right}
use Rattle.std.proofs.lemmas.Slice.Eq.{strip_suffix_is}
use Rattle.std.proofs.lemmas.Bool.Decides.{Decides-eqb}
use Rattle.dconf_model.specs.Sound.{IsDirectoryPart}
use Rattle.gvdb_check.proofs.place.is_directory_part.Goals as goal

part_is : (part name : List ℕ) (P : Type 0) → part ≡ name ++ 47 ∷ [] → 0 < length name → (P ↔ (Contains name 47 → ⊥)) → P ↔ IsDirectoryPart part
part_is part name P cut long plain = (
  λ p. record { name = name; whole = cut; some = long; plain = plain.0 p },
  λ d. plain.1 (subst (λ (x : List ℕ). Contains x 47 → ⊥) (append_cancel_right d.name name (47 ∷ []) (sym d.whole ∙ cut)) d.plain),
)

pub returns-then-not-is_empty : goal.returns-then-not-is_empty
returns-then-not-is_empty c =
    let name = c.in-Some.name.now in
    let cut = strip_suffix_is Decides-eqb c.args.key.now (47 ∷ []) (Some c.in-Some.name) c.in-Some.ensures.cases in
    let long : 0 < length name = grind arith in
    let plain : IsTrue (not c.contains.result) ↔ (Contains name 47 → ⊥) = search rules in
    part_is c.args.key.now name (IsTrue (not c.contains.result)) cut long plain
