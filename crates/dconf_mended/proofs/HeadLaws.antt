-- The header of a file is that of its first bytes.
use Rattle.std.specs.Prelude.{slice_range}
use Rattle.std.proofs.Common.{◌≡◌, ◌∙◌, ◌≤◌, ◌-◌, ◌++◌, ℕ, List, ap, sym, length, take, drop, arith}
use Rattle.std.proofs.lemmas.List.{drop-append-le, length-drop, take-append-le}
use Rattle.gv_model.specs.BasicValue.{number_in}
use Rattle.dconf_model.specs.Bytes.{u32_at}
use Rattle.dconf_mended.specs.Heads.{HeadsTell}

range_of : (head rest : List ℕ) (a b : ℕ) → a ≤ b → b ≤ length head → slice_range (head ++ rest) a b ≡ slice_range head a b
range_of head rest a b order within =
    ap (λ (xs : List ℕ). take (b - a) xs) (drop-append-le a head rest (omega (arith, order, within)))
    ∙ take-append-le (b - a) (drop a head) rest (omega (arith, order, within, length-drop a head))

number_of : (head rest : List ℕ) → 24 ≤ length head → u32_at (head ++ rest) 8 ≡ u32_at head 8
unfolding u32_at
number_of head rest header = ap number_in (range_of head rest 8 12 (omega arith) (omega (arith, header)))

pub heads_tell : HeadsTell
heads_tell head rest database header = (
  sym (range_of head rest 0 8 (omega arith) (omega (arith, header))) ∙ database.signature,
  sym (number_of head rest header) ∙ database.version,
)
