-- In a searchable table each row is found.
use Rattle.std.proofs.Common.{ℕ, List, Option, Some, None, ◌≡◌, ◌<◌, ◌≤◌, ◌↔◌, refl, ap, subst, arith, ⊎_elim}
use Rattle.std.proofs.lemmas.Bool.{cases_lt}
use Rattle.dconf_model.specs.Bytes.{hash_of}
use Rattle.dconf_model.specs.Table.{Table, item, item_count}
use Rattle.dconf_model.specs.Names.{HasName, IsRow}
use Rattle.dconf_model.specs.Search.{Fits, Finds, InSpan, PassesBloom}
use Rattle.dconf_model.specs.Searchable.{IsSearchable}
use Rattle.dconf_model.proofs.NameSteps.{is_item}

pub counted : (t : Table) (i : ℕ) (name : List ℕ) → HasName t i name → i < item_count t
counted t i name h = (is_item t i name h).counted

-- no two items have the same name
pub one_item : (t : Table) (name : List ℕ) (i j : ℕ) → IsSearchable t → HasName t i name → HasName t j name → i ≡ j
one_item t name i j s h k =
    ⊎_elim (λ (l : i < j). absurd (s.once j (counted t j name k) name i k h l))
    (λ (g : j ≤ i). ⊎_elim (λ (l : j < i). absurd (s.once i (counted t i name h) name j h k l))
    (λ (m : i ≤ j). let e : i ≡ j = omega arith in e) (cases_lt j i)) (cases_lt i j)

-- what is found is a row
pub found_row : (t : Table) (name : List ℕ) (kind i : ℕ) → Finds t name kind (Some i) → IsRow t name kind i
found_row t name kind i f =
    record { named = f.0.fits.wanted.named; of_kind = f.0.fits.wanted.of_kind; valid = f.1 }

row_found : (t : Table) (name : List ℕ) (kind i : ℕ) → IsSearchable t → IsRow t name kind i → Finds t name kind (Some i)
row_found t name kind i s row =
    let here = counted t i name row.named in
    let same : (item t i).hash ≡ hash_of name = s.hash i here name row.named in
    let fits : Fits t name kind i = record {
      passes = subst (PassesBloom t) same (s.in_bloom i here);
      in_span = subst (λ h. InSpan t h i) same (s.in_span i here);
      wanted = record { hash_is = same; named = row.named; of_kind = row.of_kind };
    } in
    let least : (j : ℕ) → Fits t name kind j → i ≤ j =
    λ j other. let e : i ≡ j = one_item t name i j s row.named other.wanted.named in omega (arith, e) in
    (record { fits = fits; least = least }, row.valid)

pub rows_are_found : (t : Table) (name : List ℕ) (kind i : ℕ) → IsSearchable t → Finds t name kind (Some i) ↔ IsRow t name kind i
rows_are_found t name kind i s = (found_row t name kind i, row_found t name kind i s)

-- a search finds one thing
pub one_found : (t : Table) (name : List ℕ) (kind : ℕ) (r s : Option ℕ) → Finds t name kind r → Finds t name kind s → r ≡ s
one_found t name kind None None f g = refl
one_found t name kind None (Some j) f g = absurd (f j g.0 g.1)
one_found t name kind (Some i) None f g = absurd (g i f.0 f.1)
one_found t name kind (Some i) (Some j) f g =
    let e : i ≡ j = omega (arith, f.0.least j g.0.fits, g.0.least i f.0.fits) in ap (λ (k : ℕ). Some k) e
