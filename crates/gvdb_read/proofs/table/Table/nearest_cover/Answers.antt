use Rattle.std.proofs.Common.{◌≡◌, ◌+◌, ◌<◌, ◌≤◌, ◌∙◌, ap, arith, subst, sym, ℕ, Option, ⊎_elim}
use Rattle.std.specs.Prelude.{IfSome, unwrap_or}
use Rattle.std.proofs.lemmas.Bool.{cases_lt}
use Rattle.dconf_model.proofs.PathMaps.{no_truth}
use Rattle.gvdb_read.specs.Lookups.{IsCover}
use Rattle.gvdb_read.specs.Tables.{region}
use Rattle.gvdb_read.proofs.CoveredPaths.{hash_goes_on}
use Rattle.gvdb_read.proofs.table.Table.nearest_cover.Goals as goal
use Rattle.gvdb_read.proofs.table.Table.nearest_cover.Goals.{then-has_cover, else-has_cover}

pub loop-i-preserved : goal.loop-i-preserved
loop-i-preserved c =
    let path = c.as_bytes-path.result.now in
    let i = c.loop-i.i in
    let P : ℕ → Type 0 = IsCover (region c.args.self) path in
    let before = c.loop-i.invariant in
    let hash = hash_goes_on path i c.loop-i.hash c.hash_with-hash.result (omega arith) before.hash c.hash_with-hash.ensures in
    elim c.if-has_cover.branch [
      | then-has_cover w ↦ record {
        hash = hash;
        found = subst (λ (o : Option ℕ). IfSome o P) (sym w.nearest-is) (c.has_cover.ensures.0 w.if-has_cover.true);
        nearest = λ n more low k. (let e : unwrap_or c.if-has_cover.nearest 0 ≡ i + 1 = ap (λ o. unwrap_or o 0) w.nearest-is in absurd (omega (arith, more, low, e)));
      }
      | else-has_cover w ↦ record {
        hash = hash;
        found = subst (λ (o : Option ℕ). IfSome o P) (sym w.nearest-is) before.found;
        nearest = λ n more low k. ⊎_elim
            (λ (less : n < i + 1). before.nearest n (subst (λ (o : Option ℕ). unwrap_or o 0 < n) w.nearest-is more) (omega (arith, less)) k)
            (λ (last : i + 1 ≤ n). (let same : n ≡ i + 1 = omega (arith, low, last) in no_truth (sym w.if-has_cover.false ∙ c.has_cover.ensures.1 (subst P same k))))
            (cases_lt n (i + 1));
      }
    ]
