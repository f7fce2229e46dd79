use Rattle.std.proofs.Common.{rules, ℕ, ◌≡◌, ◌∙◌, true, false, ap, refl, arith}
use Rattle.dconf_model.specs.Search.{span_start}
use Rattle.gvdb_format.specs.Tables.{region}
use Rattle.gvdb_check.proofs.NameChecks.{has_namesake, has_no_namesake}
use Rattle.gvdb_check.proofs.once.is_only_named.Goals as goal

pub returns-then-has_name_of : goal.returns-then-has_name_of
returns-then-has_name_of c = (
  λ h. let bad : false ≡ true = h in cc,
  λ only. absurd (has_namesake (region c.args.table) c.args.i c.loop-j.j c.requires.keys c.requires.chain c.requires.counted (omega arith) (c.has_name_of.ensures.0 (search rules)) only),
)

pub returns : goal.returns
returns c =
    let t = region c.args.table in
    let begin = c.span-first.ensures.first ∙ ap (λ (h : ℕ). span_start t h) c.hash_at.ensures in
    (λ h. has_no_namesake t c.args.i _ c.requires.keys c.requires.chain c.requires.hash c.requires.span c.requires.counted begin (λ k lower le e. c.loop-j.invariant k (omega arith) le e), λ only. refl)
