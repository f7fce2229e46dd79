use Rattle.std.proofs.Common.{ℕ, List, ◌≡◌, ◌∙◌, refl, sym, ap, eqb, eq-eqb}
use Rattle.std.specs.Prelude.{reverse}
use borrow.Author.Tests.{eqb-true}
use Rattle.std.proofs.lemmas.List.{reverse-reverse}
use Rattle.dconf_model.specs.Names.{full_name}
use Rattle.gvdb_check.specs.Backwards.{backwards_left}
use Rattle.gvdb_check.specs.declared.backwards.Backwards.{Backwards}
use Rattle.gvdb_format.specs.Tables.{region}
use Rattle.gvdb_check.proofs.Yielded.{compares_lists}
use Rattle.gvdb_check.proofs.once.has_bytes_of_name.Goals as goal

same_reversed : (xs ys : List ℕ) → reverse xs ≡ reverse ys → xs ≡ ys
same_reversed xs ys e = sym (reverse-reverse xs) ∙ (ap (λ (l : List ℕ). reverse l) e ∙ reverse-reverse ys)

pub returns : goal.returns
returns c =
    let t = region c.args.table in
    let same = compares_lists {U = Backwards} backwards_left (λ other it. it ≡ other) eqb c.name_of.result c.name_of-2.result (reverse (full_name t c.args.j)) c.eq.result eqb-true (λ x. eq-eqb x x refl) (λ it b. ap backwards_left b ∙ c.name_of-2.ensures) c.eq.ensures.ran in
    (λ h. same_reversed (full_name t c.args.i) (full_name t c.args.j) (sym c.name_of.ensures ∙ same.0 h), λ e. same.1 (c.name_of.ensures ∙ ap (λ (l : List ℕ). reverse l) e))
