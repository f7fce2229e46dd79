use Rattle.std.proofs.Common.{◌≡◌, ◌∙◌, ◌<◌, ◌++◌, ◌∷◌, [], List, ℕ, Some, length, ap, sym, arith}
use Rattle.std.specs.Prelude.{fold}
use Rattle.std.proofs.lemmas.List.Sums.{fold-append}
use Rattle.std.proofs.lemmas.Slice.Eq.{strip_suffix_is}
use Rattle.std.proofs.lemmas.Bool.Decides.{Decides-eqb}
use Rattle.dconf_model.specs.Bytes.{hash_step}
use Rattle.gvdb_check.proofs.plain_key.hash_of_directory.Goals as goal

pub returns-clause-part : goal.returns-clause-part
returns-clause-part c =
    let name = c.in_ok-name.name.now in
    let whole = strip_suffix_is Decides-eqb c.args.part.now (47 ∷ []) (Some c.in_ok-name.name) c.in_ok-name.ensures.cases in
    let long : 0 < length name = grind arith in
    (name, whole, long, c.in_ok-above.ensures.plain)

pub returns-clause-hash : goal.returns-clause-hash
returns-clause-hash c =
    let name = c.in_ok-name.name.now in
    let whole : c.args.part.now ≡ name ++ 47 ∷ [] = strip_suffix_is Decides-eqb c.args.part.now (47 ∷ []) (Some c.in_ok-name.name) c.in_ok-name.ensures.cases in
    c.hash_with.ensures ∙ (ap (λ (h : ℕ). hash_step h 47) c.in_ok-above.ensures.hash
    ∙ (sym (fold-append hash_step c.args.hash name (47 ∷ [])) ∙ ap (λ (l : List ℕ). fold hash_step c.args.hash l) (sym whole)))
