use Rattle.std.proofs.Common.{◌≡◌, ◌∙◌, ◌∷◌, [], ap, map, List, ℕ}
use Rattle.std.specs.Prelude.{filter, string_bytes}
use Rattle.std.specs.FinMap.{empty, keys}
use Rattle.std.proofs.lemmas.Result.{IfOk-weaker}
use Rattle.dconf_model.specs.Order.{listing}
use Rattle.dconf_layers.specs.TextSets.{TextSet, with_texts}
use Rattle.dconf_layers.proofs.TextSetLaws.{keys_are_listed}
use Rattle.dconf_told.specs.Relocking.{locks_beside, other_beside, others_of, outermost}
use Rattle.dconf_told.proofs.RelockedLaws.{gathered}
use Rattle.dconf_told.proofs.relocking.between.Goals as goal

pub returns : goal.returns
returns c =
    let s = c.args.before in
    let t = c.args.after in
    let f = other_beside s t in
    let all : c.add_other.new.others ≡ with_texts (others_of s t) empty =
    c.in_ok-add_other.ensures
    ∙ (ap (with_texts (filter f ((47 ∷ []) ∷ []))) (c.in_ok-add_others-2.ensures
    ∙ ap (with_texts (filter f (locks_beside t))) (c.in_ok-add_others.ensures ∙ ap (with_texts (filter f (locks_beside s))) c.new-others.ensures))
    ∙ gathered f (locks_beside s) (locks_beside t) ((47 ∷ []) ∷ []) empty) in
    let listed : map string_bytes c.as_slice.result.now ≡ listing (others_of s t) =
    ap (map string_bytes) c.as_slice.ensures.value ∙ (c.in_ok-others.ensures ∙ (ap (λ (s : TextSet). keys s) all ∙ keys_are_listed (others_of s t))) in
    IfOk-weaker c.outermost.result _ _ (λ v e. e ∙ ap (λ (ps : List (List ℕ)). listing (outermost ps)) listed) c.outermost.ensures
