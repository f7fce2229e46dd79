-- Changes that are made one after the other, up to one that is refused.
use Rattle.std.specs.Prelude.{◌≡◌, ◌<◌, ◌+◌, ℕ, List, [], ◌∷◌, ◌++◌, length, take, Some, Ok, Err, slice_get, option_map}
use Rattle.std.proofs.Common.{◌∙◌, ap, sym, subst, get_or}
use Rattle.std.proofs.lemmas.List.{map_more, take-map}
use Rattle.std.proofs.lemmas.Option.{slice_get-map, slice_get-get_or}
use Rattle.dconf_model.specs.Layers.{Layers}
use Rattle.dconf_model.specs.Changes.{apply}
use Rattle.dconf_model.specs.Stores.{IsWholeChange}
use Rattle.dconf_engine.specs.declared.change_fault.ChangeFlaw.{ChangeFlaw}
use Rattle.dconf_engine.specs.ChangeFaults.{refusal_of}
use Rattle.dconf_store.specs.declared.change.Change.{Change}
use Rattle.dconf_store.specs.declared.fault.StoreFlaw.TheVariants as flaws
use Rattle.dconf_store.specs.Changes.{asked_of, change_of}
use Rattle.dconf_store.specs.Faults.{IsRefusedAt}
use Rattle.dconf_store.specs.Seen.{HaveChanged}
use Rattle.dconf_store.proofs.Applied.{made_then}

one_more : (cs : List Change) (i : ℕ) (d : Change) → i < length cs → take (i + 1) (asked_of cs) ≡ take i (asked_of cs) ++ change_of (get_or cs i d) ∷ []
one_more cs i d h =
    take-map change_of (i + 1) cs
    ∙ (map_more change_of cs i d h ∙ ap (λ asked. asked ++ change_of (get_or cs i d) ∷ []) (sym (take-map change_of i cs)))

pub next_is_made : (l m n : Layers) (cs : List Change) (i : ℕ) (x : Change) → i < length cs → x ≡ get_or cs i x → HaveChanged l (take i (asked_of cs)) m →
    IsWholeChange (change_of x) → apply m (change_of x) ≡ Ok n → HaveChanged l (take (i + 1) (asked_of cs)) n
next_is_made l m n cs i x h is made whole e =
    subst (λ asked. HaveChanged l asked n) (sym (one_more cs i x h))
    (subst (λ y. HaveChanged l (take i (asked_of cs) ++ change_of y ∷ []) n) is (made_then l m n (take i (asked_of cs)) (change_of x) made whole e))

pub next_is_refused : (l m : Layers) (cs : List Change) (i : ℕ) (x : Change) (flaw : ChangeFlaw) → i < length cs → x ≡ get_or cs i x →
    HaveChanged l (take i (asked_of cs)) m → apply m (change_of x) ≡ Err (refusal_of flaw) → IsRefusedAt l (asked_of cs) (flaws.Refused i flaw)
next_is_refused l m cs i x flaw h is made e = record {
  reached = m;
  before = made;
  change = change_of x;
  is = slice_get-map change_of cs i ∙ (ap (option_map change_of) (slice_get-get_or cs i x h) ∙ ap (λ y. Some (change_of y)) (sym is));
  refused = e;
}
