-- Changes that were all accepted are deeds that were done.
use Rattle.std.specs.Prelude.{◌≡◌, List, [], ◌∷◌, ◌++◌, Result, Ok, Err, fold, map, refl}
use Rattle.std.proofs.Common.{◌∙◌, ap, sym}
use Rattle.std.specs.List.{AllByRecursion}
use Rattle.dconf_model.specs.Bytes.{MaybeBytes}
use Rattle.dconf_model.specs.Layers.{Layers}
use Rattle.dconf_model.specs.Changes.{Change, Refusal, apply, or_as_before}
use Rattle.dconf_model.specs.Stores.{DidDeeds, IsWholeChange}
use Rattle.dconf_model.specs.Stores.Deed.{changed}
use Rattle.dconf_store.specs.Seen.{HaveChanged, and_apply}

abbrev refusal : Refusal → Result Layers Refusal
refusal e = Err e

not_ok : (e : Refusal) (m : Layers) → refusal e ≡ Ok m → ⊥
not_ok e m same = cc

stays_refused : (e : Refusal) (cs : List Change) → fold and_apply (refusal e) cs ≡ refusal e
stays_refused e [] = refl
stays_refused e (c ∷ cs) = stays_refused e cs

did_from : (others : List MaybeBytes) (m : Layers) (cs : List Change) (l : Layers) → fold and_apply (Ok l) cs ≡ Ok m → AllByRecursion IsWholeChange cs → DidDeeds others l (map changed cs) m
did_from others m [] l e whole = sym (ap (or_as_before l) e)
did_from others m (c ∷ cs) l e whole = by (λ mid e. did_from others m cs mid e whole.1) (apply l c) refl e
  where
    by : ((mid : Layers) → fold and_apply (Ok mid) cs ≡ Ok m → DidDeeds others mid (map changed cs) m) → (r : Result Layers Refusal) → apply l c ≡ r →
        fold and_apply r cs ≡ Ok m → DidDeeds others l (map changed (c ∷ cs)) m
    by later (Ok mid) is e = (mid, (whole.0, is), later mid e)
    by later (Err x) is e = absurd (not_ok x m (sym (stays_refused x cs) ∙ e))

pub did_all : (others : List MaybeBytes) (l m : Layers) (cs : List Change) → HaveChanged l cs m → DidDeeds others l (map changed cs) m
did_all others l m cs h = did_from others m cs l h.accepted h.whole

-- ---- one more

one_more : (r : Result Layers Refusal) (cs : List Change) (c : Change) → fold and_apply r (cs ++ c ∷ []) ≡ and_apply (fold and_apply r cs) c
one_more r [] c = refl
one_more r (x ∷ cs) c = one_more (and_apply r x) cs c

all_whole : (cs : List Change) (c : Change) → AllByRecursion IsWholeChange cs → IsWholeChange c → AllByRecursion IsWholeChange (cs ++ c ∷ [])
all_whole [] c h w = (w, tt)
all_whole (x ∷ cs) c h w = (h.0, all_whole cs c h.1 w)

pub made_then : (l m n : Layers) (cs : List Change) (c : Change) → HaveChanged l cs m → IsWholeChange c → apply m c ≡ Ok n → HaveChanged l (cs ++ c ∷ []) n
made_then l m n cs c made whole e = record {
  accepted = one_more (Ok l) cs c ∙ (ap (λ r. and_apply r c) made.accepted ∙ e);
  whole = all_whole cs c made.whole whole;
}
