-- A sound table is searchable; another has one first fault.
use Rattle.std.proofs.Common.{◌≡◌, ◌≢◌, ◌<◌, ℕ, List, [], ◌∷◌, Option, Some, None, refl, sym, ap, ◌∙◌, subst, inl, inr}
use Rattle.std.specs.Prelude.{◌==◌, if◌then◌else◌}
use Rattle.std.proofs.lemmas.Bool.{cases_order}
use Rattle.dconf_model.specs.Table.{Table, item_count}
use Rattle.dconf_model.specs.Names.{HasParents}
use Rattle.dconf_model.specs.Searchable.{EachItem, LeadsUp, HasEnd, HasGoodKey}
use Rattle.dconf_model.proofs.ParentLaws.{parent_counted}
use Rattle.dconf_model.specs.Sound.{Rule, rule_number, Keeps, KeepsAll, IsLeastFault, FailsAt, SoundIsSearchable, SoundHasNoFault, HasOneFirstFault}
use Rattle.dconf_model.specs.Sound.Rule.{buckets, keys, chain, hash, span, bloom, once, content, place, lists, locks}

-- ---- sound tables

-- where all keys are good and none is empty, what leads up is the parents of a name
pub parents_of_name : (t : Table) → EachItem t (HasGoodKey t) → EachItem t (HasEnd t) → (ps : List ℕ) (i : ℕ) → i < item_count t → LeadsUp t i ps → HasParents t i ps
parents_of_name t good ends [] i counted up = (record { counted = counted; key_inside = (good i counted).inside }, up)
parents_of_name t good ends (p ∷ ps) i counted up = (
  record { counted = counted; key_inside = (good i counted).inside },
  up.0,
  (ends i counted).key,
  parents_of_name t good ends ps p (parent_counted t i p good counted up.0) up.1,
)

pub sound_is_searchable : SoundIsSearchable
sound_is_searchable t sound = record {
  buckets = sound buckets;
  good_key = sound keys;
  chain = sound chain;
  hash = sound hash;
  in_span = sound span;
  in_bloom = sound bloom;
  once = sound once;
  content = sound content;
}

-- ---- the first fault

each_keeps : (t : Table) (rule : Rule) → rule ≢ buckets → KeepsAll t rule → EachItem t (Keeps t rule)
each_keeps t buckets other keeps = absurd (other refl)
each_keeps t keys other keeps = keeps
each_keeps t chain other keeps = keeps
each_keeps t hash other keeps = keeps
each_keeps t span other keeps = keeps
each_keeps t bloom other keeps = keeps
each_keeps t once other keeps = keeps
each_keeps t content other keeps = keeps
each_keeps t place other keeps = keeps
each_keeps t lists other keeps = keeps
each_keeps t locks other keeps = keeps

pub failing_is_not_kept : (t : Table) (rule : Rule) (at : Option ℕ) → FailsAt t rule at → ¬ KeepsAll t rule
failing_is_not_kept t rule None fails keeps = fails.1 (subst (KeepsAll t) fails.0 keeps)
failing_is_not_kept t rule (Some i) fails keeps = fails.1.fails (each_keeps t rule fails.0 keeps i fails.1.counted)

pub sound_has_no_fault : SoundHasNoFault
sound_has_no_fault t rule at sound fault = failing_is_not_kept t rule at fault.fails (sound rule)

-- the rule of a number
unfoldable rule_of : ℕ → Rule
rule_of n =
    if n == 1 then buckets else if n == 2 then keys else if n == 3 then chain else if n == 4 then hash else
    if n == 5 then span else if n == 6 then bloom else if n == 7 then once else if n == 8 then content else
    if n == 9 then place else if n == 10 then lists else locks

rule_of_number : (rule : Rule) → rule_of (rule_number rule) ≡ rule
unfolding rule_of
rule_of_number buckets = refl
rule_of_number keys = refl
rule_of_number chain = refl
rule_of_number hash = refl
rule_of_number span = refl
rule_of_number bloom = refl
rule_of_number once = refl
rule_of_number content = refl
rule_of_number place = refl
rule_of_number lists = refl
rule_of_number locks = refl

pub same_rule : (r s : Rule) → rule_number r ≡ rule_number s → r ≡ s
same_rule r s e = sym (rule_of_number r) ∙ (ap rule_of e ∙ rule_of_number s)

same_item : (t : Table) (rule : Rule) (i j : ℕ) → IsLeastFault t rule i → IsLeastFault t rule j → i ≡ j
same_item t rule i j one other = elim (cases_order i j) [
  | inl e ↦ e
  | inr rest ↦ elim rest [
    | inl before ↦ absurd (one.fails (other.earlier i before))
    | inr after ↦ absurd (other.fails (one.earlier j after))
  ]
]

same_place : (t : Table) (rule : Rule) (at to : Option ℕ) → FailsAt t rule at → FailsAt t rule to → at ≡ to
same_place t rule None None one other = refl
same_place t rule None (Some j) one other = absurd (other.0 one.0)
same_place t rule (Some i) None one other = absurd (one.0 other.0)
same_place t rule (Some i) (Some j) one other = ap Some (same_item t rule i j one.1 other.1)

pub one_first_fault : HasOneFirstFault
one_first_fault t r s at to one other = elim (cases_order (rule_number r) (rule_number s)) [
  | inl e ↦ let same = same_rule r s e in (same, same_place t s at to (subst (λ x. FailsAt t x at) same one.fails) other.fails)
  | inr rest ↦ elim rest [
    | inl before ↦ absurd (failing_is_not_kept t r at one.fails (other.earlier r before))
    | inr after ↦ absurd (failing_is_not_kept t s to other.fails (one.earlier s after))
  ]
]
