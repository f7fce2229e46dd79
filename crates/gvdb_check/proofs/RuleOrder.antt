-- The rules in their order: what is kept so far, and the first that isn't.
use Rattle.std.proofs.Common.{◌≡◌, ◌≢◌, ◌<◌, ◌↔◌, ℕ, Some, ◌+◌, refl, sym, subst, arith, Bool, IsTrue, true, false, inl, inr}
use Rattle.std.proofs.lemmas.Bool.{cases_order}
use Rattle.std.specs.Prelude.{IfOk, IfErr, IsOk, Result, Ok, Err}
use Rattle.dconf_model.specs.Table.{Table}
use Rattle.dconf_model.specs.Searchable.{EachItem, IsSearchable}
use Rattle.dconf_model.specs.Sound.{Rule, rule_number, Keeps, KeepsAll, IsSound, IsLeastFault}
use Rattle.dconf_model.specs.Sound.Rule.{buckets, keys, chain, hash, span, bloom, once, content, place, lists, locks}
use Rattle.dconf_model.proofs.SoundLaws.{failing_is_not_kept, same_rule}
use Rattle.gvdb_check.specs.Unsounds.{KeepsBelow}
use Rattle.gvdb_check.specs.declared.unsound.Unsound.{Unsound}

below_twelve : (rule : Rule) → rule_number rule < 12
below_twelve buckets = omega arith
below_twelve keys = omega arith
below_twelve chain = omega arith
below_twelve hash = omega arith
below_twelve span = omega arith
below_twelve bloom = omega arith
below_twelve once = omega arith
below_twelve content = omega arith
below_twelve place = omega arith
below_twelve lists = omega arith
below_twelve locks = omega arith

pub sound_if_ok : {T : Type 0} (t : Table) (r : Result T Unsound) → IfOk r (λ _. KeepsBelow t 12) → IfOk r (λ _. IsSound t)
sound_if_ok t (Ok x) kept = λ rule. kept rule (below_twelve rule)
sound_if_ok t (Err e) kept = tt

-- where one item fails to keep a rule, not all keep it
pub least_is_not_kept : (t : Table) (rule : Rule) (i : ℕ) → rule ≢ buckets → IsLeastFault t rule i → ¬ KeepsAll t rule
least_is_not_kept t rule i other least keeps = failing_is_not_kept t rule (Some i) (other, least) keeps

-- a rule of items is kept where each item keeps it
pub all_keep : (t : Table) (rule : Rule) → rule ≢ buckets → EachItem t (Keeps t rule) → KeepsAll t rule
all_keep t buckets of_items each = absurd (of_items refl)
all_keep t keys of_items each = each
all_keep t chain of_items each = each
all_keep t hash of_items each = each
all_keep t span of_items each = each
all_keep t bloom of_items each = each
all_keep t once of_items each = each
all_keep t content of_items each = each
all_keep t place of_items each = each
all_keep t lists of_items each = each
all_keep t locks of_items each = each

-- ---- the first eight rules

searchable : (t : Table) → KeepsBelow t 9 → IsSearchable t
searchable t kept = record {
  buckets = kept buckets (omega arith);
  good_key = kept keys (omega arith);
  chain = kept chain (omega arith);
  hash = kept hash (omega arith);
  in_span = kept span (omega arith);
  in_bloom = kept bloom (omega arith);
  once = kept once (omega arith);
  content = kept content (omega arith);
}

-- a table whose names were checked is searchable, and no other is
pub searchable_where_ok : {T : Type 0} (t : Table) (r : Result T Unsound) → IfOk r (λ _. KeepsBelow t 9) → IfErr r (λ _. ¬ IsSearchable t) → IsOk r ↔ IsSearchable t
searchable_where_ok t (Ok x) kept fault = (λ _. searchable t kept, λ _. refl)
searchable_where_ok t (Err e) kept fault = (λ h. let bad : false ≡ true = h in cc, λ s. absurd (fault s))

-- an answer that is handed on
pub moved : (r b : Bool) (P : Type 0) → b ≡ r → (IsTrue r ↔ P) → IsTrue b ↔ P
moved r b P e h = subst (λ (x : Bool). IsTrue x ↔ P) (sym e) h

-- where the rules before one are kept, and that one too
pub one_more : (t : Table) (rule : Rule) → KeepsBelow t (rule_number rule) → KeepsAll t rule → KeepsBelow t (rule_number rule + 1)
one_more t rule before here r lt = elim (cases_order (rule_number r) (rule_number rule)) [
  | inl e ↦ subst (KeepsAll t) (sym (same_rule r rule e)) here
  | inr rest ↦ elim rest [
    | inl lower ↦ before r lower
    | inr higher ↦ absurd (omega (arith, lt, higher))
  ]
]
