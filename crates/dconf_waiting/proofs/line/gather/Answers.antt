use Rattle.std.proofs.Common.{rules, ◌≡◌, ℕ, ◌<◌, length, false, get_or, List, ◌+◌}
use Rattle.std.proofs.lemmas.Bool.{eq-eqb}
use Rattle.std.proofs.lemmas.List.{get_or_default}
use Rattle.std.proofs.lemmas.List.Filters.{FiltersInPlace, FiltersInPlace-more_swap, FiltersInPlace-more_no}
use Rattle.std.proofs.lemmas.List.Sorted.{IsPermutation-trans}
use Rattle.std.specs.List.{SwappedAt}
use Rattle.dconf_waiting.specs.declared.fate.Waiter.{Waiter}
use Rattle.dconf_waiting.specs.Fates.{waits}
use Rattle.dconf_waiting.proofs.line.gather.Goals as goal

abbrev nobody : Waiter
nobody = record { change = 0; set = 0; edit = record { number = 0; is_alone = false }; newest = record { number = 0; is_alone = false }; fate = 0; is_tried = false; is_refused = false; asks = false; is_there = false }

swapped : (xs ys zs : List Waiter) (k i : ℕ) → FiltersInPlace waits xs ys k i → i < length ys → (get_or ys i nobody).fate ≡ 0 → SwappedAt ys zs k i → FiltersInPlace waits xs zs (k + 1) (i + 1)
swapped xs ys zs k i f inside zero by = FiltersInPlace-more_swap {x = get_or ys i nobody} f inside (eq-eqb (get_or ys i nobody).fate 0 zero) (get_or_default ys i nobody (get_or ys i nobody) inside) by

passed : (xs ys : List Waiter) (k i : ℕ) → FiltersInPlace waits xs ys k i → i < length ys → waits (get_or ys i nobody) ≡ false → FiltersInPlace waits xs ys k (i + 1)
passed xs ys k i f inside other = FiltersInPlace-more_no {x = get_or ys i nobody} f inside other (get_or_default ys i nobody (get_or ys i nobody) inside)

pub loop-at-preserved : goal.loop-at-preserved
loop-at-preserved c = elim c.if-line-at-eq0.branch [
  | goal.then-line-at-eq0 w ↦ rw (w.line-is, w.count-is) (
    swapped _ _ _ _ _ c.loop-at.invariant.0 (search rules) w.if-line-at-eq0.true w.exchange.ensures.by_index,
    IsPermutation-trans _ _ _ c.loop-at.invariant.1 w.exchange.ensures.all,
  )
  | goal.else-line-at-eq0 w ↦ rw (w.line-is, w.count-is) (
    passed _ _ _ _ c.loop-at.invariant.0 (search rules) (search rules),
    c.loop-at.invariant.1,
  )
]
