-- When what waits counts as set.
use Rattle.std.specs.Prelude.{◌≡◌, ◌==◌, ℕ, Bool, true, false, List, [], ◌∷◌, refl, ◌||◌, ◌&&◌}
use Rattle.std.specs.List.{list_any}
use Rattle.std.specs.Str.{bytes_eq}
use Rattle.std.proofs.lemmas.Bool.{and_from, and_left, or_from, or_left, or_parts, or_right}
use Rattle.dconf_model.specs.Locks.{covers, is_below}
use Rattle.dconf_model.specs.Paths.{ends_with_slash}
use Rattle.dconf_model.proofs.SameBytes.{itself}
use Rattle.dconf_times.specs.Noted.{is_among}
use Rattle.dconf_times.specs.Resets.{AreMomentsKept, MomentsAreKept, is_in, is_in_reset, is_reset, moment_beside, turns_own}
use Rattle.dconf_times.specs.Times.{Note}
use Rattle.dconf_times.proofs.LeavingLaws.{any_of}
use Rattle.dconf_times.proofs.MomentLaws.{are_timed}

in_turn : (change others : List Note) (moment : ℕ) → list_any is_reset change || list_any (is_in_reset change) others ≡ true →
    moment_beside change others moment ≡ turns_own
in_turn change others moment is = rw is refl

resets : (change others : List Note) (moment : ℕ) (edit : Note) → is_among edit change ≡ true → is_reset edit ≡ true →
    moment_beside change others moment ≡ turns_own
resets change others moment edit among is =
    in_turn change others moment (or_left (list_any is_reset change) (list_any (is_in_reset change) others) (any_of is_reset edit change among is))

in_reset : (change others : List Note) (moment : ℕ) (edit other : Note) → is_among edit change ≡ true → is_among other others ≡ true →
    is_reset other ≡ true → covers other.path edit.path ≡ true → moment_beside change others moment ≡ turns_own
in_reset change others moment edit other among with_it is over =
    let has : is_in_reset change other ≡ true = and_from (is_reset other) (list_any (is_in other.path) change) is (any_of (is_in other.path) edit change among over) in
    in_turn change others moment (or_right (list_any is_reset change) (list_any (is_in_reset change) others) (any_of (is_in_reset change) other others with_it has))

-- without a directory
no_reset : (change others : List Note) → list_any is_reset others ≡ false → list_any (is_in_reset change) others ≡ false
no_reset change [] e = refl
no_reset change (x ∷ others) e =
    let parts = or_parts (is_reset x) (list_any is_reset others) e in
    or_from (is_in_reset change x) (list_any (is_in_reset change) others)
    (and_left (is_reset x) (list_any (is_in x.path) change) parts.0) (no_reset change others parts.1)

stays : (change others : List Note) (moment : ℕ) → list_any is_reset change ≡ false → list_any (is_in_reset change) others ≡ false →
    moment_beside change others moment ≡ moment
stays change others moment own beside = rw (or_from (list_any is_reset change) (list_any (is_in_reset change) others) own beside) refl

kept : (change others : List Note) (moment : ℕ) → AreMomentsKept change others moment
kept change others moment = record {
  apart = stays change others moment;
  plain = λ own free. stays change others moment own (no_reset change others free);
  directory = resets change others moment;
  below = in_reset change others moment;
}

pub are_kept : MomentsAreKept
are_kept = record { each = kept; latest = λ now boot noted moment le. (are_timed.timed now boot noted).in_order moment turns_own le }
