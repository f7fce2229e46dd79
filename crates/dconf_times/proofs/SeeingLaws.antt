-- Which note says what was left.
use Rattle.std.specs.Prelude.{◌≡◌, ◌≤◌, ◌<◌, ℕ, Bool, true, false, List, [], ◌∷◌, refl, not, nat_lt, ◌&&◌, ◌||◌, ◌==◌}
use Rattle.std.proofs.Common.{sym, ◌∙◌, arith}
use Rattle.std.specs.List.{AllByRecursion, list_any}
use Rattle.std.proofs.lemmas.Bool.{and_from, and_parts, ltb-false, or_parts}
use Rattle.dconf_model.proofs.ParentLaws.{by_bool}
use Rattle.dconf_model.specs.Locks.{covers}
use Rattle.dconf_times.specs.Seeing.{IsLatestOf, TheLatestNoteCounts, is_later_there, is_left_by}
use Rattle.dconf_times.specs.declared.seeing.DconfdbSeen.{DconfdbSeen}
use Rattle.dconf_times.specs.declared.times.DconfdbTime.{DconfdbTime}

no_later : (path : List ℕ) (note other : DconfdbTime) → is_later_there path note other ≡ false → covers other.path.now path ≡ true → other.when ≤ note.when
no_later path note other free over = by_bool (nat_lt note.when other.when) (other.when ≤ note.when)
    (λ is. absurd (let later : is_later_there path note other ≡ true = and_from (covers other.path.now path) (nat_lt note.when other.when) over is in
    let bad : true ≡ false = sym later ∙ free in cc))
    (λ isnt. ltb-false note.when other.when isnt)

latest : (path : List ℕ) (note : DconfdbTime) (notes : List DconfdbTime) → list_any (is_later_there path note) notes ≡ false → IsLatestOf path notes note
latest path note [] free = tt
latest path note (other ∷ notes) free =
    let parts = or_parts (is_later_there path note other) (list_any (is_later_there path note) notes) free in
    (no_later path note other parts.0, latest path note notes parts.1)

of_not : (b : Bool) → not b ≡ true → b ≡ false
of_not false e = refl
of_not true e = absurd (let bad : false ≡ true = e in cc)

pub the_latest_note_counts : TheLatestNoteCounts
the_latest_note_counts notes s note is =
    let parts = and_parts (covers note.path.now s.time.path.now && (note.value == s.time.value)) (not (list_any (is_later_there s.time.path.now note) notes)) is in
    latest s.time.path.now note notes (of_not (list_any (is_later_there s.time.path.now note) notes) parts.1)
