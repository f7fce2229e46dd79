-- What a turn notes, read again.
use Rattle.std.proofs.Common.{ℕ, ◌<◌, ◌≤◌, ◌≡◌, ◌⊎◌, List, [], ◌∷◌, length, map, drop, refl, sym, ◌∙◌, ap, arith, ⊎_elim}
use Rattle.std.proofs.lemmas.List.{drop-map}
use Rattle.dconf_times.specs.declared.times.DconfdbTime.{DconfdbTime}
use Rattle.dconf_notes.specs.Records.{Noted, IsFile, file_bytes, noted_of}
use Rattle.dconf_notes.specs.Turned.{IsTurnRead, TheNextTurnReads, left_in, set_in, turn_notes}
use Rattle.dconf_notes.proofs.RecordLaws.{says_one_thing}

is_file : (moment now : ℕ) (left : List ℕ) (set : List Noted) → IsFile (file_bytes (turn_notes moment now left set)) (turn_notes moment now left set)
is_file moment now left set = ((refl, omega arith), refl)

pub the_next_turn_reads : TheNextTurnReads
the_next_turn_reads most moment now left read set read_set short is =
    let notes : List Noted = turn_notes moment now left set in
    ⊎_elim
    (λ (r : (others : List Noted) × IsFile (file_bytes notes) others × (read ≡ left_in others) × (read_set ≡ set_in others)).
    let same : r.0 ≡ notes = says_one_thing (file_bytes notes) r.0 notes r.1 (is_file moment now left set) in
    (r.2 ∙ ap left_in same, r.3 ∙ ap set_in same))
    (λ (r : (read ≡ []) × (read_set ≡ []) × ((most < length (file_bytes notes)) ⊎ ((others : List Noted) → IsFile (file_bytes notes) others → ⊥))).
    ⊎_elim (λ (long : most < length (file_bytes notes)). absurd (omega (arith, short, long))) (λ none. absurd (none notes (is_file moment now left set))) r.2) is

-- what was set stands behind the files' notes
pub set_behind : (notes more rest : List DconfdbTime) (turn : DconfdbTime) → notes ≡ turn ∷ more → rest ≡ drop turn.value more → map noted_of rest ≡ set_in (map noted_of notes)
set_behind notes more rest turn is behind =
    ap (map noted_of) behind ∙ sym (drop-map noted_of turn.value more) ∙ ap (λ (xs : List DconfdbTime). set_in (map noted_of xs)) (sym is)
