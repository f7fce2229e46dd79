use Rattle.std.proofs.Common.{◌≡◌, ◌<◌, ◌∷◌, ◌++◌, ◌∙◌, [], List, length, map, sym, subst, ap, take, drop}
use Rattle.std.proofs.lemmas.List.{length-map, map-append}
use Rattle.dconf_times.specs.declared.times.DconfdbTime.{DconfdbTime}
use Rattle.dconf_times.specs.Noted.{IsAdded}
use Rattle.dconf_times.specs.Times.{Note, note_of}
use Rattle.dconf_times.proofs.NotedLaws.{pushed}
use Rattle.dconf_times.proofs.PutLaws.{written_back}
use Rattle.dconf_times.proofs.notes.note.Goals as goal

pub returns-in_ok-push : goal.returns-in_ok-push
returns-in_ok-push c =
    let old = c.args.kept.now.items in
    let new = c.replaces.new.kept in
    let time = c.args.time in
    let value : c.as_mut_slice.result.now ≡ old = c.as_mut_slice.ensures.value in
    let none = c.replaces.ensures.none c.if-not-replaces.true in
    let same : new ≡ old = none.0 ∙ value in
    let count : c.args.kept.now.len ≡ length old = sym c.as_mut_slice.ensures.len ∙ ap (λ (ts : List DconfdbTime). length ts) value in
    let back : take c.args.kept.now.len (new ++ drop (length new) old) ≡ new = written_back new old c.args.kept.now.len count (ap (λ (ts : List DconfdbTime). length ts) same) in
    let items : c.push.new.self.items ≡ old ++ time ∷ [] = c.in_ok-push.ensures.items ∙ ap (λ (ts : List DconfdbTime). ts ++ time ∷ []) (back ∙ same) in
    let notes : map note_of c.push.new.self.items ≡ map note_of old ++ note_of time ∷ [] = ap (λ (ts : List DconfdbTime). map note_of ts) items ∙ map-append note_of old (time ∷ []) in
    let room : length (map note_of old) < c.args.most =
    subst (λ n. n < c.args.most) (sym (length-map old note_of)) (subst (λ (ts : List DconfdbTime). length ts < c.args.most) value none.1) in
    subst (λ (ns : List Note). IsAdded c.args.most (note_of time) (map note_of old) ns) (sym notes) (pushed c.args.most (note_of time) (map note_of old) room)

pub returns-else-not-replaces : goal.returns-else-not-replaces
returns-else-not-replaces c =
    let old = c.args.kept.now.items in
    let new = c.replaces.new.kept in
    let value : c.as_mut_slice.result.now ≡ old = c.as_mut_slice.ensures.value in
    let same : length new ≡ length old = c.replaces.ensures.length ∙ ap (λ (ts : List DconfdbTime). length ts) value in
    let count : c.args.kept.now.len ≡ length old = sym c.as_mut_slice.ensures.len ∙ ap (λ (ts : List DconfdbTime). length ts) value in
    let back : take c.args.kept.now.len (new ++ drop (length new) old) ≡ new = written_back new old c.args.kept.now.len count same in
    let added : IsAdded c.args.most (note_of c.args.time) (map note_of c.as_mut_slice.result.now) (map note_of new) = c.replaces.ensures.added c.if-not-replaces.false in
    subst (λ (ts : List DconfdbTime). IsAdded c.args.most (note_of c.args.time) (map note_of old) (map note_of ts)) (sym back)
    (subst (λ (ts : List DconfdbTime). IsAdded c.args.most (note_of c.args.time) (map note_of ts) (map note_of new)) value added)
