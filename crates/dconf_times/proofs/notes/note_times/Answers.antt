use Rattle.std.proofs.Common.{◌≡◌, ◌≤◌, ◌++◌, ◌∙◌, List, map, length, sym, subst, ap, arith}
use Rattle.std.specs.List.{filter}
use Rattle.std.proofs.lemmas.List.{length-map, map-append}
use Rattle.dconf_times.specs.declared.times.DconfdbTime.{DconfdbTime}
use Rattle.dconf_times.specs.Noted.{AreNoted}
use Rattle.dconf_times.specs.Times.{Note, is_known, note_of}
use Rattle.dconf_times.proofs.NotedLaws.{all_noted}
use Rattle.dconf_times.proofs.notes.note_times.Goals as goal

pub returns : goal.returns
returns c =
    let first = map note_of c.split_at.result.0.now in
    let rest = map note_of c.split_at.result.1.now in
    let more = map note_of c.args.more.now in
    let last = map note_of c.note_each-2.new.kept.items in
    let parts : first ++ rest ≡ map note_of c.args.times.now =
    sym (map-append note_of c.split_at.result.0.now c.split_at.result.1.now) ∙ sym (ap (λ (ts : List DconfdbTime). map note_of ts) c.split_at.ensures.by_index.0) in
    let few : length first ≤ c.args.most = subst (λ n. n ≤ c.args.most) (sym (length-map c.split_at.result.0.now note_of)) (omega (arith, c.split_at.ensures.front_len, c.min.ensures)) in
    let begin : map note_of c.keep_known.new.kept.items ≡ filter (is_known c.args.now) first =
    c.in_ok-keep_known.ensures ∙ ap (λ (ts : List DconfdbTime). map note_of ts ++ filter (is_known c.args.now) first) c.new-kept.ensures.items in
    subst (λ (ns : List Note). AreNoted c.args.now c.args.most (ns ++ more) last) parts
    (all_noted c.args.now c.args.most first rest more (map note_of c.keep_known.new.kept.items) (map note_of c.note_each.new.kept.items) last few begin c.in_ok-note_each.ensures c.in_ok-note_each-2.ensures)
