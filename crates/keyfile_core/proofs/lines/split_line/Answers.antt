use Rattle.std.proofs.Common.{sym, ap, ◌∷◌, ◌∙◌, arith, eqb-true, take}
use Rattle.std.proofs.Math.Nat.{sub-zero}
use Rattle.std.specs.List.{slice_split}
use Rattle.std.proofs.lemmas.Str.{IsCharBoundary-after_ascii}
use Rattle.keyfile_core.specs.Feeds.{is_feed}
use Rattle.keyfile_core.proofs.LineParts.{at_feed, no_feed}
use Rattle.keyfile_core.proofs.lines.split_line.Goals as goal

pub range_from-requires : goal.range_from-requires
range_from-requires c some =
    let found = rw c.as_bytes.ensures.value at c.in-Some.ensures in
    let high = found.0.high in
    let feed = eqb-true _ 10 found.1 in
    IsCharBoundary-after_ascii c.args.text.now c.in-Some.end c.utf8.text high (omega (arith, feed))

pub returns-in-Some-clause-parts : goal.returns-in-Some-clause-parts
returns-in-Some-clause-parts c =
    let found = rw c.as_bytes.ensures.value at c.in-Some.ensures in
    let front = c.range.ensures.value ∙ ap (λ n. take n c.args.text.now) (sub-zero c.in-Some.end) in
    at_feed c.args.text.now c.in-Some.end found.0 found.1
    ∙ (λ i. sym front i ∷ slice_split is_feed (sym c.range_from.ensures.value i))

pub returns-in-None-clause-parts : goal.returns-in-None-clause-parts
returns-in-None-clause-parts c = no_feed c.args.text.now (rw c.as_bytes.ensures.value at c.in-None.ensures)
