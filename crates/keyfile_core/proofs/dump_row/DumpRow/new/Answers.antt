use Rattle.std.proofs.Common.{◌-◌, length, take, drop, ap, ◌∙◌, arith, eqb-true}
use Rattle.std.proofs.lemmas.Str.{IsCharBoundary-after_ascii}
use Rattle.keyfile_core.proofs.DumpParts.{after_slash, no_slash}
use Rattle.keyfile_core.proofs.dump_row.DumpRow.new.Goals as goal

pub range_from-requires : goal.range_from-requires
range_from-requires c some =
    let found = rw c.as_bytes.ensures.value at c.in-Some.ensures in
    let high = found.0.high in
    let slash = eqb-true _ 47 found.1 in
    IsCharBoundary-after_ascii c.args.path.now c.in-Some.slash c.utf8.path high (omega (arith, slash))

pub returns-in-Some-clause-part : goal.returns-in-Some-clause-part
returns-in-Some-clause-part c =
    let found = rw c.as_bytes.ensures.value at c.in-Some.ensures in
    let high = found.0.high in
    let key = after_slash c.args.path.now c.in-Some.slash found.0 found.1 in
    c.range.ensures.value ∙ ap (λ n. take n c.args.path.now) (omega (arith, key, high))

pub returns-in-Some-clause-key : goal.returns-in-Some-clause-key
returns-in-Some-clause-key c =
    let found = rw c.as_bytes.ensures.value at c.in-Some.ensures in
    let high = found.0.high in
    let key = after_slash c.args.path.now c.in-Some.slash found.0 found.1 in
    c.range_from.ensures.value ∙ ap (λ n. drop n c.args.path.now) (omega (arith, key, high))

pub returns-in-None-clause-part : goal.returns-in-None-clause-part
returns-in-None-clause-part c =
    let key = no_slash c.args.path.now (rw c.as_bytes.ensures.value at c.in-None.ensures) in
    ap (λ n. take n c.args.path.now) {x = 0} {y = length c.args.path.now - _ - 1} (omega (arith, key))

pub returns-in-None-clause-key : goal.returns-in-None-clause-key
returns-in-None-clause-key c =
    let key = no_slash c.args.path.now (rw c.as_bytes.ensures.value at c.in-None.ensures) in
    ap (λ n. drop n c.args.path.now) {x = 0} {y = length c.args.path.now - _} (omega (arith, key))
