use Rattle.std.proofs.Common.{rules, ◌≡◌, suc, drop, None, ap, length, sym, [], arith}
use Rattle.std.proofs.lemmas.Str.{IsCharBoundary-after_ascii}
use Rattle.gv_model.specs.Lexing.{type_prefix}
use Rattle.gv_syntax.proofs.TypePrefixes.{type_prefix_fits}
use Rattle.gv_syntax.proofs.lexing.type_token.Goals as goal

pub range_from-requires : goal.range_from-requires
range_from-requires c = λ _. IsCharBoundary-after_ascii c.args.text.now c.args.at c.utf8.text c.requires.0 (omega (arith, c.requires.1))

pub returns-in_ok-copy-in-Some-clause-within : goal.returns-in_ok-copy-in-Some-clause-within
returns-in_ok-copy-in-Some-clause-within c = omega (arith, c.requires.0, c.range_from.ensures.len, type_prefix_fits [] _ _ (sym c.in-Some.ensures), ap length c.as_str.ensures.spelled)

pub returns-in-None-clause-found : goal.returns-in-None-clause-found
returns-in-None-clause-found c =
    let found : type_prefix [] (drop (suc c.args.at) c.args.text.now) ≡ None = search rules in
    rw (found, c.at-in-None.ensures) (search rules)
