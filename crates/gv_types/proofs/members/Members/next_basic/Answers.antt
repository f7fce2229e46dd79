use Rattle.std.proofs.Common.{◌≡◌, ◌∷◌, [], length, drop, sym, ap, ◌∙◌, arith, rules}
use Rattle.std.proofs.lemmas.List.{nil_from_length}
use Rattle.std.proofs.lemmas.Str.{IsCharBoundary-from_ascii}
use Rattle.gv_model.specs.Ty.Ty.{basic}
use Rattle.gv_model.specs.Texts.{are_types}
use Rattle.gv_model.specs.TypeText.{seen}
use Rattle.gv_types.specs.Classes.{basic_of}
use Rattle.gv_types.specs.Members.{types_in}
use Rattle.gv_types.proofs.TypeLists.{types_are_ascii}
use Rattle.gv_types.proofs.BasicMembers.{later_types, letter_seen, nothing_seen, other_seen}
use Rattle.gv_types.proofs.members.Members.next_basic.Goals as goal

pub returns-in_err-letter-clause-other : goal.returns-in_err-letter-clause-other
returns-in_err-letter-clause-other c =
    let none : c.args.self.now.rest.now ≡ [] = search (rules, nil_from_length c.args.self.now.rest.now, c.split_first.ensures.cases, c.in_err-letter.was) in
    rw c.from_residual.ensures (nothing_seen c.args.self.now.rest.now none)

pub returns-in_err-of-clause-other : goal.returns-in_err-of-clause-other
returns-in_err-of-clause-other c =
    let at : c.args.self.now.rest.now ≡ c.in_ok-letter.letter.now ∷ c.in_ok-letter.field-0-1.now = search (rules, c.in_ok-letter.ensures.cases) in
    rw c.from_residual-in_err-of.ensures (other_seen c.args.self.now.rest.now c.in_ok-letter.letter.now c.in_ok-letter.field-0-1.now at (sym c.basic_type_of.ensures ∙ c.in_err-of.was))

pub range_from-requires : goal.range_from-requires
range_from-requires c =
    let w = c.args.self.now.rest.now in
    let at : w ≡ c.in_ok-letter.letter.now ∷ c.in_ok-letter.field-0-1.now = search (rules, c.in_ok-letter.ensures.cases) in
    λ _. IsCharBoundary-from_ascii w 1 (types_are_ascii w c.args.self.now.are_types) (omega (arith, ap length at))

pub invariant_of-self-clause-are_types : goal.invariant_of-self-clause-are_types
invariant_of-self-clause-are_types c =
    let w = c.args.self.now.rest.now in
    let at : w ≡ c.in_ok-letter.letter.now ∷ c.in_ok-letter.field-0-1.now = search (rules, c.in_ok-letter.ensures.cases) in
    ap (λ v. are_types (seen v)) (c.range_from.ensures.value ∙ ap (drop 1) at) ∙ later_types w c.in_ok-letter.letter.now c.in_ok-letter.field-0-1.now c.in_ok-of.of at (sym c.basic_type_of.ensures ∙ c.in_ok-of.was) c.args.self.now.are_types

pub returns-clause-taken : goal.returns-clause-taken
returns-clause-taken c =
    let w = c.args.self.now.rest.now in
    let at : w ≡ c.in_ok-letter.letter.now ∷ c.in_ok-letter.field-0-1.now = search (rules, c.in_ok-letter.ensures.cases) in
    let is = c.range_from.ensures.value ∙ ap (drop 1) at in
    ap types_in (letter_seen w c.in_ok-letter.letter.now c.in_ok-letter.field-0-1.now c.in_ok-of.of at (sym c.basic_type_of.ensures ∙ c.in_ok-of.was)) ∙ ap (λ v. basic (basic_of c.in_ok-of.of) ∷ types_in (seen v)) (sym is)
