use Rattle.std.proofs.Common.{◌≡◌, ◌≢◌, ℕ, IsTrue, Bool, true, List, [], ◌∷◌, ◌++◌, length, arith, sym, subst, ap, ◌∙◌, Some, None, eqb, refl, length-append}
use borrow.Author.Tests.{eqb-true}
use Rattle.dconf_model.specs.Table.{item, key}
use Rattle.gvdb_format.specs.Tables.{region}
use Rattle.dconf_model.proofs.NameSteps.{no_suffix, at_root, moves_up}
use Rattle.gvdb_format.proofs.NameWalks.{never, named_leads}
use Rattle.gvdb_format.proofs.raw_table.RawTable.is_named.Goals as goal

empty_test : (xs : List ℕ) (b : Bool) → b ≡ eqb (length xs) 0 → (IsTrue b → xs ≡ []) × (xs ≡ [] → IsTrue b)
empty_test [] b e = (λ h. refl, λ h. e)
empty_test (x ∷ xs) b e = (λ h. let bad : eqb (length (x ∷ xs)) 0 ≡ true = sym e ∙ h in let no_way : length (x ∷ xs) ≡ 0 = eqb-true _ _ bad in absurd (omega arith), λ h. cc)

pub returns-in_default-clause-named : goal.returns-in_default-clause-named
returns-in_default-clause-named c = never (λ h. c.in_default.ensures.none (named_leads _ _ _ (c.loop-link.invariant.named.1 h)))

pub returns-in_default-before_suffix-clause-named : goal.returns-in_default-before_suffix-clause-named
returns-in_default-before_suffix-clause-named c =
    let t = region c.args.self in
    let rest = c.loop-link.rest.now in
    let other = subst (λ (k : List ℕ). (prefix : List ℕ) → rest ≢ prefix ++ k) c.in-Some.ensures.some.2 c.in_default-before_suffix.ensures in
    never (λ h. no_suffix t c.loop-link.at rest other (c.loop-link.invariant.named.1 h))

pub returns-in_default-parent-clause-named : goal.returns-in_default-parent-clause-named
returns-in_default-parent-clause-named c =
    let t = region c.args.self in
    let rest = c.loop-link.rest.now in
    let some = c.in-Some.ensures.some in
    let prefix = c.in-Some-before_suffix.prefix.now in
    let cut = c.in-Some-before_suffix.ensures in
    let is = cut ∙ ap (λ (k : List ℕ). prefix ++ k) some.2 in
    let orphan : (item t c.loop-link.at).parent ≡ None = sym some.1 ∙ c.in_default-parent.is in
    let root = at_root t c.loop-link.at prefix rest some.0.here orphan is in
    let test = empty_test prefix c.is_empty.result c.is_empty.ensures in
    (λ h. c.loop-link.invariant.named.0 (root.0 (test.0 h)), λ h. test.1 (root.1 (c.loop-link.invariant.named.1 h)))

pub loop-link-preserved : goal.loop-link-preserved
loop-link-preserved c =
    let t = region c.args.self in
    let rest = c.loop-link.rest.now in
    let some = c.in-Some.ensures.some in
    let prefix = c.in-Some-before_suffix.prefix.now in
    let cut = c.in-Some-before_suffix.ensures in
    let is = cut ∙ ap (λ (k : List ℕ). prefix ++ k) some.2 in
    let up : (item t c.loop-link.at).parent ≡ Some c.in-Some-parent.parent = sym some.1 ∙ c.in-Some-parent.is in
    let long = some.0.takes c.in-Some-parent.parent up in
    let moved = moves_up t c.loop-link.at c.in-Some-parent.parent prefix rest some.0.here up long is in
    record {
      named = (λ h. c.loop-link.invariant.named.0 (moved.0 h), λ h. moved.1 (c.loop-link.invariant.named.1 h));
      grows = omega (arith, c.loop-link.invariant.grows, c.tick.ensures);
      cost = omega (arith, c.loop-link.invariant.cost, c.tick.ensures, long, length-append prefix (key t c.loop-link.at), ap (λ (k : List ℕ). length k) is);
    }
