use Rattle.std.proofs.Common.{sym, ◌∙◌, subst}
use Rattle.std.proofs.lemmas.Slice.Eq.{bytes_eq-Decides}
use Rattle.gv_tree.specs.Basics.{TextIs}
use Rattle.gv_tree.proofs.BasicLaws.{same_parts, one_text, bits_compared}
use Rattle.gv_tree.proofs.basic.Basic.equal.Goals as goal
use Rattle.gv_tree.proofs.basic.Basic.equal.Goals.{then-eq, else-eq}

pub returns-then-eq-2 : goal.returns-then-eq-2
returns-then-eq-2 c =
    let x = c.text.result.now in
    let y = c.text-then-eq-2.result.now in
    elim c.if-eq.branch [
      | then-eq w ↦
          let types = sym c.type_text.ensures ∙ (bytes_eq-Decides _ _).0 (sym c.eq.ensures ∙ w.if-eq.true) ∙ c.type_text-2.ensures in
          let bits = bits_compared _ _ (sym w.eq-then-eq.ensures ∙ sym w.value-is ∙ c.if-eq-2.true) in (
            λ h. same_parts _ _ _ _ x y w.bits.ensures w.bits-then-eq.ensures c.text.ensures c.text-then-eq-2.ensures types bits ((bytes_eq-Decides x y).0 (sym c.eq-then-eq-2.ensures ∙ h)),
            λ e. c.eq-then-eq-2.ensures ∙ (bytes_eq-Decides x y).1 (one_text _ x y (subst (TextIs x) e c.text.ensures) c.text-then-eq-2.ensures),
          )
      | else-eq w ↦ absurd (cc (w.value-is, w.if-eq.false, c.if-eq-2.true))
    ]
