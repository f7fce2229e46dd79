use Rattle.std.proofs.Common.{◌≡◌, ◌++◌, ◌∷◌, [], string_bytes, sym, ap, ◌∙◌}
use Rattle.std.specs.Prelude.{codes}
use Rattle.gv_model.specs.Printed.{type_mark, when}
use Rattle.gv_types.specs.TypeStr.{element_of, ty}
use Rattle.gv_text.proofs.ContainerTexts.{wanted_mark, unwanted_mark}
use Rattle.gv_text.proofs.DefaultTexts.{nothing_text, brackets_text, brackets_finished, finished, low_brackets}
use Rattle.gv_text.proofs.printing.default.push_emptied.Goals as goal
use Rattle.gv_text.proofs.printing.default.push_emptied.Goals.{then-annotated+in_ok-push_type_mark, else-annotated}

pub returns-in-Maybe : goal.returns-in-Maybe
returns-in-Maybe c =
    let t = ty c.args.of in
    let old = string_bytes c.args.to.now in
    let mid : string_bytes c.if-annotated.to ≡ old ++ when c.args.annotated (type_mark t) = elim c.if-annotated.branch [
      | then-annotated+in_ok-push_type_mark w ↦ ap string_bytes w.to-is ∙ wanted_mark c.args.annotated (type_mark t) old _ w.if-annotated.true w.in_ok-push_type_mark.ensures
      | else-annotated w ↦ ap string_bytes w.to-is ∙ unwanted_mark c.args.annotated (type_mark t) old w.if-annotated.false
    ] in
    finished c.push_str.result (codes "nothing") _ _ old (string_bytes c.if-annotated.to) (string_bytes c.push_str.new.self) (nothing_text t c.args.annotated (sym c.class.ensures ∙ c.in-Maybe.is)) mid c.push_str.ensures.bytes

pub returns : goal.returns
returns c =
    let t = ty c.args.of in
    let old = string_bytes c.args.to.now in
    let mid : string_bytes c.if-annotated.to ≡ old ++ when c.args.annotated (type_mark t) = elim c.if-annotated.branch [
      | then-annotated+in_ok-push_type_mark w ↦ ap string_bytes w.to-is ∙ wanted_mark c.args.annotated (type_mark t) old _ w.if-annotated.true w.in_ok-push_type_mark.ensures
      | else-annotated w ↦ ap string_bytes w.to-is ∙ unwanted_mark c.args.annotated (type_mark t) old w.if-annotated.false
    ] in
    let text = brackets_text t c.args.annotated c.requires (λ e. c.in_default.not-Maybe (c.class.ensures ∙ e)) in
    let q = c.brackets-left.result in
    let low = low_brackets q (element_of t) c.brackets-left.ensures in
    brackets_finished c.push-2.result q _ _ _ old (string_bytes c.if-annotated.to) (string_bytes c.push.new.self) (string_bytes c.push-2.new.self)
    (c.in_ok-push.ensures.bytes ∙ ap (λ l. string_bytes c.if-annotated.to ++ l) (c.in_ok-push.ensures.ascii low.0)) (c.push-2.ensures.ascii low.1)
    (text ∙ ap (λ p. when c.args.annotated (type_mark t) ++ (p.0 ∷ p.1 ∷ [])) (sym c.brackets-left.ensures)) mid c.push-2.ensures.bytes
