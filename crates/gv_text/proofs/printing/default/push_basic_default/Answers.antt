use Rattle.std.proofs.Common.{◌≡◌, ◌++◌, string_bytes, ap, ◌∙◌}
use Rattle.gv_model.specs.Printed.{when, word}
use Rattle.gv_types.specs.Classes.{basic_of}
use Rattle.gv_text.proofs.ContainerTexts.{wanted_mark, unwanted_mark}
use Rattle.gv_text.proofs.DefaultTexts.{basic_written}
use Rattle.gv_text.proofs.printing.default.push_basic_default.Goals as goal
use Rattle.gv_text.proofs.printing.default.push_basic_default.Goals.{then-annotated+in_ok-push_word, else-annotated}

pub returns : goal.returns
returns c =
    let k = basic_of c.args.of in
    let old = string_bytes c.args.to.now in
    let mid : string_bytes c.if-annotated.to ≡ old ++ when c.args.annotated (word k) = elim c.if-annotated.branch [
      | then-annotated+in_ok-push_word w ↦ ap string_bytes w.to-is ∙ wanted_mark c.args.annotated (word k) old _ w.if-annotated.true w.in_ok-push_word.ensures
      | else-annotated w ↦ ap string_bytes w.to-is ∙ unwanted_mark c.args.annotated (word k) old w.if-annotated.false
    ] in
    let are = c.in-Some.ensures in
    basic_written k c.args.annotated c.in-Some.figures.now old (string_bytes c.if-annotated.to) (string_bytes c.push_str.new.self) are.plain are.are mid c.in_ok-push_str.ensures.bytes
