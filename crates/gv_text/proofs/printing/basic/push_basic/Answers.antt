use Rattle.std.proofs.Common.{◌≡◌, ◌++◌, ap, sym, ◌∙◌, append-nil, string_bytes}
use Rattle.std.proofs.lemmas.Result.{MatchResult-weaker}
use Rattle.gv_model.specs.Printed.{word, when}
use Rattle.gv_types.specs.Classes.{basic_of}
use Rattle.gv_view.specs.Views.{value, view_ty, view_bytes}
use Rattle.gv_text.proofs.Figures.{of_basic, wrote_basic}
use Rattle.gv_text.proofs.printing.basic.push_basic.Goals as goal
use Rattle.gv_text.proofs.printing.basic.push_basic.Goals.{then-annotated+in_ok-push_word, else-annotated}

pub returns : goal.returns
returns c =
    let k = basic_of c.args.of in
    let is = of_basic (view_ty c.args.view) k (view_bytes c.args.view) c.requires in
    let mid : string_bytes c.if-annotated.to ≡ string_bytes c.args.to.now ++ when c.args.annotated (word k) = elim c.if-annotated.branch [
      | then-annotated+in_ok-push_word w ↦ ap string_bytes w.to-is ∙ (w.in_ok-push_word.ensures ∙ ap (λ a. string_bytes c.args.to.now ++ when a (word k)) (sym w.if-annotated.true))
      | else-annotated w ↦ ap string_bytes w.to-is ∙ (sym (append-nil (string_bytes c.args.to.now)) ∙ ap (λ a. string_bytes c.args.to.now ++ when a (word k)) (sym w.if-annotated.false))
    ] in
    MatchResult-weaker c.push_figures.result c.push_figures.ensures (λ x w. record { plain = w.plain; text = wrote_basic k (value c.args.view) c.args.annotated (string_bytes c.args.to.now) (string_bytes c.if-annotated.to) (string_bytes c.push_figures.new.to) is mid w.text; fits = w.fits }) (λ e q. q)
