use Rattle.std.proofs.Common.{◌∙◌, ◌++◌, List, ℕ, ap}
use Rattle.dconf_layers.specs.TextSets.{TextSet, text_set, with_text}
use Rattle.dconf_layers.proofs.TextSetLaws.{one_more}
use Rattle.dconf_layers.proofs.texts.Texts.add_with_room.Goals as goal

pub returns : goal.returns
returns c =
    let texts = c.self.inside.texts.items in
    ap text_set c.in_ok-push.ensures.items ∙ (one_more texts c.push_str.new.self
    ∙ (ap (with_text (text_set texts)) (c.in_ok-push_str.ensures.bytes ∙ ap (λ (l : List ℕ). l ++ c.args.text.now) c.in_ok-kept.ensures.bytes)
    ∙ ap (λ (s : TextSet). with_text s c.args.text.now) c.self.view_is))
