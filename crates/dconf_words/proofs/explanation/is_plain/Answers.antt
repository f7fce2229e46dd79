use Rattle.std.proofs.Common.{rules, ap, not}
use Rattle.std.proofs.lemmas.Iterator.{YieldsList-from_slice}
use Rattle.std.proofs.lemmas.Iterator.Search.{any_from_yields_List}
use Rattle.dconf_words.specs.Explanations.{is_control}
use Rattle.dconf_words.proofs.explanation.is_plain.Goals as goal

pub returns : goal.returns
returns c =
    ap not (any_from_yields_List is_control _ _ _ c.any.ensures.ran (YieldsList-from_slice c.args.text.now c.iter.ensures.rest) (λ x b q k. search rules))
