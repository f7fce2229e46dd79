use Rattle.std.proofs.Common.{rules, ◌∙◌, string_bytes}
use Rattle.std.specs.Prelude.{codes}
use Rattle.std.specs.Str.{bytes_eq}
use Rattle.std.proofs.lemmas.Iterator.{YieldsList-from_slice}
use Rattle.std.proofs.lemmas.Iterator.Search.{any_from_yields_List}
use Rattle.dconf_habits.proofs.WordLaws.{list_any-map}
use Rattle.dconf_habits.proofs.typed.has_dashes.Goals as goal

pub returns : goal.returns
returns c =
    any_from_yields_List (λ word. bytes_eq (string_bytes word) (codes "--")) _ _ _ c.any.ensures.ran (YieldsList-from_slice c.args.words.now c.iter.ensures.rest) (λ x b q k. search rules)
    ∙ list_any-map (λ word. bytes_eq word (codes "--")) string_bytes c.args.words.now
