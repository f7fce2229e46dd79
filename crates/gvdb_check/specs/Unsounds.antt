-- What an unsound database breaks: its rule among the model's.
use Rattle.std.specs.Prelude.{ℕ, ◌<◌}
use Rattle.dconf_model.specs.Table.{Table as Region}
use Rattle.dconf_model.specs.Sound.{Rule as SoundRule}
use Rattle.dconf_model.specs.Sound.{rule_number, Keeps, KeepsAll}
use Rattle.dconf_model.specs.Sound.Rule.{buckets, keys, chain, hash, span, bloom, once, content, place, lists, locks}
use Rattle.gvdb_check.specs.declared.unsound.Rule.{Rule}
use Rattle.gvdb_check.specs.declared.unsound.Rule.TheVariants.{Buckets, Keys, Chain, Hash, Span, Bloom, Once, Content, Place, Lists, Locks}

abbrev pub rule_of : Rule → SoundRule
rule_of Buckets = buckets
rule_of Keys = keys
rule_of Chain = chain
rule_of Hash = hash
rule_of Span = span
rule_of Bloom = bloom
rule_of Once = once
rule_of Content = content
rule_of Place = place
rule_of Lists = lists
rule_of Locks = locks

-- the rules whose numbers are below this one are kept
abbrev pub KeepsBelow : Region → ℕ → Type 0
KeepsBelow t n = (rule : SoundRule) → rule_number rule < n → KeepsAll t rule

-- each lower item keeps the rule
abbrev pub KeptBefore : Region → SoundRule → ℕ → Type 0
KeptBefore t rule i = (j : ℕ) → j < i → Keeps t rule j

-- the rules that are asked of each item by itself
abbrev pub IsAskedAlone : SoundRule → Type 0
IsAskedAlone buckets = ⊥
IsAskedAlone keys = Unit {0}
IsAskedAlone chain = ⊥
IsAskedAlone hash = Unit {0}
IsAskedAlone span = Unit {0}
IsAskedAlone bloom = Unit {0}
IsAskedAlone once = ⊥
IsAskedAlone content = Unit {0}
IsAskedAlone place = ⊥
IsAskedAlone lists = Unit {0}
IsAskedAlone locks = ⊥
