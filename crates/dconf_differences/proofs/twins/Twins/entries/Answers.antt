use Rattle.std.proofs.Common.{◌∙◌, ◌-◌, ap, arith, subst, sym, List, ℕ}
use Rattle.std.specs.Prelude.{filter}
use Rattle.dconf_layers.specs.LayerRows.{AreOf, paths_of}
use Rattle.dconf_layers.proofs.EntryLaws.{rows_in}
use Rattle.dconf_differences.proofs.TwinLaws.{asked_within}
use Rattle.dconf_differences.proofs.twins.Twins.entries.Goals as goal

pub entries_in-requires-clause-ordered : goal.entries_in-requires-clause-ordered
entries_in-requires-clause-ordered c = c.args.self.alike.ordered

pub entries_in-requires-clause-inside : goal.entries_in-requires-clause-inside
entries_in-requires-clause-inside c = c.args.self.alike.counted

pub returns-clause-of : goal.returns-clause-of
returns-clause-of c =
    let self = c.args.self in
    let low = self.alike.ordered in
    let high = self.alike.counted in
    subst (AreOf self.layer) (sym c.entries_in.ensures) (rows_in self.layer self.items.first (self.items.end - self.items.first) (omega (arith, low, high)))

pub returns-clause-all : goal.returns-clause-all
returns-clause-all c f passes =
    let self = c.args.self in
    ap (λ (rows : List (List ℕ × List ℕ)). filter f (paths_of rows)) c.entries_in.ensures ∙ asked_within f self.layer self.other passes self.items.first self.items.end self.alike
