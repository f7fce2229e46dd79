use Rattle.std.proofs.Common.{◌≡◌, ◌∙◌, ap, rules}
use Rattle.std.specs.Prelude.{filter}
use Rattle.dconf_layers.specs.declared.entries.Entries.{Entries}
use Rattle.dconf_layers.specs.Entries.{entries_left, entry_row}
use Rattle.dconf_layers.specs.LayerRows.{paths_of}
use Rattle.dconf_layers.specs.LayerSettings.{seen_in}
use Rattle.dconf_layers.specs.TextSets.{with_texts}
use Rattle.dconf_differences.proofs.TwinLaws.{one_added}
use Rattle.dconf_told.specs.Telling.{shown_otherwise}
use Rattle.dconf_told.proofs.news.Telling.add_entries.Goals as goal

pub loop-entry-init : goal.loop-entry-init
loop-entry-init c =
    let f = shown_otherwise (seen_in c.args.self.before) (seen_in c.args.self.after) c.args.self.asked.now in
    let same : c.into_iter-entry-iterator.result ≡ c.args.entries = search rules in
    ap (λ (it : Entries). with_texts (filter f (paths_of (entries_left it))) c.args.paths.now) same

pub loop-entry-preserved : goal.loop-entry-preserved
loop-entry-preserved c =
    let f = shown_otherwise (seen_in c.args.self.before) (seen_in c.args.self.after) c.args.self.asked.now in
    let row = entry_row c.in-Some.entry in
    let rows = entries_left c.loop-entry.entry-iterator in
    let rest = entries_left c.next.new.self in
    one_added f row rows rest c.loop-entry.paths c.add_entry.new.paths c.in-Some.ensures.steps c.in_ok-add_entry.ensures ∙ c.loop-entry.invariant
