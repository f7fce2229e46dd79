use Rattle.std.proofs.Common.{◌≡◌, ◌++◌, map}
use Rattle.std.specs.Prelude.{string_bytes}
use Rattle.std.specs.FinMap.{empty, keys}
use Rattle.dconf_layers.specs.Entries.{entries_left}
use Rattle.dconf_layers.specs.LayerSettings.{seen_in, settings_of}
use Rattle.dconf_layers.specs.TextSets.{with_texts}
use Rattle.dconf_differences.proofs.TwinLaws.{passes_back}
use Rattle.dconf_told.specs.Telling.{named_otherwise, shown_otherwise}
use Rattle.dconf_told.proofs.TellingLaws.{told_list}
use Rattle.dconf_told.proofs.TwinsLaws.{both_gathered, shown_passes, twins_have_all}
use Rattle.dconf_told.proofs.news.Telling.list_of_few.Goals as goal

pub returns : goal.returns
returns c =
    let l = seen_in c.args.self.before in
    let m = seen_in c.args.self.after in
    let asked = c.args.self.asked.now in
    let f = shown_otherwise l m asked in
    let s = settings_of c.args.older in
    let t = settings_of c.args.newer in
    let passes = shown_passes l m asked s t c.requires in
    let first : c.in_ok-paths.paths ≡ with_texts (named_otherwise l m asked) empty =
    c.in_ok-paths.ensures in
    let second =
    both_gathered f c.args.older c.args.newer (entries_left c.in-Some.gone) (entries_left c.in-Some.come) c.in_ok-paths.paths c.add_entries.new.paths c.add_entries-2.new.paths
    (c.in-Some.ensures.one f passes) (c.in-Some.ensures.other f (passes_back f s t passes)) c.in_ok-add_entries.ensures c.in_ok-add_entries-2.ensures in
    told_list l m asked (keys s.values ++ keys t.values) (twins_have_all l m s t c.requires) c.in_ok-paths.paths c.add_entries-2.new.paths first second
    (map string_bytes c.in_ok-list.field-0.items) c.in_ok-list.ensures
