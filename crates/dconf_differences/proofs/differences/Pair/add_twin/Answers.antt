use Rattle.std.proofs.Common.{◌≡◌, ◌∙◌, ap, List, ℕ, rules, subst, sym}
use Rattle.std.specs.Prelude.{filter}
use Rattle.std.specs.FinMap.{keys}
use Rattle.dconf_model.proofs.PathMaps.{key_in}
use Rattle.dconf_layers.specs.declared.entries.Entries.{Entries}
use Rattle.dconf_layers.specs.Entries.{entries_left, entry_row}
use Rattle.dconf_layers.specs.LayerRows.{AreOf, layer_paths, paths_of}
use Rattle.dconf_layers.specs.LayerSettings.{settings_of, seen_in}
use Rattle.dconf_layers.specs.TextSets.{with_texts}
use Rattle.dconf_layers.proofs.EntryLaws.{has_path}
use Rattle.dconf_layers.proofs.TextSetLaws.{passing_alike}
use Rattle.dconf_differences.specs.Differing.{differs}
use Rattle.dconf_differences.proofs.TwinLaws.{one_added, passed_over, rest_are_of}
use Rattle.dconf_differences.proofs.differences.Pair.add_twin.Goals as goal

pub loop-entry-init : goal.loop-entry-init
loop-entry-init c =
    let f = differs (seen_in c.args.self.first) (seen_in c.args.self.second) in
    let items = c.entries-entry-items in
    let same : c.into_iter-entry-iterator.result ≡ items.result = search rules in
    record {
      of = subst (λ (it : Entries). AreOf c.args.twins.layer (entries_left it)) (sym same) items.ensures.of;
      all = ap (λ (it : Entries). with_texts (filter f (paths_of (entries_left it))) c.args.paths.now) same
          ∙ ap (λ (ps : List (List ℕ)). with_texts ps c.args.paths.now) (items.ensures.all f c.requires);
    }

pub loop-entry-preserved : goal.loop-entry-preserved
loop-entry-preserved c =
    let f = differs (seen_in c.args.self.first) (seen_in c.args.self.second) in
    let layer = c.args.twins.layer in
    let row = entry_row c.in-Some.entry in
    let rows = entries_left c.loop-entry.entry-iterator in
    let rest = entries_left c.next.new.self in
    let steps = c.in-Some.ensures.steps in
    let of = c.loop-entry.invariant.of in
    record {
      of = rest_are_of layer row rows rest steps of;
      all = ap (λ (ps : List (List ℕ)). with_texts ps c.loop-entry.paths)
          (passed_over f layer c.args.twins.other row rows rest c.requires steps of (c.is_in.ensures c.if-not-is_in.false))
          ∙ c.loop-entry.invariant.all;
    }

pub loop-entry-preserved-in-Continue-1 : goal.loop-entry-preserved-in-Continue-1
loop-entry-preserved-in-Continue-1 c =
    let f = differs (seen_in c.args.self.first) (seen_in c.args.self.second) in
    let row = entry_row c.in-Some.entry in
    let rows = entries_left c.loop-entry.entry-iterator in
    let rest = entries_left c.next.new.self in
    let steps = c.in-Some.ensures.steps in
    record {
      of = rest_are_of c.args.twins.layer row rows rest steps c.loop-entry.invariant.of;
      all = one_added f row rows rest c.loop-entry.paths c.add_entry.new.paths steps c.in_ok-add_entry.ensures ∙ c.loop-entry.invariant.all;
    }

pub returns : goal.returns
returns c =
    let f = differs (seen_in c.args.self.first) (seen_in c.args.self.second) in
    let layer = c.args.twins.layer in
    let values = (settings_of layer).values in
    let all : c.loop-entry.paths ≡ with_texts (filter f (layer_paths layer)) c.args.paths.now = search rules in
    all ∙ passing_alike f (layer_paths layer) (keys values) c.args.paths.now (λ t. has_path layer t ∙ key_in values t)
