use Rattle.std.proofs.Common.{◌≡◌, ◌∙◌, Ok, Err, ap, map, string_bytes, sym, subst}
use Rattle.std.proofs.lemmas.Result.{err_from_is_err_and}
use Rattle.dconf_model.specs.Layers.{all_paths}
use Rattle.dconf_model.specs.Outcomes.{dump_at, dump_of, setting_paths, with_lines}
use Rattle.dconf_model.specs.Walks.{keys_below}
use Rattle.dconf_path.specs.Paths.{directory_text}
use Rattle.keyfile_core.specs.DumpRows.{AreAllBelow}
use Rattle.dconf_layers.specs.LayerSettings.{seen_in}
use Rattle.dconf_streams.specs.Answers.{GivesOutcome}
use Rattle.dconf_commands.specs.Dumps.{setting_of}
use Rattle.dconf_commands.proofs.DumpLaws.{all_seen, as_walked, at_last, found_are_below}
use Rattle.dconf_commands.proofs.commands.dump.dumped.Goals as goal

pub of_keys-requires : goal.of_keys-requires
of_keys-requires c =
    let directory = directory_text c.args.directory in
    let l = seen_in c.args.layers in
    let paths = all_paths l.layers in
    found_are_below paths directory c.in_ok-keys.keys.items (all_seen l c.in_ok-keys.keys.items (keys_below paths directory) c.in_ok-keys.ensures.seen).1

pub returns-in_err-parts : goal.returns-in_err-parts
returns-in_err-parts c =
    let directory = directory_text c.args.directory in
    let l = seen_in c.args.layers in
    let walked = all_seen l c.in_ok-keys.keys.items (keys_below (all_paths l.layers) directory) c.in_ok-keys.ensures.seen in
    let p = err_from_is_err_and c.from_residual-in_err-parts.result c.from_residual-in_err-parts.ensures.1 in
    rw (p.1, p.2) (subst (λ outcome. GivesOutcome (Err c.in_err-parts.field-0.0) (λ o. o ≡ outcome))
    (ap (dump_at c.args.skip_doubles directory l) walked.1 ∙ as_walked c.args.skip_doubles l directory)
    (c.in_err-parts.ensures.err l walked.0))

pub written-requires : goal.written-requires
written-requires c = subst (AreAllBelow setting_of (directory_text c.args.directory)) (sym c.deref.ensures.value) c.in_ok-parts.ensures.below

pub returns : goal.returns
returns c =
    let directory = directory_text c.args.directory in
    let l = seen_in c.args.layers in
    let skip = c.args.skip_doubles in
    let parts = c.in_ok-parts.parts in
    let walked = all_seen l c.in_ok-keys.keys.items (keys_below (all_paths l.layers) directory) c.in_ok-keys.ensures.seen in
    subst (λ outcome. GivesOutcome c.written.result (λ o. o ≡ outcome))
    ((λ i. with_lines (c.as_str.ensures.value i) (dump_of directory (setting_paths (map setting_of (c.deref.ensures.value i))) (Ok (map setting_of (c.deref.ensures.value i)))))
    ∙ (sym (at_last skip l directory (string_bytes parts.comments) (map setting_of parts.settings.items))
    ∙ (c.in_ok-parts.ensures.ok l walked.0 ∙ (ap (dump_at skip directory l) walked.1 ∙ as_walked skip l directory))))
    c.written.ensures
