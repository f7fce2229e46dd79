use Rattle.std.proofs.Common.{◌∙◌}
use Rattle.std.specs.Prelude.{option_map}
use Rattle.gv_view.specs.Views.{value}
use Rattle.dconf_path.specs.Paths.{key_text}
use Rattle.dconf_layers.specs.LayerSettings.{seen_in}
use Rattle.dconf_told.proofs.SeeingLaws.{shown_there, some_value}
use Rattle.dconf_told.proofs.seen.DconfdbView.seen.Goals as goal

pub returns : goal.returns
returns c =
    let edit = option_map value c.view-edit.result in
    let some = c.is_some.ensures ∙ some_value c.view-edit.result in
    c.found_at.ensures
    ∙ shown_there c.args.type_text.now c.args.self (key_text c.args.path) (seen_in c.new-layers.result) c.shown_as-shown.result c.word_of-word.result c.counts-counts.result c.is_some.result c.fits.result edit
    c.new-layers.ensures c.view-edit.ensures some c.word_of-word.ensures c.counts-counts.ensures c.fits.ensures c.shown_as-shown.ensures
