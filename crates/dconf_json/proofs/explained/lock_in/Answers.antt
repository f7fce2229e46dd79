use Rattle.std.proofs.Common.{◌∙◌, None, Some, length, refl}
use Rattle.std.proofs.lemmas.Option.{slice_get_past, slice_get_read}
use Rattle.dconf_path.specs.Paths.{key_text}
use Rattle.dconf_layers.specs.LayerSettings.{seen_in}
use Rattle.dconf_json.proofs.Locks.{lock_at}
use Rattle.dconf_json.proofs.explained.lock_in.Goals as goal

pub returns-in-Some : goal.returns-in-Some
returns-in-Some c =
    let items = c.args.layers.layers.now in
    let layer = c.in-Some.layer.now in
    c.lock_of.ensures
    ∙ lock_at items (seen_in c.args.layers) (key_text c.args.key) c.args.i (Some layer) c.if-i-eq0.false refl
    (slice_get_read items (length items) c.args.i layer refl c.in-Some.ensures.lookup.3.0 c.in-Some.ensures.lookup.1)

pub returns-in-None : goal.returns-in-None
returns-in-None c =
    let items = c.args.layers.layers.now in
    lock_at items (seen_in c.args.layers) (key_text c.args.key) c.args.i None c.if-i-eq0.false refl (slice_get_past items c.args.i c.in-None.ensures.lookup.3)
