use Rattle.std.proofs.Common.{refl, ◌∙◌, ap}
use Rattle.dconf_steps.specs.Notices.{after_look}
use Rattle.dconf_steps.proofs.notice.Notice.looked.Goals as goal

pub returns : goal.returns
returns c =
    let e = c.requires in
    let again = c.look_again.ensures c.args.self.pause c.pause_by-pause.ensures in
    record {
      goes = rw e (c.stage_by.ensures c.look_again.result ∙ ap (after_look c.args.self.owed) again);
      owed = rw e refl;
      whole = rw e refl;
      pause = rw e c.pause_by-pause.ensures;
    }
