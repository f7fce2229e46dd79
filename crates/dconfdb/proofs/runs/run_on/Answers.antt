use Rattle.std.proofs.Common.{List, refl, subst, sym}
use Rattle.dconf_model.specs.Folders.{Event}
use Rattle.dconf_model.specs.Runs.{Ran, RanCalmly}
use Rattle.command_words.specs.Commands.{command_of}
use Rattle.dconf_cli.specs.Runs.{KeepsFiles}
use Rattle.dconf_disk.specs.StdFolders.{events_of}
use Rattle.dconfdb.proofs.runs.run_on.Goals as goal

pub returns-clause-calm : goal.returns-clause-calm
returns-clause-calm g c = λ honest none.
    let old = events_of c.args.folder.now in
    let r = c.run_in.ensures.calm honest none old refl in
    (r.0, r.1, (r.2.2.0, subst (λ (es : List Event). RanCalmly (command_of c.args.asked) r.0 old es r.2.2.0) r.2.1 r.2.2.1, r.2.2.2))

pub returns-clause-ran : goal.returns-clause-ran
returns-clause-ran g c = λ honest.
    let old = events_of c.args.folder.now in
    let r = c.run_in.ensures.ran honest old refl in (
      r.0,
      r.1,
      (
        r.2.2.0,
        subst (λ (es : List Event). Ran (command_of c.args.asked) r.0 old es r.2.2.0) r.2.1 r.2.2.1,
        subst (λ (es : List Event). KeepsFiles (command_of c.args.asked) r.0 old es r.2.2.0) r.2.1 r.2.2.2,
        r.2.2.3,
      ),
    )

pub returns-clause-untouched : goal.returns-clause-untouched
returns-clause-untouched g c = λ no_turn. sym (c.run_in.ensures.untouched no_turn (events_of c.args.folder.now) refl)
