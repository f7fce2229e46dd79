use Rattle.std.proofs.Common.{List, subst}
use Rattle.dconf_folders.specs.declared.calls.Call.{Call}
use Rattle.dconf_folders.specs.Crashes.{AreMadeAgain}
use Rattle.dconf_folders.specs.MemoryFolders.{events_of}
use Rattle.dconf_folders.proofs.Untouched.{no_touches}
use Rattle.dconf_folders.proofs.Crashes.{left_by_past}
use Rattle.dconf_folders.proofs.MadeAgain.{all_made_again}
use Rattle.dconf_folders.proofs.memory.MemoryFolder.crash.Goals as goal

pub returns-clause-left : goal.returns-clause-left
returns-clause-left c es past =
    let calls = c.args.self.now.calls.items in
    let made = events_of c.in_ok-left.left.items in
    let left = events_of c.push.new.calls.items in
    let again : AreMadeAgain (events_of calls) (events_of calls) made =
    subst (λ (cs : List Call). AreMadeAgain (events_of calls) (events_of cs) made) c.deref-2.ensures.value
    (subst (λ (cs : List Call). AreMadeAgain (events_of cs) (events_of c.deref-2.result.now) made) c.deref.ensures.value c.in_ok-left.ensures) in
    (left, no_touches left, left_by_past (events_of calls) es left past (all_made_again (events_of calls) made left again c.in_ok-push.ensures.ok))
