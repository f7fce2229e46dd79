use Rattle.std.proofs.Common.{◌≡◌, ◌∷◌, ℕ, List, Option, Some, refl, ap, subst}
use Rattle.std.proofs.lemmas.Result.{IfOk-weaker}
use Rattle.dconf_model.specs.Folders.{StoodFor, MayLeave}
use Rattle.dconf_model.specs.Folders.Event.{create}
use Rattle.dconf_folders.specs.MemoryFolders.{events_of}
use Rattle.dconf_folders.specs.Staging.{staged_onto}
use Rattle.dconf_folders.specs.Crashes.{AreMadeAgain}
use Rattle.dconf_folders.proofs.MadeAgain.{one_left}
use Rattle.dconf_folders.proofs.crash.make_again.Goals as goal

pub returns-in_ok-bytes-in-Some : goal.returns-in_ok-bytes-in-Some
returns-in_ok-bytes-in-Some c =
    let name = c.args.name.now in
    let given = events_of c.args.earlier.now in
    let all = events_of c.args.all.now in
    let left = events_of c.args.left.items in
    let bytes = c.in_ok-bytes-in-Some.bytes.items in
    let stood : StoodFor all name (Some c.in-Some.file) = subst (λ (o : Option ℕ). StoodFor all name o) c.in-Some.is c.stood_for.ensures in
    let may : MayLeave all name (Some bytes) = (Some c.in-Some.file, stood, (refl, λ synced. ap (λ (x : List ℕ). Some x) (c.in_ok-bytes-in-Some.ensures synced))) in
    IfOk-weaker c.restore.result (λ made. events_of made.items ≡ staged_onto left name bytes) (λ made. AreMadeAgain (create name ∷ given) all (events_of made.items))
    (λ made is. one_left given all left c.requires name bytes (events_of made.items) may is) c.restore.ensures
