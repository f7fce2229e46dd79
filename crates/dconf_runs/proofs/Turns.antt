-- Runs one after another, by the calls that made them.
use Rattle.std.proofs.Common.{◌≡◌, ◌⊎◌, ◌++◌, ◌∷◌, ◌∙◌, [], List, map, refl, sym, ap, subst}
use Rattle.std.proofs.lemmas.List.{map_push}
use Rattle.std.specs.List.{AllByRecursion}
use Rattle.dconf_model.specs.Changes.{Change}
use Rattle.dconf_model.specs.Folders.{Event, read_content}
use Rattle.dconf_model.specs.Commands.{Command}
use Rattle.dconf_model.specs.Reads.{Input}
use Rattle.dconf_model.specs.Outcomes.{Output}
use Rattle.dconf_model.specs.Runs.{NoMemory, RanCalmly}
use Rattle.dconf_model.specs.Stores.{own_after}
use Rattle.dconf_model.specs.Programs.{IsChangeOf, OnlyReads, Prints, RanInTurn, Run, asked_change, changes_made, if_done}
use Rattle.dconf_model.specs.Survivals.{AskedCommand}
use Rattle.dconf_model.proofs.RunChanges.{program_gives}
use Rattle.dconf_runs.specs.declared.request.Request.{Request}
use Rattle.dconf_runs.specs.declared.request.Ended.{Ended}
use Rattle.dconf_runs.specs.Programs.{asked_of, output_of, AreRunsOf, GivesWhatWasWritten, HasRunInTurn, IsRunOf, changes_done}

-- ---- one run more

turn_more : (old mid new : List Event) (runs : List Run) (r : Run) → RanInTurn old runs mid → RanCalmly r.command r.input mid new r.output →
    RanInTurn old (runs ++ r ∷ []) new
turn_more old mid new [] r same ran = (new, subst (λ es. RanCalmly r.command r.input es new r.output) same ran, refl)
turn_more old mid new (q ∷ runs) r turn ran = (turn.0, turn.1, turn_more turn.0 mid new runs r turn.2 ran)

runs_more : (asked : List AskedCommand) (lefts : List Ended) (runs : List Run) (a : AskedCommand) (left : Ended) (r : Run) → AreRunsOf asked lefts runs → IsRunOf a left r →
    AreRunsOf (asked ++ a ∷ []) (lefts ++ left ∷ []) (runs ++ r ∷ [])
runs_more [] [] [] a left r are is = (is, tt)
runs_more (b ∷ asked) (n ∷ lefts) (q ∷ runs) a left r are is = (are.0, runs_more asked lefts runs a left r are.1 is)
runs_more [] [] (q ∷ runs) a left r are is = absurd are
runs_more [] (n ∷ lefts) runs a left r are is = absurd are
runs_more (b ∷ asked) [] runs a left r are is = absurd are
runs_more (b ∷ asked) (n ∷ lefts) [] a left r are is = absurd are

one_run_more : (old mid new : List Event) (asked : List AskedCommand) (lefts : List Ended) (a : AskedCommand) (left : Ended) →
    HasRunInTurn old asked lefts mid → RanCalmly a.0 a.1 mid new (output_of left) →
    HasRunInTurn old (asked ++ a ∷ []) (lefts ++ left ∷ []) new
one_run_more old mid new asked lefts a left h ran =
    let r : Run = record { command = a.0; input = a.1; output = output_of left } in (
      h.0 ++ r ∷ [],
      runs_more asked lefts h.0 a left r h.1 (record { command_is = refl; input_is = refl; output_is = refl }),
      turn_more old mid new h.0 r h.2 ran,
    )

pub one_request_more : (old mid new : List Event) (requests : List Request) (lefts : List Ended) (r : Request) (left : Ended) →
    HasRunInTurn old (map asked_of requests) lefts mid → RanCalmly (asked_of r).0 (asked_of r).1 mid new (output_of left) →
    HasRunInTurn old (map asked_of (requests ++ r ∷ [])) (lefts ++ left ∷ []) new
one_request_more old mid new requests lefts r left h ran =
    subst (λ (asked : List AskedCommand). HasRunInTurn old asked (lefts ++ left ∷ []) new) (sym (map_push asked_of requests r))
    (one_run_more old mid new (map asked_of requests) lefts (asked_of r) left h ran)

-- ---- what they did

one_change : (left : Ended) (a : AskedCommand) (r : Run) → IsRunOf a left r →
    if_done r.output.status (asked_change r.command r.input) ≡ if_done left.status (asked_change a.0 a.1)
one_change left a r is =
    ap (λ (o : Output). if_done o.status (asked_change r.command r.input)) is.output_is ∙ ap (λ c. if_done left.status (asked_change c r.input)) is.command_is
    ∙ ap (λ i. if_done left.status (asked_change a.0 i)) is.input_is

changes_are : (asked : List AskedCommand) (lefts : List Ended) (runs : List Run) → AreRunsOf asked lefts runs → changes_made runs ≡ changes_done asked lefts
changes_are [] [] [] are = refl
changes_are (a ∷ asked) (n ∷ lefts) (r ∷ runs) are =
    ap (λ (cs : List Change). cs ++ changes_made runs) (one_change n a r are.0)
    ∙ ap (λ (cs : List Change). if_done n.status (asked_change a.0 a.1) ++ cs) (changes_are asked lefts runs are.1)
changes_are [] [] (q ∷ runs) are = absurd are
changes_are [] (n ∷ lefts) runs are = absurd are
changes_are (b ∷ asked) [] runs are = absurd are
changes_are (b ∷ asked) (n ∷ lefts) [] are = absurd are

kinds_are : (P : Command → Type 0) (asked : List AskedCommand) (lefts : List Ended) (runs : List Run) → AreRunsOf asked lefts runs →
    AllByRecursion (λ (a : AskedCommand). P a.0) asked → AllByRecursion (λ (r : Run). P r.command) runs
kinds_are P [] [] [] are h = tt
kinds_are P (a ∷ asked) (n ∷ lefts) (r ∷ runs) are h = (subst P (sym are.0.command_is) h.0, kinds_are P asked lefts runs are.1 h.1)
kinds_are P [] [] (q ∷ runs) are h = absurd are
kinds_are P [] (n ∷ lefts) runs are h = absurd are
kinds_are P (b ∷ asked) [] runs are h = absurd are
kinds_are P (b ∷ asked) (n ∷ lefts) [] are h = absurd are

-- ---- the law

pub gives_what_was_written : (old mid new : List Event) (asked : List AskedCommand) (lefts : List Ended) (a : AskedCommand) (output : Output) →
    HasRunInTurn old asked lefts mid → RanCalmly a.0 a.1 mid new output → GivesWhatWasWritten (read_content old) asked lefts a.0 output
gives_what_was_written old mid new asked lefts a output h ran profile d ds own gs apart holds of asks =
    subst (λ (cs : List Change). Prints (d ∷ ds) (own_after gs own cs) gs a.0 output ⊎ NoMemory output) (changes_are asked lefts h.0 h.1)
    (program_gives profile d ds own gs h.0 a.0 a.1 old mid new output apart holds
    (kinds_are (λ c. IsChangeOf profile c ⊎ OnlyReads c) asked lefts h.0 h.1 of) h.2 asks ran)
