-- Where the profile names no database, nothing is printed.
use Rattle.std.specs.Prelude.{◌≡◌, ℕ, true, false, List, [], Option, None, Result, Ok, refl}
use Rattle.std.proofs.Common.{ap, ◌∙◌, subst, inl, inr}
use Rattle.dconf_model.specs.Paths.{PathFault, key_fault, directory_fault}
use Rattle.dconf_model.specs.Lines.{LineFault}
use Rattle.dconf_model.specs.Folders.{Event, read_content}
use Rattle.dconf_model.specs.Commands.{Command}
use Rattle.dconf_model.specs.Commands.Command.{show, read, list, list_locks, write, reset, reset_below, dump, load, origin, explain, compile, check, repair}
use Rattle.dconf_model.specs.Profiles.{Database, profile_of, has_writable}
use Rattle.dconf_model.specs.Reads.{Input, read_of, steady}
use Rattle.dconf_model.specs.Reads.FileRead.{holds}
use Rattle.dconf_model.specs.Layers.{Layers, visible, without_user, child_names, locks_below, paths_below, origin as origin_of}
use Rattle.dconf_model.specs.Outcomes.{Gives, Outcome, Output, IsOutcome, UnlessFault, WithStore, WithDatabases, WithLayers, OrNoRead, OrLine, done, done_output, shown_if_any, lines_text, dump_at, origin_text}
use Rattle.dconf_model.specs.Explains.{explained}
use Rattle.dconf_model.specs.Programs.{IsQuestion, EmptyPrintsNothing, nothing_said}
use Rattle.dconf_model.proofs.EmptyStores.{no_layers}

abbrev no_store : Layers
no_store = record { layers = []; writable = false }

-- what a command goes on with
opened_empty : (Go : List Database → Layers → Gives) (o : Outcome) → WithLayers [] false (Go []) o → Go [] no_store o
opened_empty Go o (inl opened) = subst (λ ls. Go [] (record { layers = ls; writable = false }) o) (no_layers opened.0 opened.1) opened.2
opened_empty Go o (inr bad) = absurd bad.2

goes_on : (old : List Event) (profile file text : List ℕ) (f : Option PathFault) (Go : List Database → Layers → Gives) (o : Outcome) → file ≡ profile → f ≡ None →
    read_of (read_content old profile) ≡ holds text → profile_of text ≡ Ok [] → UnlessFault f (WithStore (steady (read_content old)) file Go) o → Go [] no_store o
goes_on old profile file text f Go o same no_fault profile_is names h =
    let K2 : List Database → Gives = λ databases. WithDatabases (steady (read_content old)) 1 databases (λ items. WithLayers items (has_writable databases) (Go databases)) in
    let K1 : List ℕ → Gives = λ bytes. OrLine profile (profile_of bytes) K2 in
    let asked = subst (λ file. WithStore (steady (read_content old)) file Go o) same
    (subst (λ (f : Option PathFault). UnlessFault f (WithStore (steady (read_content old)) file Go) o) no_fault h) in
    let in_text : K1 text o = subst (λ r. OrNoRead profile r K1 o) profile_is asked in
    opened_empty Go o (subst (λ (r : Result (List Database) LineFault). OrLine profile r K2 o) names in_text)

nothing_from : (o p : Outcome) (output : Output) → o ≡ p → output ≡ o.output → p.output ≡ done_output [] → output ≡ done_output []
nothing_from o p output same e nothing = e ∙ (ap (λ (o : Outcome). o.output) same ∙ nothing)

module _ (old : List Event) (profile text : List ℕ) (profile_is : read_of (read_content old profile) ≡ holds text) (names : profile_of text ≡ Ok []) (output : Output) where
  answered : (command : Command) (input : Input) (o : Outcome) → IsQuestion profile command → IsOutcome command (steady (read_content old)) input o → output ≡ o.output →
      output ≡ done_output (nothing_said command)
  answered (read true key file) input o asks is e =
      nothing_from o (shown_if_any (visible (without_user no_store) key)) output
      (goes_on old profile file text (key_fault key) (λ databases l o. o ≡ shown_if_any (visible (without_user l) key)) o asks.0 asks.1 profile_is names is) e refl
  answered (read false key file) input o asks is e =
      nothing_from o (shown_if_any (visible no_store key)) output
      (goes_on old profile file text (key_fault key) (λ databases l o. o ≡ shown_if_any (visible l key)) o asks.0 asks.1 profile_is names is) e refl
  answered (list directory file) input o asks is e =
      nothing_from o (done (lines_text (child_names no_store directory))) output
      (goes_on old profile file text (directory_fault directory) (λ databases l o. o ≡ done (lines_text (child_names l directory))) o asks.0 asks.1 profile_is names is) e refl
  answered (list_locks directory file) input o asks is e =
      nothing_from o (done (lines_text (locks_below no_store directory))) output
      (goes_on old profile file text (directory_fault directory) (λ databases l o. o ≡ done (lines_text (locks_below l directory))) o asks.0 asks.1 profile_is names is) e refl
  answered (dump skip directory file) input o asks is e =
      nothing_from o (dump_at skip directory no_store (paths_below no_store directory)) output
      (goes_on old profile file text (directory_fault directory) (λ databases l o. o ≡ dump_at skip directory l (paths_below l directory)) o asks.0 asks.1 profile_is names is) e refl
  answered (origin key file) input o asks is e =
      nothing_from o (done (origin_text [] (origin_of no_store key))) output
      (goes_on old profile file text (key_fault key) (λ databases l o. o ≡ done (origin_text databases (origin_of l key))) o asks.0 asks.1 profile_is names is) e refl
  answered (explain key file) input o asks is e =
      e
      ∙ ap (λ (o : Outcome). o.output)
      (goes_on old profile file text (key_fault key) (λ databases l o. o ≡ done (explained databases l key)) o asks.0 asks.1 profile_is names is)
  answered (show type file) input o asks is e = absurd asks
  answered (write key value file) input o asks is e = absurd asks
  answered (reset key file) input o asks is e = absurd asks
  answered (reset_below directory file) input o asks is e = absurd asks
  answered (load force skip directory file) input o asks is e = absurd asks
  answered (compile out locks sources) input o asks is e = absurd asks
  answered (check file) input o asks is e = absurd asks
  answered (repair file out) input o asks is e = absurd asks

pub empty_prints_nothing : EmptyPrintsNothing
empty_prints_nothing profile text command input old new output profile_is names asks (inr m) = inr m.0
empty_prints_nothing profile text command input old new output profile_is names asks (inl a) =
    inl (answered old profile text profile_is names output command input a.outcome asks a.is a.output_is)
