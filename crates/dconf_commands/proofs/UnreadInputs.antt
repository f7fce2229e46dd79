-- Input that was left alone.
use Rattle.std.proofs.Common.{◌≡◌, ℕ, Bool, true, List, [], false, Option, refl, arith}
use Rattle.std.specs.Prelude.{unwrap_or}
use Rattle.dconf_model.specs.Reads.{Input}
use Rattle.dconf_streams.specs.declared.counted.Counted.{Counted}
use Rattle.dconf_streams.specs.Counted.{inner_of}
use Rattle.dconf_streams.specs.Inputs.{ReadsText, Took}
use Rattle.command_words.specs.Commands.{resetting}
use Rattle.dconf_commands.specs.Loads.{reads_input}
use Rattle.dconf_streams.proofs.TransferLaws.{Delivered-nil}

pub input_of : Option (List ℕ) → Input
input_of remaining = record { bytes = unwrap_or remaining []; fails = false }

module _ {R : Type 0} (remaining : R → Option (List ℕ)) (input : Counted R) where
  pub took : Took remaining input input (input_of (remaining (inner_of input)))
  unfolding input_of
  took = record { gave = []; given = Delivered-nil remaining input; whole = λ _. refl; part = λ e. cc }

  pub takes_none : ReadsText remaining input input
  takes_none = record { gave = []; given = Delivered-nil remaining input; fits = omega arith; reads = omega arith }

pub resets_alone : (force : Bool) (path profile : List ℕ) → reads_input (resetting force path profile) ≡ true → ⊥
resets_alone true path profile reads = cc
resets_alone false path profile reads = cc
