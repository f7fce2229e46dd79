use Rattle.std.proofs.Common.{◌+◌, ◌*◌, ◌≤◌, drop}
use Rattle.std.specs.Prelude.{string_bytes}
use Rattle.gv_model.specs.LeastTypes.{leasts_in}
use Rattle.gv_patterns.specs.Forms.{bare_of, patterns_of}
use Rattle.gv_patterns.specs.Parts.{parts, bare_parts, all_parts}
use Rattle.gv_patterns.proofs.FoundLaws.{GoesOn}
use Rattle.gv_patterns.proofs.+least.Given as goal

abbrev pub decreases-pattern::Pattern::write_least : goal.decreases-pattern::Pattern::write_least
decreases-pattern::Pattern::write_least l = 2 * parts l.self.now

abbrev pub decreases-least::write_least_bare : goal.decreases-least::write_least_bare
decreases-least::write_least_bare l = 2 * bare_parts (bare_of l.bare.now) + 1

abbrev pub decreases-least::write_leasts : goal.decreases-least::write_leasts
decreases-least::write_leasts l = 2 * all_parts (patterns_of l.ps.now) + 1

abbrev pub invariant-least::write_leasts-loop-p : goal.invariant-least::write_leasts-loop-p
invariant-least::write_leasts-loop-p l = record {
  small : all_parts (patterns_of (drop l.p-index l.ps)) ≤ all_parts (patterns_of l.ps);
  goes_on : GoesOn (leasts_in (patterns_of (drop l.p-index l.ps))) (leasts_in (patterns_of l.ps)) (string_bytes l.fn.text) (string_bytes l.text) l.found;
}
