use Rattle.std.proofs.Common.{◌≡◌, ◌<◌, ◌+◌, ◌/◌, ℕ, length, get_or}
use Rattle.dconf_model.specs.TableEncoding.{HasBits}
use Rattle.gvdb_maps.specs.PlanWords.{no_name}
use Rattle.gvdb_maps.proofs.database.bloom.Given as goal

abbrev pub invariant-loop-named : goal.invariant-loop-named
invariant-loop-named l = record {
  len : length l.words.items ≡ (length l.items + 15) / 16;
  bits : (i : ℕ) → i < l.named-index → HasBits l.words.items (get_or l.items i no_name).hash;
}
