use Rattle.std.proofs.Common.{arith, List, ℕ, ◌++◌, sym}
use Rattle.std.proofs.lemmas.List.{append-nil}
use Rattle.gv_model.specs.Encode.{number_bytes}
use Rattle.dconf_model.specs.TableBytes.{words_bytes}
use Rattle.gvdb_maps.proofs.Pieces.{piece_appended}
use Rattle.gvdb_values.proofs.WithValues.{all_taken}
use Rattle.gvdb_maps.proofs.database.write_numbers.Goals as goal

pub loop-number-init : goal.loop-number-init
loop-number-init c = sym (append-nil c.args.out.now.items)

pub loop-number-preserved : goal.loop-number-preserved
loop-number-preserved c =
    piece_appended (number_bytes 4) c.args.numbers.now c.loop-number.number-index 0 c.args.out.now.items c.loop-number.out.items c.push_u32.new.out.items
    c.loop-number-test.true c.loop-number.invariant c.in_ok-push_u32.ensures

pub returns : goal.returns
returns c =
    record { bytes = all_taken (λ (ws : List ℕ). c.args.out.now.items ++ words_bytes ws) c.args.numbers.now c.loop-number.number-index c.loop-number.out.items c.loop-number-test.false c.loop-number.invariant }

pub overflow_cast-number : goal.overflow_cast-number
overflow_cast-number c = let few = c.requires c.loop-number.number-index c.loop-number-test.true in omega (arith, few)
