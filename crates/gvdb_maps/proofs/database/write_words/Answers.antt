use Rattle.std.proofs.Common.{List, ℕ, ◌++◌, sym}
use Rattle.std.proofs.lemmas.List.{append-nil}
use Rattle.gv_model.specs.Encode.{number_bytes}
use Rattle.dconf_model.specs.TableBytes.{words_bytes}
use Rattle.gvdb_maps.proofs.Pieces.{piece_appended}
use Rattle.gvdb_values.proofs.WithValues.{all_taken}
use Rattle.gvdb_maps.proofs.database.write_words.Goals as goal

pub loop-word-init : goal.loop-word-init
loop-word-init c = sym (append-nil c.args.out.now.items)

pub loop-word-preserved : goal.loop-word-preserved
loop-word-preserved c =
    piece_appended (number_bytes 4) c.args.words.now c.loop-word.word-index 0 c.args.out.now.items c.loop-word.out.items c.push_u32.new.out.items
    c.loop-word-test.true c.loop-word.invariant c.in_ok-push_u32.ensures

pub returns : goal.returns
returns c =
    record { bytes = all_taken (λ (ws : List ℕ). c.args.out.now.items ++ words_bytes ws) c.args.words.now c.loop-word.word-index c.loop-word.out.items c.loop-word-test.false c.loop-word.invariant }
