use Rattle.std.proofs.Common.{◌≡◌, List, ℕ, ◌++◌, length, sym, ◌∙◌, arith}
use Rattle.std.proofs.lemmas.List.{append-nil}
use Rattle.gv_model.specs.Encode.{number_bytes}
use Rattle.dconf_model.specs.TableBytes.{words_bytes}
use Rattle.gvdb_maps.specs.WrittenParts.{numbers_of}
use Rattle.gvdb_values.specs.WrittenValues.{with_padding}
use Rattle.gvdb_maps.proofs.Pieces.{mapped_appended}
use Rattle.gvdb_values.proofs.WithValues.{all_taken, next_4, padded_is}
use Rattle.gvdb_maps.proofs.database.write_children.Goals as goal

pub loop-child-init : goal.loop-child-init
loop-child-init c =
    let out = c.args.out.now.items in
    let n = c.next_multiple_of.ensures in
    let len : c.len.result ≡ length out = omega arith in
    padded_is 4 out c.pad.new.out.items c.len.result c.next_multiple_of.result len (next_4 _ _ n.lower_bound n.upper_bound n.multiple) c.in_ok-pad.ensures.bytes ∙ sym (append-nil (with_padding 4 out))

pub loop-child-preserved : goal.loop-child-preserved
loop-child-preserved c =
    mapped_appended (λ (m : ℕ × ℕ). m.1) (number_bytes 4) c.args.children.now c.loop-child.child-index (0, 0) (with_padding 4 c.args.out.now.items) c.loop-child.out.items c.push_u32.new.out.items
    c.loop-child-test.true c.loop-child.invariant c.in_ok-push_u32.ensures

pub returns : goal.returns
returns c =
    record { bytes = all_taken (λ (ms : List (ℕ × ℕ)). with_padding 4 c.args.out.now.items ++ words_bytes (numbers_of ms)) c.args.children.now c.loop-child.child-index c.loop-child.out.items c.loop-child-test.false c.loop-child.invariant }

pub overflow_cast-child : goal.overflow_cast-child
overflow_cast-child c = let few = c.requires.children c.loop-child.child-index c.loop-child-test.true in omega (arith, few)
