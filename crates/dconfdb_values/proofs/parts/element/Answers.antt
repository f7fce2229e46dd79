use Rattle.std.proofs.Common.{ap, refl, ◌∙◌}
use Rattle.std.specs.Prelude.{option_map, slice_range}
use Rattle.gv_model.specs.TypeText.{type_at}
use Rattle.dconfdb_values.specs.Parts.{part_value}
use Rattle.dconfdb_values.proofs.OpenArrayLaws.{child_placed, none_at, reached_child, value_at}
use Rattle.dconfdb_values.proofs.parts.element.Goals as goal

pub returns-in_err-reached-clause-value : goal.returns-in_err-reached-clause-value
returns-in_err-reached-clause-value c =
    ap (option_map part_value) c.from_residual.ensures
    ∙ none_at (type_at c.args.type_text.now) c.args.bytes.now c.args.array c.args.index c.requires.array c.in_err-reached.ensures.none

pub returns-clause-value : goal.returns-clause-value
returns-clause-value c =
    value_at (type_at c.args.type_text.now) (type_at c.args.array.element.now) c.args.bytes.now (slice_range c.args.bytes.now c.in_ok-reached.reached.from c.in_ok-reached.reached.to) c.args.array c.args.index
    c.in_ok-reached.reached c.requires.array c.in_ok-reached.ensures.some c.in_ok-reached.ensures.place refl refl

pub returns-clause-lent : goal.returns-clause-lent
returns-clause-lent c = (
  reached_child c.args.array c.in_ok-reached.reached,
  (
    child_placed (type_at c.args.type_text.now) c.args.bytes.now c.args.array c.args.index c.in_ok-reached.reached c.requires.array c.in_ok-reached.ensures.some
        c.in_ok-reached.ensures.place,
    (refl, c.args.array.spelled),
  ),
)
