use Rattle.std.specs.Prelude.{IsUtf8}
use Rattle.gvdb_maps.proofs.PathTexts.{IsText}
use Rattle.gvdb_maps.proofs.Adding.{IsAdding}
use Rattle.gvdb_maps.proofs.names.add.Given as goal

abbrev pub invariant-loop-i : goal.invariant-loop-i
invariant-loop-i l = record {
  path : IsText l.text;
  utf8 : IsUtf8 l.text;
  adding : IsAdding l.fn.names.items l.names.items l.text l.parent l.from l.hash l.i;
}
