use Rattle.std.proofs.Common.{◌≡◌, ◌++◌, take}
use Rattle.dconf_model.specs.TableBytes.{words_bytes}
use Rattle.gvdb_maps.specs.WrittenParts.{numbers_of}
use Rattle.gvdb_values.specs.WrittenValues.{with_padding}
use Rattle.gvdb_maps.proofs.database.write_children.Given as goal

abbrev pub invariant-loop-child : goal.invariant-loop-child
invariant-loop-child l = l.out.items ≡ with_padding 4 l.fn.out.items ++ words_bytes (numbers_of (take l.child-index l.children))
