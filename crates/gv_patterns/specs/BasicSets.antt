-- The sets of basic types that the code's are in the words of the model.
use Rattle.gv_model.specs.Patterns.{BasicSet as TheBasicSet}
use Rattle.gv_model.specs.Patterns.BasicSet.{any, numbers, texts, empty, only}
use Rattle.gv_types.specs.Classes.{basic_of}
use Rattle.gv_patterns.specs.declared.basic_set.BasicSet.{BasicSet}
use Rattle.gv_patterns.specs.declared.basic_set.BasicSet.TheVariants as sets

abbrev pub basic_set_of : BasicSet → TheBasicSet
basic_set_of sets.Any = any
basic_set_of sets.Numbers = numbers
basic_set_of sets.Texts = texts
basic_set_of sets.Empty = empty
basic_set_of (sets.Only k) = only (basic_of k)
