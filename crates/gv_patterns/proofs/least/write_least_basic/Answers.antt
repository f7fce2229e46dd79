use Rattle.std.proofs.Common.{ap}
use Rattle.gv_patterns.specs.BasicSets.{basic_set_of}
use Rattle.gv_patterns.proofs.FoundLaws.{basic_any, basic_numbers, basic_texts, basic_only}
use Rattle.gv_patterns.proofs.least.write_least_basic.Goals as goal

pub returns-in_ok-push_str-in-Any : goal.returns-in_ok-push_str-in-Any
returns-in_ok-push_str-in-Any c = basic_any _ _ _ (ap basic_set_of c.in-Any.is) c.in_ok-push_str-in-Any.ensures.bytes

pub returns-in_ok-push_str-in-Numbers : goal.returns-in_ok-push_str-in-Numbers
returns-in_ok-push_str-in-Numbers c = basic_numbers _ _ _ (ap basic_set_of c.in-Numbers.is) c.in_ok-push_str-in-Numbers.ensures.bytes

pub returns-in_ok-push_str-in-Texts : goal.returns-in_ok-push_str-in-Texts
returns-in_ok-push_str-in-Texts c = basic_texts _ _ _ (ap basic_set_of c.in-Texts.is) c.in_ok-push_str-in-Texts.ensures.bytes

pub returns-in_ok-push_str-in-Only : goal.returns-in_ok-push_str-in-Only
returns-in_ok-push_str-in-Only c = basic_only _ _ _ _ _ (ap basic_set_of c.in-Only.is) c.letter.ensures c.in_ok-push_str-in-Only.ensures.bytes
