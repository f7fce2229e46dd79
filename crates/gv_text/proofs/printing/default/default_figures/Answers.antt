use Rattle.gv_text.proofs.DefaultTexts.{false_figures, byte_figures, text_figures, path_figures, double_default, zero_figures}
use Rattle.gv_text.proofs.printing.default.default_figures.Goals as goal

pub returns-in-Boolean : goal.returns-in-Boolean
returns-in-Boolean c = false_figures c.args.of c.in-Boolean.is

pub returns-in-Byte : goal.returns-in-Byte
returns-in-Byte c = byte_figures c.args.of c.in-Byte.is

pub returns-in-Text : goal.returns-in-Text
returns-in-Text c = text_figures c.args.of c.in-Text.is

pub returns-in-ObjectPath : goal.returns-in-ObjectPath
returns-in-ObjectPath c = path_figures c.args.of c.in-ObjectPath.is

pub returns-in-Double : goal.returns-in-Double
returns-in-Double c = double_default c.args.of c.in-Double.is

pub returns-in_default : goal.returns-in_default
returns-in_default c = zero_figures c.args.of c.in_default.not-Boolean c.in_default.not-Byte c.in_default.not-Text c.in_default.not-Signature c.in_default.not-ObjectPath c.in_default.not-Double
