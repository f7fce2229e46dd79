use Rattle.std.proofs.Common.{◌∙◌, Some, None}
use Rattle.gv_model.specs.Ty.Basic.{string}
use Rattle.gv_view.proofs.TextLemmas.{string_value, allowed, found_is_utf8}
use Rattle.gv_view.proofs.text.string_in.Goals as goal

pub returns-in-Some : goal.returns-in-Some
returns-in-Some c =
    let s = c.in-Some.text.now in
    let b = c.args.bytes.now in
    string_value b (Some s) c.in-Some.ensures ∙ allowed string s (found_is_utf8 b s c.in-Some.ensures)

pub returns-in-None : goal.returns-in-None
returns-in-None c = string_value c.args.bytes.now None c.in-None.ensures
