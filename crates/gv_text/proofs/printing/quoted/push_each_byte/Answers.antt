use Rattle.std.proofs.Common.{◌++◌, ap, ◌∙◌, arith, string_bytes}
use Rattle.std.specs.Prelude.{flat_map}
use Rattle.std.proofs.lemmas.List.{take_all}
use Rattle.gv_model.specs.Quoted.{byte_text}
use Rattle.gv_text.proofs.printing.quoted.push_each_byte.Goals as goal

pub returns : goal.returns
returns c =
    c.loop-byte.invariant ∙ ap (λ l. string_bytes c.args.to.now ++ flat_map (byte_text c.args.quote) l) (take_all c.loop-byte.byte-index c.args.bytes.now (omega arith))
