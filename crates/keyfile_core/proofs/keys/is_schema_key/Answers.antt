use Rattle.std.proofs.Common.{◌∙◌, ap, arith, sym}
use Rattle.std.specs.List.{list_all}
use Rattle.std.proofs.lemmas.Bool.Decides.{nat_tests}
use Rattle.keyfile_core.specs.SchemaKeys.{is_schema_byte}
use Rattle.keyfile_core.proofs.PlainKeys.{schema_key}
use Rattle.keyfile_core.proofs.keys.is_schema_key.Goals as goal

pub returns-then-not-is_empty : goal.returns-then-not-is_empty
returns-then-not-is_empty c all =
    schema_key c.args.text.now (grind (arith, nat_tests)) (ap (list_all is_schema_byte) (sym c.as_bytes.ensures.value) ∙ (sym c.are_schema_bytes.ensures ∙ all))
