use Rattle.std.proofs.Common.{◌≡◌, ◌++◌, None, map, drop, string_bytes}
use Rattle.std.specs.Prelude.{option_map}
use Rattle.dconf_model.specs.Keyfiles.{text_after}
use Rattle.keyfile_core.specs.DumpRows.{dump_meant}
use Rattle.keyfile_core.proofs.write.text_of.Given as goal

abbrev pub invariant-loop-row : goal.invariant-loop-row
invariant-loop-row l =
    string_bytes l.text ++ text_after (option_map (λ part. part.now) l.before) (map dump_meant (drop l.row-index l.rows))
    ≡ text_after None (map dump_meant l.rows)
