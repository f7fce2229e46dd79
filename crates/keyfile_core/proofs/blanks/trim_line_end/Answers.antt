use Rattle.std.proofs.Common.{[], ◌∷◌}
use Rattle.dconf_model.specs.Lines.{is_line_blank}
use Rattle.dconf_path.proofs.Trims.{trimmed_end, blanks, small_blank}
use Rattle.keyfile_core.proofs.blanks.trim_line_end.Goals as goal

pub returns : goal.returns
returns c = trimmed_end (32 ∷ 9 ∷ 13 ∷ []) is_line_blank blanks small_blank c.args.line.now c.trim_end_matches.result.now c.trim_end_matches.ensures.matches
