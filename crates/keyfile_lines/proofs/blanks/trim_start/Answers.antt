use Rattle.std.proofs.Common.{[], ◌∷◌}
use Rattle.dconf_model.specs.Lines.{is_space}
use Rattle.dconf_path.proofs.Trims.{trimmed_start, spaces, small_space}
use Rattle.keyfile_lines.proofs.blanks.trim_start.Goals as goal

pub returns : goal.returns
returns c = trimmed_start (32 ∷ 9 ∷ []) is_space spaces small_space c.args.text.now c.trim_start_matches.result.now c.trim_start_matches.ensures.matches
