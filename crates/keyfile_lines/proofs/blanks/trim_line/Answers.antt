use Rattle.std.proofs.Common.{[], ◌∷◌, ap, ◌∙◌}
use Rattle.dconf_model.specs.Lines.{is_line_blank, is_space, without_start}
use Rattle.dconf_path.proofs.Trims.{trimmed_end, blanks, small_blank}
use Rattle.keyfile_lines.proofs.blanks.trim_line.Goals as goal

pub returns : goal.returns
returns c =
    let end = trimmed_end (32 ∷ 9 ∷ 13 ∷ []) is_line_blank blanks small_blank c.args.line.now c.trim_end_matches.result.now c.trim_end_matches.ensures.matches in
    c.trim_start.ensures ∙ ap (without_start is_space) end
