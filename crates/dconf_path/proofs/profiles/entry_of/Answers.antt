use Rattle.std.proofs.Common.{ap, ◌∙◌, [], ◌∷◌}
use Rattle.dconf_model.specs.Lines.{is_line_blank, without_end, without_start}
use Rattle.dconf_path.proofs.Trims.{trimmed_end, trimmed_start, blanks, small_blank}
use Rattle.dconf_path.proofs.profiles.entry_of.Goals as goal

pub returns : goal.returns
returns c =
    let ended = trimmed_end (32 ∷ 9 ∷ 13 ∷ []) is_line_blank blanks small_blank c.without_comment.result.now c.trim_end_matches.result.now c.trim_end_matches.ensures.matches in
    let started = trimmed_start (32 ∷ 9 ∷ 13 ∷ []) is_line_blank blanks small_blank c.trim_end_matches.result.now c.trim_start_matches.result.now c.trim_start_matches.ensures.matches in
    started ∙ ap (without_start is_line_blank) (ended ∙ ap (without_end is_line_blank) c.without_comment.ensures)
