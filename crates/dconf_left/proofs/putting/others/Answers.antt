use Rattle.std.proofs.Common.{◌∙◌, ap, sym}
use Rattle.dconf_left.specs.Left.{records}
use Rattle.dconf_left.specs.Records.{file_in, is_one}
use Rattle.dconf_left.proofs.RecordLaws.{others_first, others_all}
use Rattle.dconf_left.proofs.putting.others.Goals as goal

pub returns-then-is_in : goal.returns-then-is_in
returns-then-is_in c =
    ap records c.split_at.ensures.back
    ∙ others_first c.args.file.now c.args.left.now c.if-left-lt-RECORD_LEN.false (ap (λ x. is_one c.args.file.now (file_in x)) (sym c.split_at.ensures.front) ∙ (sym c.is_in.ensures ∙ c.if-is_in.true))

pub returns-else-is_in : goal.returns-else-is_in
returns-else-is_in c =
    others_all c.args.file.now c.args.left.now c.if-left-lt-RECORD_LEN.false (ap (λ x. is_one c.args.file.now (file_in x)) (sym c.split_at.ensures.front) ∙ (sym c.is_in.ensures ∙ c.if-is_in.false))
