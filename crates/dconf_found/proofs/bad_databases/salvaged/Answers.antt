use Rattle.std.proofs.Common.{ap, option_map, vec_items}
use Rattle.std.proofs.lemmas.Result.{IfOk-weaker}
use Rattle.dconf_found.proofs.CountLaws.{counts_nothing, counts_salvaged, salvage_is_too_big}
use Rattle.dconf_found.proofs.bad_databases.salvaged.Goals as goal

pub returns-in-Ok-clause-counts : goal.returns-in-Ok-clause-counts
returns-in-Ok-clause-counts c = counts_salvaged c.args.file.now _ (record { bad = c.args.bad; keys = c.in-Ok.it.keys; locks = c.in-Ok.it.locks }) c.requires.bad c.requires.other
    c.in-Ok.ensures.salvaged

pub returns-in-Err-clause-counts : goal.returns-in-Err-clause-counts
returns-in-Err-clause-counts c = IfOk-weaker c.without.result _ _
    (λ it is. counts_nothing c.args.file.now c.in-Err.fault c.args.bad (option_map vec_items it.file) it.loss c.requires.bad c.in-Err.ensures.fault is.0
    (ap (option_map vec_items) is.1) is.2) c.without.ensures.counts

pub returns-in-Err-clause-too_big : goal.returns-in-Err-clause-too_big
returns-in-Err-clause-too_big c e = salvage_is_too_big c.args.file.now c.in-Err.fault c.in-Err.ensures.fault (c.without.ensures.too_big e)
