use Rattle.std.proofs.Common.{map, string_bytes}
use Rattle.dconf_args.proofs.Told.{fails, parsed}
use Rattle.dconf_args.proofs.words.parsed.Goals as goal

pub returns-clause-ok : goal.returns-clause-ok
returns-clause-ok c =
    parsed (map string_bytes c.args.words.now) _ c.try_get_matches_from.result c.in_ok-dconfdb.ensures c.try_get_matches_from.ensures.kinds c.try_get_matches_from.ensures.matches

pub returns-clause-err : goal.returns-clause-err
returns-clause-err c = fails (map string_bytes c.args.words.now) _ c.try_get_matches_from.result c.in_ok-dconfdb.ensures c.try_get_matches_from.ensures.kinds
