use Rattle.std.proofs.Common.{◌∙◌, ◌++◌, ap, arith, drop, length}
use Rattle.dconf_left.specs.Left.{with_left}
use Rattle.dconf_left.specs.Records.{left_file, record_bytes}
use Rattle.dconf_left.proofs.FrontLaws.{front_fits, front_is, front_length, kept_is}
use Rattle.dconf_left.proofs.putting.with_left.Goals as goal

pub returns-then-len-room-clause-count : goal.returns-then-len-room-clause-count
returns-then-len-room-clause-count c =
    front_length c.args.left.now c.args.name.now c.args.file.now c.args.is_synced c.args.most c.newest-kept.result.now c.if-not-file.false c.if-most-eq0.false
    (kept_is c.args.left.now c.args.name.now c.others.result.now c.newest-kept.result.now c.args.file.now c.of-file.result c.args.most c.of-file.ensures c.others.ensures c.newest-kept.ensures)

pub returns-then-len-room-clause-fits : goal.returns-then-len-room-clause-fits
returns-then-len-room-clause-fits c =
    let kept = kept_is c.args.left.now c.args.name.now c.others.result.now c.newest-kept.result.now c.args.file.now c.of-file.result c.args.most c.of-file.ensures c.others.ensures c.newest-kept.ensures in
    let is = front_is c.args.left.now c.args.name.now c.args.file.now c.args.is_synced c.args.most c.newest-kept.result.now c.if-not-file.false c.if-most-eq0.false kept in
    let size = front_length c.args.left.now c.args.name.now c.args.file.now c.args.is_synced c.args.most c.newest-kept.result.now c.if-not-file.false c.if-most-eq0.false kept in
    λ reach. front_fits (with_left c.args.left.now c.args.name.now c.args.file.now c.args.is_synced c.args.most) (record_bytes (left_file c.args.name.now c.args.file.now) c.args.is_synced)
    c.newest-kept.result.now c.args.room.now c.write.new.room c.put-then-len-room.new.room is size reach
    (c.write.ensures ∙ ap (λ f. record_bytes f c.args.is_synced ++ drop 56 c.split_at_mut-front.result.0.now) c.of-file.ensures
    ∙ ap (λ xs. record_bytes (left_file c.args.name.now c.args.file.now) c.args.is_synced ++ drop 56 xs) c.split_at_mut-front.ensures.front)
    (c.put-then-len-room.ensures.fits (omega (arith, reach, size, c.split_at_mut-front.ensures.back_len))
    ∙ ap (λ xs. c.newest-kept.result.now ++ drop (length c.newest-kept.result.now) xs) c.split_at_mut-front.ensures.back)

pub returns-else-len-room-clause-count : goal.returns-else-len-room-clause-count
returns-else-len-room-clause-count c =
    front_length c.args.left.now c.args.name.now c.args.file.now c.args.is_synced c.args.most c.newest-kept.result.now c.if-not-file.false c.if-most-eq0.false
    (kept_is c.args.left.now c.args.name.now c.others.result.now c.newest-kept.result.now c.args.file.now c.of-file.result c.args.most c.of-file.ensures c.others.ensures c.newest-kept.ensures)

pub returns-else-len-room-clause-fits : goal.returns-else-len-room-clause-fits
returns-else-len-room-clause-fits c =
    let size = front_length c.args.left.now c.args.name.now c.args.file.now c.args.is_synced c.args.most c.newest-kept.result.now c.if-not-file.false c.if-most-eq0.false
    (kept_is c.args.left.now c.args.name.now c.others.result.now c.newest-kept.result.now c.args.file.now c.of-file.result c.args.most c.of-file.ensures c.others.ensures c.newest-kept.ensures) in
    λ reach. absurd (omega (arith, reach, size, c.if-len-room.false))
