use Rattle.std.proofs.Common.{arith}
use Rattle.dconf_notes.specs.Records.{noted_of}
use Rattle.dconf_notes.proofs.RoomLaws.{record_length, record_put}
use Rattle.dconf_notes.proofs.writing.put_record.Goals as goal

pub split_at_mut-when-requires : goal.split_at_mut-when-requires
split_at_mut-when-requires c = omega (arith, c.requires, record_length (noted_of c.args.note.now))

pub split_at_mut-value-requires : goal.split_at_mut-value-requires
split_at_mut-value-requires c = omega (arith, c.requires, record_length (noted_of c.args.note.now), c.split_at_mut-when.ensures.back_len)

pub split_at_mut-path_len-requires : goal.split_at_mut-path_len-requires
split_at_mut-path_len-requires c =
    omega (arith, c.requires, record_length (noted_of c.args.note.now), c.split_at_mut-when.ensures.back_len, c.split_at_mut-value.ensures.back_len)

pub split_at_mut-path-requires : goal.split_at_mut-path-requires
split_at_mut-path-requires c =
    omega (arith, c.requires, record_length (noted_of c.args.note.now), c.split_at_mut-when.ensures.back_len, c.split_at_mut-value.ensures.back_len, c.split_at_mut-path_len.ensures.back_len)

pub returns-clause-put : goal.returns-clause-put
returns-clause-put c =
    record_put (noted_of c.args.note.now) c.args.room.now c.split_at_mut-when.result.0.now c.split_at_mut-when.result.1.now c.split_at_mut-value.result.0.now c.split_at_mut-value.result.1.now
    c.split_at_mut-path_len.result.0.now c.split_at_mut-path_len.result.1.now c.split_at_mut-path.result.1.now c.put_number.new.room c.put_number-2.new.room c.put_number-3.new.room c.copy_from_slice.new.self
    c.split_at_mut-when.ensures.front c.split_at_mut-when.ensures.back c.split_at_mut-value.ensures.front c.split_at_mut-value.ensures.back
    c.split_at_mut-path_len.ensures.front c.split_at_mut-path_len.ensures.back c.split_at_mut-path.ensures.back
    c.put_number.ensures c.put_number-2.ensures c.put_number-3.ensures c.copy_from_slice.ensures.after
