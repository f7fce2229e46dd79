use Rattle.std.proofs.Common.{map, refl}
use Rattle.gv_model.specs.Encode.{number_bytes}
use Rattle.gv_model.proofs.NumberBytes.{length-number_bytes}
use Rattle.dconf_notes.specs.Records.{noted_of, records_bytes, title}
use Rattle.dconf_notes.proofs.RoomLaws.{frame_put}
use Rattle.dconf_notes.proofs.writing.put_file.Goals as goal

pub returns : goal.returns
returns c =
    frame_put title (records_bytes (map noted_of c.args.notes.now)) (number_bytes 8 c.args.moment) c.args.room.now c.split_at_mut-front.result.0.now c.split_at_mut-front.result.1.now
    c.copy_from_slice.new.self c.put_records-at.new.room c.split_at_mut-end.result.0.now c.split_at_mut-end.result.1.now c.put_number.new.room c.put_records-at.result refl
    (length-number_bytes 8 c.args.moment) c.split_at_mut-front.ensures.front c.split_at_mut-front.ensures.back c.copy_from_slice.ensures.after c.put_records-at.ensures.len c.put_records-at.ensures.put
    c.split_at_mut-end.ensures.front c.split_at_mut-end.ensures.back c.put_number.ensures
