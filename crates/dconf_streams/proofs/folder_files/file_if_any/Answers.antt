use Rattle.std.proofs.Common.{ap, Err, option_map, vec_items}
use Rattle.dconf_streams.specs.Readings.{IsKept}
use Rattle.dconf_streams.proofs.Decisions.{decides_broken, decides_no_memory, decides_over_size, has_read, short_items}
use Rattle.dconf_streams.proofs.folder_files.file_if_any.Goals as goal

pub returns-in-Ok-clause-ok : goal.returns-in-Ok-clause-ok
returns-in-Ok-clause-ok g c =
    let kept : IsKept g.F.Folder c.args.folder.now c.read.new.self = record { past = c.read.ensures.past; honest = c.read.ensures.honest; turn = c.read.ensures.turn } in
    has_read g.F.Folder c.args.folder.now c.read.new.self c.args.name.now kept (option_map vec_items c.in-Ok.found)
    c.in-Ok.ensures.bytes (short_items c.in-Ok.found c.in-Ok.ensures.size) (c.in-Ok.ensures.cause.others (λ e. cc))

pub returns-in-Err-Device-clause-err : goal.returns-in-Err-Device-clause-err
returns-in-Err-Device-clause-err g c = λ n.
    let kept : IsKept g.F.Folder c.args.folder.now c.read.new.self = record { past = c.read.ensures.past; honest = c.read.ensures.honest; turn = c.read.ensures.turn } in
    decides_broken g.F.Folder c.args.folder.now c.read.new.self c.args.name.now kept n (Err c.device.result)
    (c.in-Err-Device.ensures.cause.device (ap Err c.in-Err-Device.field-0-is)) c.device.ensures

pub returns-in-Err-TooBig-clause-err : goal.returns-in-Err-TooBig-clause-err
returns-in-Err-TooBig-clause-err g c = λ n.
    let kept : IsKept g.F.Folder c.args.folder.now c.read.new.self = record { past = c.read.ensures.past; honest = c.read.ensures.honest; turn = c.read.ensures.turn } in
    let is = c.in-Err-TooBig.field-0-is in
    decides_over_size g.F.Folder c.args.folder.now c.read.new.self c.args.name.now kept n (Err c.refused.result)
    (λ t es p. c.in-Err-TooBig.ensures.too_big t es p (ap Err is)) (c.in-Err-TooBig.ensures.cause.others (λ e. cc)) c.refused.ensures

pub returns-in-Err-Memory-clause-err : goal.returns-in-Err-Memory-clause-err
returns-in-Err-Memory-clause-err g c = λ n.
    let kept : IsKept g.F.Folder c.args.folder.now c.read.new.self = record { past = c.read.ensures.past; honest = c.read.ensures.honest; turn = c.read.ensures.turn } in
    let is = c.in-Err-Memory.field-0-is in
    decides_no_memory g.F.Folder c.args.folder.now c.read.new.self c.args.name.now kept n
    (c.in-Err-Memory.ensures.cause.others (λ e. cc)) _
