use Rattle.std.proofs.Common.{◌≡◌, ◌∙◌, Some, ap, map}
use Rattle.dconf_model.specs.Databases.{IsTooBig}
use Rattle.dconf_model.specs.Sources.{first_file, taken}
use Rattle.dconf_compile.specs.Sources.{numbered, sources_of}
use Rattle.dconf_compile.proofs.Compiled.{made, too_big_made}
use Rattle.dconf_compile.proofs.database.compile.Goals as goal

pub returns-in-Ok-clause-compiled : goal.returns-in-Ok-clause-compiled
returns-in-Ok-clause-compiled c =
    let order : map numbered c.deref.result.now ≡ taken (sources_of c.args.files.now) = ap (map numbered) c.deref.ensures.value ∙ c.in_ok-order.ensures in
    made c.deref.result.now c.args.files.now c.args.locks.now order c.in_ok-settings.settings c.in_ok-settings.ensures.given c.in-Ok.bytes.items c.in-Ok.ensures.database

pub returns-in-Err-Fault-clause-fault : goal.returns-in-Err-Fault-clause-fault
returns-in-Err-Fault-clause-fault c =
    let order : map numbered c.deref.result.now ≡ taken (sources_of c.args.files.now) = ap (map numbered) c.deref.ensures.value ∙ c.in_ok-order.ensures in
    let again : map numbered c.deref-in-Err-Fault.result.now ≡ taken (sources_of c.args.files.now) = ap (map numbered) c.deref-in-Err-Fault.ensures.value ∙ c.in_ok-order.ensures in
    let big : IsTooBig c.in_ok-settings.settings = rw c.in-Err-Fault.field-0-is at c.in-Err-Fault.ensures.fault in
    too_big_made c.deref.result.now c.args.files.now c.args.locks.now order c.in_ok-settings.settings c.in_ok-settings.ensures.given c.at.result c.first_file.result
    c.at.ensures.fault (c.first_file.ensures ∙ ap (λ l. Some (first_file l)) again) big
