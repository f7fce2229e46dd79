use Rattle.std.proofs.Common.{inr}
use Rattle.std.proofs.lemmas.Result.{IfErr-weaker, IfOk-weaker}
use Rattle.dconfdb_calls.specs.Salvaged.{IsSalvageOf, IsUnsalvaged, IsUnwritten, IsWritten}
use Rattle.dconfdb_calls.specs.declared.salvaged.Salvaged.{Salvaged}
use Rattle.dconfdb_calls.proofs.salvaged.salvaged_file.Goals as goal

pub returns-in-Ok-clause-salvaged : goal.returns-in-Ok-clause-salvaged
returns-in-Ok-clause-salvaged c =
    let s = c.in-Ok.map in
    IfOk-weaker c.written.result (λ (it : Salvaged). IsWritten s it.file.items it.keys it.locks)
    (λ (it : Salvaged). IsSalvageOf c.args.file.now it.file.items it.keys it.locks)
    (λ it written. record { opens = c.in-Ok.ensures.opens; settings = s; salvaged = c.in-Ok.ensures.salvaged; written = written }) c.written.ensures.written

pub returns-in-Ok-clause-fault : goal.returns-in-Ok-clause-fault
returns-in-Ok-clause-fault c =
    let s = c.in-Ok.map in
    IfErr-weaker c.written.result (IsUnwritten s) (IsUnsalvaged c.args.file.now)
    (λ e why. inr (c.in-Ok.ensures.opens, inr (s, c.in-Ok.ensures.salvaged, why))) c.written.ensures.fault
