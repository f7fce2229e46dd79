use Rattle.std.proofs.Common.{rules, ◌≡◌, ◌∙◌, Err, ap, codes, map, refl, sym}
use Rattle.dconf_model.specs.Keyfiles.{dumped}
use Rattle.dconf_model.specs.Paths.{has_two_slashes}
use Rattle.keyfile_core.specs.DumpRows.{setting_of}
use Rattle.keyfile_core.specs.RowsFaults.{rows_cause_of, rows_fault_of}
use Rattle.dconf_compared.specs.Undumpable.{IsGiven, IsNoRow}
use Rattle.dconf_compared.proofs.BadPaths.{of_path_also}
use Rattle.dconf_compared.proofs.as_keyfile.written.Goals as goal

pub unwrap-requires : goal.unwrap-requires
unfolding has_two_slashes
unwrap-requires c = c.parse.ensures.accepts.1 refl

pub returns-in-Err-Fault-clause-fault : goal.returns-in-Err-Fault-clause-fault
returns-in-Err-Fault-clause-fault c =
    let flaw = c.in-Err-Fault.flaw in
    let wrong : dumped (codes "/") (map setting_of c.args.rows.now) ≡ Err (rows_fault_of flaw) = search rules in
    of_path_also (IsGiven flaw.cause c.path_of.result.now) (IsNoRow (map setting_of c.args.rows.now)) c.bad_path.result
    (λ cause path given. (rows_fault_of flaw, wrong, sym (ap rows_cause_of given.0), given.1 ∙ c.path_of.ensures))
    c.bad_path.ensures
