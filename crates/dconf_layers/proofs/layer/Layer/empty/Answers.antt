use Rattle.std.proofs.Common.{◌≡◌, ◌∙◌, IfOk, Result, ap, subst}
use Rattle.dconf_model.specs.Databases.{settings_in}
use Rattle.dconf_model.specs.Opening.{root_of}
use Rattle.gvdb_read.specs.declared.table.Table.{Table}
use Rattle.gvdb_format.specs.declared.fault.OpenFault.{OpenFault}
use Rattle.gvdb_read.specs.Tables.{region}
use Rattle.dconf_layers.proofs.EmptyDatabase.{empty_file, empty_opens, empty_settings, empty_tables}
use Rattle.dconf_layers.proofs.layer.Layer.empty.Goals as goal

root : (c : goal.After-unwrap) → region c.unwrap.result ≡ root_of empty_file
unfolding empty_file
root c = subst (λ (r : Result Table OpenFault). IfOk r (λ t. region t ≡ root_of empty_file)) c.unwrap.ensures c.open.ensures.root

pub unwrap-requires : goal.unwrap-requires
unfolding empty_file
unwrap-requires c = c.open.ensures.opens.1 empty_opens

pub without_locks-requires-clause-root : goal.without_locks-requires-clause-root
without_locks-requires-clause-root c =
    let are = empty_tables c.unwrap.result (root c) in
    record { opens = are.opens; root = are.root; sound = are.sound }

pub without_locks-requires-clause-none : goal.without_locks-requires-clause-none
without_locks-requires-clause-none c = (empty_tables c.unwrap.result (root c)).locks_are

pub returns : goal.returns
unfolding empty_file
returns c =
    let root : region c.unwrap.result ≡ root_of empty_file = subst (λ (r : Result Table OpenFault). IfOk r (λ t. region t ≡ root_of empty_file)) c.unwrap.ensures c.open.ensures.root in
    ap (λ (t : Table). settings_in (region t).file) c.without_locks.ensures ∙ empty_settings c.unwrap.result root
