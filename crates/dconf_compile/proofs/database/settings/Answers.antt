use Rattle.std.proofs.Common.{map, subst}
use Rattle.std.specs.List.{enumerate_from}
use Rattle.dconf_model.specs.Lines.{read_file}
use Rattle.dconf_model.specs.Locks.{locks_in}
use Rattle.dconf_model.specs.Settings.{Settings}
use Rattle.dconf_model.specs.Sources.{compiled, in_files}
use Rattle.dconf_model.specs.Sources.File.{keyfile, lock_file}
use Rattle.dconf_compile.specs.Added.{AddsRows}
use Rattle.dconf_compile.specs.Sources.{numbered, sources_of}
use Rattle.dconf_compile.proofs.GivenSettings.{given_settings}
use Rattle.dconf_compile.proofs.database.settings.Goals as goal

pub returns-clause-given : goal.returns-clause-given
returns-clause-given c =
    let rows_of = in_files keyfile compiled (map numbered c.args.files.now) in
    let rows = subst (λ (s : Settings). AddsRows rows_of s c.add_keyfiles.new.settings) c.new-given.ensures c.in_ok-add_keyfiles.ensures.added in
    let locks_of = in_files lock_file (read_file locks_in) (enumerate_from 0 (sources_of c.args.locks.now)) in
    given_settings rows_of locks_of c.add_keyfiles.new.settings c.add_lock_files.new.settings rows c.in_ok-add_lock_files.ensures.added
