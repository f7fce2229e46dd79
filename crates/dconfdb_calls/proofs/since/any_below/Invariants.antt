use Rattle.std.proofs.Common.{◌≡◌, drop}
use Rattle.std.specs.List.{list_any}
use Rattle.std.specs.String.{string_bytes}
use Rattle.dconf_model.specs.Locks.{is_below}
use Rattle.dconf_path.specs.Paths.{directory_text}
use Rattle.dconfdb_calls.proofs.since.any_below.Given as goal

-- those that are left answer for all
abbrev pub invariant-loop-path : goal.invariant-loop-path
invariant-loop-path l =
    list_any (λ path. is_below (string_bytes path) (directory_text l.directory)) (drop l.path-index l.paths)
    ≡ list_any (λ path. is_below (string_bytes path) (directory_text l.directory)) l.paths
