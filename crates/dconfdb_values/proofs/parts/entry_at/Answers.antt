use Rattle.std.proofs.Common.{◌≡◌, false, true, ap, sym, subst}
use Rattle.gv_types.specs.TypeStr.{ty}
use Rattle.gv_view.specs.Views.{view_bytes, view_ty}
use Rattle.dconfdb_values.specs.Parts.{IsPathDictionary}
use Rattle.dconfdb_values.proofs.PathEntries.{found_elsewhere}
use Rattle.dconfdb_values.proofs.parts.entry_at.Goals as goal

pub returns-else-has_paths : goal.returns-else-has_paths
returns-else-has_paths c =
    found_elsewhere (view_ty c.args.view) (view_bytes c.args.view) c.args.key.now _ (λ d.
    let yes : c.has_paths.result ≡ true = c.has_paths.ensures.1 (subst IsPathDictionary (ap ty (sym c.type_str.ensures)) d) in
    let other : c.has_paths.result ≡ false = c.if-has_paths.false in
    cc) c.entry.ensures.found
