use Rattle.std.proofs.Common.{ℕ, ◌≡◌, List, get_or, string_bytes, ap, ◌∙◌}
use Rattle.dconf_model.specs.Keyfiles.{path_of}
use Rattle.dconf_path.specs.Paths.{directory_text}
use Rattle.keyfile_core.specs.Rows.{row_meant}
use Rattle.dconf_compile.proofs.PathSteps.{next_path}
use Rattle.dconf_compile.proofs.load.with_paths.Goals as goal

pub loop-row-preserved : goal.loop-row-preserved
loop-row-preserved c =
    let r = row_meant (get_or c.args.rows.now c.loop-row.row-index _) in
    let path : string_bytes c.in_ok-path.path ≡ path_of (directory_text c.args.directory) r = c.in_ok-path.ensures ∙ ap (λ (d : List ℕ). path_of d r) c.as_str.ensures in
    rw c.in_ok-push.ensures.items
    (next_path c.args.rows.now c.loop-row.row-index _ c.loop-row-test.true (directory_text c.args.directory) c.args.directory.is_of_directory c.loop-row.pathed.items _
    (ap (λ (p : List ℕ). record { line = r.line; path = p; text = r.text }) path) c.loop-row.invariant)
