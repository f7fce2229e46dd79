use Rattle.std.proofs.Common.{rules, Bool, List, ℕ, Option}
use borrow.Author.Tests.{tests}
use Rattle.std.specs.FinMap.{entries}
use Rattle.std.proofs.lemmas.Iterator.Consumers.{YieldsList-from_first}
use Rattle.std.proofs.lemmas.Iterator.Search.{any_from_yields_List}
use Rattle.dconf_path.specs.Paths.{directory_text}
use Rattle.dconf_engine.specs.LeftPaths.{is_reset_below}
use Rattle.dconf_engine.specs.UnsavedLeft.{changes_left, entry_changed}
use Rattle.dconf_engine.proofs.list.has_reset_below.Goals as goal

pub returns : goal.returns
returns c =
    let d = directory_text c.args.directory in
    let test : List ℕ × Option (List ℕ) → Bool = (λ e. is_reset_below d e.0 e.1) in
    any_from_yields_List test c.any.new.self _ c.any.result c.any.ensures.ran (YieldsList-from_first entry_changed changes_left (entries c.args.changes.now) c.iter.ensures) (λ x b q k. search (rules, tests))
