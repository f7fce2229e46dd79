use Rattle.std.proofs.Common.{rules, ◌∙◌, Bool, ℕ, List, Some, ap, map, option_map, string_bytes, sym}
use borrow.Author.Tests.{tests}
use Rattle.std.specs.Prelude.{String}
use Rattle.std.specs.Global.{Global}
use Rattle.std.proofs.lemmas.Iterator.{YieldsList-from_slice}
use Rattle.std.proofs.lemmas.Iterator.Search.{find_from_yields_List}
use Rattle.dconf_compared.specs.Undumpable.{IsGiven, IsNoComment, has_line_feed}
use Rattle.keyfile_core.specs.declared.rows_fault.RowsCause.TheVariants.{BadKeyName}
use Rattle.dconf_compared.proofs.BadPaths.{found_of_map, of_path_also}
use Rattle.dconf_compared.proofs.as_keyfile.check_lines.Goals as goal

pub returns-in-Some : goal.returns-in-Some
returns-in-Some c =
    let paths = c.args.paths.now in
    let test : String Global → Bool = (λ s. has_line_feed (string_bytes s)) in
    let found = find_from_yields_List test _ _ c.find.result c.find.ensures.ran (YieldsList-from_slice paths c.iter.ensures.rest) (λ x b q k. search (rules, tests)) in
    of_path_also (IsGiven BadKeyName c.as_str.result.now) (IsNoComment (map string_bytes paths)) c.bad_path.result
    (λ cause path given. (
      found_of_map has_line_feed string_bytes paths
          ∙ (ap (option_map string_bytes) (sym found ∙ ap (option_map (λ b. b.now)) c.in-Some.is)
          ∙ ap (λ (p : List ℕ). Some p) (sym c.as_str.ensures.value ∙ sym given.1)),
      given.0,
    ))
    c.bad_path.ensures
