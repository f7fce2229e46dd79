use Rattle.std.proofs.Common.{◌≡◌, ◌∙◌, ap, arith, map, sym, List}
use Rattle.std.specs.Prelude.{string_bytes}
use Rattle.std.specs.FinMap.{empty, keys}
use Rattle.std.specs.declared.alloc.Global.{Global}
use Rattle.std.specs.declared.string.String.{String}
use Rattle.std.proofs.Math.ListN.{drop_of_length-le}
use Rattle.std.proofs.lemmas.Result.{IfOk-weaker}
use Rattle.dconf_layers.specs.TextSets.{TextSet, with_texts}
use Rattle.dconf_layers.proofs.TextSetLaws.{keys_are_listed}
use Rattle.dconf_told.specs.Relocking.{left_of, outermost}
use Rattle.dconf_told.proofs.relocking.outermost.Goals as goal

pub returns : goal.returns
returns c =
    let paths = map string_bytes c.args.paths.now in
    let all : c.loop-path.left ≡ with_texts (outermost paths) empty =
    ap (λ (ps : List (String Global)). with_texts (left_of paths (map string_bytes ps)) c.loop-path.left) (sym (drop_of_length-le c.args.paths.now (omega (arith, c.loop-path-test.false))))
    ∙ c.loop-path.invariant in
    IfOk-weaker c.list.result _ _ (λ v e. e ∙ (ap (λ (s : TextSet). keys s) all ∙ keys_are_listed (outermost paths))) c.list.ensures
