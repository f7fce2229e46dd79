use Rattle.std.proofs.Common.{◌≡◌, Some, nat_eq, ap, sym, ◌∙◌}
use Rattle.std.specs.List.{starts_with}
use Rattle.std.proofs.lemmas.List.{get_or_default}
use Rattle.gvdb_maps.specs.declared.names.Named.{Named}
use Rattle.gvdb_maps.specs.PlanWords.{no_name, named, name_at}
use Rattle.gvdb_maps.proofs.DirectorySteps.{up_one, lies_there}
use Rattle.gvdb_maps.proofs.names.innermost.Goals as goal

pub loop-parent-preserved : goal.loop-parent-preserved
loop-parent-preserved c =
    let names = c.args.names.now in
    let at = c.loop-parent.at in
    let same = get_or_default names at _ no_name c.loop-parent.invariant.up.within in
    let starts : c.starts_with.result ≡ starts_with nat_eq c.args.text.now (name_at names at) = c.starts_with.ensures.value ∙ ap (λ (d : Named). starts_with nat_eq c.args.text.now d.name.now) same in
    let is : (named names at).parent ≡ Some c.in-Some.parent = sym (ap (λ (d : Named). d.parent) same) ∙ c.in-Some.is in
    record { up = (up_one names (name_at names c.args.directory) c.args.text.now at c.requires.placed c.loop-parent.invariant.up c.starts_with.result starts c.in-Some.parent c.loop-parent-test.true is).1 }

pub returns-clause-lies : goal.returns-clause-lies
returns-clause-lies c =
    let names = c.args.names.now in
    let at = c.loop-parent.at in
    let same = get_or_default names at _ no_name c.loop-parent.invariant.up.within in
    let starts : c.starts_with.result ≡ starts_with nat_eq c.args.text.now (name_at names at) = c.starts_with.ensures.value ∙ ap (λ (d : Named). starts_with nat_eq c.args.text.now d.name.now) same in
    lies_there names (name_at names c.args.directory) c.args.text.now at c.requires.placed c.loop-parent.invariant.up c.starts_with.result starts c.loop-parent-test.false
