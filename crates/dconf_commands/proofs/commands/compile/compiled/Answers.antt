use Rattle.std.proofs.Common.{◌≡◌, ◌∙◌, Err, IfSome, ap, subst}
use Rattle.dconf_compile.specs.CompileFaults.{fault_of}
use Rattle.dconf_compile.specs.Sources.{sources_of}
use Rattle.dconf_model.specs.Databases.{IsCompiled}
use Rattle.dconf_streams.specs.Readings.{named_sources}
use Rattle.dconf_commands.proofs.CompileLaws.{compile_refuses}
use Rattle.dconf_commands.proofs.commands.compile.compiled.Goals as goal

pub returns : goal.returns
returns c =
    let files = named_sources c.args.keyfiles.now in
    let locks = named_sources c.args.locks.now in
    let files_are : sources_of c.deref.result.now ≡ files = ap sources_of c.deref.ensures.value ∙ c.in_ok-keyfile_sources.ensures in
    let locks_are : sources_of c.deref-2.result.now ≡ locks = ap sources_of c.deref-2.ensures.value ∙ c.in_ok-lock_sources.ensures in
    let is = subst (λ fs. IfSome (fault_of c.in-Err.fault) (λ f. IsCompiled fs (sources_of c.deref-2.result.now) (Err f))) files_are c.in-Err.ensures.fault in
    compile_refuses c.args.out.now files locks c.refusal.result (fault_of c.in-Err.fault)
    (subst (λ ls. IfSome (fault_of c.in-Err.fault) (λ f. IsCompiled files ls (Err f))) locks_are is) c.refusal.ensures.says
    (λ none. c.refusal.ensures.memory (c.in-Err.ensures.memory none))
