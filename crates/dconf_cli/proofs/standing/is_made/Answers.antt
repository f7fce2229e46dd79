use Rattle.std.proofs.Common.{◌∙◌, Ok, Err, ap, refl, subst, sym}
use Rattle.command_words.specs.Commands.{command_of}
use Rattle.dconf_streams.specs.Answers.{outcome_of}
use Rattle.dconf_streams.specs.Streams.{NoneFailed}
use Rattle.dconf_cli.proofs.StandingLaws.{calm_reads, changed_reads, differs, due, made, no_says, yes_says}
use Rattle.dconf_cli.proofs.standing.is_made.Goals as goal

pub returns-in-Ok-Changed-clause-made : goal.returns-in-Ok-Changed-clause-made
returns-in-Ok-Changed-clause-made g c = λ honest es es_is.
    let a = c.answered.ensures.answer in
    let is = ap outcome_of (c.in-Ok-Changed.is ∙ ap Ok c.in-Ok-Changed.field-0-is) in
    yes_says c.holds.result (c.holds.ensures.held honest es (a.2.kept.past es es_is)) (λ held. (
      a.0,
      made g.F.Folder (command_of c.args.command.now) a.0 c.args.folder.now c.answered.new.folder c.answered.result a.2
          (c.holds.ensures.kept.honest honest) es es_is _ _ _ _ _ is c.as_str.ensures.value c.deref.ensures.value held,
    ))

pub returns-in-Ok-Changed-clause-due : goal.returns-in-Ok-Changed-clause-due
returns-in-Ok-Changed-clause-due g c = λ honest none es es_is.
    let a = c.answered.ensures.answer in
    let is = ap outcome_of (c.in-Ok-Changed.is ∙ ap Ok c.in-Ok-Changed.field-0-is) in
    let same = (changed_reads g.F.Folder (command_of c.args.command.now) a.0 c.args.folder.now c.answered.new.folder c.answered.result a.2 _ _ _ is).1 in
    no_says c.holds.result
    (c.holds.ensures.other honest (subst (λ n. NoneFailed n (g.F.Folder.failed c.holds.new.folder)) (sym same) none) es (a.2.kept.past es es_is)) (λ other. (
      a.0,
      differs g.F.Folder (command_of c.args.command.now) a.0 c.args.folder.now c.answered.new.folder c.answered.result a.2
          (c.holds.ensures.kept.honest honest) es es_is _ _ _ _ _ is c.as_str.ensures.value c.deref.ensures.value other,
    ))

pub returns-in-Ok-Done-clause-due : goal.returns-in-Ok-Done-clause-due
returns-in-Ok-Done-clause-due g c = λ honest none es es_is _.
    let a = c.answered.ensures.answer in
    let reads = calm_reads g.F.Folder (command_of c.args.command.now) a.0 c.args.folder.now c.answered.new.folder c.answered.result a.2 none in (
      a.0,
      due g.F.Folder (command_of c.args.command.now) a.0 c.args.folder.now c.answered.new.folder c.answered.result a.2 honest es es_is
          _ (ap outcome_of (c.in-Ok-Done.is ∙ ap Ok c.in-Ok-Done.field-0-is)) refl reads,
    )

pub returns-in-Err-Fault-clause-due : goal.returns-in-Err-Fault-clause-due
returns-in-Err-Fault-clause-due g c = λ honest none es es_is _.
    let a = c.answered.ensures.answer in
    let reads = calm_reads g.F.Folder (command_of c.args.command.now) a.0 c.args.folder.now c.answered.new.folder c.answered.result a.2 none in (
      a.0,
      due g.F.Folder (command_of c.args.command.now) a.0 c.args.folder.now c.answered.new.folder c.answered.result a.2 honest es es_is
          _ (ap outcome_of (c.in-Err-Fault.is ∙ ap Err c.in-Err-Fault.field-0-is)) refl reads,
    )
