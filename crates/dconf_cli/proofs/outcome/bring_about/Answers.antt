use Rattle.std.proofs.Common.{◌++◌, ◌∷◌, ◌∙◌, [], ap, Err, Ok, refl, sym, subst, string_bytes, codes}
use Rattle.dconf_streams.specs.Answers.{outcome_of}
use Rattle.dconf_cli.proofs.Given.{Gives, gives_change, gives_device, gives_no_memory_for_change, gives_refusal, gives_text}
use Rattle.dconf_cli.proofs.outcome.bring_about.Goals as goal

pub returns-in-Ok-Done-clause-ended : goal.returns-in-Ok-Done-clause-ended
returns-in-Ok-Done-clause-ended g c =
    subst (λ a. Gives g.F.Folder g.O.Write.contents g.E.Write.contents c.args.folder.now c.args.folder.now c.args.out.now c.print.new.out c.args.err.now c.args.err.now (outcome_of a) c.print.result) (sym (c.in-Ok-Done.is ∙ ap Ok c.in-Ok-Done.field-0-is))
    (gives_text g.F.Folder g.O.Write.contents g.E.Write.contents c.args.folder.now c.args.out.now c.print.new.out c.args.err.now (string_bytes c.in-Ok-Done.text) c.as_bytes.result.now c.print.result
    c.as_bytes.ensures.value c.print.ensures)

pub returns-in_default-clause-ended : goal.returns-in_default-clause-ended
returns-in_default-clause-ended g c =
    let after = c.refuse.new.err in
    let status = c.refuse.result in
    subst (λ a. Gives g.F.Folder g.O.Write.contents g.E.Write.contents c.args.folder.now c.args.folder.now c.args.out.now c.args.out.now c.args.err.now after (outcome_of a) status) (sym (c.in-Ok-Changed.is ∙ ap Ok c.in-Ok-Changed.field-0-is))
    (gives_no_memory_for_change g.F.Folder g.O.Write.contents g.E.Write.contents c.args.folder.now c.args.folder.now (string_bytes c.in-Ok-Changed.file) c.in-Ok-Changed.bytes.items (string_bytes c.in-Ok-Changed.text)
    refl c.args.out.now c.args.err.now after status c.refuse.ensures.refused c.refuse.ensures.line)

pub returns-in-Ok-replace-clause-ended : goal.returns-in-Ok-replace-clause-ended
returns-in-Ok-replace-clause-ended g c =
    let status = c.print-in-Ok-replace.result in
    let out = c.print-in-Ok-replace.new.out in
    subst (λ a. Gives g.F.Folder g.O.Write.contents g.E.Write.contents c.args.folder.now c.replace.new.folder c.args.out.now out c.args.err.now c.args.err.now (outcome_of a) status) (sym (c.in-Ok-Changed.is ∙ ap Ok c.in-Ok-Changed.field-0-is))
    (gives_change g.F.Folder g.O.Write.contents g.E.Write.contents c.args.folder.now c.replace.new.folder (string_bytes c.in-Ok-Changed.file) c.in-Ok-Changed.bytes.items (string_bytes c.in-Ok-Changed.text)
    c.as_str-in-Ok-Changed.result.now c.deref.result.now c.as_str-in-Ok-Changed.ensures.value c.deref.ensures.value (c.in-Ok-replace.ensures.cause.others (λ e. cc)) c.in-Ok-replace.ensures.ok
    c.args.out.now out c.args.err.now c.as_bytes-in-Ok-replace.result.now status c.as_bytes-in-Ok-replace.ensures.value c.print-in-Ok-replace.ensures)

pub returns-in-Err-Device-clause-ended : goal.returns-in-Err-Device-clause-ended
returns-in-Err-Device-clause-ended g c =
    let status = c.refuse-in-Err-Device.result in
    let after = c.refuse-in-Err-Device.new.err in
    let line = c.in-Ok.ensures ∙ ap (λ n. codes "error: Device " ++ (n ++ 10 ∷ [])) c.as_str.ensures.value in
    subst (λ a. Gives g.F.Folder g.O.Write.contents g.E.Write.contents c.args.folder.now c.replace.new.folder c.args.out.now c.args.out.now c.args.err.now after (outcome_of a) status) (sym (c.in-Ok-Changed.is ∙ ap Ok c.in-Ok-Changed.field-0-is))
    (gives_device g.F.Folder g.O.Write.contents g.E.Write.contents c.args.folder.now c.replace.new.folder (string_bytes c.in-Ok-Changed.file) c.in-Ok-Changed.bytes.items (string_bytes c.in-Ok-Changed.text)
    c.as_str-in-Ok-Changed.result.now c.deref.result.now c.as_str-in-Ok-Changed.ensures.value c.deref.ensures.value (c.in-Err-Device.ensures.cause.device (ap Err c.in-Err-Device.field-0-is)) c.in-Err-Device.ensures.err
    c.args.out.now c.args.err.now after (string_bytes c.in-Ok.broken) status line c.refuse-in-Err-Device.ensures.refused c.refuse-in-Err-Device.ensures.line)

pub returns-in-Err-Memory-clause-ended : goal.returns-in-Err-Memory-clause-ended
returns-in-Err-Memory-clause-ended g c =
    let after = c.refuse-in-Err-Memory.new.err in
    let status = c.refuse-in-Err-Memory.result in
    subst (λ a. Gives g.F.Folder g.O.Write.contents g.E.Write.contents c.args.folder.now c.replace.new.folder c.args.out.now c.args.out.now c.args.err.now after (outcome_of a) status) (sym (c.in-Ok-Changed.is ∙ ap Ok c.in-Ok-Changed.field-0-is))
    (gives_no_memory_for_change g.F.Folder g.O.Write.contents g.E.Write.contents c.args.folder.now c.replace.new.folder (string_bytes c.in-Ok-Changed.file) c.in-Ok-Changed.bytes.items (string_bytes c.in-Ok-Changed.text)
    (c.in-Err-Memory.ensures.memory (ap Err c.in-Err-Memory.field-0-is)) c.args.out.now c.args.err.now after status c.refuse-in-Err-Memory.ensures.refused c.refuse-in-Err-Memory.ensures.line)

pub returns-clause-ended : goal.returns-clause-ended
returns-clause-ended g c =
    let after = c.refuse-in-Err.new.err in
    let status = c.refuse-in-Err.result in
    subst (λ a. Gives g.F.Folder g.O.Write.contents g.E.Write.contents c.args.folder.now c.args.folder.now c.args.out.now c.args.out.now c.args.err.now after (outcome_of a) status) (sym c.in-Err.is)
    (gives_refusal g.F.Folder g.O.Write.contents g.E.Write.contents c.args.folder.now c.args.out.now c.args.err.now after c.in-Err.refusal status
    c.refuse-in-Err.ensures.refused c.refuse-in-Err.ensures.line)
