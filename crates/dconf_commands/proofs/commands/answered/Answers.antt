use Rattle.std.proofs.Common.{◌≡◌, false, map, refl, string_bytes, subst, sym, true, vec_items}
use Rattle.dconf_model.specs.Commands.{Command}
use Rattle.dconf_model.specs.Commands.Command.{show, read, origin, explain, check, compile, repair, list, list_locks, dump, write, load}
use Rattle.dconf_model.specs.Outcomes.{IsOutcome}
use Rattle.command_words.specs.Commands.{command_of, resetting}
use Rattle.dconf_streams.specs.Counted.{inner_of}
use Rattle.dconf_streams.specs.Readings.{Decides}
use Rattle.dconf_commands.specs.Loads.{reads_input}
use Rattle.dconf_commands.proofs.UnreadInputs.{input_of, resets_alone, took, takes_none}
use Rattle.dconf_commands.proofs.commands.answered.Goals as goal

pub returns-in-Show-clause-answer : goal.returns-in-Show-clause-answer
returns-in-Show-clause-answer g c =
    let given = g.I.Read.remaining (inner_of c.args.input.now) in
    let input = input_of given in
    let D : Command → Type 0 = λ k. Decides g.F.Folder c.args.folder.now c.show.new.folder 0 (λ reads. IsOutcome k reads input) c.show.result in (
      input,
      took g.I.Read.remaining c.args.input.now,
      subst (λ k. D (command_of k)) (sym c.in-Show.is) (subst (λ n. D (show (string_bytes c.in-Show.type_text) n)) c.as_str-in-Show.ensures.value
          (subst (λ t. D (show t c.as_str-in-Show.result.now)) c.as_str.ensures.value (c.show.ensures input))),
    )

pub returns-in-Show-clause-limit : goal.returns-in-Show-clause-limit
returns-in-Show-clause-limit g c = takes_none g.I.Read.remaining c.args.input.now

pub returns-in-Read-clause-answer : goal.returns-in-Read-clause-answer
returns-in-Read-clause-answer g c =
    let given = g.I.Read.remaining (inner_of c.args.input.now) in
    let input = input_of given in
    let D : Command → Type 0 = λ k. Decides g.F.Folder c.args.folder.now c.read.new.folder 0 (λ reads. IsOutcome k reads input) c.read.result in (
      input,
      took g.I.Read.remaining c.args.input.now,
      subst (λ k. D (command_of k)) (sym c.in-Read.is) (subst (λ n. D (read c.in-Read.default (string_bytes c.in-Read.key) n)) c.as_str-in-Read-2.ensures.value
          (subst (λ t. D (read c.in-Read.default t c.as_str-in-Read-2.result.now)) c.as_str-in-Read.ensures.value (c.read.ensures input))),
    )

pub returns-in-Read-clause-limit : goal.returns-in-Read-clause-limit
returns-in-Read-clause-limit g c = takes_none g.I.Read.remaining c.args.input.now

pub returns-in-Origin-clause-answer : goal.returns-in-Origin-clause-answer
returns-in-Origin-clause-answer g c =
    let given = g.I.Read.remaining (inner_of c.args.input.now) in
    let input = input_of given in
    let D : Command → Type 0 = λ k. Decides g.F.Folder c.args.folder.now c.origin.new.folder 0 (λ reads. IsOutcome k reads input) c.origin.result in (
      input,
      took g.I.Read.remaining c.args.input.now,
      subst (λ k. D (command_of k)) (sym c.in-Origin.is) (subst (λ n. D (origin (string_bytes c.in-Origin.key) n)) c.as_str-in-Origin-2.ensures.value
          (subst (λ t. D (origin t c.as_str-in-Origin-2.result.now)) c.as_str-in-Origin.ensures.value (c.origin.ensures input))),
    )

pub returns-in-Origin-clause-limit : goal.returns-in-Origin-clause-limit
returns-in-Origin-clause-limit g c = takes_none g.I.Read.remaining c.args.input.now

pub returns-in-Explain-clause-answer : goal.returns-in-Explain-clause-answer
returns-in-Explain-clause-answer g c =
    let given = g.I.Read.remaining (inner_of c.args.input.now) in
    let input = input_of given in
    let D : Command → Type 0 = λ k. Decides g.F.Folder c.args.folder.now c.explain.new.folder 0 (λ reads. IsOutcome k reads input) c.explain.result in (
      input,
      took g.I.Read.remaining c.args.input.now,
      subst (λ k. D (command_of k)) (sym c.in-Explain.is) (subst (λ n. D (explain (string_bytes c.in-Explain.key) n)) c.as_str-in-Explain-2.ensures.value
          (subst (λ t. D (explain t c.as_str-in-Explain-2.result.now)) c.as_str-in-Explain.ensures.value (c.explain.ensures input))),
    )

pub returns-in-Explain-clause-limit : goal.returns-in-Explain-clause-limit
returns-in-Explain-clause-limit g c = takes_none g.I.Read.remaining c.args.input.now

pub returns-in-Check-clause-answer : goal.returns-in-Check-clause-answer
returns-in-Check-clause-answer g c =
    let given = g.I.Read.remaining (inner_of c.args.input.now) in
    let input = input_of given in
    let D : Command → Type 0 = λ k. Decides g.F.Folder c.args.folder.now c.check.new.folder 0 (λ reads. IsOutcome k reads input) c.check.result in
    (input, took g.I.Read.remaining c.args.input.now, subst (λ k. D (command_of k)) (sym c.in-Check.is) (subst (λ n. D (check n)) c.as_str-in-Check.ensures.value (c.check.ensures input)))

pub returns-in-Check-clause-device : goal.returns-in-Check-clause-device
returns-in-Check-clause-device g c = λ differ. absurd (differ refl)

pub returns-in-Check-clause-input : goal.returns-in-Check-clause-input
returns-in-Check-clause-input g c = λ none. refl

pub returns-in-Check-clause-limit : goal.returns-in-Check-clause-limit
returns-in-Check-clause-limit g c = takes_none g.I.Read.remaining c.args.input.now

pub returns-in-Compile-clause-answer : goal.returns-in-Compile-clause-answer
returns-in-Compile-clause-answer g c =
    let given = g.I.Read.remaining (inner_of c.args.input.now) in
    let input = input_of given in
    let D : Command → Type 0 = λ k. Decides g.F.Folder c.args.folder.now c.compile.new.folder 0 (λ reads. IsOutcome k reads input) c.compile.result in
    let locks = map string_bytes (vec_items c.in-Compile.locks) in (
      input,
      took g.I.Read.remaining c.args.input.now,
      subst (λ k. D (command_of k)) (sym c.in-Compile.is) (subst (λ n. D (compile n locks (map string_bytes (vec_items c.in-Compile.keyfiles)))) c.as_str-in-Compile.ensures.value
          (subst (λ names. D (compile c.as_str-in-Compile.result.now locks (map string_bytes names))) c.deref-in-Compile.ensures.value
          (subst (λ names. D (compile c.as_str-in-Compile.result.now (map string_bytes names) (map string_bytes c.deref-in-Compile.result.now))) c.deref.ensures.value
          (c.compile.ensures input)))),
    )

pub returns-in-Compile-clause-limit : goal.returns-in-Compile-clause-limit
returns-in-Compile-clause-limit g c = takes_none g.I.Read.remaining c.args.input.now

pub returns-in-Repair-clause-answer : goal.returns-in-Repair-clause-answer
returns-in-Repair-clause-answer g c =
    let given = g.I.Read.remaining (inner_of c.args.input.now) in
    let input = input_of given in
    let D : Command → Type 0 = λ k. Decides g.F.Folder c.args.folder.now c.repair.new.folder 0 (λ reads. IsOutcome k reads input) c.repair.result in (
      input,
      took g.I.Read.remaining c.args.input.now,
      subst (λ k. D (command_of k)) (sym c.in-Repair.is) (subst (λ n. D (repair (string_bytes c.in-Repair.file) n)) c.as_str-in-Repair-2.ensures.value
          (subst (λ n. D (repair n c.as_str-in-Repair-2.result.now)) c.as_str-in-Repair.ensures.value (c.repair.ensures input))),
    )

pub returns-in-Repair-clause-limit : goal.returns-in-Repair-clause-limit
returns-in-Repair-clause-limit g c = takes_none g.I.Read.remaining c.args.input.now

pub returns-in-List-clause-answer : goal.returns-in-List-clause-answer
returns-in-List-clause-answer g c =
    let given = g.I.Read.remaining (inner_of c.args.input.now) in
    let input = input_of given in
    let D : Command → Type 0 = λ k. Decides g.F.Folder c.args.folder.now c.list.new.folder 0 (λ reads. IsOutcome k reads input) c.list.result in (
      input,
      took g.I.Read.remaining c.args.input.now,
      subst (λ k. D (command_of k)) (sym c.in-List.is) (subst (λ n. D (list (string_bytes c.in-List.directory) n)) c.as_str-in-List-2.ensures.value
          (subst (λ t. D (list t c.as_str-in-List-2.result.now)) c.as_str-in-List.ensures.value (c.list.ensures input))),
    )

pub returns-in-List-clause-limit : goal.returns-in-List-clause-limit
returns-in-List-clause-limit g c = takes_none g.I.Read.remaining c.args.input.now

pub returns-in-ListLocks-clause-answer : goal.returns-in-ListLocks-clause-answer
returns-in-ListLocks-clause-answer g c =
    let given = g.I.Read.remaining (inner_of c.args.input.now) in
    let input = input_of given in
    let D : Command → Type 0 = λ k. Decides g.F.Folder c.args.folder.now c.list_locks.new.folder 0 (λ reads. IsOutcome k reads input) c.list_locks.result in (
      input,
      took g.I.Read.remaining c.args.input.now,
      subst (λ k. D (command_of k)) (sym c.in-ListLocks.is) (subst (λ n. D (list_locks (string_bytes c.in-ListLocks.directory) n)) c.as_str-in-ListLocks-2.ensures.value
          (subst (λ t. D (list_locks t c.as_str-in-ListLocks-2.result.now)) c.as_str-in-ListLocks.ensures.value (c.list_locks.ensures input))),
    )

pub returns-in-ListLocks-clause-limit : goal.returns-in-ListLocks-clause-limit
returns-in-ListLocks-clause-limit g c = takes_none g.I.Read.remaining c.args.input.now

pub returns-in-Dump-clause-answer : goal.returns-in-Dump-clause-answer
returns-in-Dump-clause-answer g c =
    let given = g.I.Read.remaining (inner_of c.args.input.now) in
    let input = input_of given in
    let D : Command → Type 0 = λ k. Decides g.F.Folder c.args.folder.now c.dump.new.folder 0 (λ reads. IsOutcome k reads input) c.dump.result in (
      input,
      took g.I.Read.remaining c.args.input.now,
      subst (λ k. D (command_of k)) (sym c.in-Dump.is) (subst (λ n. D (dump c.in-Dump.skip_doubles (string_bytes c.in-Dump.directory) n)) c.as_str-in-Dump-2.ensures.value
          (subst (λ t. D (dump c.in-Dump.skip_doubles t c.as_str-in-Dump-2.result.now)) c.as_str-in-Dump.ensures.value (c.dump.ensures input))),
    )

pub returns-in-Dump-clause-limit : goal.returns-in-Dump-clause-limit
returns-in-Dump-clause-limit g c = takes_none g.I.Read.remaining c.args.input.now

pub returns-in-Write-clause-answer : goal.returns-in-Write-clause-answer
returns-in-Write-clause-answer g c =
    let given = g.I.Read.remaining (inner_of c.args.input.now) in
    let input = input_of given in
    let D : Command → Type 0 = λ k. Decides g.F.Folder c.args.folder.now c.write.new.folder 0 (λ reads. IsOutcome k reads input) c.write.result in (
      input,
      took g.I.Read.remaining c.args.input.now,
      subst (λ k. D (command_of k)) (sym c.in-Write.is) (subst (λ n. D (write (string_bytes c.in-Write.key) (string_bytes c.in-Write.value) n)) c.as_str-in-Write-3.ensures.value
          (subst (λ v. D (write (string_bytes c.in-Write.key) v c.as_str-in-Write-3.result.now)) c.as_str-in-Write-2.ensures.value
          (subst (λ t. D (write t c.as_str-in-Write-2.result.now c.as_str-in-Write-3.result.now)) c.as_str-in-Write.ensures.value (c.write.ensures input)))),
    )

pub returns-in-Write-clause-limit : goal.returns-in-Write-clause-limit
returns-in-Write-clause-limit g c = takes_none g.I.Read.remaining c.args.input.now

pub returns-in-Reset-clause-answer : goal.returns-in-Reset-clause-answer
returns-in-Reset-clause-answer g c =
    let given = g.I.Read.remaining (inner_of c.args.input.now) in
    let input = input_of given in
    let D : Command → Type 0 = λ k. Decides g.F.Folder c.args.folder.now c.reset.new.folder 0 (λ reads. IsOutcome k reads input) c.reset.result in (
      input,
      took g.I.Read.remaining c.args.input.now,
      subst (λ k. D (command_of k)) (sym c.in-Reset.is) (subst (λ n. D (resetting c.in-Reset.force (string_bytes c.in-Reset.path) n)) c.as_str-in-Reset-2.ensures.value
          (subst (λ t. D (resetting c.in-Reset.force t c.as_str-in-Reset-2.result.now)) c.as_str-in-Reset.ensures.value (c.reset.ensures input))),
    )

pub returns-in-Reset-clause-limit : goal.returns-in-Reset-clause-limit
returns-in-Reset-clause-limit g c = takes_none g.I.Read.remaining c.args.input.now

pub returns-in-Load-clause-answer : goal.returns-in-Load-clause-answer
returns-in-Load-clause-answer g c =
    let a = c.load.ensures.answer in
    let D : Command → Type 0 = λ k. Decides g.F.Folder c.args.folder.now c.load.new.folder 0 (λ reads. IsOutcome k reads a.0) c.load.result in (
      a.0,
      a.1,
      subst (λ k. D (command_of k)) (sym c.in-Load.is) (subst (λ n. D (load c.in-Load.force c.in-Load.skip_doubles (string_bytes c.in-Load.directory) n)) c.as_str-in-Load-2.ensures.value
          (subst (λ t. D (load c.in-Load.force c.in-Load.skip_doubles t c.as_str-in-Load-2.result.now)) c.as_str-in-Load.ensures.value a.2)),
    )

pub returns-in-Load-clause-input : goal.returns-in-Load-clause-input
returns-in-Load-clause-input g c = λ other.
    let none : true ≡ false = subst (λ k. reads_input (command_of k) ≡ false) c.in-Load.is other in cc

pub returns-in-Show-clause-end : goal.returns-in-Show-clause-end
returns-in-Show-clause-end g c = λ reads. let none : false ≡ true = subst (λ k. reads_input (command_of k) ≡ true) c.in-Show.is reads in cc

pub returns-in-Read-clause-end : goal.returns-in-Read-clause-end
returns-in-Read-clause-end g c = λ reads. let none : false ≡ true = subst (λ k. reads_input (command_of k) ≡ true) c.in-Read.is reads in cc

pub returns-in-Origin-clause-end : goal.returns-in-Origin-clause-end
returns-in-Origin-clause-end g c = λ reads. let none : false ≡ true = subst (λ k. reads_input (command_of k) ≡ true) c.in-Origin.is reads in cc

pub returns-in-Explain-clause-end : goal.returns-in-Explain-clause-end
returns-in-Explain-clause-end g c = λ reads. let none : false ≡ true = subst (λ k. reads_input (command_of k) ≡ true) c.in-Explain.is reads in cc

pub returns-in-Check-clause-end : goal.returns-in-Check-clause-end
returns-in-Check-clause-end g c = λ reads. let none : false ≡ true = subst (λ k. reads_input (command_of k) ≡ true) c.in-Check.is reads in cc

pub returns-in-Compile-clause-end : goal.returns-in-Compile-clause-end
returns-in-Compile-clause-end g c = λ reads. let none : false ≡ true = subst (λ k. reads_input (command_of k) ≡ true) c.in-Compile.is reads in cc

pub returns-in-Repair-clause-end : goal.returns-in-Repair-clause-end
returns-in-Repair-clause-end g c = λ reads. let none : false ≡ true = subst (λ k. reads_input (command_of k) ≡ true) c.in-Repair.is reads in cc

pub returns-in-List-clause-end : goal.returns-in-List-clause-end
returns-in-List-clause-end g c = λ reads. let none : false ≡ true = subst (λ k. reads_input (command_of k) ≡ true) c.in-List.is reads in cc

pub returns-in-ListLocks-clause-end : goal.returns-in-ListLocks-clause-end
returns-in-ListLocks-clause-end g c = λ reads. let none : false ≡ true = subst (λ k. reads_input (command_of k) ≡ true) c.in-ListLocks.is reads in cc

pub returns-in-Dump-clause-end : goal.returns-in-Dump-clause-end
returns-in-Dump-clause-end g c = λ reads. let none : false ≡ true = subst (λ k. reads_input (command_of k) ≡ true) c.in-Dump.is reads in cc

pub returns-in-Write-clause-end : goal.returns-in-Write-clause-end
returns-in-Write-clause-end g c = λ reads. let none : false ≡ true = subst (λ k. reads_input (command_of k) ≡ true) c.in-Write.is reads in cc

pub returns-in-Reset-clause-end : goal.returns-in-Reset-clause-end
returns-in-Reset-clause-end g c = λ reads. absurd (resets_alone c.in-Reset.force _ _ (subst (λ k. reads_input (command_of k) ≡ true) c.in-Reset.is reads))
