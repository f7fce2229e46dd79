use Rattle.std.proofs.Common.{◌∙◌, codes, refl, sym}
use Rattle.std.proofs.lemmas.Result.{IfOk-weaker}
use Rattle.dconf_args.proofs.Subcommands.{given, is_show}
use Rattle.dconf_args.proofs.words.asked.Goals as goal

pub value-requires : goal.value-requires
value-requires c = given _ _ _ c.requires.named.1 (codes "check") c.in-check.is (codes "FILE") refl refl

pub value_and_profile-requires : goal.value_and_profile-requires
value_and_profile-requires c = given _ _ _ c.requires.named.1 (codes "origin") c.in-origin.is (codes "KEY") refl refl

pub value_and_profile-requires-in-list : goal.value_and_profile-requires-in-list
value_and_profile-requires-in-list c = given _ _ _ c.requires.named.1 (codes "list") c.in-list.is (codes "DIR") refl refl

pub value_and_profile-requires-in-text : goal.value_and_profile-requires-in-text
value_and_profile-requires-in-text c = given _ _ _ c.requires.named.1 (codes "list-locks") c.in-text.is (codes "DIR") refl refl

pub value_and_profile-requires-in-explain : goal.value_and_profile-requires-in-explain
value_and_profile-requires-in-explain c = given _ _ _ c.requires.named.1 (codes "explain") c.in-explain.is (codes "PATH") refl refl

pub compile_asked-requires : goal.compile_asked-requires
compile_asked-requires c = given _ _ _ c.requires.named.1 (codes "compile") c.in-compile.is (codes "OUT") refl refl

pub read_asked-requires : goal.read_asked-requires
read_asked-requires c = given _ _ _ c.requires.named.1 (codes "read") c.in-read.is (codes "KEY") refl refl

pub repair_asked-requires-clause-file : goal.repair_asked-requires-clause-file
repair_asked-requires-clause-file c = given _ _ _ c.requires.named.1 (codes "repair") c.in-repair.is (codes "FILE") refl refl

pub repair_asked-requires-clause-out : goal.repair_asked-requires-clause-out
repair_asked-requires-clause-out c = given _ _ _ c.requires.named.1 (codes "repair") c.in-repair.is (codes "OUT") refl refl

pub dump_asked-requires : goal.dump_asked-requires
dump_asked-requires c = given _ _ _ c.requires.named.1 (codes "dump") c.in-dump.is (codes "DIR") refl refl

pub write_asked-requires-clause-key : goal.write_asked-requires-clause-key
write_asked-requires-clause-key c = given _ _ _ c.requires.named.1 (codes "write") c.in-write.is (codes "KEY") refl refl

pub write_asked-requires-clause-value : goal.write_asked-requires-clause-value
write_asked-requires-clause-value c = given _ _ _ c.requires.named.1 (codes "write") c.in-write.is (codes "VALUE") refl refl

pub reset_asked-requires : goal.reset_asked-requires
reset_asked-requires c = given _ _ _ c.requires.named.1 (codes "reset") c.in-reset.is (codes "PATH") refl refl

pub load_asked-requires : goal.load_asked-requires
load_asked-requires c = given _ _ _ c.requires.named.1 (codes "load") c.in-load.is (codes "DIR") refl refl

pub show_asked-requires-clause-type_text : goal.show_asked-requires-clause-type_text
show_asked-requires-clause-type_text c =
    let d = c.in_default in
    let show = is_show _ _ _ c.requires.named.1 (d.not-read, (d.not-write, (d.not-reset, (d.not-list, (d.not-dump, (d.not-load, (d.not-origin, (d.not-explain, (d.not-text, (c.requires.alone, (d.not-compile, (c.requires.other, (d.not-check, (d.not-repair, tt)))))))))))))) in
    given _ _ _ c.requires.named.1 (codes "show") show (codes "TYPE") refl refl

pub show_asked-requires-clause-file : goal.show_asked-requires-clause-file
show_asked-requires-clause-file c =
    let d = c.in_default in
    let show = is_show _ _ _ c.requires.named.1 (d.not-read, (d.not-write, (d.not-reset, (d.not-list, (d.not-dump, (d.not-load, (d.not-origin, (d.not-explain, (d.not-text, (c.requires.alone, (d.not-compile, (c.requires.other, (d.not-check, (d.not-repair, tt)))))))))))))) in
    given _ _ _ c.requires.named.1 (codes "show") show (codes "FILE") refl refl

pub returns-in_default : goal.returns-in_default
returns-in_default c =
    let d = c.in_default in
    let show = is_show _ _ _ c.requires.named.1 (d.not-read, (d.not-write, (d.not-reset, (d.not-list, (d.not-dump, (d.not-load, (d.not-origin, (d.not-explain, (d.not-text, (c.requires.alone, (d.not-compile, (c.requires.other, (d.not-check, (d.not-repair, tt)))))))))))))) in
    IfOk-weaker c.show_asked.result _ _ (λ command of. (of.0 ∙ sym show, of.1)) c.show_asked.ensures
