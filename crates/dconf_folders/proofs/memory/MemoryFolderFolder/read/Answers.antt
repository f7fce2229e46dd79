use Rattle.std.proofs.Common.{◌<◌, length, ap, ◌∙◌, arith}
use Rattle.dconf_model.specs.Bytes.{longest_file}
use Rattle.dconf_folders.proofs.ReadLemmas.{seen_none, seen_some, too_big}
use Rattle.dconf_folders.proofs.memory.MemoryFolderFolder.read.Goals as goal

pub returns-in_default-clause-bytes : goal.returns-in_default-clause-bytes
returns-in_default-clause-bytes c es past =
    seen_none c.args.self.now.calls.items c.deref.result.now (c.deref.ensures.value ∙ ap (λ v. v.items) c.is_failing.ensures.calls) es past c.args.name.now c.file_of.result c.file_of.ensures c.in_default.is

pub returns-then-len-gt-LARGEST_FILE-clause-too_big :
    goal.returns-then-len-gt-LARGEST_FILE-clause-too_big
returns-then-len-gt-LARGEST_FILE-clause-too_big c es past _ =
    let long : longest_file < length c.in_ok-bytes.bytes.items = omega (arith, c.if-len-gt-LARGEST_FILE.true, c.len.ensures) in
    too_big c.args.self.now.calls.items c.deref.result.now (c.deref.ensures.value ∙ ap (λ v. v.items) c.is_failing.ensures.calls) es past c.args.name.now c.file_of.result c.file_of.ensures
    c.in-Some.file c.in_ok-bytes.bytes.items c.deref-2.result.now c.in-Some.is (c.deref-2.ensures.value ∙ ap (λ v. v.items) c.is_failing.ensures.calls) c.in_ok-bytes.ensures long

pub returns-clause-bytes : goal.returns-clause-bytes
returns-clause-bytes c es past =
    seen_some c.args.self.now.calls.items c.deref.result.now (c.deref.ensures.value ∙ ap (λ v. v.items) c.is_failing.ensures.calls) es past c.args.name.now c.file_of.result c.file_of.ensures
    c.in-Some.file c.in_ok-bytes.bytes.items c.deref-2.result.now c.in-Some.is (c.deref-2.ensures.value ∙ ap (λ v. v.items) c.is_failing.ensures.calls) c.in_ok-bytes.ensures
