use Rattle.std.proofs.Common.{rules}
use Rattle.dconf_store.proofs.ReplacedFiles.{next_file}
use Rattle.dconf_store.proofs.store.replaced.Goals as goal

pub loop-file-init : goal.loop-file-init
loop-file-init c = search rules

pub loop-file-preserved : goal.loop-file-preserved
loop-file-preserved c =
    next_file c.args.first.now c.in-Some.others.now c.loop-file.again.items c.push-in-loop-file.new.self.items c.loop-file.file-index _ c.shortened.result
    c.loop-file-test.true c.in_ok-push-2.ensures.items c.loop-file.invariant c.shortened.ensures
