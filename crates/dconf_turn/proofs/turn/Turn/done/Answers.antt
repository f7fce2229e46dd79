use Rattle.dconf_turn.proofs.TurnLaws.{by_equal, unlocked, noted, done_locking, done_making, done_creating, done_exchanging, done_renaming, done_syncing_folder, done_removing, done_settling}
use Rattle.dconf_turn.specs.declared.step.Answer.TheVariants.{Yes}
use Rattle.dconf_turn.proofs.turn.Turn.done.Goals as goal

pub returns-in-Locking : goal.returns-in-Locking
returns-in-Locking c = by_equal c.args.self _ _ (Yes c.args.n) c.to.ensures (done_locking c.args.self c.args.n c.in-Locking.is)

pub returns-in-Making : goal.returns-in-Making
returns-in-Making c = done_making c.args.self c.args.n c.in-Making.is

pub returns-in-Creating : goal.returns-in-Creating
returns-in-Creating c = done_creating c.args.self c.args.n c.in-Creating.is

pub returns-in-Exchanging : goal.returns-in-Exchanging
returns-in-Exchanging c = by_equal c.args.self _ _ (Yes c.args.n) c.to-in-Exchanging.ensures (done_exchanging c.args.self c.args.n c.in-Exchanging.is)

pub returns-in-Renaming : goal.returns-in-Renaming
returns-in-Renaming c = by_equal c.args.self _ _ (Yes c.args.n) c.to-in-Renaming.ensures (done_renaming c.args.self c.args.n c.in-Renaming.is)

pub returns-in-SyncingFolder : goal.returns-in-SyncingFolder
returns-in-SyncingFolder c = by_equal c.args.self _ _ (Yes c.args.n) c.says.ensures (done_syncing_folder c.args.self c.args.n c.in-SyncingFolder.is)

pub returns-in-Removing : goal.returns-in-Removing
returns-in-Removing c = by_equal c.args.self _ _ (Yes c.args.n) c.to-in-Removing.ensures (done_removing c.args.self c.args.n c.in-Removing.is)

pub returns-in-Settling : goal.returns-in-Settling
returns-in-Settling c = by_equal c.args.self _ _ (Yes c.args.n) c.says-in-Settling.ensures (done_settling c.args.self c.args.n c.in-Settling.is)

pub returns-in-Noting : goal.returns-in-Noting
returns-in-Noting c = by_equal c.args.self _ _ (Yes c.args.n) c.to-in-Noting.ensures (noted c.args.self (Yes c.args.n) c.in-Noting.is)

pub returns-in-Unlocking : goal.returns-in-Unlocking
returns-in-Unlocking c = by_equal c.args.self _ _ (Yes c.args.n) c.to-in-Unlocking.ensures (unlocked c.args.self (Yes c.args.n) c.in-Unlocking.is)
