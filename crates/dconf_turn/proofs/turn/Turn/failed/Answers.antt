use Rattle.dconf_turn.proofs.TurnLaws.{by_equal, unlocked, noted, failed_locking, failed_reading, failed_creating, failed_writing, failed_syncing, failed_setting_aside, failed_exchanging, failed_renaming, failed_syncing_folder, failed_removing, failed_settling}
use Rattle.dconf_turn.specs.declared.step.Answer.TheVariants.{No}
use Rattle.dconf_turn.proofs.turn.Turn.failed.Goals as goal

pub returns-in-Locking : goal.returns-in-Locking
returns-in-Locking c = by_equal c.args.self _ _ (No c.args.fault) c.says.ensures (failed_locking c.args.self c.args.fault c.in-Locking.is)

pub returns-in-Reading : goal.returns-in-Reading
returns-in-Reading c = by_equal c.args.self _ _ (No c.args.fault) c.says-in-Reading.ensures (failed_reading c.args.self c.args.fault c.in-Reading.is)

pub returns-in-Creating : goal.returns-in-Creating
returns-in-Creating c = by_equal c.args.self _ _ (No c.args.fault) c.says-in-Creating.ensures (failed_creating c.args.self c.args.fault c.in-Creating.is)

pub returns-in-Writing : goal.returns-in-Writing
returns-in-Writing c = by_equal c.args.self _ _ (No c.args.fault) c.says-in-Writing.ensures (failed_writing c.args.self c.args.fault c.in-Writing.is)

pub returns-in-Syncing : goal.returns-in-Syncing
returns-in-Syncing c = by_equal c.args.self _ _ (No c.args.fault) c.says-in-Syncing.ensures (failed_syncing c.args.self c.args.fault c.in-Syncing.is)

pub returns-in-SettingAside : goal.returns-in-SettingAside
returns-in-SettingAside c = by_equal c.args.self _ _ (No c.args.fault) c.says-in-SettingAside.ensures (failed_setting_aside c.args.self c.args.fault c.in-SettingAside.is)

pub returns-in-Exchanging : goal.returns-in-Exchanging
returns-in-Exchanging c = by_equal c.args.self _ _ (No c.args.fault) c.says-in-Exchanging.ensures (failed_exchanging c.args.self c.args.fault c.in-Exchanging.is)

pub returns-in-Renaming : goal.returns-in-Renaming
returns-in-Renaming c = by_equal c.args.self _ _ (No c.args.fault) c.says-in-Renaming.ensures (failed_renaming c.args.self c.args.fault c.in-Renaming.is)

pub returns-in-SyncingFolder : goal.returns-in-SyncingFolder
returns-in-SyncingFolder c = by_equal c.args.self _ _ (No c.args.fault) c.says-in-SyncingFolder.ensures (failed_syncing_folder c.args.self c.args.fault c.in-SyncingFolder.is)

pub returns-in-Removing : goal.returns-in-Removing
returns-in-Removing c = failed_removing c.args.self c.args.fault c.in-Removing.is

pub returns-in-Settling : goal.returns-in-Settling
returns-in-Settling c = by_equal c.args.self _ _ (No c.args.fault) c.says-in-Settling.ensures (failed_settling c.args.self c.args.fault c.in-Settling.is)

pub returns-in-Noting : goal.returns-in-Noting
returns-in-Noting c = by_equal c.args.self _ _ (No c.args.fault) c.to.ensures (noted c.args.self (No c.args.fault) c.in-Noting.is)

pub returns-in-Unlocking : goal.returns-in-Unlocking
returns-in-Unlocking c = by_equal c.args.self _ _ (No c.args.fault) c.to-in-Unlocking.ensures (unlocked c.args.self (No c.args.fault) c.in-Unlocking.is)
