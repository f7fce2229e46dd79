use Rattle.std.proofs.Common.{◌∙◌, sym, Option, subst}
use Rattle.gvdb_read.specs.declared.table.Table.{Table}
use Rattle.gvdb_read.specs.Lookups.{HasDirectoryValue, name_text}
use Rattle.gvdb_read.specs.Tables.{region}
use Rattle.gvdb_read.proofs.DirectoryValues.{itself_alone}
use Rattle.dconf_layers.specs.SoundTables.{AreOfSoundDatabase}
use Rattle.dconf_layers.proofs.SoundLayers.{searched_in, unlocked_in, there_is}
use Rattle.dconf_layers.proofs.layer.Layer.locks_path.Goals as goal

pub returns-then-self : goal.returns-then-self
returns-then-self c =
    let values = c.args.self.values in
    let locks = c.in-Some.locks in
    searched_in values locks (name_text c.args.path) c.covers.result
    (subst (λ (o : Option Table). ∥ AreOfSoundDatabase values o ∥₁) (sym c.locks.ensures ∙ c.in-Some.is) c.args.self.sound) c.requires c.covers.ensures

pub returns-else-self : goal.returns-else-self
returns-else-self c =
    let values = c.args.self.values in
    let locks = c.in-Some.locks in
    let there = there_is c.args.self.has_locks c.args.self.locks locks (sym c.locks.ensures ∙ c.in-Some.is) in
    let none = subst (λ (t : Table). ¬ HasDirectoryValue (region t)) there.1 (c.args.self.keys_alone there.0 c.if-self.false) in
    searched_in values locks (name_text c.args.path) c.has_hashed.result
    (subst (λ (o : Option Table). ∥ AreOfSoundDatabase values o ∥₁) (sym c.locks.ensures ∙ c.in-Some.is) c.args.self.sound) c.requires
    (itself_alone (region locks) (name_text c.args.path) c.has_hashed.result none c.has_hashed.ensures)

pub returns-in-None : goal.returns-in-None
returns-in-None c =
    let values = c.args.self.values in
    unlocked_in values (name_text c.args.path)
    (subst (λ (o : Option Table). ∥ AreOfSoundDatabase values o ∥₁) (sym c.locks.ensures ∙ c.in-None.is) c.args.self.sound) c.requires
