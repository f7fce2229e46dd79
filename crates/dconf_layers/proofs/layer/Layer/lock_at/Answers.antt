use Rattle.std.proofs.Common.{◌≡◌, ◌∙◌, Option, Result, Ok, Err, Some, option_map, string_bytes, ap, sym, subst}
use Rattle.std.specs.Prelude.{IfOk, IfSome, IfNone, ℕ}
use Rattle.std.specs.declared.string.String.{String}
use Rattle.std.specs.declared.alloc.Global.{Global}
use Rattle.dconf_model.specs.Names.{HasName}
use Rattle.gvdb_read.specs.declared.table.Table.{Table}
use Rattle.gvdb_read.specs.Tables.{region}
use Rattle.gvdb_write.specs.Salvaged.{HasNoShortText}
use Rattle.dconf_layers.specs.LayerRows.{lock_name, lock_name_at}
use Rattle.dconf_layers.specs.SoundTables.{AreOfSoundDatabase}
use Rattle.dconf_layers.proofs.LockNameLaws.{found_lock_in}
use Rattle.dconf_layers.proofs.layer.Layer.lock_at.Goals as goal

named : {E : Type 0} (values locks : Table) (i : ℕ) (r : Result (Option (String Global)) E) → ∥ AreOfSoundDatabase values (Some locks) ∥₁ →
    IfOk r (λ found. IfSome found (λ name. HasName (region locks) i (string_bytes name))) → IfOk r (λ found. IfNone found (HasNoShortText (region locks) i)) →
    IfOk r (λ found. lock_name (option_map string_bytes found) ≡ lock_name_at (Some locks) i)
named values locks i (Ok found) h some none = found_lock_in values locks i found h some none
named values locks i (Err e) h some none = tt

pub returns-in-Some : goal.returns-in-Some
returns-in-Some c =
    let locks = c.in-Some.locks in
    let h = subst (λ (o : Option Table). ∥ AreOfSoundDatabase c.args.self.values o ∥₁) (sym c.locks.ensures ∙ c.in-Some.is) c.args.self.sound in
    subst (λ (o : Option Table). IfOk c.name_of.result (λ found. lock_name (option_map string_bytes found) ≡ lock_name_at o c.args.i)) (sym c.in-Some.is ∙ c.locks.ensures)
    (named c.args.self.values locks c.args.i c.name_of.result h c.name_of.ensures.some c.name_of.ensures.none)

pub returns-in-None : goal.returns-in-None
returns-in-None c = ap (λ (o : Option Table). lock_name_at o c.args.i) (sym c.in-None.is ∙ c.locks.ensures)
