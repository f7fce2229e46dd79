use Rattle.std.proofs.Common.{◌≡◌, ◌∙◌, IsTrue, IsUtf8, true, false, refl, sym, subst}
use Rattle.std.proofs.lemmas.Result.{on_ok_weaker}
use Rattle.std.specs.String.{string_bytes}
use Rattle.dconf_model.specs.Names.{HasName}
use Rattle.dconf_model.specs.Paths.{is_path}
use Rattle.dconf_model.proofs.LaidNames.{one_name}
use Rattle.dconf_model.proofs.NameSteps.{is_item}
use Rattle.dconf_path.specs.Paths.{lock_text}
use Rattle.gvdb_read.specs.Tables.{region}
use Rattle.gvdb_write.specs.Salvaged.{SpellsLock, TakesLock}
use Rattle.gvdb_maps.proofs.KeyPaths.{lock_is_path}
use Rattle.gvdb_write.proofs.SalvagedSteps.{takes_no_lock, takes_lock}
use Rattle.gvdb_write.proofs.salvaged.salvage_lock.Goals as goal

pub returns-then-not-is_value : goal.returns-then-not-is_value
returns-then-not-is_value c = record {
  takes = takes_no_lock (region c.args.locks) c.args.i c.args.map.now (λ path spells.
      let counted = (is_item (region c.args.locks) c.args.i path spells.named).counted in
      let bad : false ≡ true = c.if-not-is_value.ensures.1 (counted, spells.of_kind) in cc);
}

pub returns-in-Ok : goal.returns-in-Ok
returns-in-Ok c =
    let t = region c.args.locks in
    let path = lock_text c.in-Ok.path in
    let named : HasName t c.args.i (string_bytes c.in-Some.name) = rw c.in-Some.is at c.in_ok-name.ensures.some in
    let is : path ≡ string_bytes c.in-Some.name = c.in-Ok.ensures.found ∙ c.as_str.ensures.value in
    let value = c.if-not-is_value.ensures.0 refl in
    let spells : SpellsLock t c.args.i path = record {
      text = (subst IsUtf8 (sym c.in-Ok.ensures.found) c.as_str.utf8, lock_is_path c.in-Ok.path);
      named = subst (HasName t c.args.i) (sym is) named;
      of_kind = value.1;
    } in
    record { takes = on_ok_weaker c.lock.result (λ e. subst (TakesLock t c.args.i c.args.map.now) (sym e) (takes_lock t c.args.i c.args.map.now path spells)) c.lock.ensures.ok }

pub returns : goal.returns
returns c = record {
  takes = takes_no_lock (region c.args.locks) c.args.i c.args.map.now (λ path spells.
      let named : HasName (region c.args.locks) c.args.i (string_bytes c.in-Some.name) = rw c.in-Some.is at c.in_ok-name.ensures.some in
      let is : path ≡ c.as_str.result.now = one_name (region c.args.locks) c.args.i path (string_bytes c.in-Some.name) spells.named named ∙ sym c.as_str.ensures.value in
      let bad : false ≡ true = c.in-Err.ensures.accepts.1 (subst (λ p. IsTrue (is_path p)) is spells.text.1) in cc);
}
