use Rattle.std.proofs.Common.{◌≡◌, ◌∙◌, ℕ, List, ◌++◌, length, Option, Some, None, Bool, true, false, ap, refl, sym, subst, IsUtf8}
use Rattle.std.specs.Prelude.{IfNone, is_some, take, drop}
use Rattle.std.proofs.lemmas.List.{take_at}
use Rattle.dconf_model.specs.Table.{Table}
use Rattle.dconf_model.specs.Names.{HasName}
use Rattle.gvdb_read.specs.Tables.{region}
use Rattle.gvdb_write.specs.Salvaged.{HasNoShortText}
use Rattle.dconf_model.proofs.LaidNames.{one_name}
use Rattle.gvdb_write.proofs.salvaged.name_of.Goals as goal

-- the one name that the item has is no text
no_text : {X : Type 0} (t : Table) (i : ℕ) (name : List ℕ) (o : Option X) (ok : Bool) → HasName t i name → (IsUtf8 name → ok ≡ true) → is_some o ≡ ok → IfNone o (HasNoShortText t i)
no_text t i name None ok h reads same = λ q k utf8.
    let bad : false ≡ true = same ∙ reads (subst IsUtf8 (one_name t i q name k h) utf8) in cc
no_text t i name (Some x) ok h reads same = tt

pub returns-clause-none : goal.returns-clause-none
returns-clause-none c =
    let room = c.write_name.new.room in
    let old = c.resize.new.self.items in
    let len = c.resize.new.self.len in
    let size : length room ≡ len = c.write_name.auto.room ∙ (ap (λ (l : List ℕ). length l) c.deref_mut.ensures.value ∙ sym c.resize.new.self.ok.0) in
    let kept : take len (room ++ drop (length room) old) ≡ room = take_at room (drop (length room) old) len size in
    no_text (region c.args.table) c.args.i room c.ok.result _ (c.if-not-write_name.ensures.name refl) (λ utf8. c.from_utf8.ensures.succeeds (subst IsUtf8 (sym kept) utf8)) c.ok.ensures.variant
