use Rattle.std.proofs.Common.{◌≡◌, ◌∙◌, IsTrue, inl, refl, sym, subst}
use Rattle.std.specs.String.{string_bytes}
use Rattle.dconf_model.specs.Names.{HasName}
use Rattle.dconf_model.specs.Paths.{is_key_path}
use Rattle.dconf_model.proofs.LaidNames.{one_name}
use Rattle.dconf_model.proofs.NameSteps.{is_item}
use Rattle.gvdb_read.specs.Tables.{region}
use Rattle.gvdb_write.proofs.SalvagedSteps.{refused}
use Rattle.gvdb_write.proofs.salvaged.salvage_value.Goals as goal

pub returns-in_default : goal.returns-in_default
returns-in_default c = record {
  takes = inl (
    refl,
    λ path text row. c.in_default.ensures.none (record { counted = (is_item (region c.args.root) c.args.i path row.named).counted; of_kind = row.of_kind; valid = row.valid }),
  );
}

pub returns-then-is_err : goal.returns-then-is_err
returns-then-is_err c = record {
  takes = inl (
    refl,
    λ path text row.
        let named : HasName (region c.args.root) c.args.i (string_bytes c.in-Some-2.name) = rw c.in-Some-2.is at c.in_ok-name.ensures.some in
        let is : path ≡ c.as_str.result.now = one_name (region c.args.root) c.args.i path (string_bytes c.in-Some-2.name) row.named named ∙ sym c.as_str.ensures.value in
        refused c.parse.result (c.parse.ensures.accepts.1 (subst (λ p. IsTrue (is_key_path p)) is text.1)) (sym c.is_err.ensures.value ∙ c.if-is_err.true),
  );
}
