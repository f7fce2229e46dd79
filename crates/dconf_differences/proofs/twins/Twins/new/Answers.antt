use Rattle.std.proofs.Common.{rules, subst₂}
use Rattle.gvdb_alike.specs.NamesAlike.{AreNamedAlike}
use Rattle.gvdb_alike.specs.ValuesAlike.{AreAlikeOutside}
use Rattle.gvdb_read.specs.Tables.{region}
use Rattle.gvdb_read.specs.declared.table.Table.{Table}
use Rattle.dconf_differences.proofs.TwinLaws.{outside_of}
use Rattle.dconf_differences.proofs.twins.Twins.new.Goals as goal

pub invariant_of-result : goal.invariant_of-result
invariant_of-result c =
    let items = c.in-Some.items in
    let named = subst₂ (λ (a b : Table). AreNamedAlike (region a) (region b)) c.table.ensures c.table-2.ensures (c.differing_items.ensures.named (search rules)) in
    let alike = subst₂ (λ (a b : Table). AreAlikeOutside (region a) (region b) items.first items.end) c.table.ensures c.table-2.ensures c.in-Some.ensures.alike in
    record { named = λ _. named; alike = outside_of c.args.layer c.args.other items.first items.end named alike }
