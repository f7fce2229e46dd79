use Rattle.std.proofs.Common.{◌≡◌, rules, true}
use Rattle.gvdb_read.specs.Tables.{region}
use Rattle.dconf_differences.proofs.TwinLaws.{names_turned, outside_turned}
use Rattle.dconf_differences.proofs.twins.Twins.turned.Goals as goal

pub invariant_of-result : goal.invariant_of-result
invariant_of-result c =
    let self = c.args.self in
    let there : self.are_named_alike ≡ true = search rules in
    let named = self.named there in
    record {
      named = λ _. names_turned (region self.layer.values) (region self.other.values) named;
      alike = outside_turned self.layer self.other self.items.first self.items.end named self.alike;
    }
