use Rattle.std.proofs.Common.{ℕ, List, arith, take, ◌+◌, ◌∙◌, sym, refl}
use Rattle.dconf_model.specs.Table.{value_kind}
use Rattle.dconf_model.proofs.PathMaps.{no_truth}
use Rattle.gvdb_read.specs.Lookups.{IsFound, name_text}
use Rattle.gvdb_read.specs.Tables.{region}
use Rattle.gvdb_read.proofs.CoveredPaths.{hash_goes_on, none_up_to, prefix_covers, whole_covers}
use Rattle.gvdb_read.proofs.table.Table.covers.Goals as goal

pub has_directory-requires-clause-hash_is : goal.has_directory-requires-clause-hash_is
has_directory-requires-clause-hash_is c =
    hash_goes_on (name_text c.args.path) c.loop-i.i c.loop-i.hash c.hash_with-hash.result (omega arith) c.loop-i.invariant.hash c.hash_with-hash.ensures

pub returns-then-has_directory : goal.returns-then-has_directory
returns-then-has_directory c =
    let path = name_text c.args.path in
    let i = c.loop-i.i in
    let found = c.has_directory.ensures.0 c.if-has_directory.true in
    (λ t. (take (i + 1) path, prefix_covers path i (omega arith) found.0, found.1), λ h. refl)

pub loop-i-preserved : goal.loop-i-preserved
loop-i-preserved c =
    let path = name_text c.args.path in
    let i = c.loop-i.i in
    record {
      hash = hash_goes_on path i c.loop-i.hash c.hash_with-hash.result (omega arith) c.loop-i.invariant.hash c.hash_with-hash.ensures;
      none = none_up_to (λ name. IsFound (region c.args.self) name value_kind) path i c.loop-i.invariant.none
          (λ slash p. no_truth (sym c.if-has_directory.false ∙ c.has_directory.ensures.1 (slash, p)));
    }

pub returns : goal.returns
returns c =
    whole_covers (λ (name : List ℕ). IsFound (region c.args.self) name value_kind) (name_text c.args.path) c.loop-i.i c.has_hashed.result (omega arith) c.loop-i.invariant.none c.has_hashed.ensures
