use Rattle.std.proofs.Common.{◌≡◌, ◌+◌, ◌≤◌, ℕ, List, ap, arith, length, subst}
use Rattle.gvdb_read.specs.Tables.{region}
use Rattle.gvdb_alike.specs.Spans.{LiesOutside}
use Rattle.gvdb_alike.proofs.SameOutside.{steps_same}
use Rattle.gvdb_alike.proofs.patch.Patch.has_same_key.Goals as goal

pub returns : goal.returns
returns c so =
    let t = region c.args.self.table in
    let u = region c.args.self.other in
    let r = c.in-Some.item in
    let first = c.args.self.span.first in
    let last = c.args.self.span.last in
    let size = c.from.ensures in
    let le = c.is_in_file_outside.ensures.within so in
    let file : length c.file.result.now ≡ length t.file = ap (λ (l : List ℕ). length l) c.file.ensures in
    let end : r.key_start + c.from.result ≡ r.key_start + r.key_size = omega (arith, size) in
    steps_same t u first last c.args.i r c.in-Some.ensures
    (subst (λ (n : ℕ). LiesOutside first last r.key_start n) end (c.is_in_file_outside.ensures.outside so))
    (omega (arith, le, file, end))
