use Rattle.std.proofs.Common.{ℕ, ◌++◌, List, length, drop, replicate, subst, arith}
use Rattle.dconf_path.specs.PlainBytes.{IsPlainAt}
use Rattle.dconf_path.proofs.PlainLaws.{plain_before}
use Rattle.dconf_path.proofs.plain.has_plain_bytes.Goals as goal

pub returns : goal.returns
returns c plain =
    let others : List ℕ = drop (length c.args.bytes.now) (replicate 17 97) in
    plain_before c.args.bytes.now others 16 c.requires
    (λ k less. subst (λ bytes. IsPlainAt (bytes ++ others) k) c.copy_from_slice.ensures.after (c.is_plain_block.ensures plain k (omega arith) less))
