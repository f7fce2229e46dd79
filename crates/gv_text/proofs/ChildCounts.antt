-- Whether a container has one child alone, told while they are passed one after the other.
use Rattle.std.proofs.Common.{◌≡◌, ◌<◌, suc, Bool, true, false, refl, ap, arith}
use Rattle.std.specs.Prelude.{◌↔◌, IsTrue}
use Rattle.std.proofs.lemmas.Bool.{false≢true}
use Rattle.gv_model.specs.Tree.{Tree, Trees, trees_len}
use Rattle.gv_model.specs.Tree.Trees.{none, first}

-- Of all of them these are left. So far one alone is passed, or there are more than one.
abbrev pub IsAlone : Bool → Trees → Trees → Type 0
IsAlone true all left = trees_len all ≡ suc (trees_len left)
IsAlone false all left = 1 < trees_len all

pub alone_first : (all left : Trees) (u : Tree) → all ≡ first u left → IsAlone true all left
unfolding trees_len
alone_first all left u e = ap trees_len e

pub alone_next : (alone : Bool) (all us left : Trees) (u : Tree) → us ≡ first u left → IsAlone alone all us → IsAlone false all left
unfolding trees_len
alone_next true all us left u e h = omega (arith, h, ap trees_len e)
alone_next false all us left u e h = h

pub alone_last : (alone : Bool) (all us : Trees) → us ≡ none → IsAlone alone all us → IsTrue alone ↔ (trees_len all ≡ 1)
unfolding trees_len
alone_last true all us e h = ((λ _. omega (arith, h, ap trees_len e)), (λ _. refl))
alone_last false all us e h = ((λ is. absurd (false≢true is)), (λ one. absurd (omega (arith, h, one))))

pub alone_none : (all : Trees) → all ≡ none → IsTrue false ↔ (trees_len all ≡ 1)
unfolding trees_len
alone_none all e = ((λ is. absurd (false≢true is)), (λ one. absurd (omega (arith, one, ap trees_len e))))
