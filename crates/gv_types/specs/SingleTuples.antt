-- Tuples of one member, one in another: the end of each member is one byte before that of its tuple.
use Rattle.std.specs.Prelude.{◌≡◌, ◌≤◌, ℕ, suc, true, List}
use Rattle.gv_model.specs.Ty.{Ty}
use Rattle.gv_model.specs.Ty.Ty.{tuple}
use Rattle.gv_model.specs.Ty.Types.{end, member}
use Rattle.gv_model.specs.TypeText.{is_type, type_at}

-- how many a type is, from the outermost in
unfoldable pub single_tuples : Ty → ℕ
single_tuples (tuple (member t end)) = suc (single_tuples t)
single_tuples _ = 0

-- the text is that of the one member of so many
pub record IsSingleMember (n : ℕ) (text : List ℕ) : Type 0 where
  pub spells : is_type text ≡ true
  pub few : n ≤ suc (single_tuples (type_at text))
