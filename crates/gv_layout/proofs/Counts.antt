-- How many members there are: fewer than their text has letters.
use Rattle.std.proofs.Common.{ℕ, ◌^◌, ◌<◌, ◌≤◌, List, [], ◌∷◌, length, ap, arith, length-append}
use Rattle.std.specs.Prelude.{IsTrue}
use Rattle.gv_model.specs.Ty.{Ty, Types, type_list, members, spelling, spellings}
use Rattle.gv_model.specs.Ty.Types.{end, member}
use Rattle.gv_model.specs.Ty.Ty.{basic, variant, array, maybe, tuple, entry}
use Rattle.gv_model.specs.TypeText.{is_type, type_at}
use Rattle.gv_model.proofs.TypeTextParts.{spelling-type_at}
use Rattle.gv_model.proofs.Prefixes.{spelling-positive}
use Rattle.gv_model.proofs.TypeTextLaws.{limits_of}

members_short : (ts : Types) → length (type_list ts) ≤ length (spellings ts)
unfolding type_list spellings
members_short end = omega arith
members_short (member t ts) = omega (arith, members_short ts, spelling-positive t, length-append (spelling t) (spellings ts))

pub members_short_of : (t : Ty) → length (type_list (members t)) ≤ length (spelling t)
unfolding type_list spelling spellings
members_short_of (tuple ts) = omega (arith, members_short ts, length-append (spellings ts) (41 ∷ []))
members_short_of (entry k t) = omega (arith, length-append (spelling t) (125 ∷ []))
members_short_of _ = omega arith

pub members_few : (w : List ℕ) → IsTrue (is_type w) → length (type_list (members (type_at w))) < 2 ^ 64
members_few w h =
    let spelled = spelling-type_at w h in
    let short : length w ≤ 67108864 = (limits_of (type_at w) w spelled.1).1 in
    omega (arith, members_short_of (type_at w), ap length spelled.0)
