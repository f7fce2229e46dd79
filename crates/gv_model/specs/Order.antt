-- The order of types: the types that a text is given sooner are below others.
use Rattle.std.specs.Prelude.{◌≡◌, ◌⊎◌}
use Rattle.gv_model.specs.Ty.{Ty, Types, Basic}
use Rattle.gv_model.specs.Ty.Ty.{basic, variant, array, maybe, tuple, entry}
use Rattle.gv_model.specs.Ty.Types.{end, member}
use Rattle.gv_model.specs.Ty.Basic.{int32, string}
use Rattle.gv_model.specs.Admits.{IsNumberType, IsTextType, IsMaybeOf}

abbrev pub BasicBelow : Basic → Basic → Type 0
BasicBelow int32 k = IsNumberType (basic k)
BasicBelow string k = IsTextType (basic k)
BasicBelow j k = j ≡ k

abbrev mutual
  pub Below : Ty → Ty → Type 0
  Below t (maybe u) = Below t u ⊎ IsMaybeOf (λ s. Below s u) t
  Below (basic j) (basic k) = BasicBelow j k
  Below variant variant = Unit {0}
  Below (array t) (array u) = Below t u
  Below (tuple ts) (tuple us) = AreBelow ts us
  Below (entry j t) (entry k u) = BasicBelow j k × Below t u
  Below t u = ⊥

  pub AreBelow : Types → Types → Type 0
  AreBelow end end = Unit {0}
  AreBelow (member t ts) (member u us) = Below t u × AreBelow ts us
  AreBelow ts us = ⊥
